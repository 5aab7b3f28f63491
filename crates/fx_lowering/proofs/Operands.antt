-- What a code asks of its node beside shifts.
use Rattle.std.proofs.Common.{ℕ, ◌≤◌, arith}
use Rattle.fx_model.specs.Nodes.{Node, Input, State, Const, Neg, Add, Sub, Mul, Div, Copy}
use Rattle.fx_flat.specs.InPlace.{IsInPlace}
use Rattle.fx_lowering.specs.Placed.{HasOperands}

-- a node in its place has its operands among those before it, and so among more
pub in_place_operands : (i s k m : ℕ) (node : Node) → IsInPlace i s k node → k ≤ m → HasOperands m node
in_place_operands i s k m (Input j) o l = tt
in_place_operands i s k m (State j) o l = tt
in_place_operands i s k m (Const c) o l = tt
in_place_operands i s k m (Neg a) o l = let p = o.1 in omega (arith, p, l)
in_place_operands i s k m (Add a b) o l = let p = o.1 in let q = o.2 in (omega (arith, p, l), omega (arith, q, l))
in_place_operands i s k m (Sub a b) o l = let p = o.1 in let q = o.2 in (omega (arith, p, l), omega (arith, q, l))
in_place_operands i s k m (Mul a b) o l = let p = o.1 in let q = o.2 in (omega (arith, p, l), omega (arith, q, l))
in_place_operands i s k m (Div a b) o l = let p = o.1 in let q = o.2 in (omega (arith, p, l), omega (arith, q, l))
in_place_operands i s k m (Copy a) o l = let p = o.1 in omega (arith, p, l)
