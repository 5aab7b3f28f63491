-- What code a node is at a point, and which shifts words of a width have.
use Rattle.std.specs.Prelude.{◌≡◌, ℕ, ◌-◌, ◌*◌, ◌<◌, unsigned_abs, ℤ, pos, ◌+ℤ◌, ◌-ℤ◌, neg_ℤ, int_le, Bool, true, ◌&&◌, List}
use Rattle.fx_model.specs.Tree.{at}
use Rattle.fx_model.specs.Machine as machine
use Rattle.fx_model.specs.Machine.{Round, Code}
use Rattle.fx_model.specs.Nodes.{Node, Input, State, Const, Neg, Add, Sub, Mul, Div, Copy}
use Rattle.fx_program.specs.Rounding.{product_round, copy_round}

abbrev pub is_from_to : ℤ → ℤ → ℤ → Bool
is_from_to lo hi s = int_le lo s && int_le s hi

-- ---- shifts, from the points ps of the operands to f
abbrev pub shift_of : List ℤ → ℕ → ℤ → ℤ
shift_of ps a f = at (pos 0) ps a -ℤ f

abbrev pub product_shift : List ℤ → ℕ → ℕ → ℤ → ℤ
product_shift ps a b f = (at (pos 0) ps a +ℤ at (pos 0) ps b) -ℤ f

abbrev pub quotient_shift : List ℤ → ℕ → ℕ → ℤ → ℤ
quotient_shift ps a b f = (f -ℤ at (pos 0) ps a) +ℤ at (pos 0) ps b

-- words of n bits have the shifts of this node at point f
abbrev pub has_shifts : ℕ → List ℤ → Node → ℤ → Bool
has_shifts n ps (Add a b) f =
    is_from_to (neg_ℤ (pos n)) (pos 64) (shift_of ps a f) && is_from_to (neg_ℤ (pos n)) (pos 64) (shift_of ps b f)
has_shifts n ps (Sub a b) f =
    is_from_to (neg_ℤ (pos n)) (pos 64) (shift_of ps a f) && is_from_to (neg_ℤ (pos n)) (pos 64) (shift_of ps b f)
has_shifts n ps (Mul a b) f = is_from_to (pos 0) (pos (2 * n - 2)) (product_shift ps a b f)
has_shifts n ps (Div a b) f = is_from_to (pos 0) (pos n) (quotient_shift ps a b f)
has_shifts n ps (Copy a) f = is_from_to (neg_ℤ (pos n)) (pos 64) (shift_of ps a f)
has_shifts n ps node f = true

-- ---- what else a code at point f asks
-- the node's operands are among the first n nodes
abbrev pub HasOperands : ℕ → Node → Type 0
HasOperands n (Neg a) = a < n
HasOperands n (Add a b) = (a < n) × (b < n)
HasOperands n (Sub a b) = (a < n) × (b < n)
HasOperands n (Mul a b) = (a < n) × (b < n)
HasOperands n (Div a b) = (a < n) × (b < n)
HasOperands n (Copy a) = a < n
HasOperands n node = Unit {0}

-- a negation has its operand's point
abbrev pub KeepsPoint : List ℤ → Node → ℤ → Type 0
KeepsPoint ps (Neg a) f = f ≡ at (pos 0) ps a
KeepsPoint ps node f = Unit {0}

-- ---- the code
-- of a node at the point f, in words of n bits; ps are all points, and w is the word of a literal or of a state.
-- Products and copies round by r where their shift may, and else down
abbrev pub placed : ℕ → Round → List ℤ → ℤ → Node → ℤ → Code
placed n r ps w (Input k) f = machine.Input k f
placed n r ps w (State k) f = machine.State k f w
placed n r ps w (Const c) f = machine.Const w f
placed n r ps w (Neg a) f = machine.Neg a
placed n r ps w (Add a b) f = machine.Add a b (shift_of ps a f) (shift_of ps b f)
placed n r ps w (Sub a b) f = machine.Sub a b (shift_of ps a f) (shift_of ps b f)
placed n r ps w (Mul a b) f = let s = unsigned_abs (product_shift ps a b f) in machine.Mul (product_round r s) a b s
placed n r ps w (Div a b) f = machine.Div a b (unsigned_abs (quotient_shift ps a b f))
placed n r ps w (Copy a) f = let s = shift_of ps a f in machine.Copy (copy_round r n s) a s
