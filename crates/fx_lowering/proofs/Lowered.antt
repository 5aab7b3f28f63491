-- Codes that are made node by node make a lawful program, where each may stand as its node does.
use Rattle.std.proofs.Common.{◌≡◌, ℕ, zero, suc, ◌+◌, ◌-◌, List, [], ◌∷◌, ◌++◌, length, drop, subst, arith}
use Rattle.std.specs.Prelude.{All, Contains}
use Rattle.std.proofs.lemmas.List.Elements.{All-nil, All-cons, All-head, All-tail}
use Rattle.fx_model.specs.Function.{Function, outputs}
use Rattle.fx_model.specs.LawfulProgram.{IsPoint, IsLawfulCode, IsPlaced, AreLawful, IsCopy, widths, HasLawfulCounts, IsLawfulProgram}
use Rattle.fx_model.specs.Machine.{Round, Code, points_of}
use Rattle.fx_model.specs.Nodes.{Node, Input, State, Const, Neg, Add, Sub, Mul, Div, Copy, nodes_of}
use Rattle.fx_model.proofs.Roots.{IsCopyNode}
use Rattle.fx_expr.specs.LawfulFunction.{IsLawfulFunction}
use Rattle.fx_flat.proofs.Ordered.{IsNodeList, node_list, before_length}
use Rattle.fx_flat.proofs.Pairs.{ArePairs, pairs_length}
use Rattle.fx_program.specs.Rounding.{RoundsBy}
use Rattle.fx_program.proofs.Rounded.{has_version, rounded_are_of_version}
use Rattle.fx_lowering.specs.OfFunction.{program_for}
use Rattle.fx_lowering.proofs.Ordered.{counts_of}

-- what is asked of the code of node k, among i inputs and s states
pub record IsLowered (n i s k : ℕ) (node : Node) (c : Code) : Type 0 where
  pub lawful : IsLawfulCode n k c
  pub placed : IsPlaced i s k c
  pub copy : IsCopyNode node → IsCopy c

-- who makes a copy of each copy makes one of this node, if it is one
pub copy_by : (make : Node → Code) → ((a : ℕ) → IsCopy (make (Copy a))) → (node : Node) → IsCopyNode node →
    IsCopy (make node)
copy_by make h (Input j) copy = absurd copy
copy_by make h (State j) copy = absurd copy
copy_by make h (Const c) copy = absurd copy
copy_by make h (Neg a) copy = absurd copy
copy_by make h (Add a b) copy = absurd copy
copy_by make h (Sub a b) copy = absurd copy
copy_by make h (Mul a b) copy = absurd copy
copy_by make h (Div a b) copy = absurd copy
copy_by make h (Copy a) copy = h a

-- ---- all codes
codes_lawful : (n i s k : ℕ) (nodes : List Node) (cs : List Code) → ArePairs (IsLowered n i s) k nodes cs →
    AreLawful n i s k cs
codes_lawful n i s k [] [] h = tt
codes_lawful n i s k (node ∷ nodes) (c ∷ cs) h =
    ((h.0.lawful, h.0.placed), codes_lawful n i s (k + 1) nodes cs h.1)
codes_lawful n i s k [] (c ∷ cs) h = absurd h
codes_lawful n i s k (node ∷ nodes) [] h = absurd h

codes_copies : (n i s k : ℕ) (nodes : List Node) (cs : List Code) → ArePairs (IsLowered n i s) k nodes cs →
    All IsCopyNode nodes → All IsCopy cs
codes_copies n i s k [] [] h copies = All-nil IsCopy
codes_copies n i s k (node ∷ nodes) (c ∷ cs) h copies =
    All-cons IsCopy c cs (h.0.copy (All-head IsCopyNode node nodes copies))
    (codes_copies n i s (k + 1) nodes cs h.1 (All-tail IsCopyNode node nodes copies))
codes_copies n i s k [] (c ∷ cs) h copies = absurd h
codes_copies n i s k (node ∷ nodes) [] h copies = absurd h

-- behind the first d codes
copies_behind : (n i s k d : ℕ) (before rest : List Node) (cs : List Code) → d ≡ length before →
    ArePairs (IsLowered n i s) k (before ++ rest) cs → All IsCopyNode rest → All IsCopy (drop d cs)
copies_behind n i s k zero [] rest cs e h copies = codes_copies n i s k rest cs h copies
copies_behind n i s k zero (node ∷ before) rest cs e h copies = absurd (omega (arith, e))
copies_behind n i s k (suc d) [] rest cs e h copies = absurd (omega (arith, e))
copies_behind n i s k (suc d) (node ∷ before) rest [] e h copies = absurd h
copies_behind n i s k (suc d) (node ∷ before) rest (c ∷ cs) e h copies =
    copies_behind n i s (k + 1) d before rest cs (omega (arith, e)) h.1 copies

-- ---- the program
module _ (n : ℕ) (r : Round) (fn : Function) (cs : List Code) (width : Contains widths n)
    (lawful : IsLawfulFunction fn)
    (pairs : ArePairs (IsLowered n (length fn.inputs) (length fn.states)) 0 (nodes_of fn) cs) where
  list : IsNodeList (length fn.inputs) (length fn.states) (outputs fn + length fn.states) (nodes_of fn)
  list = node_list fn lawful.valid

  long : length (nodes_of fn) ≡ length cs
  long = pairs_length (IsLowered n (length fn.inputs) (length fn.states)) 0 (nodes_of fn) cs pairs

  counts : HasLawfulCounts (program_for n r fn cs)
  counts =
      let l = long in let b = before_length list in let e = list.enough in let nodes = lawful.sizes.nodes in
      counts_of n r fn cs lawful (omega (arith, l, b, e)) (omega (arith, l, nodes))

  copies : All IsCopy (drop (length cs - (outputs fn + length fn.states)) cs)
  copies =
      let l = long in let b = before_length list in
      copies_behind n (length fn.inputs) (length fn.states) 0 (length cs - (outputs fn + length fn.states)) list.before
      list.copies cs (omega (arith, l, b)) (subst (λ (nodes : List Node). ArePairs
      (IsLowered n (length fn.inputs) (length fn.states)) 0 nodes cs) list.is pairs) list.are_copies

  pub lowered_program : All IsPoint (points_of cs) → All (RoundsBy r n) cs → IsLawfulProgram (program_for n r fn cs)
  lowered_program points rounded = record {
    version = has_version r;
    width = width;
    counts = counts;
    codes = codes_lawful n (length fn.inputs) (length fn.states) 0 (nodes_of fn) cs pairs;
    points = points;
    copies = copies;
    of_version = rounded_are_of_version r n cs rounded;
  }
