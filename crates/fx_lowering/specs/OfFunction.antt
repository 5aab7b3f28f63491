-- The codes of nodes, and the program of a function.
use Rattle.std.specs.Prelude.{ℕ, List, [], ◌∷◌, length}
use Rattle.fx_model.specs.Function.{Function, outputs}
use Rattle.fx_model.specs.LawfulProgram.{first_version}
use Rattle.fx_model.specs.Machine.{Round, Code, Program}
use Rattle.fx_model.specs.Nodes.{Node}

-- each code is made of its node and of what was chosen for it
abbrev pub codes_by : {X : Type 0} → (Node → X → Code) → List Node → List X → List Code
codes_by make (node ∷ nodes) (x ∷ xs) = make node x ∷ codes_by make nodes xs
codes_by make nodes xs = []

-- with these codes, in words of n bits, of the version that the rounding came with
abbrev pub program_for : ℕ → Round → Function → List Code → Program
program_for n r fn cs = record {
  version = first_version r;
  width = n;
  name = fn.name;
  inputs = length fn.inputs;
  states = length fn.states;
  outputs = outputs fn;
  codes = cs;
}
