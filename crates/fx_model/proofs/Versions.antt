-- A lawful program of any version is one of the second.
use Rattle.std.proofs.Common.{refl, arith, get_or}
use Rattle.fx_model.specs.Machine.{Code, Program, Input, State, Const, Neg, Add, Sub, Mul, Div, Copy}
use Rattle.fx_model.specs.LawfulProgram.{IsOfVersion, IsLawfulProgram}
use Rattle.fx_model.specs.Versions.{second_version}
use Rattle.fx_model.proofs.Rounds.{in_second}

of_second : (c : Code) → IsOfVersion 2 c
of_second (Input k f) = tt
of_second (State k f w) = tt
of_second (Const w f) = tt
of_second (Neg a) = tt
of_second (Add a b sa sb) = tt
of_second (Sub a b sa sb) = tt
of_second (Mul r a b s) = in_second r
of_second (Div a b s) = tt
of_second (Copy r a s) = in_second r

pub second_lawful : (p : Program) → IsLawfulProgram p → IsLawfulProgram (second_version p)
second_lawful p l =
    let k = l.counts in
    record {
      version = (1, omega arith, refl);
      width = l.width;
      counts = record {
        some_input = k.some_input;
        inputs = k.inputs;
        states = k.states;
        some_output = k.some_output;
        outputs = k.outputs;
        enough = k.enough;
        codes = k.codes;
      };
      codes = l.codes;
      points = l.points;
      copies = l.copies;
      of_version = λ k d lt. of_second (get_or p.codes k d);
    }
