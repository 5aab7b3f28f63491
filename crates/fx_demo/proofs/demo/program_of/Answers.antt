use Rattle.std.proofs.Common.{◌∙◌, ap, sym, subst, refl, arith}
use Rattle.std.specs.Prelude.{Ok}
use Rattle.fx_weight.specs.PlainClass.{obstacle_of}
use Rattle.fx_synth.specs.Synthesis.{IsSynthesised}
use Rattle.fx_demo.specs.Demonstration.{demo_wanted}
use Rattle.fx_demo.proofs.demo.program_of.Goals as goal

pub synthesise-requires-clause-width : goal.synthesise-requires-clause-width
synthesise-requires-clause-width c = (3, omega arith, refl)

pub returns-in-Ok : goal.returns-in-Ok
returns-in-Ok c =
    let s = c.in-Ok.ensures.found in record {
      meant = c.in_ok-function.ensures.meant ∙ ap Ok (sym s.function_is);
      served = ap (obstacle_of 32) s.function_is ∙ c.in_ok-function.ensures.served;
      program = c.certified.ensures.certified.program;
      certificate = c.certified.ensures.certified.certificate;
      accepted = c.certified.ensures.certified.accepted;
      synthesised = subst (λ fn. IsSynthesised demo_wanted fn c.in-Ok.certified) (sym s.function_is) s;
    }
