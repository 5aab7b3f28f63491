-- What comes of a program that may be worth something.
use Rattle.std.specs.Prelude.{◌≡◌, ⊤, Option, Some, None}
use Rattle.fx_model.specs.Function.{Function}
use Rattle.fx_model.specs.Machine.{Program}
use Rattle.fx_inequalities.specs.Accepted.{IsAccepted}
use Rattle.fx_inequalities.specs.Certificate.{Certificate}
use Rattle.fx_program.specs.Rounding.{IsRoundedBy}
use Rattle.fx_rules.specs.Steps.{rewrite}
use Rattle.fx_wanted.specs.Asked.{rounding_of}
use Rattle.fx_wanted.specs.declared.wanted.Wanted.{Wanted}
use Rattle.fx_checker.specs.CertifiedView.{Accepted}

-- what the checker made of a program and a certificate for fn
abbrev pub IsJudged : Function → Program → Certificate → Option Accepted → Type 0
IsJudged fn p cert None = ¬ IsAccepted rewrite fn p cert
IsJudged fn p cert (Some a) =
    IsAccepted rewrite fn p cert × (a ≡ record { function = fn; program = p; certificate = cert })

-- certified for fn, of its name, at the width and with the rounding that are asked for
pub record IsAnswerFor (w : Wanted) (fn : Function) (a : Accepted) : Type 0 where
  pub function_is : a.function ≡ fn
  pub named : a.program.name ≡ fn.name
  pub width_is : a.program.width ≡ w.width
  pub rounded : IsRoundedBy (rounding_of w) a.program

-- the same where there may be none
abbrev pub IsOffered : Wanted → Function → Option Accepted → Type 0
IsOffered w fn None = ⊤
IsOffered w fn (Some a) = IsAnswerFor w fn a
