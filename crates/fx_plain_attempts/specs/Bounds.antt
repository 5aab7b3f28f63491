-- The bounds of what is accepted, against others and against what is promised.
use Rattle.std.specs.Prelude.{ℕ, ◌<◌, ℤ, Bool, true, false, Option, Some, None}
use Rattle.fx_rational.specs.Rational.{AtMost}
use Rattle.fx_model.specs.Function.{Function, outputs}
use Rattle.fx_model.specs.Machine.{Program}
use Rattle.fx_inequalities.specs.Certificate.{Certificate}
use Rattle.fx_inequalities.specs.Accepted.{certified_bound}
use Rattle.fx_analysis.specs.PlainAttempt.{Attempt}
use Rattle.fx_checker.specs.CertifiedView.{Accepted}
use Rattle.fx_plan_laws.specs.Powers.{power_value}
use Rattle.fx_weight.specs.PlainClass.{Obstacle, obstacle_of, output_power}
use Rattle.fx_plan_laws.specs.Calm.{is_calm, numbers_of}

-- program and certificate of what is accepted
abbrev pub attempted : Accepted → Attempt
attempted a = record { program = a.program; certificate = a.certificate }

-- ---- against another
-- each bound of a is smaller than that of b
abbrev pub AreSmaller : Function → Attempt → Attempt → Type 0
AreSmaller fn a b = (j : ℕ) → j < outputs fn →
    ¬ AtMost (certified_bound b.program b.certificate j) (certified_bound a.program a.certificate j)

-- each is at most that of b
abbrev pub AreNoGreater : Function → Attempt → Attempt → Type 0
AreNoGreater fn a b = (j : ℕ) → j < outputs fn →
    AtMost (certified_bound a.program a.certificate j) (certified_bound b.program b.certificate j)

-- ---- against what is promised
-- the powers of the first of two plans that serves
abbrev pub powers_by : Option Obstacle → Bool → (ℕ → ℤ) → (ℕ → ℤ) → Option (ℕ → ℤ)
powers_by None calm plain even = Some plain
powers_by (Some reason) true plain even = Some even
powers_by (Some reason) false plain even = None

-- at width n the bound of each output is promised to be at most 2^v, for this v of it: that of the plain plan where it
-- serves the function, else that of the calm plan; nothing is promised of a function that neither serves
abbrev pub promised_powers : ℕ → Function → Option (ℕ → ℤ)
promised_powers n fn = powers_by (obstacle_of n fn) (is_calm n fn) (output_power n fn) (λ j. (numbers_of n fn).z)

-- each certified bound is at most 2^v, for the v of its output
abbrev pub AreWithinPowers : Function → Program → Certificate → (ℕ → ℤ) → Type 0
AreWithinPowers fn p cert v = (j : ℕ) → j < outputs fn → AtMost (certified_bound p cert j) (power_value (v j))
