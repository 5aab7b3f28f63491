-- The programs of attempts round as was asked for.
use Rattle.std.proofs.Common.{◌≡◌, ℕ, List, [], Option, Some, None, Result, Ok, Err, ℤ, refl, subst}
use Rattle.std.specs.Option.{option_map}
use Rattle.std.specs.Prelude.{All}
use Rattle.fx_rational.specs.Interval.{Interval}
use Rattle.fx_model.specs.Function.{Function}
use Rattle.fx_model.specs.Machine.{Round}
use Rattle.fx_model.specs.Nodes.{Node, Input, State, Const, Neg, Add, Sub, Mul, Div, Copy, nodes_of}
use Rattle.fx_inequalities.specs.Rewriting.{rewritten_by}
use Rattle.fx_rules.specs.Steps.{rewrite}
use Rattle.fx_program.specs.Rounding.{RoundsBy, IsRoundedBy}
use Rattle.fx_lowering.proofs.CodesBy.{all_by}
use Rattle.fx_analysis.specs.Fold.{Absent}
use Rattle.fx_analysis.specs.PlainRanges.{plain_ranges}
use Rattle.fx_analysis.specs.GreedyPoints.{greedy_points}
use Rattle.fx_analysis.specs.PlainErrors.{placed_code, plain_errors}
use Rattle.fx_analysis.specs.PlainAttempt.{Attempt, placed_codes, attempt_of, with_errors, with_points, with_ranges, plain_attempt}
use Rattle.fx_analysis.specs.Attempts.{with_steps}
use Rattle.fx_analysis.specs.AttemptLaws.{RoundedLaw}

code_rounded : (n : ℕ) (r : Round) (fn : Function) (ps : List ℤ) (node : Node) (f : ℤ) →
    RoundsBy r n (placed_code n r fn ps node f)
code_rounded n r fn ps (Input j) f = tt
code_rounded n r fn ps (State j) f = tt
code_rounded n r fn ps (Const c) f = tt
code_rounded n r fn ps (Neg a) f = tt
code_rounded n r fn ps (Add a b) f = tt
code_rounded n r fn ps (Sub a b) f = tt
code_rounded n r fn ps (Mul a b) f = refl
code_rounded n r fn ps (Div a b) f = tt
code_rounded n r fn ps (Copy a) f = refl

pub codes_rounded : (n : ℕ) (r : Round) (fn : Function) (ps : List ℤ) (nodes : List Node) (fs : List ℤ) →
    All (RoundsBy r n) (placed_codes n r fn ps nodes fs)
codes_rounded n r fn ps = all_by (RoundsBy r n) (placed_code n r fn ps) (code_rounded n r fn ps)

-- ---- of the plain attempt
attempt_rounded : (n : ℕ) (r : Round) (fn : Function) (gs : List Interval) (ps : List ℤ) (hs : List Interval) →
    IsRoundedBy r (attempt_of n r fn gs ps hs).program
attempt_rounded n r fn gs ps hs = record { version = refl; codes = codes_rounded n r fn ps (nodes_of fn) ps }

module _ (n : ℕ) (r : Round) (fn : Function) (t : Attempt) where
  by_errors : (gs : List Interval) (ps : List ℤ) (hs : Result (List Interval) Absent) →
      with_errors n r fn gs ps hs ≡ Some t → IsRoundedBy r t.program
  by_errors gs ps (Ok hs) e =
      let same : attempt_of n r fn gs ps hs ≡ t = cc in
      subst (λ (x : Attempt). IsRoundedBy r x.program) same (attempt_rounded n r fn gs ps hs)
  by_errors gs ps (Err why) e = absurd cc

  by_points : (gs : List Interval) (ps : Result (List ℤ) Absent) → with_points n r fn gs ps ≡ Some t →
      IsRoundedBy r t.program
  by_points gs (Ok ps) e = by_errors gs ps (plain_errors n r fn ps gs []) e
  by_points gs (Err why) e = absurd cc

  by_ranges : (gs : Result (List Interval) Absent) → with_ranges n r fn gs ≡ Some t → IsRoundedBy r t.program
  by_ranges (Ok gs) e = by_points gs (greedy_points n fn gs) e
  by_ranges (Err why) e = absurd cc

-- ---- of the attempt after steps
pub rounded_after : RoundedLaw
rounded_after n r fn steps t there = by (plain_attempt n r (rewritten_by rewrite fn steps)) refl there
  where
    by : (a : Option Attempt) → plain_attempt n r (rewritten_by rewrite fn steps) ≡ a →
        option_map (with_steps steps) a ≡ Some t → IsRoundedBy r t.program
    by None e h = absurd cc
    by (Some u) e h =
        let same : with_steps steps u ≡ t = cc in
        subst (λ (x : Attempt). IsRoundedBy r x.program) same
        (by_ranges n r (rewritten_by rewrite fn steps) u (plain_ranges (rewritten_by rewrite fn steps) []) e)
