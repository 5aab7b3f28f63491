-- The run over rows in range: it isn't stuck, and keeps its ends and bounds.
use Rattle.std.proofs.Common.{◌≡◌, ℤ, List, [], ◌∷◌, map, Option, Some, refl, sym, subst, ◌∙◌}
use Rattle.std.specs.Prelude.{All}
use Rattle.std.proofs.lemmas.List.Elements.{All-head, All-tail}
use Rattle.fx_rational.specs.Rational.{Rational}
use Rattle.fx_rational.specs.Decimal.{Decimal, decimal_value}
use Rattle.fx_model.specs.Function.{Function, Input, Run}
use Rattle.fx_model.specs.Machine.{Program, machine_run}
use Rattle.fx_model.specs.Rows.{AreInputs, AreTrueOf, InRangeLaw, IsInRange}
use Rattle.fx_inequalities.specs.Certificate.{Certificate}
use Rattle.fx_inequalities.specs.Rewriting.{Rewrites}
use Rattle.fx_sound.specs.Soundness.{AllAlike, BoundLaw, IsCertified, RunLaw, RunsAgree}
use Rattle.fx_widths.specs.Laws.{OwnWidthsLaw}
use Rattle.fx_rows.specs.ReadRows.{AreInRange}
use Rattle.fx_run.specs.Printed.{IsHonestRun, IsWithinBounds, given_values}

-- rows in range have true rows
true_rows : (is : List Input) (rows : List (List Decimal)) → InRangeLaw → AreInputs is →
    All (λ row. IsInRange is (map decimal_value row)) rows
    → (ts : List (List Rational)) × AreTrueOf is (given_values rows) ts
true_rows is [] law inputs all = ([], tt)
true_rows is (row ∷ rows) law inputs all =
    let here =
    (law is (map decimal_value row) inputs).0
    (All-head (λ row. IsInRange is (map decimal_value row)) row rows all) in
    let later = true_rows is rows law inputs (All-tail (λ row. IsInRange is (map decimal_value row)) row rows all) in
    (here.0 ∷ later.0, (here.1, later.1))

one_run : (a b : Option (Run ℤ)) (r s : Run ℤ) → a ≡ b → a ≡ Some r → b ≡ Some s → r ≡ s
one_run a b r s e f g = let same : Some r ≡ Some s = sym f ∙ e ∙ g in cc

within : (f : Function) (p : Program) (cert : Certificate) (gs ts : List (List Rational)) (run : Run ℤ) → BoundLaw →
    machine_run p gs ≡ Some run → RunsAgree f p cert gs ts
    → IsWithinBounds f p cert run ts
within f p cert gs ts run law own agree = record {
  exact_made = agree.exact_made;
  defined = agree.defined;
  bounded = law.run p cert run.outputs agree.exact_made.outputs
      (subst (λ (r : Run ℤ). AllAlike p cert r.outputs agree.exact_made.outputs)
      (one_run (machine_run p gs) (machine_run p gs) agree.run run refl agree.not_stuck own) agree.outputs);
}

-- what certification says of rows in range
pub honest_run : (rewrite : Rewrites) (f : Function) (p : Program) (cert : Certificate) → InRangeLaw → RunLaw →
    BoundLaw → OwnWidthsLaw → AreInputs f.inputs → IsCertified rewrite f p cert
    → (rows : List (List Decimal)) → AreInRange f rows → IsHonestRun f p cert (given_values rows)
honest_run rewrite f p cert in_range run_law bound_law widths_law inputs certified rows all =
    let gs = given_values rows in
    let ts = true_rows f.inputs rows in_range inputs all in
    let first = run_law rewrite f p cert gs ts.0 certified ts.1 in
    record {
      run = first.run;
      own = first.not_stuck;
      widths = widths_law rewrite f p cert gs ts.0 certified ts.1;
      ends = first.ends;
      bound =
          λ ts' true_ts. within f p cert gs ts' first.run bound_law first.not_stuck
          (run_law rewrite f p cert gs ts' certified true_ts);
    }
