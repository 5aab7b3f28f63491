-- What is demanded of each output, read and spelled.
use Rattle.std.proofs.Common.{◌≡◌, ℕ, zero, suc, false, List, [], ◌∷◌, map, replicate, Option, Some, None, Ok, refl, sym, ap, subst, ◌∙◌}
use Rattle.std.specs.Prelude.{◌&&◌, not, Bool, true, IfSome}
use Rattle.std.specs.Option.{option_map}
use Rattle.std.proofs.lemmas.Bool.{not-false}
use Rattle.fx_rational.specs.Decimal.{Decimal, decimal_value}
use Rattle.fx_rational.specs.Rational.{Rational, AtMost, is_at_most}
use Rattle.fx_rational.proofs.Tests.{at_most_true, at_most_test}
use Rattle.fx_model.specs.Function.{Demand, free}
use Rattle.fx_lexer.specs.declared.fault.SourceFault.{SourceFault}
use Rattle.fx_lexer.specs.declared.fault.SourceKind.TheVariants as kinds
use Rattle.fx_grammar.specs.Steps.{fault}
use Rattle.fx_grammar.specs.Ranges.{Subject, Subjects, is_said, or_zero, all_pass}
use Rattle.fx_grammar.specs.Ensuring.{declared_demand, is_empty_demand, demands_at, unsaid}
use Rattle.fx_syntax.specs.Ensuring.{IsDemandOf, AreDemandsOf, none, one_more}
use Rattle.fx_syntax.proofs.Outcomes.{OnOk, answered, done, and_then, steps}
use Rattle.fx_syntax.proofs.Conditions.{pass_spells, subject_passes}

-- ---- two ends in order

-- both are said, and the lower one is above the upper one
abbrev are_empty : Option Decimal → Option Decimal → Bool
are_empty lo hi =
    is_said lo && (is_said hi && not (is_at_most (decimal_value (or_zero lo)) (decimal_value (or_zero hi))))

-- where both are there, the first is at most the second
abbrev InOrder : Option Rational → Option Rational → Type 0
InOrder lo hi = IfSome lo (λ l. IfSome hi (λ h. AtMost l h))

in_order : (lo hi : Option Decimal) → are_empty lo hi ≡ false →
    InOrder (option_map decimal_value lo) (option_map decimal_value hi)
in_order None hi e = tt {0}
in_order (Some l) None e = tt {0}
in_order (Some l) (Some h) e = at_most_true _ _ (not-false _ e)

not_empty : (lo hi : Option Decimal) → InOrder (option_map decimal_value lo) (option_map decimal_value hi) →
    are_empty lo hi ≡ false
not_empty None hi o = refl
not_empty (Some l) None o = refl
not_empty (Some l) (Some h) o =
    ap not (true_is (is_at_most (decimal_value l) (decimal_value h)) ((at_most_test _ _).1 o))
  where
    true_is : (b : Bool) → b ≡ true → b ≡ true
    true_is b e = e

-- ---- one output

demand_is : (s : Subject) → is_empty_demand s ≡ false → IsDemandOf s (declared_demand s)
demand_is s e = record { err = refl; lo = refl; hi = refl; ordered = in_order s.lo s.hi e }

the_demand : Option Rational → Option Rational → Option Rational → Demand
the_demand err lo hi = record { err = err; lo = lo; hi = hi }

-- a demand of these parts
same_demand : (err lo hi : Option Rational) (d : Demand) → d.err ≡ err → d.lo ≡ lo → d.hi ≡ hi →
    d ≡ the_demand err lo hi
unfolding the_demand
same_demand err lo hi d e l h =
    ap (λ x. the_demand x d.lo d.hi) e ∙ ap (λ x. the_demand err x d.hi) l ∙ ap (the_demand err lo) h

-- it is what the reader makes of what is said
is_declared : (s : Subject) (d : Demand) → IsDemandOf s d → d ≡ declared_demand s
unfolding the_demand
is_declared s d i =
    same_demand (option_map decimal_value s.err) (option_map decimal_value s.lo)
    (option_map decimal_value s.hi) d i.err i.lo i.hi

demand_ordered : (s : Subject) (d : Demand) → IsDemandOf s d → is_empty_demand s ≡ false
demand_ordered s d i = not_empty s.lo s.hi (subst (λ (x : Demand). InOrder x.lo x.hi) (is_declared s d i) i.ordered)

-- ---- all of them

demands_are : (faulty : ℕ → SourceFault) (subjects : Subjects) (u : Unit {0}) →
    all_pass is_empty_demand faulty subjects ≡ Ok u → AreDemandsOf subjects (map declared_demand subjects)
demands_are faulty [] u e = none
demands_are faulty (s ∷ subjects) u e =
    let a = pass_spells is_empty_demand faulty s subjects u e in
    one_more (demand_is s a.0) (demands_are faulty subjects u a.1)

pub demands_spell : (subjects : Subjects) → OnOk (AreDemandsOf subjects) (demands_at subjects)
unfolding demands_at
demands_spell subjects =
    and_then (answered (all_pass is_empty_demand (λ at. fault at kinds.EmptyRange) subjects))
    (λ u e. done (demands_are _ subjects u e))

all_ordered : (faulty : ℕ → SourceFault) {subjects : Subjects} {demands : List Demand} → AreDemandsOf subjects demands →
    all_pass is_empty_demand faulty subjects ≡ Ok tt
unfolding all_pass
all_ordered faulty none = refl
all_ordered faulty (one_more {s = s} {d = d} {subjects = subjects} i others) =
    subject_passes is_empty_demand faulty s subjects (demand_ordered s d i) (all_ordered faulty others)

all_declared : {subjects : Subjects} {demands : List Demand} → AreDemandsOf subjects demands →
    demands ≡ map declared_demand subjects
all_declared none = refl
all_declared (one_more {s = s} {d = d} {subjects = subjects} {demands = demands} i others) =
    ap (λ x. x ∷ demands) (is_declared s d i) ∙ ap (λ xs. declared_demand s ∷ xs) (all_declared others)

pub demands_read : {subjects : Subjects} {demands : List Demand} → AreDemandsOf subjects demands →
    demands_at subjects ≡ Ok demands
unfolding demands_at
demands_read i =
    steps _ (all_ordered (λ at. fault at kinds.EmptyRange) i) (ap (λ (ds : List Demand). Ok ds) (sym (all_declared i)))

-- ---- of outputs of which nothing is said

pub free_demands : (count : ℕ) → AreDemandsOf (replicate count unsaid) (replicate count free)
free_demands zero = none
free_demands (suc count) = one_more (demand_is unsaid refl) (free_demands count)

pub all_free : (count : ℕ) {demands : List Demand} → AreDemandsOf (replicate count unsaid) demands →
    demands ≡ replicate count free
all_free count i = all_declared i ∙ sym (all_declared (free_demands count))
