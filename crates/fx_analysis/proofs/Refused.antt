-- A step that is there is refused for want of memory alone.
use Rattle.std.proofs.Common.{◌≡◌, true, Option, Some, None, refl, sym}
use Rattle.std.specs.Prelude.{is_some}
use Rattle.fx_model.specs.Function.{Function}
use Rattle.fx_inequalities.specs.Rewriting.{Rewriting}
use Rattle.fx_rules.specs.Steps.{rewrite, IsRewritten, RewriteLaw}
use Rattle.fx_rules.specs.SingleSteps.{is_there}
use Rattle.fx_rewrite.specs.Refusals.{IsRefused}
use Rattle.fx_rewrite.specs.declared.fault.StepFault.TheVariants.{NoPlace, NoMatch, TooLong}

some_of : {A : Type 0} (o : Option A) → is_some o ≡ true → (a : A) × (o ≡ Some a)
some_of None e = absurd cc
some_of (Some a) e = (a, refl)

-- what a step that is there leaves
left : RewriteLaw → (f : Function) (s : Rewriting) → is_there f s ≡ true → (h : Function) × IsRewritten f s h
left law f s there = let h = some_of (rewrite f s) there in (h.0, (law.exact f s h.0).0 h.1)

pub place_is_there : RewriteLaw → (f : Function) (s : Rewriting) → is_there f s ≡ true → IsRefused NoPlace f s → ⊥
place_is_there law f s there refused = let i = (left law f s there).1.there in absurd cc

pub rule_matches : RewriteLaw → (f : Function) (s : Rewriting) → is_there f s ≡ true → IsRefused NoMatch f s → ⊥
rule_matches law f s there (old, found, unmatched) =
    let i = (left law f s there).1 in
    let same : i.old ≡ old = (let t = i.there in cc) in unmatched i.new (rw (sym same) i.rewrites)

pub limits_are_kept : RewriteLaw → (f : Function) (s : Rewriting) → is_there f s ≡ true → IsRefused TooLong f s → ⊥
limits_are_kept law f s there refused = let h = some_of (rewrite f s) there in let e = refused.4 in absurd cc
