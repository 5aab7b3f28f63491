use Rattle.std.proofs.Common.{◌≡◌, ℕ, ◌+◌, ◌∷◌, List, Some, None, ap, sym, ◌∙◌}
use Rattle.fx_expr.specs.TreeOf.{tree}
use Rattle.fx_rewrite.specs.Ahead.{ahead, steps_behind, there}
use Rattle.fx_rewrite.specs.FirstOf.{Begins}
use Rattle.fx_rewrite.proofs.Trees.{ahead_none, begins_some, begins_none, begins_held, fewer}
use Rattle.fx_rewrite.proofs.cursor.SingleSteps.next.Goals as goal

pub returns-in-Some-first_at-clause-next : goal.returns-in-Some-first_at-clause-next
returns-in-Some-first_at-clause-next c =
    let b : Begins c.loop-whole.self.function.now c.loop-whole.self.place c.loop-whole.self.path.items
    c.loop-whole.self.rule (Some c.in-Some-first_at.rule) =
    begins_held c.loop-whole.self.function.now c.loop-whole.self.place c.loop-whole.self.path.items
    c.deref.result.now c.loop-whole.self.rule (Some c.in-Some-first_at.rule) c.deref.ensures.value
    (c.in-Some-first_at.ensures c.loop-whole.self.place c.in-Some.ensures) in
    let held : c.from_vec.result ≡ c.loop-whole.self.path.items = c.from_vec.ensures ∙ c.in_ok-path.ensures
    ∙ c.deref-in-Some-first_at.ensures.value in
    sym c.loop-whole.invariant
    ∙ begins_some c.loop-whole.self.function.now c.loop-whole.self.place c.loop-whole.self.path.items
    c.loop-whole.self.rule c.in-Some-first_at.rule (tree c.in-Some.whole.now) c.in-Some.ensures b
    ∙ ap (λ (p : List ℕ). record {
      place = c.loop-whole.self.place;
      path = p;
      rule = c.in-Some-first_at.rule;
    } ∷ there c.loop-whole.self.function.now
    (ahead c.loop-whole.self.function.now c.loop-whole.self.place c.loop-whole.self.path.items
    (c.in-Some-first_at.rule + 1))) (sym held)

pub loop-whole-smaller : goal.loop-whole-smaller
loop-whole-smaller c =
    let e : steps_behind c.loop-whole.self.function.now c.loop-whole.self.place c.loop-whole.self.path.items
    (tree c.in-Some.whole.now)
    ≡ ahead c.loop-whole.self.function.now c.in_ok-position.position.place c.in_ok-position.position.path.items 1 =
    ap (λ (p : List ℕ). steps_behind c.loop-whole.self.function.now c.loop-whole.self.place p
    (tree c.in-Some.whole.now)) (sym c.deref-in-Some.ensures.value) ∙ c.in_ok-position.ensures in
    fewer c.loop-whole.self.function.now c.loop-whole.self.place c.loop-whole.self.path.items
    (tree c.in-Some.whole.now) _ c.in-Some.ensures e

pub loop-whole-preserved : goal.loop-whole-preserved
loop-whole-preserved c =
    let b : Begins c.loop-whole.self.function.now c.loop-whole.self.place c.loop-whole.self.path.items
    c.loop-whole.self.rule None =
    begins_held c.loop-whole.self.function.now c.loop-whole.self.place c.loop-whole.self.path.items
    c.deref.result.now c.loop-whole.self.rule None c.deref.ensures.value
    (c.in_default-first_at.ensures c.loop-whole.self.place c.in-Some.ensures) in
    let e : steps_behind c.loop-whole.self.function.now c.loop-whole.self.place c.loop-whole.self.path.items
    (tree c.in-Some.whole.now)
    ≡ ahead c.loop-whole.self.function.now c.in_ok-position.position.place c.in_ok-position.position.path.items 1 =
    ap (λ (p : List ℕ). steps_behind c.loop-whole.self.function.now c.loop-whole.self.place p
    (tree c.in-Some.whole.now)) (sym c.deref-in-Some.ensures.value) ∙ c.in_ok-position.ensures in
    ap (there c.loop-whole.self.function.now) (sym e)
    ∙ sym (begins_none c.loop-whole.self.function.now c.loop-whole.self.place c.loop-whole.self.path.items
    c.loop-whole.self.rule (tree c.in-Some.whole.now) c.in-Some.ensures b) ∙ c.loop-whole.invariant

pub returns-clause-next : goal.returns-clause-next
returns-clause-next c =
    sym c.loop-whole.invariant
    ∙ ap (there c.loop-whole.self.function.now)
    (ahead_none c.loop-whole.self.function.now c.loop-whole.self.place c.loop-whole.self.path.items
    c.loop-whole.self.rule c.in_default.ensures)
