use Rattle.std.proofs.Common.{◌≡◌, ◌∙◌, ◌+◌, ◌++◌, ◌∷◌, [], List, length, refl, sym, ap, subst, arith}
use Rattle.std.specs.Prelude.{MatchOption}
use Rattle.std.proofs.lemmas.List.{length-append}
use Rattle.fx_inequalities.specs.Rewriting.{Rewriting}
use Rattle.fx_rewrite.specs.Left.{left}
use Rattle.fx_step.specs.StepView.{step_view}
use Rattle.fx_plain_attempts.proofs.Better.{step_there, one_done}
use Rattle.fx_plain_attempts.proofs.turns.attempts.Goals as goal

pub loop-turn-init : goal.loop-turn-init
loop-turn-init c = ([], sym c.new-steps.ensures, refl, c.in_ok-answer.ensures)

pub next_turn-requires-clause-there : goal.next_turn-requires-clause-there
next_turn-requires-clause-there c =
    let kept = c.loop-turn.invariant in let s = step_view c.in-Some.step in
    let next : left c.loop-turn.steps ≡ s ∷ left c.next.new.self =
    subst (λ o. MatchOption o (left c.loop-turn.steps ≡ [])
    (λ x. left c.loop-turn.steps ≡ step_view x ∷ left c.next.new.self)) c.in-Some.is c.in_ok-step.ensures.next in
    step_there c.args.function.now kept.0 s (left c.next.new.self) (kept.1
    ∙ ap (λ (l : List Rewriting). kept.0 ++ l) next)

pub next_turn-requires-clause-suits : goal.next_turn-requires-clause-suits
next_turn-requires-clause-suits c = c.loop-turn.invariant.3.suits

pub loop-turn-preserved : goal.loop-turn-preserved
loop-turn-preserved c =
    let kept = c.loop-turn.invariant in let s = step_view c.in-Some.step in
    let next : left c.loop-turn.steps ≡ s ∷ left c.next.new.self =
    subst (λ o. MatchOption o (left c.loop-turn.steps ≡ [])
    (λ x. left c.loop-turn.steps ≡ step_view x ∷ left c.next.new.self)) c.in-Some.is c.in_ok-step.ensures.next in
    let more : length (kept.0 ++ s ∷ []) ≡ c.loop-turn._turn + 1 = let e = length-append kept.0 (s ∷ []) in
    let l = kept.2 in omega (arith, e, l) in (
      kept.0 ++ s ∷ [],
      kept.1 ∙ ap (λ (l : List Rewriting). kept.0 ++ l) next ∙ one_done kept.0 s (left c.next.new.self),
      more,
      c.in_ok-answer-2.ensures kept.0 kept.3,
    )
