use Rattle.std.proofs.Common.{◌≡◌, ◌∙◌, ◌-◌, subst, sym, ap, arith}
use Rattle.std.specs.Option.{option_map}
use Rattle.fx_cert.specs.declared.side.Side.TheVariants.{Value, Error}
use Rattle.fx_template.specs.Transitions.{transition_in}
use Rattle.fx_template.specs.PlainRounds.{plain_rounds}
use Rattle.fx_template.specs.RoundView.{AreShortBoth, bounds_in}
use Rattle.fx_template.proofs.Rounds.{first_short, round_ends, round_on, round_short}
use Rattle.fx_template.proofs.round.plain_rounds.Goals as goal

pub loop-turn-init : goal.loop-turn-init
loop-turn-init c =
    let t = transition_in c.args.t.now in let e = c.in_ok-bounds.ensures in
    let all : c.args.rounds - 0 ≡ c.args.rounds = omega arith in
    record {
      left = λ k. plain_rounds (all k) t (e k);
      short = subst AreShortBoth (sym e) (first_short Value t c.requires.modest, first_short Error t c.requires.modest);
    }

pub returns-in-None-clause-rounds : goal.returns-in-None-clause-rounds
returns-in-None-clause-rounds c =
    let t = transition_in c.args.t.now in let b = bounds_in c.loop-turn.bounds in
    let none = sym c.in_ok-next.ensures ∙ ap (option_map bounds_in) c.in-None.is in
    sym (round_ends c.args.rounds c.loop-turn._turn t b c.loop-turn-test.true none) ∙ c.loop-turn.invariant.left

pub loop-turn-preserved : goal.loop-turn-preserved
loop-turn-preserved c =
    let t = transition_in c.args.t.now in let b = bounds_in c.loop-turn.bounds in
    let new = bounds_in c.in-Some.raised in
    let some = sym c.in_ok-next.ensures ∙ ap (option_map bounds_in) c.in-Some.is in
    record {
      left = sym (round_on c.args.rounds c.loop-turn._turn t b new c.loop-turn-test.true some)
          ∙ c.loop-turn.invariant.left;
      short = round_short t b new c.requires.modest some;
    }
