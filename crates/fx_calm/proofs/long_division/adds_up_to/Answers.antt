use Rattle.std.proofs.Common.{rules, ◌≡◌, ◌≤◌, length, slice_index_or, sym, ap, ◌∙◌, arith, to_z, of_z}
use Rattle.std.specs.Int.{w128}
use Rattle.std.proofs.lemmas.Int.{to_z-of_z}
use Rattle.std.proofs.lemmas.List.{length-map}
use Rattle.fx_calm.specs.Summands.{rest}
use Rattle.fx_calm.proofs.Decided.{comparison_begins, ready_summand, ready_rest, ends_over, ends_under, comparison_goes_on, comparison_ends}
use Rattle.fx_calm.proofs.long_division.adds_up_to.Goals as goal

pub turn-requires-clause-ready : goal.turn-requires-clause-ready
turn-requires-clause-ready c = λ k d lt. ready_summand (slice_index_or c.args.summands.now k d)
    (c.requires.summands k d lt)

pub loop-turn-init : goal.loop-turn-init
loop-turn-init c =
    let fits : to_z w128 (of_z w128 c.start-s.result) ≡ c.start-s.result =
    to_z-of_z w128 c.start-s.result (search rules) in
    comparison_begins c.args.summands.now c.turn.new.summands c.args.limit c.turn.result
    (to_z w128 (of_z w128 c.start-s.result)) c.requires.summands c.requires.few c.turn.ensures.rests
    c.turn.ensures.digits (fits ∙ c.start-s.ensures)
    (let f = c.ranges.limit.fits in omega (arith, f)) c.turn.ensures.small

pub returns-then-s-ge1 : goal.returns-then-s-ge1
returns-then-s-ge1 c =
    ends_over c.loop-turn._turn
    (to_z w128 c.loop-turn.s-bits) c.loop-turn.summands c.args.summands.now c.args.limit c.loop-turn.invariant
    c.loop-turn-test.true c.if-s-ge1.true

pub is_under-requires-clause-low : goal.is_under-requires-clause-low
is_under-requires-clause-low c = c.loop-turn.invariant.low

pub returns-then-is_under : goal.returns-then-is_under
returns-then-is_under c =
    ends_under c.loop-turn._turn c.left.result
    (to_z w128 c.loop-turn.s-bits) c.loop-turn.summands c.args.summands.now c.args.limit c.loop-turn.invariant
    c.loop-turn-test.true c.left.ensures.value c.if-s-ge1.false (sym c.is_under.ensures ∙ c.if-is_under.true)

pub turn-requires-in-loop-turn-clause-ready : goal.turn-requires-in-loop-turn-clause-ready
turn-requires-in-loop-turn-clause-ready c =
    λ k d lt. ready_rest (slice_index_or c.loop-turn.summands k d) (c.loop-turn.invariant.summands k d lt)

pub loop-turn-preserved : goal.loop-turn-preserved
loop-turn-preserved c =
    let fits : to_z w128 (of_z w128 c.next-s.result) ≡ c.next-s.result =
    to_z-of_z w128 c.next-s.result (search rules) in
    let few : length c.loop-turn.summands ≤ 64 = (let a = c.loop-turn.auto.summands in
    let b = ap length c.turn.ensures.rests in
    let l = length-map c.args.summands.now (rest 1) in
    let f = c.requires.few in
    omega (arith, a, b, l, f)) in
    comparison_goes_on c.loop-turn._turn c.turn-in-loop-turn.result c.left.result (to_z w128 c.loop-turn.s-bits)
    (to_z w128 (of_z w128 c.next-s.result)) c.loop-turn.summands c.turn-in-loop-turn.new.summands c.args.summands.now
    c.args.limit c.loop-turn.invariant c.loop-turn-test.true few c.left.ensures.value c.if-s-ge1.false
    (sym c.is_under.ensures ∙ c.if-is_under.false) c.turn-in-loop-turn.ensures.rests c.turn-in-loop-turn.ensures.digits
    c.turn-in-loop-turn.ensures.small (fits ∙ c.next-s.ensures)

pub returns : goal.returns
returns c =
    let past = c.loop-turn-test.false in let ends-at = c.loop-turn.auto._turn-end in
    comparison_ends c.loop-turn._turn (to_z w128 c.loop-turn.s-bits) c.loop-turn.summands c.args.summands.now c.args.limit
    c.loop-turn.invariant (omega (arith, past, ends-at))
