use Rattle.std.proofs.Common.{◌≡◌, ℕ, ◌+◌, ◌/◌, length, get_or, ap, sym, ◌∙◌, arith}
use Rattle.fx_mixed.specs.Packed.{place_of}
use Rattle.fx_mixed.proofs.Zeros.{place_next, place_small, place_last}
use Rattle.fx_mixed.proofs.bank.byte_count.Goals as goal

pub overflow_add-size : goal.overflow_add-size
overflow_add-size c =
    let ns = c.args.lengths.now in let k = c.loop-k.k in let lt = c.loop-k-test.true in let next = place_next ns k lt in
    let small = place_small ns (k + 1) c.requires.known (omega arith) in
    let here : c.loop-k.size ≡ place_of ns k = c.loop-k.invariant in let few = c.requires.few in omega arith

pub loop-k-preserved : goal.loop-k-preserved
loop-k-preserved c =
    let ns = c.args.lengths.now in
    ap (λ (p : ℕ). p + get_or ns c.loop-k.k 0 / 8) c.loop-k.invariant
    ∙ sym (place_next ns c.loop-k.k c.loop-k-test.true)

pub returns-clause-size : goal.returns-clause-size
returns-clause-size c =
    let ns = c.args.lengths.now in let k = c.loop-k.k in
    let end : k ≡ length ns = (let f = c.loop-k-test.false in let le = c.loop-k.auto.k-end in omega arith) in
    c.loop-k.invariant ∙ ap (place_of ns) end ∙ place_last ns

pub returns-clause-small : goal.returns-clause-small
returns-clause-small c =
    let ns = c.args.lengths.now in let k = c.loop-k.k in
    let small = place_small ns k c.requires.known c.loop-k.auto.k-end in
    let here : c.loop-k.size ≡ place_of ns k = c.loop-k.invariant in
    let le = c.loop-k.auto.k-end in let few = c.requires.few in omega arith
