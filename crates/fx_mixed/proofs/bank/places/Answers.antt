use Rattle.std.proofs.Common.{◌≡◌, ℕ, ◌+◌, ◌/◌, List, ◌∷◌, [], ◌++◌, length, get_or, ap, sym, ◌∙◌, arith, below_more, length-append}
use Rattle.std.proofs.Math.Seq.{get_or-append_seam}
use Rattle.std.proofs.lemmas.List.{get_or_append_left}
use Rattle.fx_model.specs.Tree.{at}
use Rattle.fx_mixed.specs.Packed.{place_of}
use Rattle.fx_mixed.proofs.Zeros.{place_next, place_small}
use Rattle.fx_mixed.proofs.bank.places.Goals as goal

pub overflow_add-place : goal.overflow_add-place
overflow_add-place c =
    let ns = c.args.lengths.now in let k = c.loop-k.k in let next = place_next ns k c.loop-k-test.true in
    let small = place_small ns (k + 1) c.requires.known (let lt = c.loop-k-test.true in omega arith) in
    let here = c.loop-k.invariant.next in let lt = c.loop-k-test.true in let few = c.requires.few in omega arith

pub loop-k-preserved : goal.loop-k-preserved
loop-k-preserved c =
    let ns = c.args.lengths.now in let k = c.loop-k.k in let ps = c.loop-k.places.items in let place = c.loop-k.place in
    let pushed = c.in_ok-push.ensures.items in let many = c.loop-k.invariant.counted in
    let here : at 0 c.push.new.self.items k ≡ place_of ns k =
    ap (λ (xs : List ℕ). at 0 xs k) pushed ∙ ap (at 0 (ps ++ place ∷ [])) (sym many) ∙ get_or-append_seam ps place [] 0
    ∙ c.loop-k.invariant.next in
    record {
      counted = ap length pushed ∙ (let l = length-append ps (place ∷ []) in omega arith);
      places = below_more (λ (j : ℕ). at 0 c.push.new.self.items j ≡ place_of ns j) k
          (λ j lt. ap (λ (xs : List ℕ). at 0 xs j) pushed ∙ get_or_append_left ps (place ∷ []) 0 j (omega arith)
          ∙ c.loop-k.invariant.places j lt) here;
      next = ap (λ (p : ℕ). p + get_or ns k 0 / 8) c.loop-k.invariant.next ∙ sym (place_next ns k c.loop-k-test.true);
    }
