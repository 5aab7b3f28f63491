use Rattle.std.proofs.Common.{◌≡◌, ◌∙◌, ℕ, List, ◌<◌, pos, length, get_or, set, refl, sym, ap, subst, arith, map}
use Rattle.std.proofs.lemmas.List.{length-map}
use Rattle.fx_model.specs.Machine.{IsWord}
use Rattle.fx_model.specs.Tree.{at}
use Rattle.fx_program.specs.CodeView.{code_of}
use Rattle.fx_program.specs.declared.code.Code.TheVariants.{Input}
use Rattle.fx_mixed.specs.Mixing.{first_word}
use Rattle.fx_mixed.proofs.Starts.{begun, begun_all, begun_none, begun_more, begun_next, seen_at}
use Rattle.fx_mixed.proofs.mixed.put_starts.Goals as goal

pub loop-n-init : goal.loop-n-init
loop-n-init c =
    record { widths = refl; words = c.requires.zeros ∙ sym (begun_none first_word code_of c.args.codes.now) }

pub put_start-requires-clause-fits : goal.put_start-requires-clause-fits
put_start-requires-clause-fits c =
    let codes = c.args.codes.now in let n = c.loop-n.n in let lt : n < length codes = c.loop-n-test.true in
    let all = map first_word (map code_of codes) in
    let inside : n < length all = (let a = length-map (map code_of codes) first_word in
    let b = length-map codes code_of in omega arith) in
    subst (λ (ns : List ℕ). IsWord (at 0 ns n) (first_word (code_of (get_or codes n (Input 0 (pos 0))))))
    (sym c.loop-n.invariant.widths)
    (subst (IsWord (at 0 c.args.bank.now.widths n)) (seen_at first_word code_of codes n (Input 0 (pos 0)) (pos 0) lt)
    (c.requires.fits n inside))

pub put_start-requires-clause-zero : goal.put_start-requires-clause-zero
put_start-requires-clause-zero c =
    ap (λ ws. at (pos 0) ws c.loop-n.n) c.loop-n.invariant.words
    ∙ begun_next first_word code_of c.args.codes.now c.loop-n.n c.loop-n-test.true

pub loop-n-preserved : goal.loop-n-preserved
loop-n-preserved c =
    let codes = c.args.codes.now in let n = c.loop-n.n in
    let w = first_word (code_of (get_or codes n (Input 0 (pos 0)))) in
    record {
      widths = c.put_start.ensures.widths ∙ c.loop-n.invariant.widths;
      words = c.put_start.ensures.words ∙ ap (λ ws. set ws n w) c.loop-n.invariant.words
          ∙ begun_more first_word code_of codes n (Input 0 (pos 0)) c.loop-n-test.true;
    }

pub returns-clause-words : goal.returns-clause-words
returns-clause-words c =
    let codes = c.args.codes.now in let f = c.loop-n-test.false in let le = c.loop-n.auto.n-end in
    let end : c.loop-n.n ≡ length codes = omega arith in
    c.loop-n.invariant.words ∙ ap (λ (m : ℕ). begun first_word code_of codes m) end ∙ begun_all first_word code_of codes
