use Rattle.std.proofs.Common.{◌≡◌, ◌∙◌, ◌+◌, ◌-◌, ◌<◌, ℕ, pos, length, map, set, refl, sym, ap, arith, of_z, rules, to_z}
use Rattle.std.specs.Int.{w64}
use Rattle.std.proofs.lemmas.Int.{to_z-of_z}
use Rattle.std.proofs.lemmas.List.{length-map}
use Rattle.fx_model.specs.Tree.{at}
use Rattle.fx_model.specs.Machine.{Program}
use Rattle.fx_program.specs.CodeView.{code_of}
use Rattle.fx_machine.specs.Steps.{step_taken}
use Rattle.fx_mixed.proofs.Carried.{copy_put, copy_word, with_all, with_next, with_none}
use Rattle.fx_mixed.proofs.turn.carry_states.Goals.{After-word-word}
use Rattle.fx_mixed.proofs.turn.carry_states.Goals as goal

pub loop-k-init : goal.loop-k-init
loop-k-init c =
    let p = c.args.program.now in let old = c.args.bank.now.words in
    record { widths = refl; words = sym (with_none p.inputs old (step_taken p old).next) }

-- one more state is left
below : (c : After-word-word) → c.loop-k.k < c.args.program.now.states
below c =
    let states = ap (λ (q : Program). q.states) c.program.view_is in let l = c.loop-k-test.true in omega arith

-- the word that is read is its next one
read : (c : After-word-word) → to_z w64 (of_z w64 c.word-word.result)
    ≡ at (pos 0) (step_taken c.args.program.now c.args.bank.now.words).next c.loop-k.k
read c =
    let p = c.args.program.now in let old = c.args.bank.now.words in let k = c.loop-k.k in
    let states : c.program.inside.states ≡ p.states = ap (λ (q : Program). q.states) c.program.view_is in
    let codes : length c.as_slice.result.now ≡ length p.codes =
    sym (length-map c.as_slice.result.now code_of)
    ∙ ap length (ap (map code_of) c.as_slice.ensures.value ∙ ap (λ (q : Program). q.codes) c.program.view_is) in
    to_z-of_z w64 c.word-word.result (search rules) ∙ c.word-word.ensures
    ∙ copy_word p old c.loop-k.bank.words k _ c.keeps.ensures.lawful.counts
    (c.keeps-2.ensures.counted ∙ c.requires.counted) (below c) c.loop-k.invariant.words
    (λ i. (codes i - states i) + k)

pub set_word-requires-clause-word : goal.set_word-requires-clause-word
set_word-requires-clause-word c =
    let inputs = ap (λ (q : Program). q.inputs) c.program.view_is in
    let here = (goal.at.set_word-requires-clause-word c).After-word-word in
    rw (inputs, c.loop-k.invariant.widths, read here) (c.requires.fits c.loop-k.k (below here))

pub loop-k-preserved : goal.loop-k-preserved
loop-k-preserved c =
    let p = c.args.program.now in let here = (goal.at.loop-k-preserved c).After-word-word in let k = c.loop-k.k in
    let inputs : c.program.inside.inputs ≡ p.inputs = ap (λ (q : Program). q.inputs) c.program.view_is in record {
      widths = c.set_word.ensures.widths ∙ c.loop-k.invariant.widths;
      words = c.set_word.ensures.words
          ∙ ap (λ (m : ℕ). set c.loop-k.bank.words (m + k) (to_z w64 (of_z w64 c.word-word.result))) inputs
          ∙ copy_put p c.args.bank.now.words c.loop-k.bank.words k _ c.keeps.ensures.lawful.counts
          (c.keeps-2.ensures.counted ∙ c.requires.counted) (below here) c.loop-k.invariant.words (sym (read here));
    }

pub returns-clause-words : goal.returns-clause-words
returns-clause-words c =
    let p = c.args.program.now in let old = c.args.bank.now.words in
    let states = ap (λ (q : Program). q.states) c.program.view_is in
    let end : c.loop-k.k ≡ p.states = (let f = c.loop-k-test.false in let le = c.loop-k.auto.k-end in omega arith) in
    c.loop-k.invariant.words ∙ ap (λ (k : ℕ). with_next p.inputs k old (step_taken p old).next) end
    ∙ with_all p old c.keeps.ensures.lawful.counts (c.keeps-2.ensures.counted ∙ c.requires.counted)
