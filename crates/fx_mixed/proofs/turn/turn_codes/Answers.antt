use Rattle.std.proofs.Common.{◌≡◌, ◌∙◌, ◌<◌, ℕ, ℤ, List, [], Some, length, take, drop, sym, ap, subst, arith, map, length-take-le}
use Rattle.std.proofs.lemmas.List.{drop_all, length-map, take_all}
use Rattle.fx_rational.specs.Decimal.{decimal_value}
use Rattle.fx_model.specs.Machine.{Program, words_after, words_of}
use Rattle.fx_program.specs.CodeView.{code_of}
use Rattle.fx_machine.specs.Codes.{AreCodes}
use Rattle.fx_machine.proofs.Programs.{program_codes}
use Rattle.fx_mixed.specs.Mixing.{states_among}
use Rattle.fx_mixed.proofs.Turns.{some_there, word_fits}
use Rattle.fx_mixed.proofs.turn.turn_codes.Given.{Over}
use Rattle.fx_mixed.proofs.turn.turn_codes.Goals.{After-as_slice-codes}
use Rattle.fx_mixed.proofs.turn.turn_codes.Goals as goal

module _ {g : Over} (c : After-as_slice-codes g) where
  -- the codes are those of the program
  codes_are : map code_of c.as_slice-codes.result.now ≡ c.args.program.now.codes
  codes_are = ap (map code_of) c.as_slice-codes.ensures.value ∙ ap (λ (q : Program). q.codes) c.program.view_is

  -- and so are their words
  words_are : (z : List ℤ) → let row = map decimal_value c.args.row.now in
      words_of c.args.program.now row z ≡ words_after g.row.B (map code_of c.as_slice-codes.result.now) row z []
  words_are z =
      ap (λ n. words_after n c.args.program.now.codes (map decimal_value c.args.row.now) z []) c.requires.width
      ∙ ap (λ cs. words_after g.row.B cs (map decimal_value c.args.row.now) z []) (sym codes_are)

  -- as many as the bank had words are as many as the codes
  counted : {n : ℕ} → n ≡ length c.args.bank.now.words → n ≡ length c.as_slice-codes.result.now
  counted many =
      many ∙ c.keeps-2.ensures.counted ∙ c.requires.counted ∙ sym (ap length codes_are) ∙ length-map _ code_of

pub turn_one-requires-clause-lawful : goal.turn_one-requires-clause-lawful
turn_one-requires-clause-lawful g c =
    let p = c.program.inside in
    subst (λ cs. AreCodes g.row.B p.inputs p.states (map code_of cs)) (sym c.as_slice-codes.ensures.value)
    (subst (λ n. AreCodes n p.inputs p.states (map code_of p.codes.items))
    (ap (λ (q : Program). q.width) c.program.view_is ∙ c.requires.width)
    (program_codes _ c.program.invariant.spelled.lawful))

pub turn_one-requires-clause-fits : goal.turn_one-requires-clause-fits
turn_one-requires-clause-fits g c = λ w here.
    let row = map decimal_value c.args.row.now in let z = states_among c.args.program.now c.args.bank.now.words in
    let codes = c.as_slice-codes.result.now in let n = c.loop-n.n in let us = c.loop-n.bank.words in
    let before = (goal.at.turn_one-requires-clause-fits g c).After-as_slice-codes in
    let lt : n < length codes = c.loop-n-test.true in let many = counted before c.loop-n.invariant.counted in
    let all = some_there (words_of c.args.program.now row z) c.requires.runs in
    let from = c.loop-n.invariant.goes_on ∙ sym (words_are before z) ∙ all.1 in
    let states : take c.program.inside.states (drop c.program.inside.inputs us) ≡ z =
    ap (λ (q : Program). states_among q us) c.program.view_is ∙ c.loop-n.invariant.states in
    rw c.loop-n.invariant.widths (word_fits g.row.B codes n row z (take n us) all.0 w c.args.bank.now.widths lt
    (length-take-le n us (omega arith)) from (c.requires.fits all.0 all.1) (rw states at here))

pub returns-clause-words : goal.returns-clause-words
returns-clause-words g c =
    let row = map decimal_value c.args.row.now in let z = states_among c.args.program.now c.args.bank.now.words in
    let n = c.loop-n.n in let us = c.loop-n.bank.words in let end = c.loop-n-test.false in
    let before = (goal.at.returns-clause-words g c).After-as_slice-codes in
    let many = counted before c.loop-n.invariant.counted in
    words_are before z ∙ sym c.loop-n.invariant.goes_on
    ∙ ap (λ cs. words_after g.row.B (map code_of cs) row z (take n us)) (drop_all n c.as_slice-codes.result.now end)
    ∙ ap Some (take_all n us (omega arith))
