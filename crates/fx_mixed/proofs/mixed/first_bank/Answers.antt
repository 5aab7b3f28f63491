use Rattle.std.proofs.Common.{◌≡◌, ◌∙◌, sym, ap, subst, map}
use Rattle.std.proofs.lemmas.List.{length-map}
use Rattle.fx_model.specs.Function.{start_state}
use Rattle.fx_model.specs.Machine.{Program, start_words}
use Rattle.fx_inequalities.specs.Near.{IsNear}
use Rattle.fx_program.specs.CodeView.{code_of}
use Rattle.fx_rules.specs.Steps.{rewrite}
use Rattle.fx_mixed.specs.Packed.{AreKnown}
use Rattle.fx_statements.specs.Widths.{FitWidths}
use Rattle.fx_widths.specs.LeastWidths.{least_widths}
use Rattle.fx_mixed.specs.Mixing.{IsMixed, first_word, first_words}
use Rattle.fx_mixed.proofs.Starts.{first_fit, first_states}
use Rattle.fx_mixed.proofs.mixed.first_bank.Goals as goal

pub new-requires-clause-known : goal.new-requires-clause-known
new-requires-clause-known c = subst AreKnown (sym c.in_ok-widths.ensures.value) c.least_widths.ensures.widths.known

pub put_starts-requires-clause-fits : goal.put_starts-requires-clause-fits
put_starts-requires-clause-fits c =
    let a = c.args.certified.now in let p = a.program in let certified = c.certified.ensures.certified in
    let start = c.start_law.ensures rewrite a.function p a.certificate certified in
    let inputs = rw c.function.ensures at c.keeps.ensures.inputs in
    let fit =
    first_fit p a.certificate certified.program
    (c.states_fit_law.ensures rewrite a.function p a.certificate (start_words p.codes)
    (start_state a.function) certified inputs start) in
    let codes : p.codes ≡ map code_of c.as_slice.result.now =
    sym (ap (map code_of) c.as_slice.ensures.value
    ∙ ap (λ (q : Program). q.codes) (c.behind-certified.view_is ∙ c.program-2.ensures)) in
    let widths : least_widths p a.certificate ≡ c.in_ok-bank.bank.widths =
    sym (c.in_ok-bank.ensures.widths ∙ c.in_ok-widths.ensures.value) in
    subst (λ ns. FitWidths ns (map first_word (map code_of c.as_slice.result.now))) widths
    (subst (λ cs. FitWidths (least_widths p a.certificate) (map first_word cs)) codes fit)

pub returns-clause-stored : goal.returns-clause-stored
returns-clause-stored c =
    let a = c.args.certified.now in let p = a.program in let certified = c.certified.ensures.certified in
    let start = c.start_law.ensures rewrite a.function p a.certificate certified in
    let inputs = rw c.function.ensures at c.keeps.ensures.inputs in
    let fit =
    first_fit p a.certificate certified.program
    (c.states_fit_law.ensures rewrite a.function p a.certificate (start_words p.codes)
    (start_state a.function) certified inputs start) in
    let words : c.put_starts.new.bank.words ≡ first_words p =
    c.put_starts.ensures.words
    ∙ ap (map first_word) (ap (map code_of) c.as_slice.ensures.value
    ∙ ap (λ (q : Program). q.codes) (c.behind-certified.view_is ∙ c.program-2.ensures)) in
    let mixed : IsMixed a (first_words p) = record {
      counted = length-map p.codes first_word;
      fit = fit;
      state = start_state a.function;
      near =
          subst (λ z. IsNear a.function p a.certificate z (start_state a.function))
          (sym (first_states p certified.program)) start;
    } in
    record {
      widths = c.put_starts.ensures.widths ∙ c.in_ok-bank.ensures.widths ∙ c.in_ok-widths.ensures.value;
      mixed = subst (IsMixed a) (sym words) mixed;
    }
