use Rattle.std.proofs.Common.{◌∙◌, ℕ, length, map, sym, ap, subst, refl, All}
use Rattle.std.proofs.lemmas.List.{length-map}
use Rattle.fx_rational.specs.Decimal.{decimal_value}
use Rattle.fx_model.specs.Machine.{IsWord}
use Rattle.fx_rules.specs.Steps.{rewrite}
use Rattle.fx_checker.proofs.Ready.{inputs_are, row_length}
use Rattle.fx_statements.specs.Widths.{FitWidths}
use Rattle.fx_mixed.specs.Mixing.{states_among}
use Rattle.fx_mixed.proofs.Rows.{all_words, widths_counted}
use Rattle.fx_mixed.proofs.Turned.{Turning, made_fit, next_fit, stored_again, turning}
use Rattle.fx_mixed.proofs.turn.turn_at.Given.{Over}
use Rattle.fx_mixed.proofs.turn.turn_at.Goals.{After-step_law-2}
use Rattle.fx_mixed.proofs.turn.turn_at.Goals as goal

-- the turn that the row begins
turn : (g : Over) (c : After-step_law-2 g) →
    Turning rewrite c.args.certified.now (map decimal_value c.args.row.now) c.args.bank.now.widths c.args.bank.now.words
turn g c = turning c.in_range_law.ensures c.step_law.ensures c.certified.ensures.certified c.requires.stored
    (rw c.function.ensures at c.keeps.ensures.inputs) c.requires.in_range

pub turn_codes-requires : goal.turn_codes-requires
turn_codes-requires g c =
    let a = c.args.certified.now in let certified = c.certified.ensures.certified in let stored = c.requires.stored in
    let ws = c.args.bank.now.words in let t = turn g (goal.at.turn_codes-requires g c).After-step_law-2 in
    rw c.program.ensures (record {
      width = c.requires.width;
      counted = widths_counted rewrite a certified _ ws stored;
      row = sym (length-map c.args.row.now decimal_value) ∙ row_length a.function.inputs _ c.requires.in_range
          ∙ sym (inputs_are rewrite a.function a.program a.certificate certified);
      words = subst (λ (n : ℕ). All (IsWord n) ws) c.requires.width (all_words rewrite a certified _ ws stored);
      runs = rw t.near.words.are refl;
      fits = λ made e. subst (λ ms. FitWidths ms made) (sym stored.widths) (made_fit t c.own_width_law.ensures.step e);
    })

pub carry_states-requires : goal.carry_states-requires
carry_states-requires g c =
    let a = c.args.certified.now in let widths = c.turn_codes.ensures.widths in
    let t = turn g (goal.at.carry_states-requires g c).After-step_law-2 in
    let words = rw c.program.ensures at c.turn_codes.ensures.words in
    rw c.program-2.ensures (record {
      counted = ap length widths ∙ widths_counted rewrite a c.certified.ensures.certified _ _ c.requires.stored;
      fits = next_fit t c.step_law-2.ensures c.states_fit_law.ensures words widths;
    })

pub returns : goal.returns
returns g c =
    let t = turn g (goal.at.returns g c).After-step_law-2 in
    let words = rw c.program.ensures at c.turn_codes.ensures.words in
    let after = rw c.program-2.ensures at c.carry_states.ensures.words in
    let same = c.carry_states.ensures.widths ∙ c.turn_codes.ensures.widths in
    let p = c.args.certified.now.program in let z = states_among p c.args.bank.now.words in record {
      stored = stored_again t c.step_law-2.ensures words after same c.keeps-2.ensures.counted c.keeps-2.ensures.fit;
      turned = record {
        made = c.turn_codes.new.bank.words;
        are = words;
        fit = made_fit t c.own_width_law.ensures.step words;
        step = c.step_law-2.ensures p (map decimal_value c.args.row.now) z c.turn_codes.new.bank.words words;
        after_is = after;
      };
    }
