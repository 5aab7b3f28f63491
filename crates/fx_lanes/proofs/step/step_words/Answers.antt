use Rattle.std.proofs.Common.{◌≡◌, ◌≤◌, ◌<◌, ◌*◌, ◌∙◌, ℕ, [], map, length, ap, subst, sym}
use Rattle.std.specs.Prelude.{IsSome}
use Rattle.std.proofs.lemmas.List.{length-map}
use Rattle.fx_rational.specs.Decimal.{decimal_value}
use Rattle.fx_model.specs.Machine.{Program, words_after}
use Rattle.fx_model.specs.LawfulProgram.{IsLawfulProgram}
use Rattle.fx_model.specs.Limits.{input_limit}
use Rattle.fx_word.specs.Words.{IsWidth}
use Rattle.fx_program.specs.CodeView.{code_of}
use Rattle.fx_program.specs.ProgramView.{IsSpelled}
use Rattle.fx_program.proofs.ProgramLaws.{parts, wide}
use Rattle.fx_machine.specs.Codes.{AreCodes}
use Rattle.fx_machine.proofs.Programs.{program_codes}
use Rattle.fx_lanes.specs.RowsSideBySide.{row_at}
use Rattle.fx_lanes.proofs.step.step_words.Goals as goal

pub run_lanes-requires : goal.run_lanes-requires
run_lanes-requires g c =
    let p = c.args.program.now in let r = c.requires in let codes = c.as_slice.result.now in
    let rows = c.args.rows.now in
    let ei : c.program.inside.inputs ≡ p.inputs = ap (λ (q : Program). q.inputs) c.program.view_is in
    let ec : map code_of codes ≡ p.codes = ap (map code_of) c.as_slice.ensures.value
    ∙ ap (λ (q : Program). q.codes) c.program.view_is in
    let spelled : IsSpelled p = subst IsSpelled c.program.view_is c.program.invariant.spelled in
    let lawful : IsLawfulProgram p = spelled.lawful in
    let at_width : AreCodes g.row.B p.inputs p.states p.codes =
    subst (λ n. AreCodes n p.inputs p.states p.codes) r.width (program_codes p lawful) in
    let at_states : AreCodes g.row.B p.inputs 0 p.codes =
    subst (λ s. AreCodes g.row.B p.inputs s p.codes) r.states at_width in
    let at_inputs : AreCodes g.row.B c.program.inside.inputs 0 p.codes =
    subst (λ i. AreCodes g.row.B i 0 p.codes) (sym ei) at_states in
    let many : length rows ≡ 16 * c.program.inside.inputs = r.many ∙ ap (λ (i : ℕ). 16 * i) (sym ei) in
    let few : c.program.inside.inputs ≤ input_limit = subst (λ i. i ≤ input_limit) (sym ei) lawful.counts.inputs in
    let sizes : length c.as_mut_slice.result.now ≡ length codes = ap length c.as_mut_slice.ensures.value ∙ r.words
    ∙ ap length (sym ec) ∙ length-map codes code_of in
    record {
      width = subst IsWidth r.width (wide p.width (parts p spelled).width);
      room = r.room;
      many = many;
      few = few;
      sizes = sizes;
      lawful = subst (λ cs. AreCodes g.row.B c.program.inside.inputs 0 cs) (sym ec) at_inputs;
      runs = λ (k : ℕ) (lt : k < 16).
          subst (λ i. IsSome (words_after g.row.B (map code_of codes) (map decimal_value (row_at i k rows)) [] []))
          (sym ei)
          (subst (λ cs. IsSome (words_after g.row.B cs (map decimal_value (row_at p.inputs k rows)) [] [])) (sym ec)
          (subst (λ n. IsSome (words_after n p.codes (map decimal_value (row_at p.inputs k rows)) [] [])) r.width
          (r.runs k lt)));
    }
