use Rattle.std.proofs.Common.{◌≡◌, map, Ok, Err, inl, inr, sym, ap, ◌∙◌}
use Rattle.std.specs.Prelude.{◌⊎◌}
use Rattle.std.proofs.lemmas.Result.{err_from_is_err_and}
use Rattle.fx_lexer.specs.Faults.{source_memory}
use Rattle.fx_lexer.specs.declared.fault.SourceKind.TheVariants.{NoRange, EmptyRange}
use Rattle.fx_grammar.specs.Steps.{fault}
use Rattle.fx_grammar.specs.Ranges.{is_lacking, is_empty_range, all_pass, inputs_at}
use Rattle.fx_requirements.specs.Views.{subject_of, subjects_of}
use Rattle.fx_requirements.proofs.Ranged.{in_range, out_of_range}
use Rattle.fx_requirements.proofs.inputs.ranged.Goals as goal

pub returns-in_err-none_has-2 : goal.returns-in_err-none_has-2
returns-in_err-none_has-2 c =
    let ss = subjects_of c.args.subjects in
    let t = err_from_is_err_and c.from_residual-in_err-none_has-2.result c.from_residual-in_err-none_has-2.ensures.1 in
    let p : all_pass is_lacking (λ at. fault at NoRange) ss ≡ Ok tt =
    ap (λ xs. all_pass is_lacking (λ at. fault at NoRange) (map subject_of xs)) (sym c.deref.ensures.value)
    ∙ c.in_ok-none_has.ensures in
    rw (t.1, t.2) (by p c.in_err-none_has-2.ensures)
  where
    by : all_pass is_lacking (λ at. fault at NoRange) (subjects_of c.args.subjects) ≡ Ok tt →
        (all_pass is_empty_range (λ at. fault at EmptyRange) (map subject_of c.deref-2.result.now)
        ≡ Err c.in_err-none_has-2.field-0.0) ⊎ (c.in_err-none_has-2.field-0.0 ≡ source_memory)
        → (inputs_at (subjects_of c.args.subjects) ≡ Err c.in_err-none_has-2.field-0.0) ⊎
        (c.in_err-none_has-2.field-0.0 ≡ source_memory)
    by p (inl q) =
        inl (out_of_range (subjects_of c.args.subjects) c.in_err-none_has-2.field-0.0 p
        (ap (λ xs. all_pass is_empty_range (λ at. fault at EmptyRange) (map subject_of xs))
        (sym c.deref-2.ensures.value) ∙ q))
    by p (inr m) = inr m

pub returns : goal.returns
returns c =
    let ss = subjects_of c.args.subjects in
    let p : all_pass is_lacking (λ at. fault at NoRange) ss ≡ Ok tt =
    ap (λ xs. all_pass is_lacking (λ at. fault at NoRange) (map subject_of xs)) (sym c.deref.ensures.value)
    ∙ c.in_ok-none_has.ensures in
    let q : all_pass is_empty_range (λ at. fault at EmptyRange) ss ≡ Ok tt =
    ap (λ xs. all_pass is_empty_range (λ at. fault at EmptyRange) (map subject_of xs)) (sym c.deref-2.ensures.value)
    ∙ c.in_ok-none_has-2.ensures in
    in_range ss p q
