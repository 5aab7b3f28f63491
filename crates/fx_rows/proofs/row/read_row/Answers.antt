use Rattle.std.proofs.Common.{◌≡◌, List, map, ap, ◌∙◌, sym, length, arith}
use Rattle.fx_fraction.specs.declared.range.Range.{Range}
use Rattle.fx_model.specs.Function.{Function, Input}
use Rattle.fx_expr.specs.Parts.{input_of}
use Rattle.fx_expr.specs.declared.parts.Input as declared
use Rattle.fx_rows.proofs.Ranges.{as-many-ranges}
use Rattle.fx_rows.proofs.row.read_row.Goals as goal

pub invariant_of-inputs : goal.invariant_of-inputs
invariant_of-inputs c =
    let same : map input_of c.as_slice.result.now ≡ c.args.function.now.inputs =
    ap (λ (ins : List declared.Input). map input_of ins) c.as_slice.ensures
    ∙ ap (λ (f : Function). f.inputs) c.function.view_is in
    let many : length c.args.function.now.inputs ≡ length c.as_slice-in-Ok-2.result.now =
    sym (ap (λ (is : List Input). length is) same) ∙ as-many-ranges _ _ c.in-Ok.ensures
    ∙ sym (ap (λ (rs : List Range). length rs) c.as_slice-in-Ok-2.ensures) in
    record {
      many = ap length c.as_slice-in-Ok.ensures ∙ c.requires ∙ many;
      few = omega (arith, many, c.keeps.ensures.sizes.inputs);
    }
