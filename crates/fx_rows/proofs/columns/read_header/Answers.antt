use Rattle.std.proofs.Common.{◌≡◌, List, map, ap, length, ◌∙◌, arith}
use Rattle.csv.specs.Records.{fields_of}
use Rattle.fx_rows.proofs.Records.{few-line-fields}
use Rattle.fx_model.specs.Function.{Function, Input}
use Rattle.fx_expr.specs.Parts.{input_of}
use Rattle.fx_expr.specs.declared.parts.Input as declared
use Rattle.fx_rows.proofs.Named.{as-many-inputs}
use Rattle.fx_rows.proofs.columns.read_header.Goals as goal

pub places_in-requires-clause-few_fields : goal.places_in-requires-clause-few_fields
places_in-requires-clause-few_fields c =
    let few =
    few-line-fields c.args.line.now (fields_of c.in-Ok-Some.row)
    (rw c.in-Ok-Some.field-0-is at c.in-Ok-Some.ensures) in
    omega (arith, c.in_default.ensures.short)

pub returns-in-Ok-clause-places : goal.returns-in-Ok-clause-places
returns-in-Ok-clause-places c =
    let same : map input_of c.as_slice.result.now ≡ c.args.function.now.inputs =
    ap (λ (ins : List declared.Input). map input_of ins) c.as_slice.ensures
    ∙ ap (λ (f : Function). f.inputs) c.function.view_is in
    as-many-inputs (map input_of c.as_slice.result.now) _ c.in-Ok.places c.in-Ok.ensures
    ∙ ap (λ (is : List Input). length is) same
