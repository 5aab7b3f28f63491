use Rattle.std.proofs.Common.{◌≡◌, ◌<◌, ◌++◌, List, Ok, true, length, take, drop, arith, ap, sym, subst, ◌∙◌}
use Rattle.std.proofs.lemmas.Bool.{eqb-false}
use Rattle.std.proofs.Math.Seq.{take-append_seam}
use Rattle.fx_rational.specs.Decimal.{Decimal}
use Rattle.fx_rows.specs.Line.{line_fields}
use Rattle.fx_rows.specs.Ordered.{IsOrder}
use Rattle.fx_rows.specs.Results.{IsRowRead}
use Rattle.fx_rows.specs.Values.{row_of_fields}
use Rattle.fx_rows.proofs.Ranges.{as-many-ranges}
use Rattle.fx_rows.proofs.Placed.{row_placed, no_return_in, on_some}
use Rattle.fx_rows.proofs.quick.read_quick.Goals as goal

pub returns-clause-no_return : goal.returns-clause-no_return
returns-clause-no_return c =
    λ yes. no_return_in c.args.line.now
    (on_some c.read_columns.result c.if-is_none.ensures c.read_columns.ensures.plain)

pub returns-clause-read : goal.returns-clause-read
returns-clause-read c = λ yes is h.
    let columns = c.args.columns.now in
    let ins = c.as_slice-inputs.result.now in
    let read = c.read_columns.ensures in
    let many = as-many-ranges is columns.ranges.now h in
    let long : c.fill.new.row.len ≡ length columns.ranges.now = c.fill.ensures.long c.if-not-fill.false in
    let kept : c.fill.new.row.len ≡ length c.read_columns.new.row =
    omega (arith, read.long, c.as_mut_slice.ensures.len) in
    let any : 0 < length ins = (let some = eqb-false (length ins) 0 (sym c.is_empty.ensures ∙ c.if-is_empty.false) in
    omega (arith, some)) in
    let ordered : IsOrder (length is) ins =
    subst (λ n. IsOrder n ins) (c.if-order-ranges.false
    ∙ sym many) (subst (IsOrder columns.order.now.count) (sym c.as_slice-inputs.ensures) columns.order.now.ordered) in
    let items : take c.fill.new.row.len
    (c.read_columns.new.row ++ drop (length c.read_columns.new.row) c.fill.new.row.items) ≡ c.read_columns.new.row =
    ap (λ n. take n (c.read_columns.new.row ++ drop (length c.read_columns.new.row) c.fill.new.row.items)) kept
    ∙ take-append_seam c.read_columns.new.row (drop (length c.read_columns.new.row) c.fill.new.row.items) in
    subst (λ (row : List Decimal). IsRowRead (Ok true) row
    (row_of_fields is columns.places.now (line_fields c.args.line.now))) (sym items)
    (row_placed is columns.places.now c.args.line.now ins c.read_columns.new.row (line_fields c.args.line.now)
    (omega (arith, columns.many, many)) (omega (arith, kept, long, many))
    (c.is_usual.ensures.some c.if-not-is_usual.false) c.unmarked_line_law.ensures ordered any
    (on_some c.read_columns.result c.if-is_none.ensures read.values is h))
