use Rattle.std.proofs.Common.{◌≡◌, List, ap, ◌∙◌, sym, length, arith}
use Rattle.fx_fraction.specs.declared.range.Range.{Range}
use Rattle.fx_rows.proofs.Ranges.{as-many-ranges, room-for}
use Rattle.fx_rows.proofs.reader.RowReader.read.Goals as goal

pub invariant_of-inputs : goal.invariant_of-inputs
invariant_of-inputs c =
    let many : length c.args.function.now.inputs ≡ length c.as_slice-2.result.now =
    as-many-ranges _ _ c.requires.1 ∙ sym (ap (λ (rs : List Range). length rs) c.as_slice-2.ensures) in
    record {
      many = ap length c.as_slice.ensures ∙ c.requires.0 ∙ many;
      few = omega (arith, many, c.keeps.ensures.sizes.inputs);
    }

pub returns-clause-room : goal.returns-clause-room
returns-clause-room c = λ special.
    let many : length c.as_slice-2.result.now ≡ length c.args.function.now.inputs =
    ap (λ (rs : List Range). length rs) c.as_slice-2.ensures ∙ sym (as-many-ranges _ _ c.requires.1) in
    room-for c.read_by.result (omega arith) many (c.read_by.ensures.room special)
