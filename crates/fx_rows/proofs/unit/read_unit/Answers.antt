use Rattle.std.proofs.Common.{ap, sym, ◌∙◌}
use Rattle.fx_rows.specs.UnitColumn.{unit_in, unit_in_field}
use Rattle.fx_rows.proofs.Units.{unit-plain}
use Rattle.fx_rows.proofs.unit.read_unit.Goals as goal

pub returns-clause-unit : goal.returns-clause-unit
returns-clause-unit c =
    c.unit_in_field.ensures ∙ ap (unit_in_field c.args.units) c.piece_from.ensures.piece
    ∙ unit-plain c.args.units c.args.place c.in-Some.text.now
    ∙ ap (unit_in c.args.units c.args.place) (sym c.in-Some.ensures.fields)
