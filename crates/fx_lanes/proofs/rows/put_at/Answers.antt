use Rattle.std.proofs.Common.{ap, length}
use Rattle.fx_lanes.proofs.Places.{other_row}
use Rattle.fx_lanes.proofs.rows.put_at.Goals as goal

pub returns-clause-others : goal.returns-clause-others
returns-clause-others c =
    λ j lt differ. other_row
    (length c.args.row.now) j c.args.k c.args.rows.now c.copy_from_slice.new.self c.requires.many c.requires.within
    (ap length c.copy_from_slice.ensures.after) differ
