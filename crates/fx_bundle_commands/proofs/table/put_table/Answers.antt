use Rattle.std.proofs.Common.{subst}
use Rattle.std.specs.Io.KnownBytes.{Appends}
use Rattle.fx_ends.proofs.Noted.{front_behind, err_more}
use Rattle.fx_bundle_commands.proofs.table.put_table.Goals as goal

pub returns-clause-front : goal.returns-clause-front
returns-clause-front g c =
    err_more c.put_bounds.result
    (front_behind _ _ _ _ _ (subst (Appends _ _) c.requires c.in_ok-put_all.ensures.all)) c.put_bounds.ensures.front
