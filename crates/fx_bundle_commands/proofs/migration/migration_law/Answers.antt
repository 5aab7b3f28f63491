use Rattle.fx_bundle_commands.specs.OpeningView.{with_source}
use Rattle.fx_bundle_commands.proofs.Migrated.{is_migrated}
use Rattle.fx_bundle_commands.proofs.migration.migration_law.Goals as goal

pub returns : goal.returns
returns c =
    let o = c.args.opened.now in
    is_migrated (with_source o.certified o.source) o.certified.function c.requires.lawful c.requires.accepted
