-- What the lines of an input are, as code says it.
use Rattle.std.specs.Prelude.{◌≤◌, ⊤}
use Rattle.fx_bundle_commands.specs.declared.commands.run.Rows.{Rows}
use Rattle.fx_bundle_commands.specs.declared.commands.run.Rows.TheVariants.{Alike, Apart, Units}
use Rattle.fx_bundle_commands.specs.Tasks.{Task, RunRows, RunUnits}

-- what is done with them
abbrev pub rows_task : Rows → Task
rows_task Alike = RunRows
rows_task Apart = RunRows
rows_task (Units units) = RunUnits units

-- of as many units as there may be
abbrev pub AreFew : Rows → Type 0
AreFew Alike = ⊤
AreFew Apart = ⊤
AreFew (Units units) = (1 ≤ units) × (units ≤ 1024)
