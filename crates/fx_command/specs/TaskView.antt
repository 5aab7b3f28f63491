-- What is done with the bundle in FILE, as code says it. No clause of `fixd` rests on this.
use Rattle.std.specs.Prelude.{⊤}
use Rattle.fx_bundle_commands.specs.RowsView.{AreFew, rows_task}
use Rattle.fx_bundle_commands.specs.Tasks as tasks
use Rattle.fx_command.specs.declared.task.Task.{Task}
use Rattle.fx_command.specs.declared.task.Task.TheVariants.{Run, Print}

-- the task that it is
abbrev pub task_view : Task → tasks.Task
task_view (Run rows) = rows_task rows
task_view (Print sheet) = tasks.Prints sheet

-- of as many units as there may be
abbrev pub HasFewUnits : Task → Type 0
HasFewUnits (Run rows) = AreFew rows
HasFewUnits (Print sheet) = ⊤
