-- What is left of a cursor's steps.
use Rattle.std.specs.Prelude.{List}
use Rattle.fx_inequalities.specs.Rewriting.{Rewriting}
use Rattle.fx_rewrite.specs.Ahead.{ahead, there}
use Rattle.fx_rewrite.specs.declared.cursor.SingleSteps.{SingleSteps}

-- those from where it stands that are there
abbrev pub left : SingleSteps → List Rewriting
left c = there c.function.now (ahead c.function.now c.place c.path.items c.rule)
