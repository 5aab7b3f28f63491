-- What no input or output may have, and its fault.
use Rattle.std.specs.Prelude.{Bool}
use Rattle.fx_lexer.specs.declared.fault.SourceKind.{SourceKind}
use Rattle.fx_lexer.specs.declared.fault.SourceKind.TheVariants as kinds
use Rattle.fx_grammar.specs.Ranges.{Subject, is_lacking, is_empty_range}
use Rattle.fx_grammar.specs.Ensuring.{is_empty_demand}
use Rattle.fx_requirements.specs.declared.range.Flaw.{Flaw}
use Rattle.fx_requirements.specs.declared.range.Flaw.TheVariants.{LackingEnd, EmptyRange, EmptyDemand}

-- the subject has the flaw
abbrev pub has : Flaw → Subject → Bool
has LackingEnd = is_lacking
has EmptyRange = is_empty_range
has EmptyDemand = is_empty_demand

-- the fault's kind
abbrev pub kind_of : Flaw → SourceKind
kind_of LackingEnd = kinds.NoRange
kind_of EmptyRange = kinds.EmptyRange
kind_of EmptyDemand = kinds.EmptyRange
