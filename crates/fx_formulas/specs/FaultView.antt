-- What contracts see of a fault.
use Rattle.fx_inequalities.specs.Condition as condition
use Rattle.fx_inequalities.specs.Condition.{Fault}
use Rattle.fx_formulas.specs.declared.condition.ConditionKind.{ConditionKind}
use Rattle.fx_formulas.specs.declared.condition.ConditionKind.TheVariants.{Counts, Step, Shape, Shift, Range, Divisor, Error, WordTooSmall, Form, Start, Row, ErrorRow, Demand, Beyond}
use Rattle.fx_formulas.specs.declared.condition.Part.{Part}
use Rattle.fx_formulas.specs.declared.condition.Part.TheVariants as part
use Rattle.fx_formulas.specs.declared.condition.ConditionFault.{ConditionFault}

-- the definition's kind
abbrev pub kind_of : ConditionKind → condition.Kind
kind_of Counts = condition.Counts
kind_of Step = condition.Step
kind_of Shape = condition.Shape
kind_of Shift = condition.Shift
kind_of Range = condition.Range
kind_of Divisor = condition.Divisor
kind_of Error = condition.Error
kind_of WordTooSmall = condition.WordTooSmall
kind_of Form = condition.Form
kind_of Start = condition.Start
kind_of Row = condition.Row
kind_of ErrorRow = condition.ErrorRow
kind_of Demand = condition.Demand
kind_of Beyond = condition.Beyond

-- and its part
abbrev pub condition_part_of : Part → condition.Part
condition_part_of part.Program = condition.OfProgram
condition_part_of part.Step = condition.OfStep
condition_part_of part.Node = condition.OfNode
condition_part_of part.Start = condition.OfStart
condition_part_of part.Template = condition.OfTemplate
condition_part_of part.ErrorTemplate = condition.OfErrorTemplate
condition_part_of part.Output = condition.OfOutput

-- a fault of the code is one of the definition
abbrev pub condition_fault_of : ConditionFault → Fault
condition_fault_of f = record { kind = kind_of f.kind; part = condition_part_of f.part; index = f.index }
