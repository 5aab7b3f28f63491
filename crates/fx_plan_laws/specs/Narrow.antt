-- Numbers as narrow as those that the code can have: beside one that is short they fit in 128 bits.
use Rattle.std.specs.Prelude.{◌<◌, IfSome}
use Rattle.fx_rational.specs.Rational.{Rational, bottom}
use Rattle.fx_rational.specs.Dyadic.{mantissa_end}
use Rattle.fx_model.specs.Function as function
use Rattle.fx_model.specs.Nodes.{Node, Const}

-- a denominator that a fraction of the code can have
abbrev pub IsNarrowNumber : Rational → Type 0
IsNarrowNumber q = bottom q < mantissa_end

-- the numbers of an input are narrow
pub record IsNarrowInput (i : function.Input) : Type 0 where
  pub lo : IsNarrowNumber i.lo
  pub hi : IsNarrowNumber i.hi
  pub err : IsNarrowNumber i.err

-- the start of a state is narrow
abbrev pub IsNarrowState : function.State → Type 0
IsNarrowState s = IsNarrowNumber s.start

-- a literal is narrow
abbrev pub IsNarrowNode : Node → Type 0
IsNarrowNode (Const c) = IsNarrowNumber c
IsNarrowNode node = Unit {0}

-- a demanded error, where there is one, is narrow
abbrev pub IsNarrowDemand : function.Demand → Type 0
IsNarrowDemand demand = IfSome demand.err IsNarrowNumber
