use Rattle.fx_lanes.proofs.Operators as operators
use Rattle.fx_lanes.proofs.vectors.Numbers64.by.Goals as goal

pub nonzero_div-result : goal.nonzero_div-result
nonzero_div-result c =
    operators.quotients_fit c.self.view_is c.other.view_is c.self.invariant c.other.invariant c.requires

pub invariant_of-result : goal.invariant_of-result
invariant_of-result c =
    (operators.quotients c.self.view_is c.other.view_is c.self.invariant c.other.invariant c.requires).are

pub returns : goal.returns
returns c = (operators.quotients c.self.view_is c.other.view_is c.self.invariant c.other.invariant c.requires).is
