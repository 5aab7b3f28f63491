-- What each function of a source meets.
use Rattle.std.specs.List.{All}
use Rattle.fx_model.specs.Names.{IsName}
use Rattle.fx_model.specs.Function.{Function}
use Rattle.fx_expr.specs.LawfulFunction.{IsLawfulFunction}

-- inputs, states and temps have names
pub record HasNames (f : Function) : Type 0 where
  pub inputs : All (λ i. IsName i.name) f.inputs
  pub states : All (λ s. IsName s.name) f.states
  pub temps : All (λ t. IsName t.name) f.temps

-- lawful, and with its names
abbrev pub IsLawfulAndNamed : Function → Type 0
IsLawfulAndNamed f = IsLawfulFunction f × HasNames f
