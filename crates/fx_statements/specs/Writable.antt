-- Statements that can be written: a title that is a name, and numbers below 2^64, whose decimal texts tell them.
use Rattle.std.specs.Prelude.{ℕ, ◌^◌, ◌<◌, unsigned_abs, List, [], ◌∷◌}
use Rattle.fx_model.specs.Names.{IsName}
use Rattle.fx_statements.specs.Statements.{Wide, Widened, Power, Negated, Two, Shifted, Value, Input, State, Number, Narrowed, Let, Store, Routine}

-- a number that 64 bits hold
abbrev pub IsShort : ℕ → Type 0
IsShort n = n < 2 ^ 64

abbrev pub IsShortWide : Wide → Type 0
IsShortWide (Widened name) = IsShort name
IsShortWide (Power bits) = IsShort bits
IsShortWide (Negated e) = IsShortWide e
IsShortWide (Two operator e f) = IsShortWide e × IsShortWide f
IsShortWide (Shifted direction e bits) = IsShortWide e × IsShort bits

abbrev pub IsShortValue : Value → Type 0
IsShortValue (Input k) = IsShort k
IsShortValue (State k) = IsShort k
IsShortValue (Number w) = IsShort (unsigned_abs w)
IsShortValue (Narrowed e) = IsShortWide e

abbrev pub AreShortLets : List Let → Type 0
AreShortLets [] = Unit {0}
AreShortLets (l ∷ ls) = (IsShort l.name × IsShortValue l.value) × AreShortLets ls

abbrev pub AreShortStores : List Store → Type 0
AreShortStores [] = Unit {0}
AreShortStores (t ∷ ts) = (IsShort t.place × IsShort t.name) × AreShortStores ts

abbrev pub AreShortNames : List ℕ → Type 0
AreShortNames [] = Unit {0}
AreShortNames (n ∷ ns) = IsShort n × AreShortNames ns

-- all of it
pub record IsWritable (r : Routine) : Type 0 where
  pub title : IsName r.title
  pub width : IsShort r.width
  pub states : IsShort r.states
  pub inputs : IsShort r.inputs
  pub outputs : IsShort r.outputs
  pub lets : AreShortLets r.lets
  pub stores : AreShortStores r.stores
  pub results : AreShortNames r.results
