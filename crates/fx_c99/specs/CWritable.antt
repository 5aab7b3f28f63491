-- What can be written as C: statements that can be written, in forms that C has, with a start word for each state.
use Rattle.std.specs.Prelude.{◌≡◌, ℤ, unsigned_abs, List, [], ◌∷◌, length}
use Rattle.fx_statements.specs.Statements.{Left, Right, Wide, Widened, Power, Negated, Two, Shifted, Value, Input, State, Number, Narrowed, Let, Routine}
use Rattle.fx_statements.specs.Writable.{IsShort, IsWritable}

-- nothing is shifted to the left
abbrev pub IsCWide : Wide → Type 0
IsCWide (Widened name) = Unit {0}
IsCWide (Power s) = Unit {0}
IsCWide (Negated e) = IsCWide e
IsCWide (Two operator e f) = IsCWide e × IsCWide f
IsCWide (Shifted Left e s) = ⊥
IsCWide (Shifted Right e s) = IsCWide e

abbrev pub IsCValue : Value → Type 0
IsCValue (Input k) = Unit {0}
IsCValue (State k) = Unit {0}
IsCValue (Number w) = Unit {0}
IsCValue (Narrowed e) = IsCWide e

abbrev pub AreCLets : List Let → Type 0
AreCLets [] = Unit {0}
AreCLets (l ∷ ls) = IsCValue l.value × AreCLets ls

-- words whose decimal texts tell them
abbrev pub AreShortWords : List ℤ → Type 0
AreShortWords [] = Unit {0}
AreShortWords (w ∷ ws) = IsShort (unsigned_abs w) × AreShortWords ws

-- all of it
pub record IsCWritable (r : Routine) (starts : List ℤ) : Type 0 where
  pub writable : IsWritable r
  pub forms : AreCLets r.lets
  pub short : AreShortWords starts
  pub counted : length starts ≡ r.states
