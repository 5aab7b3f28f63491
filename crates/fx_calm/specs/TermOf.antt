-- What contracts see of a term.
use Rattle.std.specs.Prelude.{◌≡◌, ℕ, ◌+◌, nat_le, ◌&&◌, true, false, length, Option, Some, None}
use Rattle.fx_model.specs.Tree.{Tree}
use Rattle.fx_plan_laws.specs.Linear as model
use Rattle.fx_plan_laws.specs.Linear.{is_linear, terms_of}
use Rattle.fx_calm.specs.MagnitudeOf.{IsMagnitude, magnitude_value}
use Rattle.fx_calm.specs.declared.terms.Term.{Term}
use Rattle.fx_calm.specs.declared.terms.Term.TheVariants.{Alone, OfInput, OfState}

-- as the definition has it
abbrev pub term_view : Term → model.Term
term_view (Alone size) = model.Alone (magnitude_value size)
term_view (OfInput k size) = model.OfInput k (magnitude_value size)
term_view (OfState k size) = model.OfState k (magnitude_value size)

-- its size is one
abbrev pub IsSized : Term → Type 0
IsSized (Alone size) = IsMagnitude size
IsSized (OfInput k size) = IsMagnitude size
IsSized (OfState k size) = IsMagnitude size

-- of room for so many terms, so much is left by a linear tree; none by one that isn't linear or has more
abbrev pub IsRoomAfter : Option ℕ → ℕ → Tree → Type 0
IsRoomAfter None room t = (is_linear t && nat_le (length (terms_of t)) room) ≡ false
IsRoomAfter (Some left) room t = (is_linear t ≡ true) × (left + length (terms_of t) ≡ room)
