-- The range of an input by its place.
use Rattle.std.proofs.Common.{◌≡◌, ℕ, zero, suc, ◌+◌, ◌<◌, List, [], ◌∷◌, ◌++◌, length, get_or, drop, refl, ap, sym, ◌∙◌, arith, pos, ◌≤◌, Bool}
use Rattle.std.specs.Prelude.{Result, Ok, Err, IfErr}
use Rattle.fx_rational.specs.Decimal.{is_within}
use Rattle.fx_model.specs.Function.{Input}
use Rattle.fx_fraction.specs.Units as fraction
use Rattle.fx_expr.specs.Parts.{input_of}
use Rattle.fx_expr.specs.declared.parts.Input as declared
use Rattle.fx_fraction.specs.declared.range.Range.{Range}
use Rattle.fx_rows.specs.declared.fault.RowFault.{RowFault}
use Rattle.fx_rows.specs.declared.fault.RowKind.TheVariants.{Memory}
use Rattle.fx_rows.specs.Ranges.{AreRangesOf, IsRangeOf}

pub as-many-ranges : (is : List Input) (rs : List Range) → AreRangesOf is rs → length is ≡ length rs
as-many-ranges [] [] h = refl
as-many-ranges [] (r ∷ rs) h = absurd h
as-many-ranges (i ∷ is) [] h = absurd h
as-many-ranges (i ∷ is) (r ∷ rs) h = ap suc (as-many-ranges is rs h.1)

-- the input whose range stands at a place
pub range-at : (is : List Input) (rs : List Range) → AreRangesOf is rs → (i : ℕ) (past : Range) → i < length rs
    → (x : Input) × (drop i is ≡ x ∷ drop (i + 1) is) × IsRangeOf x (get_or rs i past)
range-at [] [] h i past lt = absurd (omega arith)
range-at [] (s ∷ rs) h i past lt = absurd h
range-at (y ∷ is) [] h i past lt = absurd h
range-at (y ∷ is) (s ∷ rs) h zero past lt = (y, refl, h.0)
range-at (y ∷ is) (s ∷ rs) h (suc i) past lt =
    let k = range-at is rs h.1 i past (omega arith) in
    let next : suc i + 1 ≡ suc (i + 1) = omega arith in
    (k.0, k.1 ∙ ap (λ (n : ℕ). k.0 ∷ drop n (y ∷ is)) (sym next), k.2)

-- one more input with its range
pub ranges-more : (is : List Input) (rs : List Range) (i : Input) (r : Range) → AreRangesOf is rs → IsRangeOf i r →
    AreRangesOf (is ++ i ∷ []) (rs ++ r ∷ [])
ranges-more [] [] i r h k = (k, tt {0})
ranges-more [] (s ∷ rs) i r h k = absurd h
ranges-more (j ∷ is) [] i r h k = absurd h
ranges-more (j ∷ is) (s ∷ rs) i r h k = (h.0, ranges-more is rs i r h.1 k)

-- the range of a place where there is none
abbrev pub no_range : Range
no_range = record { least = pos 0; most = pos 0 }

-- a room that is wanting for so many ranges is wanting for as many inputs
pub room-for : {room kept many wanted : ℕ} (r : Result Bool RowFault) → room ≤ kept → many ≡ wanted
    → IfErr r (λ e. e.kind ≡ Memory → kept < many) → IfErr r (λ e. e.kind ≡ Memory → room < wanted)
room-for (Ok b) le e h = tt
room-for (Err f) le e h = λ k. omega (arith, le, e, h k)

-- the range of an input's ends and error is that of the input
pub range-is : (i : declared.Input) (r : Range) → fraction.IsRangeOf i.lo i.hi i.err r → IsRangeOf (input_of i) r
unfolding is_within
range-is i r h = λ d few. h d few
