-- The words between those of a range's ends are the words of the values in the range.
use Rattle.std.proofs.Common.{◌≡◌, ⊎_elim, ℤ, ◌≤ℤ◌, subst, arith}
use Rattle.std.proofs.lemmas.Int.{ints}
use Rattle.fx_rational.specs.Rational.{Rational, AtMost, whole, scaled, times}
use Rattle.fx_rational.proofs.Laws.{equal_sym, le_refl, le_trans, le_total, le_of_equal, times_le}
use Rattle.fx_rational.proofs.Powers.{unit, unit_above, scaled_back, whole_le}
use Rattle.fx_rational.proofs.Quotient.{above_nonneg, le_of_times}
use Rattle.fx_rational.proofs.Floors.{floor_floors, floor-greatest}
use Rattle.fx_model.specs.Machine.{word_value}
use Rattle.fx_bounds.proofs.Words.{word_is, word_order}
use Rattle.fx_c99.specs.CHeader.{input_word}
use Rattle.fx_c99.specs.Laws.{RangeLaw}

-- what a word stands for isn't above x where the word isn't above that of x
value_below : (n f : ℤ) (x : Rational) → n ≤ℤ input_word x f → AtMost (word_value n f) x
value_below n f x h =
    let low : AtMost (whole n) (scaled x f) = le_trans (whole_le h) (floor_floors (scaled x f)).low in
    le_trans (le_of_equal (word_is n f))
    (le_trans (times_le low (above_nonneg (unit_above f))) (le_of_equal (scaled_back x f)))

word_above : (n f : ℤ) (x : Rational) → AtMost (word_value n f) x → n ≤ℤ input_word x f
word_above n f x h =
    let times_unit : AtMost (times (whole n) (unit f)) (times (scaled x f) (unit f)) =
    le_trans (le_of_equal (equal_sym (word_is n f))) (le_trans h (le_of_equal (equal_sym (scaled_back x f)))) in
    floor-greatest (scaled x f) n (le_of_times (unit_above f) times_unit)

equal_of : (v w : ℤ) → v ≤ℤ w → w ≤ℤ v → v ≡ w
equal_of v w p q = omega (arith, ints)

same_word : (w : ℤ) → w ≤ℤ w
same_word w = omega (arith, ints)

-- the greater value has no lesser word
word_order_is : (f : ℤ) (x y : Rational) → AtMost x y → input_word x f ≤ℤ input_word y f
word_order_is f x y h =
    word_above (input_word x f) f y (le_trans (value_below (input_word x f) f x (same_word (input_word x f))) h)

-- a word is the one of what it stands for
own_word : (w f : ℤ) → input_word (word_value w f) f ≡ w
own_word w f =
    let x = word_value w f in
    equal_of (input_word x f) w (word_order (input_word x f) w f (value_below (input_word x f) f x
    (same_word (input_word x f)))) (word_above w f x (le_refl x))

pub range_is : RangeLaw
range_is i f w is = (found, kept)
  where
    found : (input_word i.lo f ≤ℤ w) × (w ≤ℤ input_word i.hi f) →
        (x : Rational) × AtMost i.lo x × AtMost x i.hi × (input_word x f ≡ w)
    found h =
        let x = word_value w f in
        ⊎_elim (λ (above : AtMost i.lo x). (x, above, value_below w f i.hi h.1, own_word w f))
        (λ (below : AtMost x i.lo).
        (i.lo, le_refl i.lo, is.ordered, equal_of (input_word i.lo f) w h.0 (word_above w f i.lo below)))
        (le_total i.lo x)

    kept : ((x : Rational) × AtMost i.lo x × AtMost x i.hi × (input_word x f ≡ w)) →
        (input_word i.lo f ≤ℤ w) × (w ≤ℤ input_word i.hi f)
    kept h =
        let low = word_order_is f i.lo h.0 h.1 in let high = word_order_is f h.0 i.hi h.2 in (
          subst (λ (v : ℤ). input_word i.lo f ≤ℤ v) h.3 low,
          subst (λ (v : ℤ). v ≤ℤ input_word i.hi f) h.3 high,
        )
