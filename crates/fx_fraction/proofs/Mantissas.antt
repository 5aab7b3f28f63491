-- The digits and the point that stand first, from what is read before the point and behind it.
use Rattle.std.proofs.Common.{◌≡◌, ℕ, ◌+◌, ◌-◌, ◌<◌, ◌≤◌, ◌^◌, List, ◌++◌, length, take, drop, sym, ap, subst, ◌∙◌, length-drop, arith}
use Rattle.std.specs.Str.Parse.{digits_value, digits_value_after}
use Rattle.std.proofs.lemmas.List.{take_all, drop-drop}
use Rattle.fx_fraction.specs.declared.significant.Significant.{Significant}
use Rattle.fx_fraction.specs.Kept.{Keeps, FitsFront, zeros_of}
use Rattle.fx_fraction.specs.Numeral.{digit_count, first_digits, behind_digits, part_of, part_digits, behind_part}
use Rattle.fx_fraction.specs.ReadParts.{IsMantissa, IsShortNumber, IsShortPart}
use Rattle.fx_fraction.proofs.Digits.{digits_after_append, part_few}

-- what stands behind the first digits
pub record IsTail (text tail : List ℕ) (count : ℕ) : Type 0 where
  pub dropped : tail ≡ drop count text
  pub behind : tail ≡ behind_digits text
  pub long : length tail ≡ length text - count

tail_is : (text tail : List ℕ) (count : ℕ) → count ≡ digit_count text →
    tail ≡ take (length text - count) (drop count text) → IsTail text tail count
tail_is text tail count first e =
    let dropped : tail ≡ drop count text = e
    ∙ take_all (length text - count) (drop count text) (omega (arith, length-drop count text)) in
    record {
      dropped = dropped;
      behind = dropped ∙ ap (λ (i : ℕ). drop i text) first;
      long = ap length dropped ∙ length-drop count text;
    }

-- all digits, before the point and behind it
all_digits : (text tail : List ℕ) → tail ≡ behind_digits text
    → digits_value_after 10 (digits_value_after 10 0 (first_digits text)) (part_digits (part_of tail))
    ≡ digits_value 10 (first_digits text ++ part_digits (part_of (behind_digits text)))
all_digits text tail behind =
    ap (λ (xs : List ℕ). digits_value_after 10 (digits_value_after 10 0 (first_digits text))
    (part_digits (part_of xs))) behind
    ∙ sym (digits_after_append 0 (first_digits text) (part_digits (part_of (behind_digits text))))

rest_behind : (text tail : List ℕ) (count end : ℕ) → IsTail text tail count → drop end tail ≡ behind_part tail →
    drop (count + end) text ≡ behind_part (behind_digits text)
rest_behind text tail count end t rest =
    sym (drop-drop end count text) ∙ ap (λ (xs : List ℕ). drop end xs) (sym t.dropped) ∙ rest ∙ ap behind_part t.behind

-- what the reader of short texts gives
pub record ReadShort (text tail : List ℕ) (count whole size places end : ℕ) : Type 0 where
  pub count_is : count ≡ digit_count text
  pub within : count ≤ length text
  pub tail_is : tail ≡ take (length text - count) (drop count text)
  pub whole_is : whole ≡ digits_value_after 10 0 (first_digits text)
  pub part : IsShortPart whole tail (size, places, end)

pub short_number_is : (text tail : List ℕ) (count whole size places end : ℕ) →
    ReadShort text tail count whole size places end → 0 < count + places → IsShortNumber text size places (count + end)
short_number_is text tail count whole size places end r some =
    let t = tail_is text tail count r.count_is r.tail_is in
    let long = t.long in let k = r.within in let e = r.part.within in let first = r.count_is in
    let places_are : places ≡ length (part_digits (part_of (behind_digits text))) = r.part.places
    ∙ ap (λ (xs : List ℕ). length (part_digits (part_of xs))) t.behind in
    record {
      some = omega arith;
      value = r.part.value ∙ ap (λ (n : ℕ). digits_value_after 10 n (part_digits (part_of tail))) r.whole_is
          ∙ all_digits text tail t.behind;
      small = r.part.small;
      places_are = places_are;
      within = omega arith;
      rest = rest_behind text tail count end t r.part.rest;
    }

-- what the reader of any text gives, of the digits `s` behind the first `count` of the text
pub record IsReadMantissa (text tail : List ℕ) (count : ℕ) (s : Significant) (places end : ℕ) : Type 0 where
  pub count_is : count ≡ digit_count text
  pub within : count ≤ length text
  pub short : length text < 2 ^ 63
  pub tail_is : tail ≡ take (length text - count) (drop count text)
  pub value : Keeps (digits_value_after 10 (digits_value_after 10 0 (first_digits text)) (part_digits (part_of tail))) s
  pub zeros : zeros_of s < 2 ^ 63
  pub fits : FitsFront s
  pub places_are : places ≡ length (part_digits (part_of tail))
  pub end_within : end ≤ length tail
  pub rest : drop end tail ≡ behind_part tail

pub mantissa_is : (text tail : List ℕ) (count : ℕ) (s : Significant) (places end : ℕ) →
    IsReadMantissa text tail count s places end → 0 < count + places → IsMantissa text s places (count + end)
mantissa_is text tail count s places end r some =
    let t = tail_is text tail count r.count_is r.tail_is in
    let long = t.long in
    let k = r.within in let e = r.end_within in let h = r.short in let pl = r.places_are in let few = part_few tail in
    let first = r.count_is in
    let places_are : places ≡ length (part_digits (part_of (behind_digits text))) = pl
    ∙ ap (λ (xs : List ℕ). length (part_digits (part_of xs))) t.behind in
    record {
      some = omega arith;
      value = subst (λ (n : ℕ). Keeps n s) (all_digits text tail t.behind) r.value;
      zeros = r.zeros;
      fits = r.fits;
      places_are = places_are;
      short = omega arith;
      within = omega arith;
      rest = rest_behind text tail count end t r.rest;
    }

-- a short number whose zeros are counted
pub mantissa_of_short : (text : List ℕ) (s : Significant) (size places end : ℕ) → IsShortNumber text size places end →
    length text < 2 ^ 63 → Keeps size s → zeros_of s < 2 ^ 62 → FitsFront s → IsMantissa text s places end
mantissa_of_short text s size places end n short keeps zeros fits =
    let few = part_few (behind_digits text) in let all = length-drop (digit_count text) text in let pl = n.places_are in
    record {
      some = n.some;
      value = subst (λ (k : ℕ). Keeps k s) n.value keeps;
      zeros = omega (arith, zeros);
      fits = fits;
      places_are = n.places_are;
      short = omega arith;
      within = n.within;
      rest = n.rest;
    }
