-- The comparison, turn by turn.
use Rattle.std.proofs.Common.{◌≡◌, ℕ, zero, suc, ◌+◌, ◌-◌, ◌*◌, ◌^◌, ◌<◌, ◌≤◌, min, Bool, true, false, if◌then◌else◌, List, [], ◌∷◌, length, take, slice_index_or, ℤ, pos, negsuc, ◌+ℤ◌, ◌-ℤ◌, ◌*ℤ◌, ◌≤ℤ◌, int_le, refl, sym, ap, subst, ◌∙◌, arith}
use Rattle.std.specs.Prelude.{All}
use Rattle.std.proofs.lemmas.Int.{ints}
use Rattle.std.proofs.lemmas.Nat.{mod_below}
use Rattle.std.proofs.lemmas.List.Elements.{All-map}
use Rattle.fx_rational.specs.Rational.{whole, is_at_most}
use Rattle.fx_calm.specs.declared.summand.Summand.{Summand}
use Rattle.fx_calm.specs.Summands.{IsSummand, IsReady, sum_of, rest, digits, rests, left, decided, enough}
use Rattle.fx_calm.proofs.Division.{law, left_few}

-- ---- a turn
decided_over : (t : ℕ) (s : ℤ) (xs : List Summand) → int_le (pos 1) s ≡ true → decided (suc t) s xs ≡ false
unfolding decided
decided_over t s xs e =
    ap (λ (b : Bool). if b then false else if int_le (s +ℤ pos (left xs)) (pos 0) then true
    else decided t (pos 10 *ℤ s +ℤ pos (digits 10 xs)) (rests 10 xs)) e

decided_under : (t : ℕ) (s : ℤ) (xs : List Summand) → int_le (pos 1) s ≡ false →
    int_le (s +ℤ pos (left xs)) (pos 0) ≡ true → decided (suc t) s xs ≡ true
unfolding decided
decided_under t s xs e g =
    (λ i. if e i then false else if g i then true else decided t (pos 10 *ℤ s +ℤ pos (digits 10 xs)) (rests 10 xs))

decided_on : (t : ℕ) (s : ℤ) (xs : List Summand) → int_le (pos 1) s ≡ false →
    int_le (s +ℤ pos (left xs)) (pos 0) ≡ false →
    decided (suc t) s xs ≡ decided t (pos 10 *ℤ s +ℤ pos (digits 10 xs)) (rests 10 xs)
unfolding decided
decided_on t s xs e g =
    (λ i. if e i then false else if g i then true else decided t (pos 10 *ℤ s +ℤ pos (digits 10 xs)) (rests 10 xs))

decided_end : (s : ℤ) (xs : List Summand) → decided 0 s xs ≡ int_le s (pos 0)
unfolding decided
decided_end s xs = refl

-- ---- how many are left
pub left_next : (i : ℕ) (xs : List Summand) (d : Summand) → i < length xs →
    left (take (i + 1) xs) ≡ left (take i xs) + min (slice_index_or xs i d).top 1
left_next i [] d lt = absurd (omega (arith, lt))
left_next zero (x ∷ xs) d lt = omega arith
left_next (suc i) (x ∷ xs) d lt =
    let more = left_next i xs d (omega (arith, lt)) in let e : suc i + 1 ≡ suc (i + 1) = omega arith in
    ap (λ (n : ℕ). left (take n (x ∷ xs))) e ∙ omega (arith, more)

-- ---- what is left is below one
pub record IsRest (x : Summand) : Type 0 where
  pub some : 0 < x.bottom
  pub few : x.bottom < 2 ^ 122
  pub below : x.top < x.bottom

abbrev pub IsDivisor : Summand → Type 0
IsDivisor x = (0 < x.bottom) × (x.bottom < 2 ^ 122)

pub rests_are : (c : ℕ) (xs : List Summand) → All IsDivisor xs → All IsRest (rests c xs)
rests_are c xs h =
    All-map IsRest (rest c) xs (λ j d lt. (let p = h j d lt in
    record {
      some = p.0;
      few = p.1;
      below = mod_below (c * (slice_index_or xs j d).top) (slice_index_or xs j d).bottom p.0;
    }))

pub ready_rest : (x : Summand) → IsRest x → IsReady 10 x
ready_rest x h =
    let s = h.some in
    let f = h.few in
    let b = h.below in
    record { some = s; fits = omega (arith, f, b); small = omega (arith, b, s) }

pub ready_summand : (x : Summand) → IsSummand x → IsReady 1 x
ready_summand x h =
    let s = h.small in let t = h.fits in record { some = h.some; fits = omega (arith, t); small = omega (arith, s) }

-- ---- the loop
-- all of it is what is left of it
pub record IsGoing (turn : ℕ) (s : ℤ) (now old : List Summand) (limit : ℕ) : Type 0 where
  pub rest : decided (2605 - turn) s now ≡ is_at_most (sum_of old) (whole (pos limit))
  pub summands : All IsRest now
  pub low : negsuc (2 ^ 70) ≤ℤ s
  pub high : s ≤ℤ pos (2 ^ 70)

pub comparison_begins : (xs ys : List Summand) (limit n : ℕ) (s : ℤ) → All IsSummand xs → length xs ≤ 64 → ys ≡ rests 1 xs →
    n ≡ digits 1 xs → s ≡ pos n -ℤ pos limit → limit < 2 ^ 64 → n ≤ 2 ^ 68 → IsGoing 0 s ys xs limit
unfolding enough
comparison_begins xs ys limit n s summands few r d e l m = record {
  rest = (λ i. decided 2605 (first i) (r i)) ∙ law xs limit summands few;
  summands = subst (All IsRest) (sym r) (rests_are 1 xs (λ j x lt. (let p = summands j x lt in (p.some, p.few))));
  low = omega (arith, ints, e, l, m);
  high = omega (arith, ints, e, l, m);
}
  where
    first : s ≡ pos (digits 1 xs) -ℤ pos limit
    first = e ∙ ap (λ (k : ℕ). pos k -ℤ pos limit) d

one_less : (turn : ℕ) → turn < 2605 → 2605 - turn ≡ suc (2605 - (turn + 1))
one_less turn l = omega (arith, l)

pub ends_over : (turn : ℕ) (s : ℤ) (now old : List Summand) (limit : ℕ) → IsGoing turn s now old limit → turn < 2605 →
    int_le (pos 1) s ≡ true → false ≡ is_at_most (sum_of old) (whole (pos limit))
ends_over turn s now old limit h l e =
    sym (ap (λ (t : ℕ). decided t s now) (one_less turn l) ∙ decided_over (2605 - (turn + 1)) s now e) ∙ h.rest

pub ends_under : (turn k : ℕ) (s : ℤ) (now old : List Summand) (limit : ℕ) → IsGoing turn s now old limit →
    turn < 2605 →
    k ≡ left now → int_le (pos 1) s ≡ false → int_le (s +ℤ pos k) (pos 0) ≡ true →
    true ≡ is_at_most (sum_of old) (whole (pos limit))
ends_under turn k s now old limit h l same e g =
    sym (ap (λ (t : ℕ). decided t s now) (one_less turn l)
    ∙ decided_under (2605 - (turn + 1)) s now e (ap (λ (n : ℕ). int_le (s +ℤ pos n) (pos 0)) (sym same) ∙ g))
    ∙ h.rest

pub comparison_goes_on : (turn n k : ℕ) (s z : ℤ) (now next old : List Summand) (limit : ℕ) → IsGoing turn s now old limit →
    turn < 2605 → length now ≤ 64 → k ≡ left now → int_le (pos 1) s ≡ false → int_le (s +ℤ pos k) (pos 0) ≡ false →
    next ≡ rests 10 now → n ≡ digits 10 now → n ≤ 2 ^ 68 → z ≡ pos 10 *ℤ s +ℤ pos n →
    IsGoing (turn + 1) z next old limit
comparison_goes_on turn n k s z now next old limit h l few same e g r d m is =
    let a = above s e in let b = below s k g in let c = left_few now in record {
      rest = (λ i. decided (2605 - (turn + 1)) (shown i) (r i))
          ∙ sym (ap (λ (t : ℕ). decided t s now) (one_less turn l)
          ∙ decided_on (2605 - (turn + 1)) s now e (ap (λ (n : ℕ). int_le (s +ℤ pos n) (pos 0)) (sym same) ∙ g))
          ∙ h.rest;
      summands = subst (All IsRest) (sym r) (rests_are 10 now (λ j x lt. (let p = h.summands j x lt in
          (p.some, p.few))));
      low = omega (arith, ints, is, a, b, c, same, few, m);
      high = omega (arith, ints, is, a, b, c, same, few, m);
    }
  where
    shown : z ≡ pos 10 *ℤ s +ℤ pos (digits 10 now)
    shown = is ∙ ap (λ (j : ℕ). pos 10 *ℤ s +ℤ pos j) d

    above : (s : ℤ) → int_le (pos 1) s ≡ false → s ≤ℤ pos 0
    above s e = grind (arith, ints, e)

    below : (s : ℤ) (k : ℕ) → int_le (s +ℤ pos k) (pos 0) ≡ false → pos 1 ≤ℤ (s +ℤ pos k)
    below s k e = grind (arith, ints, e)

pub comparison_ends : (turn : ℕ) (s : ℤ) (now old : List Summand) (limit : ℕ) → IsGoing turn s now old limit → turn ≡ 2605 →
    int_le s (pos 0) ≡ is_at_most (sum_of old) (whole (pos limit))
comparison_ends turn s now old limit h e = sym (ap (λ (t : ℕ). decided t s now) none ∙ decided_end s now) ∙ h.rest
  where
    none : 2605 - turn ≡ 0
    none = omega (arith, e)
