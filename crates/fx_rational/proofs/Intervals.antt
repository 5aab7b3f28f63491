-- A number between two others, and the products of two such numbers.
use Rattle.std.proofs.Common.{⊎_elim, refl, pos, [], ◌∷◌}
use Rattle.fx_rational.specs.Rational.{Rational, whole, times, Equal, AtMost}
use Rattle.fx_rational.specs.Laws.{IsBetween}
use Rattle.fx_rational.proofs.Ring.{by_quotes, quotes}
use Rattle.fx_rational.proofs.Laws.{equal_sym, le_trans, le_of_equal, le_total, gap, ordered, nonneg_plus, nonneg_times}
use Rattle.fx_rational.proofs.Quotient.{Above, above_more, le_of_times}

-- what is at most the products of both ends with y is at most the product in between: x and an end differ by a number
-- of one sign
pub low_at : (y : Rational) {a b x l : Rational} → AtMost a x → AtMost x b → AtMost l (times a y) →
    AtMost l (times b y) → AtMost l (times x y)
low_at y {a} {b} {x} {l} low high p q = ⊎_elim
    (λ s. ordered (nonneg_plus (nonneg_times (gap low) (gap s)) (gap p))
    (by_quotes {ρ = a ∷ x ∷ y ∷ l ∷ []} (search quotes depth 20) (search quotes depth 20) refl))
    (λ s. ordered (nonneg_plus (nonneg_times (gap high) (gap s)) (gap q))
    (by_quotes {ρ = b ∷ x ∷ y ∷ l ∷ []} (search quotes depth 20) (search quotes depth 20) refl))
    (le_total (whole (pos 0)) y)

-- and what is at least both is at least the product in between
pub high_at : (y : Rational) {a b x l : Rational} → AtMost a x → AtMost x b → AtMost (times a y) l →
    AtMost (times b y) l → AtMost (times x y) l
high_at y {a} {b} {x} {l} low high p q = ⊎_elim
    (λ s. ordered (nonneg_plus (nonneg_times (gap high) (gap s)) (gap q))
    (by_quotes {ρ = b ∷ x ∷ y ∷ l ∷ []} (search quotes depth 20) (search quotes depth 20) refl))
    (λ s. ordered (nonneg_plus (nonneg_times (gap low) (gap s)) (gap p))
    (by_quotes {ρ = a ∷ x ∷ y ∷ l ∷ []} (search quotes depth 20) (search quotes depth 20) refl))
    (le_total (whole (pos 0)) y)

pub times_turned : (x y : Rational) → Equal (times x y) (times y x)
times_turned x y = by_quotes {ρ = x ∷ y ∷ []} (search quotes depth 20) (search quotes depth 20) refl

pub turn_left : (x y : Rational) {l : Rational} → AtMost (times x y) l → AtMost (times y x) l
turn_left x y h = le_trans (le_of_equal (times_turned y x)) h

pub turn_right : (x y : Rational) {l : Rational} → AtMost l (times x y) → AtMost l (times y x)
turn_right x y h = le_trans h (le_of_equal (times_turned x y))

-- x between a and b, y between c and d: what is at most the four products of ends is at most x * y
pub product_low : {a b c d x y l : Rational} → AtMost a x → AtMost x b → AtMost c y → AtMost y d
    → AtMost l (times a c) → AtMost l (times a d) → AtMost l (times b c) → AtMost l (times b d) → AtMost l (times x y)
product_low {a} {b} {c} {d} {x} {y} p q r s ac ad bc bd =
    low_at y p q (turn_right y a (low_at a r s (turn_right a c ac) (turn_right a d ad)))
    (turn_right y b (low_at b r s (turn_right b c bc) (turn_right b d bd)))

-- and what is at least the four is at least x * y
pub product_high : {a b c d x y l : Rational} → AtMost a x → AtMost x b → AtMost c y → AtMost y d
    → AtMost (times a c) l → AtMost (times a d) l → AtMost (times b c) l → AtMost (times b d) l → AtMost (times x y) l
product_high {a} {b} {c} {d} {x} {y} p q r s ac ad bc bd =
    high_at y p q (turn_left y a (high_at a r s (turn_left a c ac) (turn_left a d ad)))
    (turn_left y b (high_at b r s (turn_left b c bc) (turn_left b d bd)))

-- where z * y lies from a to b and y from c above zero to d: z lies where lo and hi times the ends of y say
pub quotient_between : {a b c d lo hi y z : Rational} → Above c → IsBetween a b (times z y) → IsBetween c d y
    → AtMost (times lo c) a → AtMost (times lo d) a → AtMost b (times hi c) → AtMost b (times hi d) → IsBetween lo hi z
quotient_between {a} {b} {c} {d} {lo} {hi} {y} {z} above in_x in_y p q r s =
    let above_y = above_more above in_y.low in
    record {
      low =
          le_of_times above_y (le_trans
          (turn_left y lo (high_at lo in_y.low in_y.high (turn_left lo c p) (turn_left lo d q))) in_x.low);
      high =
          le_of_times above_y (le_trans in_x.high
          (turn_right y hi (low_at hi in_y.low in_y.high (turn_right hi c r) (turn_right hi d s))));
    }

pub between_same : {lo hi x y : Rational} → Equal x y → IsBetween lo hi x → IsBetween lo hi y
between_same e h = record { low = le_trans h.low (le_of_equal e); high = le_trans (le_of_equal (equal_sym e)) h.high }
