-- What rationals keep: each record is one law, carried by a function of this crate.
use Rattle.std.specs.Prelude.{◌≡◌, ◌↔◌, ◌⊎◌, ◌^◌, ℕ, ℤ, pos, neg_ℤ, ◌≤ℤ◌, Option, Some, None, IsTrue}
use Rattle.fx_rational.specs.Rational.{Rational, whole, plus, minus, times, negative, quotient, scaled, floor, Equal, AtMost, is_at_most}

-- to be the same number is an equivalence
pub record IsEquivalence : Type 0 where
  pub reflexive : (x : Rational) → Equal x x
  pub symmetric : (x y : Rational) → Equal x y → Equal y x
  pub transitive : (x y z : Rational) → Equal x y → Equal y z → Equal x z

-- and the order is total, with its test
pub record IsTotalOrder : Type 0 where
  pub reflexive : (x y : Rational) → Equal x y → AtMost x y
  pub transitive : (x y z : Rational) → AtMost x y → AtMost y z → AtMost x z
  pub antisymmetric : (x y : Rational) → AtMost x y → AtMost y x → Equal x y
  pub total : (x y : Rational) → AtMost x y ⊎ AtMost y x
  pub test : (x y : Rational) → IsTrue (is_at_most x y) ↔ AtMost x y

-- both are there and the same, or neither is
abbrev pub SameOption : Option Rational → Option Rational → Type 0
SameOption None None = Unit {0}
SameOption (Some x) (Some y) = Equal x y
SameOption _ _ = ⊥

-- an operation on the same numbers gives the same number
pub record OperationsRespectEqual : Type 0 where
  pub sum : (x y u v : Rational) → Equal x y → Equal u v → Equal (plus x u) (plus y v)
  pub difference : (x y u v : Rational) → Equal x y → Equal u v → Equal (minus x u) (minus y v)
  pub product : (x y u v : Rational) → Equal x y → Equal u v → Equal (times x u) (times y v)
  pub negation : (x y : Rational) → Equal x y → Equal (negative x) (negative y)
  pub quotient : (x y u v : Rational) → Equal x y → Equal u v → SameOption (quotient x u) (quotient y v)

-- the quotient is there exactly where the divisor isn't zero, and times the divisor it is the dividend
pub record QuotientIsInverse : Type 0 where
  pub none : (x y : Rational) → (quotient x y ≡ None) ↔ Equal y (whole (pos 0))
  pub back : (x y z : Rational) → quotient x y ≡ Some z → Equal (times z y) x

-- the order under the operations
pub record IsMonotone : Type 0 where
  pub sum : (x y u v : Rational) → AtMost x y → AtMost u v → AtMost (plus x u) (plus y v)
  pub difference : (x y u v : Rational) → AtMost x y → AtMost u v → AtMost (minus x v) (minus y u)
  pub negation : (x y : Rational) → AtMost x y → AtMost (negative y) (negative x)
  pub product : (x y z : Rational) → AtMost x y → AtMost (whole (pos 0)) z → AtMost (times x z) (times y z)

-- the floor is the greatest whole number that isn't above
pub record FloorIsGreatest : Type 0 where
  pub not_above : (x : Rational) → AtMost (whole (floor x)) x
  pub greatest : (x : Rational) (n : ℤ) → AtMost (whole n) x → n ≤ℤ floor x

-- scaled by 2^n, and back by 2^-n
pub record ScalesByPowers : Type 0 where
  pub up : (x : Rational) (n : ℕ) → Equal (scaled x (pos n)) (times x (whole (pos (2 ^ n))))
  pub down : (x : Rational) (n : ℕ) → Equal (times (scaled x (neg_ℤ (pos n))) (whole (pos (2 ^ n)))) x

-- x lies from lo to hi
pub record IsBetween (lo hi x : Rational) : Type 0 where
  pub low : AtMost lo x
  pub high : AtMost x hi

-- what bounds each product of ends
pub record BoundsProducts (lo hi a b c d : Rational) : Type 0 where
  pub ac : IsBetween lo hi (times a c)
  pub ad : IsBetween lo hi (times a d)
  pub bc : IsBetween lo hi (times b c)
  pub bd : IsBetween lo hi (times b d)

-- with x from a to b and y from c to d: where their sum, difference, product and quotient lie
pub record IntervalsHold : Type 0 where
  pub sum : (a b c d x y : Rational) → IsBetween a b x → IsBetween c d y → IsBetween (plus a c) (plus b d) (plus x y)
  pub difference : (a b c d x y : Rational) → IsBetween a b x → IsBetween c d y →
      IsBetween (minus a d) (minus b c) (minus x y)
  pub product : (a b c d lo hi x y : Rational) → IsBetween a b x → IsBetween c d y → BoundsProducts lo hi a b c d →
      IsBetween lo hi (times x y)
  -- for a divisor above zero: lo times either end is at most a, and b is at most hi times either end
  pub quotient : (a b c d lo hi x y z : Rational) → IsBetween a b x → IsBetween c d y → quotient x y ≡ Some z →
      (AtMost c (whole (pos 0)) → ⊥) →
      AtMost (times lo c) a → AtMost (times lo d) a → AtMost b (times hi c) → AtMost b (times hi d) → IsBetween lo hi z

-- how errors dx of x and dy of y, and the centres mx and my of a form, enter a product and a quotient
pub record ErrorIdentities : Type 0 where
  pub product : (x y dx dy : Rational) →
      Equal (minus (times (plus x dx) (plus y dy)) (times x y)) (plus (plus (times x dy) (times y dx)) (times dx dy))
  pub centred : (x y mx my : Rational) →
      Equal (times x y) (plus (minus (plus (times my x) (times mx y)) (times mx my)) (times (minus x mx) (minus y my)))
  pub quotient : (x y dx dy z r d : Rational) → quotient x y ≡ Some z → quotient (plus x dx) (plus y dy) ≡ Some r →
      quotient (minus dx (times z dy)) (plus y dy) ≡ Some d → Equal (minus r z) d
