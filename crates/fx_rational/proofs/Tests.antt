-- The test of the order decides it.
use Rattle.std.proofs.Common.{◌≡◌, refl, ℤ, pos, ◌*ℤ◌, ◌≤ℤ◌, int_le, Bool, true, false, T, arith}
use Rattle.std.specs.Prelude.{IsTrue, ◌↔◌}
use Rattle.std.proofs.lemmas.Int.{ints}
use Rattle.fx_rational.specs.Rational.{Rational, bottom, AtMost, is_at_most}

pub at_most_true : (p q : Rational) → is_at_most p q ≡ true → AtMost p q
unfolding is_at_most
at_most_true p q e = record { at_most = record { le = rw e tt } }

pub at_most_false : (p q : Rational) → is_at_most p q ≡ false → AtMost q p
unfolding is_at_most
at_most_false p q e = record { at_most = go (p.top *ℤ pos (bottom q)) (q.top *ℤ pos (bottom p)) e }
  where
    go : (a b : ℤ) → int_le a b ≡ false → b ≤ℤ a
    go a b e = grind (arith, ints)

pub at_most_test : (p q : Rational) → IsTrue (is_at_most p q) ↔ AtMost p q
unfolding is_at_most
at_most_test p q =
    (at_most_true p q, λ h. holds (int_le (p.top *ℤ pos (bottom q)) (q.top *ℤ pos (bottom p))) h.at_most.le)
  where
    holds : (b : Bool) → T b → b ≡ true
    holds true h = refl
    holds false h = absurd h

-- what is at most another passes the test
pub at_most_holds : {x y : Rational} → AtMost x y → is_at_most x y ≡ true
at_most_holds {x} {y} h = (at_most_test x y).1 h
