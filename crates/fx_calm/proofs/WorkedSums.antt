-- Sums beside whole numbers, by evaluation.
use Rattle.std.proofs.Common.{◌≡◌, true, false, [], ◌∷◌, ◌^◌, ℕ, List, Bool, pos, ◌-ℤ◌, refl}
use Rattle.fx_calm.specs.declared.summand.Summand.{Summand}
use Rattle.fx_calm.specs.Summands.{digits, rests, decided, enough}

-- the answer of `adds_up_to`
answer : List Summand → ℕ → Bool
answer xs limit = decided enough (pos (digits 1 xs) -ℤ pos limit) (rests 1 xs)

-- 0.1 and 0.4, each twice, are 1
tenths : answer (record { top = 2; bottom = 10 } ∷ record { top = 8; bottom = 10 } ∷ []) 1 ≡ true
unfolding answer decided enough
tenths = refl

-- 1/3 and 2/3 are 1, though no digit is the last
thirds : answer (record { top = 1; bottom = 3 } ∷ record { top = 2; bottom = 3 } ∷ []) 1 ≡ true
unfolding answer decided enough
thirds = refl

-- a summand in 10^18 more is above it
one_more : answer (record { top = 1; bottom = 3 } ∷ record { top = 2; bottom = 3 } ∷ record {
  top = 1;
  bottom = 10 ^ 18;
} ∷ []) 1 ≡ false
unfolding answer decided enough
one_more = refl

-- nothing is at most zero
nothing : answer [] 0 ≡ true
unfolding answer decided enough
nothing = refl
