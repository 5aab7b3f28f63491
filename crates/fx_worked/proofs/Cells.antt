-- Worked steps as a caller sees them in the registers: the size of the cells, and the words of all codes in them.
--
-- By the contracts of `step` and `cells` these are the words of the machine's definition, in cells of the least size.
use Rattle.std.specs.Prelude.{◌≡◌, ℕ, ℤ, pos, negsuc, List, [], ◌∷◌, map, Option, Some, None, refl}
use Rattle.std.specs.Option.{option_map}
use Rattle.fx_rational.specs.Rational.{over, scaled, floor}
use Rattle.fx_rational.specs.Decimal.{Decimal, decimal_value}
use Rattle.fx_model.specs.Machine.{Program, Input, Copy, Floor, words_of}
use Rattle.fx_model.proofs.Samples.{half_program, averager_program}
use Rattle.fx_machine.specs.Registers.{least_size}
use Rattle.fx_machine.specs.Steps.{step_taken}

-- cells of one size, and the words in them
record Shown : Type 0 where
  size : ℕ
  words : List ℤ

-- what cells show behind a step from the state words z; none where the step is stuck
abbrev shown : Program → List Decimal → List ℤ → Option Shown
shown p row z =
    option_map (λ ws. record { size = least_size p.width; words = ws }) (words_of p (map decimal_value row) z)

-- a / 10^b
abbrev number : ℤ → ℕ → Decimal
number a b = record { a = a; b = b }

-- ---- the size of the cells at each width
sizes : map least_size (8 ∷ 16 ∷ 24 ∷ 32 ∷ 40 ∷ 48 ∷ 56 ∷ 64 ∷ []) ≡ 8 ∷ 16 ∷ 32 ∷ 32 ∷ 64 ∷ 64 ∷ 64 ∷ 64 ∷ []
sizes = refl

-- ---- x + 0.5 on 0.3, in 16 bits
half_cells : shown half_program (number (pos 3) 1 ∷ []) [] ≡ Some record {
  size = 16;
  words = pos 1228 ∷ pos 2048 ∷ pos 3276 ∷ pos 3276 ∷ [];
}
unfolding over scaled floor decimal_value
half_cells = refl

-- ---- the averager on a second 1: its first one left the state word 2048
averager_cells : shown averager_program (number (pos 1) 0 ∷ []) (pos 2048 ∷ [])
    ≡ Some record {
      size = 16;
      words = pos 4096 ∷ pos 2048 ∷ pos 2048 ∷ pos 1024 ∷ pos 2048 ∷ pos 2048 ∷ pos 3072 ∷ pos 3072 ∷ pos 3072 ∷ [];
    }
unfolding over scaled floor decimal_value
averager_cells = refl

averager_next : (step_taken averager_program
    (pos 4096 ∷ pos 2048 ∷ pos 2048 ∷ pos 1024 ∷ pos 2048 ∷ pos 2048 ∷ pos 3072 ∷ pos 3072 ∷ pos 3072 ∷ [])).next
    ≡ pos 3072 ∷ []
averager_next = refl

-- ---- x itself at point 0, in 24 bits: its ends, and one more on either side
abbrev itself : Program
itself = record half_program { width = 24; codes = Input 0 (pos 0) ∷ Copy Floor 0 (pos 0) ∷ [] }

least_and_below : (shown itself (number (negsuc 8388607) 0 ∷ []) []
    ≡ Some record { size = 32; words = negsuc 8388607 ∷ negsuc 8388607 ∷ [] })
    × (shown itself (number (negsuc 8388608) 0 ∷ []) [] ≡ None)
unfolding over scaled floor decimal_value
least_and_below = (refl, refl)

greatest_and_above : (shown itself (number (pos 8388607) 0 ∷ []) []
    ≡ Some record { size = 32; words = pos 8388607 ∷ pos 8388607 ∷ [] })
    × (shown itself (number (pos 8388608) 0 ∷ []) [] ≡ None)
unfolding over scaled floor decimal_value
greatest_and_above = (refl, refl)
