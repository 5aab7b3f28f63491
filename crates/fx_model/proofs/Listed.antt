-- The lines of numbers, one after the other.
use Rattle.std.proofs.Common.{◌≡◌, ◌<◌, ◌+◌, ◌-◌, ℕ, suc, List, ◌++◌, append-nil, refl, arith}
use Rattle.fx_model.specs.LineText.{numbered_lines}

-- the line of number n, and those behind it
pub next_line : (line : ℕ → List ℕ) (m n : ℕ) → n < m →
    numbered_lines line n (m - n) ≡ line n ++ numbered_lines line (n + 1) (m - (n + 1))
next_line line m n l = let e : m - n ≡ suc (m - (n + 1)) = omega (arith, l) in rw e refl

-- none is left
no_line : (line : ℕ → List ℕ) (m : ℕ) (sent : List ℕ) → sent ++ numbered_lines line m (m - m) ≡ sent
no_line line m sent = let e : m - m ≡ 0 = omega arith in rw e (append-nil sent)
