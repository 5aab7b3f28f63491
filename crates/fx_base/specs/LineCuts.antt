-- Where the first line stands among bytes that hold it.
use Rattle.std.specs.Prelude.{ℕ, ◌≡◌, ◌≤◌, ◌<◌, ◌+◌, ◌-◌, ◌==◌, List, [], ◌++◌, take, drop, length, position, Bool, true}
use Rattle.fx_base.specs.LineSteps.{LinesState, TakesLine}
use Rattle.fx_base.specs.declared.cut.Cut.{Cut}

-- a state that shows the line of a cut, and holds what stands behind it
pub record IsLeftBy (bytes : List ℕ) (cut : Cut) (new : LinesState) : Type 0 where
  pub line : new.line ≡ take (cut.to - cut.from) (drop cut.from bytes)
  pub held : new.held ≡ drop cut.next bytes
  pub ready : new.is_ready ≡ cut.is_ready
  pub ended : new.is_ended ≡ cut.is_ended

-- a cut of bytes, at the start of the input or later: its places are in order, and whoever shows its line and holds
-- what stands behind it has taken one line of the bytes
pub record IsCut (is_first : Bool) (bytes : List ℕ) (cut : Cut) : Type 0 where
  pub order : cut.from ≤ cut.to
  pub within : cut.to ≤ length bytes
  pub next : cut.next ≤ length bytes
  pub some : 0 < cut.next
  pub ahead : cut.is_ready ≡ true → cut.ahead ≡ position (λ b. b == 10) (drop cut.next bytes)
  pub ended : cut.is_ended ≡ true → drop cut.next bytes ≡ []
  pub takes : (old new : LinesState) (more : List ℕ) → bytes ≡ old.held ++ more → (old.number == 0) ≡ is_first →
      new.number ≡ old.number + 1 → IsLeftBy bytes cut new → TakesLine old new more
