-- What a reader of lines is seen as, and what a step does to it.
use Rattle.std.specs.Prelude.{ℕ, ◌≡◌, ◌+◌, ◌==◌, ◌<◌, List, [], ◌∷◌, ◌++◌, take, length, nat_lt, Bool, true, false}
use Rattle.std.specs.Str.Lines.{lines}
use Rattle.fx_base.specs.Text.{text_at}

pub record LinesState : Type 0 where
  -- the line last answered
  pub line : List ℕ
  -- bytes that were taken, of lines that weren't answered yet
  pub held : List ℕ
  pub number : ℕ
  pub taken : ℕ
  pub limit : ℕ
  pub is_ready : Bool
  -- the input has ended, and no line is left
  pub is_ended : Bool

-- a text's first line: as it is answered, with the lines behind it unless it is too long
pub record IsFirstLine (new : LinesState) (all others : List (List ℕ)) : Type 0 where
  pub whole : List ℕ
  pub behind : List (List ℕ)
  pub cut : all ≡ whole ∷ behind
  pub line : new.line ≡ take 65537 whole
  pub ready : new.is_ready ≡ nat_lt (length whole) 65537
  pub rest : new.is_ready ≡ true → behind ≡ others

-- these bytes end with a line feed
abbrev pub EndsLine : List ℕ → Type 0
EndsLine raw = (body : List ℕ) × (raw ≡ body ++ 10 ∷ [])

-- of what was held and taken, the bytes of one line are gone, whatever comes behind them
pub record TakesLine (old new : LinesState) (more : List ℕ) : Type 0 where
  pub raw : List ℕ
  pub parts : old.held ++ more ≡ raw ++ new.held
  pub some : 0 < length raw
  pub number : new.number ≡ old.number + 1
  pub line : (rest : List ℕ) → (new.is_ended ≡ true → rest ≡ []) →
      IsFirstLine new (lines (text_at (old.number == 0) (raw ++ rest))) (lines rest)
  pub fed : new.is_ready ≡ true → new.is_ended ≡ false → EndsLine raw
  pub ended : new.is_ended ≡ true → new.held ≡ []
