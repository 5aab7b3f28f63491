-- What may be asked of a synthesis.
use Rattle.std.specs.Prelude.{ℕ, ◌≤◌, Contains}
use Rattle.fx_model.specs.LawfulProgram.{widths}
use Rattle.fx_model.specs.Machine as machine
use Rattle.fx_program.specs.CodeView.{round_of}
use Rattle.fx_wanted.specs.declared.wanted.Wanted.{Wanted}

-- the most tries that can be asked for
abbrev pub tries_limit : ℕ
tries_limit = 100000

-- a width that words have, and so many tries at most
pub record IsLawfulWanted (w : Wanted) : Type 0 where
  pub width : Contains widths w.width
  pub tries : w.tries ≤ tries_limit

-- the machine's way to round that is asked for
abbrev pub rounding_of : Wanted → machine.Round
rounding_of w = round_of w.round
