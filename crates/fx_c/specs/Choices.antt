-- What the code's choices stand for: a sum or a difference, and what is asked of a statement.
use Rattle.std.specs.Prelude.{ℕ, Bool}
use Rattle.fx_statements.specs.Statements.{Operator, Let}
use Rattle.fx_statements.specs.Statements as statements
use Rattle.fx_c99.specs.CText.{computes_in, rounds_in}
use Rattle.fx_c.specs.declared.working.Sign.{Sign}
use Rattle.fx_c.specs.declared.working.Sign.TheVariants.{Plus, Minus}
use Rattle.fx_c.specs.declared.working.Test.{Test}
use Rattle.fx_c.specs.declared.working.Test.TheVariants.{Computes, Rounds}

abbrev pub operator_of : Sign → Operator
operator_of Plus = statements.Plus
operator_of Minus = statements.Minus

-- in a program of words of n bits
abbrev pub passes : Test → ℕ → Let → Bool
passes (Computes bits) n = computes_in n bits
passes (Rounds bits) n = rounds_in n bits
