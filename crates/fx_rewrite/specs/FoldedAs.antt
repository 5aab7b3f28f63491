-- What is folded, as the code names it.
use Rattle.std.specs.Prelude.{Bool, true, false, Option, Some, None, pos}
use Rattle.fx_rational.specs.Rational.{Rational, whole, lowest}
use Rattle.fx_model.specs.Rules.{Folding, fits_literal}
use Rattle.fx_rewrite.specs.declared.fold.Folded.{Folded}
use Rattle.fx_rewrite.specs.declared.fold.Folded.TheVariants.{NoMatch, TooLong, Literal}

-- a literal, where it keeps its limits
abbrev pub where_kept : Bool → Rational → Folded
where_kept true q = Literal q
where_kept false q = TooLong

-- in lowest terms; none where a divisor is zero
abbrev pub folded_as : Option Rational → Folded
folded_as None = NoMatch
folded_as (Some q) = where_kept (fits_literal (lowest q)) (lowest q)

-- of two literals; any where a rule makes none
abbrev pub folded_by : Folding → Rational → Rational → Folded
folded_by None l k = Literal (whole (pos 0))
folded_by (Some f) l k = folded_as (f l k)
