-- What the comparisons of a condition come to, and the dyadics and intervals that formulas come to.
use Rattle.std.specs.Prelude.{◌&&◌, if◌then◌else◌, List, Option, SomeIff, IsTrue}
use Rattle.std.specs.List.{list_all}
use Rattle.fx_rational.specs.Dyadic.{Dyadic, fits_128}
use Rattle.fx_rational.specs.Interval.{Interval}
use Rattle.fx_inequalities.specs.Formula.{Formula, Span, formed, formula_fits}
use Rattle.fx_inequalities.specs.Claim.{Claim, fits, holds}
use Rattle.fx_formulas.specs.declared.judgement.Judgement.{Judgement}
use Rattle.fx_formulas.specs.declared.judgement.Judgement.TheVariants.{Holds, Fails, Beyond}

-- Beyond where one of them doesn't fit in 128 bits, whatever the others say
abbrev pub judged : List Claim → Judgement
judged cs = if list_all fits cs then (if list_all holds cs then Holds else Fails) else Beyond

-- the dyadic that a formula comes to, exactly where every mantissa of it fits
abbrev pub Forms : Option Dyadic → Formula → Type 0
Forms result f = SomeIff result (IsTrue (formula_fits f)) (formed f)

-- the same of both ends of a span
abbrev pub FormsSpan : Option Interval → Span → Type 0
FormsSpan result s =
    SomeIff result (IsTrue (formula_fits s.lo && formula_fits s.hi)) (record { lo = formed s.lo; hi = formed s.hi })

-- an interval whose ends are numbers of 128 bits
abbrev pub IsNarrowInterval : Interval → Type 0
IsNarrowInterval i = IsTrue (fits_128 i.lo.m && fits_128 i.hi.m)
