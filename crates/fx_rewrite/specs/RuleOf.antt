-- The patterns of the code as those of the table.
use Rattle.std.specs.Prelude.{Some, None, pos}
use Rattle.fx_rational.specs.Rational.{plus, minus, times, negative, quotient, whole}
use Rattle.fx_model.specs.Tree.{always}
use Rattle.fx_model.specs.Rules as rules
use Rattle.fx_rewrite.specs.declared.pattern.Letter.{Letter}
use Rattle.fx_rewrite.specs.declared.pattern.Letter.TheVariants as letters
use Rattle.fx_rewrite.specs.declared.pattern.Part.{Part}
use Rattle.fx_rewrite.specs.declared.pattern.Part.TheVariants as parts
use Rattle.fx_rewrite.specs.declared.pattern.Pattern.{Pattern}
use Rattle.fx_rewrite.specs.declared.pattern.Pattern.TheVariants as patterns
use Rattle.fx_rewrite.specs.declared.pattern.Folding.{Folding}
use Rattle.fx_rewrite.specs.declared.pattern.Folding.TheVariants as foldings
use Rattle.fx_rewrite.specs.declared.pattern.Rule.{Rule}

-- a letter
abbrev pub letter_of : Letter → rules.Pattern
letter_of letters.A = rules.A
letter_of letters.B = rules.B
letter_of letters.C = rules.C
letter_of letters.L = rules.L
letter_of letters.K = rules.K
letter_of letters.Made = rules.Made

-- letters and operations on them
abbrev pub part_of : Part → rules.Pattern
part_of (parts.One p) = letter_of p
part_of (parts.Neg p) = rules.Negation (letter_of p)
part_of (parts.Add p q) = rules.Sum (letter_of p) (letter_of q)
part_of (parts.Sub p q) = rules.Difference (letter_of p) (letter_of q)
part_of (parts.Mul p q) = rules.Product (letter_of p) (letter_of q)
part_of (parts.Div p q) = rules.Quotient (letter_of p) (letter_of q)

-- a side of a rule
abbrev pub pattern_of : Pattern → rules.Pattern
pattern_of (patterns.One p) = part_of p
pattern_of (patterns.Neg p) = rules.Negation (part_of p)
pattern_of (patterns.Add p q) = rules.Sum (part_of p) (part_of q)
pattern_of (patterns.Sub p q) = rules.Difference (part_of p) (part_of q)
pattern_of (patterns.Mul p q) = rules.Product (part_of p) (part_of q)
pattern_of (patterns.Div p q) = rules.Quotient (part_of p) (part_of q)

-- what is folded
abbrev pub folding_of : Folding → rules.Folding
folding_of foldings.Nothing = None
folding_of foldings.Inverse = Some (λ l k. quotient (whole (pos 1)) l)
folding_of foldings.Sum = Some (always plus)
folding_of foldings.Difference = Some (always minus)
folding_of foldings.Product = Some (always times)
folding_of foldings.Quotient = Some quotient
folding_of foldings.Opposite = Some (λ l k. Some (negative l))

-- a rule
abbrev pub rule_of : Rule → rules.Rule
rule_of r = record { left = pattern_of r.left; right = pattern_of r.right; folding = folding_of r.folding }
