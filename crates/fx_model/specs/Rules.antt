-- The thirty rewriting rules, each a pair of patterns.
use Rattle.std.specs.Prelude.{◌≡◌, ℕ, zero, suc, ◌^◌, ◌&&◌, Bool, true, nat_lt, pos, List, [], ◌∷◌, Option, Some, None, slice_get, unsigned_abs}
use Rattle.fx_rational.specs.Rational.{Rational, bottom, whole, plus, minus, times, negative, quotient, lowest}
use Rattle.fx_model.specs.Tree as tree
use Rattle.fx_model.specs.Tree.{Tree, always}

-- A, B and C stand for any trees, L and K for any literals, Made for the literal that is folded
pub data Pattern : Type 0 where
  A B C L K Made : Pattern
  Negation : (p : Pattern) → Pattern
  Sum Difference Product Quotient : (p q : Pattern) → Pattern

-- what stands for the letters
pub record Letters : Type 0 where
  pub a : Tree
  pub b : Tree
  pub c : Tree
  pub l : Rational
  pub k : Rational
  pub made : Rational

-- a pattern with trees for its letters: the same letter twice is the same tree twice
abbrev pub filled : Letters → Pattern → Tree
filled s A = s.a
filled s B = s.b
filled s C = s.c
filled s L = tree.Literal s.l
filled s K = tree.Literal s.k
filled s Made = tree.Literal s.made
filled s (Negation p) = tree.Negation (filled s p)
filled s (Sum p q) = tree.Sum (filled s p) (filled s q)
filled s (Difference p q) = tree.Difference (filled s p) (filled s q)
filled s (Product p q) = tree.Product (filled s p) (filled s q)
filled s (Quotient p q) = tree.Quotient (filled s p) (filled s q)

-- what is folded from L and K, none where a divisor is zero; no folding where a rule makes no literal
abbrev pub Folding : Type 0
Folding = Option (Rational → Rational → Option Rational)

-- left becomes right
pub record Rule : Type 0 where
  pub left : Pattern
  pub right : Pattern
  pub folding : Folding

-- a rule that makes no literal
abbrev pub plain : Pattern → Pattern → Rule
plain left right = record { left = left; right = right; folding = None }

-- a rule that folds a literal
abbrev pub folds : Pattern → Pattern → (Rational → Rational → Option Rational) → Rule
folds left right f = record { left = left; right = right; folding = Some f }

-- the rewriting rules count from 1 to this
abbrev pub rule_count : ℕ
rule_count = 30

-- the rules by number, from 1
abbrev pub rules : List Rule
rules =
    plain (Sum A B) (Sum B A)
    ∷ plain (Sum (Sum A B) C) (Sum A (Sum B C))
    ∷ plain (Sum A (Sum B C)) (Sum (Sum A B) C)
    ∷ plain (Product A B) (Product B A)
    ∷ plain (Product (Product A B) C) (Product A (Product B C))
    ∷ plain (Product A (Product B C)) (Product (Product A B) C)
    ∷ plain (Product A (Sum B C)) (Sum (Product A B) (Product A C))
    ∷ plain (Product (Sum A B) C) (Sum (Product A C) (Product B C))
    ∷ plain (Product A (Difference B C)) (Difference (Product A B) (Product A C))
    ∷ plain (Product (Difference A B) C) (Difference (Product A C) (Product B C))
    ∷ plain (Sum (Product A B) (Product A C)) (Product A (Sum B C))
    ∷ plain (Sum (Product A C) (Product B C)) (Product (Sum A B) C)
    ∷ plain (Difference (Product A B) (Product A C)) (Product A (Difference B C))
    ∷ plain (Difference (Product A C) (Product B C)) (Product (Difference A B) C)
    ∷ plain (Difference A B) (Sum A (Negation B))
    ∷ plain (Sum A (Negation B)) (Difference A B)
    ∷ plain (Negation (Negation A)) A
    ∷ plain (Negation (Product A B)) (Product (Negation A) B)
    ∷ plain (Product (Negation A) B) (Negation (Product A B))
    ∷ plain (Negation (Sum A B)) (Sum (Negation A) (Negation B))
    ∷ plain (Quotient (Sum A B) C) (Sum (Quotient A C) (Quotient B C))
    ∷ plain (Sum (Quotient A C) (Quotient B C)) (Quotient (Sum A B) C)
    ∷ plain (Quotient (Quotient A B) C) (Quotient A (Product B C))
    ∷ plain (Quotient A (Product B C)) (Quotient (Quotient A B) C)
    ∷ folds (Quotient A L) (Product A Made) (λ l k. quotient (whole (pos 1)) l)
    ∷ folds (Sum L K) Made (always plus)
    ∷ folds (Difference L K) Made (always minus)
    ∷ folds (Product L K) Made (always times)
    ∷ folds (Quotient L K) Made quotient
    ∷ folds (Negation L) Made (λ l k. Some (negative l))
    ∷ []

-- the rule of a number; there is none outside the table
abbrev pub rule : ℕ → Option Rule
rule zero = None
rule (suc n) = slice_get rules n

-- the folded literal is in lowest terms
abbrev pub IsFolded : Folding → Letters → Type 0
IsFolded None s = Unit {0}
IsFolded (Some f) s = (q : Rational) × (f s.l s.k ≡ Some q) × (s.made ≡ lowest q)

-- rule n turns old into new
pub record RewritesTree (n : ℕ) (old new : Tree) : Type 0 where
  pub by : Rule
  pub letters : Letters
  pub is : rule n ≡ Some by
  pub left : old ≡ filled letters by.left
  pub right : new ≡ filled letters by.right
  pub folded : IsFolded by.folding letters

-- a numerator and a denominator keep the limits of literals
abbrev pub fits_literal : Rational → Bool
fits_literal v = nat_lt (unsigned_abs v.top) (2 ^ 62) && nat_lt (bottom v) (2 ^ 62)

-- the folded literal does
abbrev pub folding_fits : Folding → Letters → Bool
folding_fits None s = true
folding_fits (Some f) s = fits_literal s.made
