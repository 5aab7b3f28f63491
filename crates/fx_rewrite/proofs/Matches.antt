-- A rule that matches, as the code finds it.
use Rattle.std.proofs.Common.{◌≡◌, ℕ, Bool, true, false, Option, Some, None, refl, sym, ap, ◌∙◌}
use Rattle.fx_rational.specs.Rational.{Rational, lowest}
use Rattle.fx_model.specs.Tree.{Tree}
use Rattle.fx_expr.specs.SizeOf.{size_of}
use Rattle.fx_model.specs.Rules as table
use Rattle.fx_model.specs.Rules.{Folding, fits_literal, folding_fits, filled}
use Rattle.fx_rules.specs.Turned as rules
use Rattle.fx_rules.specs.Turned.{nothing, matched, or_zero, letters_of, folded, where_fits, made, outcome, turned_by, turned}
use Rattle.fx_rules.proofs.Matching.{there, holds_found}
use Rattle.fx_rewrite.specs.RuleOf.{pattern_of, folding_of, rule_of}
use Rattle.fx_rewrite.specs.FoundOf.{Finds}
use Rattle.fx_rewrite.specs.FoldedAs.{where_kept, folded_as, folded_by}
use Rattle.fx_rewrite.specs.Matching.{AreSizes}
use Rattle.fx_rewrite.specs.Moving.{IsMovable, all_carried, copied}
use Rattle.fx_rewrite.specs.declared.fold.Folded.TheVariants.{Literal}
use Rattle.fx_rewrite.specs.declared.pattern.Rule.{Rule}
use Rattle.fx_rewrite.specs.declared.matching.Sizes.{Sizes}

pub finds : (b : Bool) (o : Option rules.Found) (z n : rules.Found) → Finds b o n → b ≡ true → o ≡ Some n
finds true o z n h e = h
finds false o z n h e = absurd cc

-- the literal that was folded is the table's
record Folds (g : Folding) (z : rules.Found) (q : Rational) : Type 0 where
  is : folded g z ≡ Some q
  fits : folding_fits g (letters_of z q) ≡ true

folds_as : (g : Folding) (z : rules.Found) (q : Rational) → Literal q ≡ folded_by g (or_zero z.l) (or_zero z.k) →
    Folds g z q
folds_as None z q e = record { is = (let same : q ≡ _ = cc in ap Some (sym same)); fits = refl }
folds_as (Some f) z q e = by (f (or_zero z.l) (or_zero z.k)) refl e
  where
    kept : (v : Rational) → f (or_zero z.l) (or_zero z.k) ≡ Some v → (t : Bool) → fits_literal (lowest v) ≡ t →
        Literal q ≡ where_kept t (lowest v) → Folds (Some f) z q
    kept v is true k e =
        let same : q ≡ lowest v = cc in
        record { is = rw is (ap Some (sym same)); fits = ap fits_literal same ∙ k }
    kept v is false k e = absurd cc

    by : (o : Option Rational) → f (or_zero z.l) (or_zero z.k) ≡ o → Literal q ≡ folded_as o → Folds (Some f) z q
    by None is e = absurd cc
    by (Some v) is e = kept v is (fits_literal (lowest v)) refl e

-- what a rule becomes, both sizes, and that its letters can be moved
pub record MatchesRule (n : ℕ) (r : Rule) (old : Tree) (z : rules.Found) (q : Rational) (sizes : Sizes) : Type 0 where
  pub becomes : turned n old ≡ rules.Becomes (filled (letters_of z q) (pattern_of r.right))
  pub less : sizes.old ≡ size_of old
  pub more : sizes.new ≡ size_of (filled (letters_of z q) (pattern_of r.right))
  pub finished : all_carried r.moves old (filled (letters_of (copied r.moves z) q) (pattern_of r.right))
      ≡ filled (letters_of z q) (pattern_of r.right)

pub matches : (n : ℕ) (r : Rule) (old : Tree) (z : rules.Found) (q : Rational) (sizes : Sizes) →
    table.rule n ≡ Some (rule_of r) → matched (pattern_of r.left) old nothing ≡ Some z →
    Literal q ≡ folded_by (folding_of r.folding) (or_zero z.l) (or_zero z.k) → AreSizes sizes r z → IsMovable r →
    MatchesRule n r old z q sizes
matches n r old z q sizes is m f s movable =
    let g = folds_as (folding_of r.folding) z q f in
    let left = (there (pattern_of r.left) old nothing z (letters_of z q) m (holds_found z q)).0 in
    record {
      becomes = ap (λ o. turned_by o old) is ∙ ap (outcome (rule_of r)) m ∙ ap (made (rule_of r) z) g.is
          ∙ ap (λ b. where_fits b (filled (letters_of z q) (pattern_of r.right))) g.fits;
      less = s.old q ∙ ap size_of (sym left);
      more = s.new q;
      finished =
          ap (λ t. all_carried r.moves t (filled (letters_of (copied r.moves z) q) (pattern_of r.right))) left
          ∙ movable z q;
    }
