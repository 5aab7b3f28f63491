-- What the rule of a number makes of a tree is what the table says.
use Rattle.std.proofs.Common.{◌≡◌, ℕ, Bool, true, false, Option, Some, None, refl, sym, ap, subst, ◌∙◌}
use Rattle.std.specs.Option.{option_map}
use Rattle.fx_rational.specs.Rational.{Rational, lowest}
use Rattle.fx_model.specs.Tree.{Tree}
use Rattle.fx_model.specs.Rules.{Letters, Rule, Folding, IsFolded, fits_literal, folding_fits, rule, filled, RewritesTree}
use Rattle.fx_rules.specs.Turned.{Turned, NoMatch, TooLong, Becomes, Found, nothing, matched, or_zero, letters_of, folded, where_fits, made, outcome, turned_by, turned}
use Rattle.fx_rules.specs.Steps.{IsUnmatched}
use Rattle.fx_rules.proofs.Matching.{holds_nothing, holds_found, there, found}
use Rattle.fx_rules.proofs.Rows.{value, SameMade}
use Rattle.fx_rules.proofs.Sound.{is_rule}

-- ---- where the rule matches
record Folds (g : Folding) (z : Found) (s : Letters) : Type 0 where
  made : Rational
  is : folded g z ≡ Some made
  same : SameMade g s (letters_of z made)

folds_as : (g : Folding) (z : Found) (s : Letters) → IsFolded g s → value g s ≡ value g (letters_of z s.made) →
    Folds g z s
folds_as None z s f e = record { made = _; is = refl; same = tt {0} }
folds_as (Some g) z s f e = record { made = lowest f.0; is = ap (option_map lowest) (sym e ∙ f.1); same = f.2 }

fits_same : (g : Folding) (s t : Letters) → SameMade g s t → folding_fits g s ≡ folding_fits g t
fits_same None s t m = refl
fits_same (Some f) s t m = ap fits_literal m

pub turned_there : (n : ℕ) (old new : Tree) (r : RewritesTree n old new) →
    turned n old ≡ where_fits (folding_fits r.by.folding r.letters) new
turned_there n old new r =
    let row = is_rule n r.by r.is in
    let f = found r.by.left r.letters nothing row.finds (holds_nothing r.letters) in
    let z = f.next in
    let left : (q : Rational) → filled r.letters r.by.left ≡ filled (letters_of z q) r.by.left =
    λ q. (there r.by.left (filled r.letters r.by.left) nothing z (letters_of z q) f.is (holds_found z q)).0 in
    let g =
    folds_as r.by.folding z r.letters r.folded
    (row.value r.letters (letters_of z r.letters.made) (left r.letters.made)) in
    let right = row.right r.letters (letters_of z g.made) (left g.made) g.same in
    ap (λ o. turned_by o old) r.is ∙ ap (λ e. outcome r.by (matched r.by.left e nothing)) r.left
    ∙ ap (outcome r.by) f.is ∙ ap (made r.by z) g.is
    ∙ ap (where_fits (folding_fits r.by.folding (letters_of z g.made))) (sym right ∙ sym r.right)
    ∙ ap (λ b. where_fits b new) (sym (fits_same r.by.folding r.letters (letters_of z g.made) g.same))

-- ---- what each outcome says
abbrev pub Judges : ℕ → Tree → Turned → Type 0
Judges n old NoMatch = IsUnmatched n old
Judges n old TooLong = (new : Tree) × (r : RewritesTree n old new) × (folding_fits r.by.folding r.letters ≡ false)
Judges n old (Becomes new) = (r : RewritesTree n old new) × (folding_fits r.by.folding r.letters ≡ true)

is_folded : (g : Folding) (z : Found) (q : Rational) → folded g z ≡ Some q → IsFolded g (letters_of z q)
is_folded None z q e = tt {0}
is_folded (Some f) z q e = by (f (or_zero z.l) (or_zero z.k)) refl e
  where
    by : (o : Option Rational) → f (or_zero z.l) (or_zero z.k) ≡ o → option_map lowest o ≡ Some q →
        IsFolded (Some f) (letters_of z q)
    by None is e = absurd cc
    by (Some v) is e = let same : lowest v ≡ q = cc in (v, is, sym same)

abbrev rewrites : (n : ℕ) (old : Tree) (r : Rule) (z : Found) (q : Rational) → rule n ≡ Some r →
    matched r.left old nothing ≡ Some z → folded r.folding z ≡ Some q →
    RewritesTree n old (filled (letters_of z q) r.right)
rewrites n old r z q is m f = record {
  by = r;
  letters = letters_of z q;
  is = is;
  left = (there r.left old nothing z (letters_of z q) m (holds_found z q)).0;
  right = refl;
  folded = is_folded r.folding z q f;
}

matched_not : (b : Bool) (new : Tree) → where_fits b new ≡ NoMatch → ⊥
matched_not true new e = cc
matched_not false new e = cc

unmatched : (n : ℕ) (old : Tree) → turned n old ≡ NoMatch → IsUnmatched n old
unmatched n old e new r =
    matched_not (folding_fits r.by.folding r.letters) new (sym (turned_there n old new r) ∙ e)

fitting : (n : ℕ) (old : Tree) (r : Rule) (z : Found) (q : Rational) → rule n ≡ Some r →
    matched r.left old nothing ≡ Some z → folded r.folding z ≡ Some q → (b : Bool) →
    folding_fits r.folding (letters_of z q) ≡ b → Judges n old (where_fits b (filled (letters_of z q) r.right))
fitting n old r z q is m f true e = (rewrites n old r z q is m f, e)
fitting n old r z q is m f false e = (filled (letters_of z q) r.right, rewrites n old r z q is m f, e)

pub turned_judges : (n : ℕ) (old : Tree) (o : Turned) → turned n old ≡ o → Judges n old o
turned_judges n old o e = by_rule (rule n) refl
  where
    moved : (t : Turned) → turned n old ≡ t → Judges n old t → Judges n old o
    moved t x j = subst (Judges n old) (sym x ∙ e) j

    none : turned n old ≡ NoMatch → Judges n old o
    none x = moved NoMatch x (unmatched n old x)

    by_literal : (r : Rule) (z : Found) → rule n ≡ Some r → matched r.left old nothing ≡ Some z →
        turned n old ≡ made r z (folded r.folding z) → (q : Option Rational) → folded r.folding z ≡ q → Judges n old o
    by_literal r z is m x None f = none (x ∙ ap (made r z) f)
    by_literal r z is m x (Some q) f =
        moved (made r z (Some q)) (x ∙ ap (made r z) f)
        (fitting n old r z q is m f (folding_fits r.folding (letters_of z q)) refl)

    by_match : (r : Rule) → rule n ≡ Some r → turned n old ≡ outcome r (matched r.left old nothing) →
        (z : Option Found) → matched r.left old nothing ≡ z → Judges n old o
    by_match r is x None m = none (x ∙ ap (outcome r) m)
    by_match r is x (Some z) m =
        by_literal r z is m (x ∙ ap (outcome r) m) (folded r.folding z) refl

    by_rule : (r : Option Rule) → rule n ≡ r → Judges n old o
    by_rule None is = none (ap (λ x. turned_by x old) is)
    by_rule (Some r) is = by_match r is (ap (λ x. turned_by x old) is) (matched r.left old nothing) refl
