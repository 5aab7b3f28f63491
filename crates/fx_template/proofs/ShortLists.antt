-- What holds of each member of a list holds past its end too, if it holds of what stands there.
use Rattle.std.proofs.Common.{◌≡◌, ◌∙◌, ◌↔◌, ℕ, zero, suc, ◌<◌, List, [], ◌∷◌, length, get_or, inl, inr, ap, sym, subst, arith}
use Rattle.std.proofs.lemmas.Bool.{cases_lt}
use Rattle.std.proofs.lemmas.List.{get_or-map, get_or_past}
use Rattle.fx_rational.specs.Dyadic.{zero_dyadic}
use Rattle.fx_model.specs.Tree.{at}
use Rattle.fx_inequalities.specs.Formula.{Num}
use Rattle.fx_inequalities.specs.Certificate.{NodeLine, Share, no_line}
use Rattle.fx_formulas.specs.Places.{IsShort}
use Rattle.fx_cert.specs.CertificateView.{line_view, lines_view, share_of, shares_of}
use Rattle.fx_cert.specs.declared.certificate as code
use Rattle.fx_conditions.specs.Limits.{AreShortShares, IsShortLine}
use Rattle.fx_conditions.proofs.Lawful.{no_ends}

pub past_the_end : {A : Type 0} (P : A → Type 0) (d : A) (xs : List A) → P d →
    ((k : ℕ) → k < length xs → P (at d xs k)) → (k : ℕ) → P (at d xs k)
past_the_end P d xs none each k = elim (cases_lt k (length xs)) [
  | inl less ↦ each k less
  | inr more ↦ subst P (sym (get_or_past xs k d more)) none
]

-- ---- shares
abbrev pub no_share : Share
no_share = record { template = 0; times = zero_dyadic }

-- what holds of a share holds of what is seen of it
pub share_at : (P : Share → Type 0) (shares : List code.Share.Share) (i : ℕ) (s : code.Share.Share) →
    i < length shares → P (share_of (get_or shares i s)) ↔ P (at no_share (shares_of shares) i)
share_at P shares i s within =
    let same = get_or-map share_of shares i s no_share within in (subst P (sym same), subst P same)

pub each_share : (shares : List Share) → AreShortShares shares → (k : ℕ) → k < length shares →
    IsShort 96 (Num (at no_share shares k).times)
each_share [] all k within = absurd (omega (arith, within))
each_share (s ∷ shares) all zero within = all.0
each_share (s ∷ shares) all (suc k) within = each_share shares all.1 k (omega (arith, within))

pub all_shares : (shares : List Share) →
    ((k : ℕ) → k < length shares → IsShort 96 (Num (at no_share shares k).times)) → AreShortShares shares
all_shares [] each = tt
all_shares (s ∷ shares) each =
    (each 0 (omega arith), all_shares shares (λ k within. each (suc k) (omega (arith, within))))

-- ---- lines
pub line_at : (P : NodeLine → Type 0) (lines : List code.NodeLine.NodeLine) (n : ℕ) (l : code.NodeLine.NodeLine) → n < length lines →
    l ≡ get_or lines n l → P (line_view l) ↔ P (at no_line (lines_view lines) n)
line_at P lines n l within is =
    let same = get_or-map line_view lines n l no_line within ∙ ap line_view (sym is) in
    (subst P (sym same), subst P same)

pub short_no_line : IsShortLine no_line
short_no_line = record { range = no_ends; error = no_ends; form = tt }
