-- Comments and macros of a header, of their pieces.
use Rattle.std.proofs.Common.{◌≡◌, ℕ, ◌+◌, ◌-◌, ◌<◌, ℤ, List, ◌++◌, sym, ap, subst, ◌∙◌, codes, append_assoc}
use Rattle.std.specs.Fmt.{decimal}
use Rattle.fx_model.specs.LineText.{numbered_lines}
use Rattle.fx_model.specs.Machine.{Program}
use Rattle.fx_model.proofs.Listed.{next_line}
use Rattle.fx_c99.specs.CHeader.{number_text, macro_text, of_element, element_comment}

pub commented : (array : List ℕ) (k : ℕ) (says old a new : List ℕ) →
    a ≡ old ++ codes "\n/* " ++ array ++ codes "[" ++ decimal k ++ codes "]" → new ≡ a ++ says
    → new ≡ old ++ element_comment array k says
commented array k says old a new p q =
    let joined : (old ++ codes "\n/* " ++ array ++ codes "[" ++ decimal k ++ codes "]") ++ says
    ≡ old ++ element_comment array k says = simp append_assoc in
    q ∙ ap (λ t. t ++ says) p ∙ joined

pub element_macro : (title array : List ℕ) (k : ℕ) (what : List ℕ) (v : ℤ) (old a b c d new : List ℕ) →
    a ≡ old ++ codes "#define FIXD_" ++ title ++ codes "_" → b ≡ a ++ array → c ≡ b ++ decimal k → d ≡ c ++ what →
    new ≡ d ++ codes " " ++ number_text v ++ codes "\n"
    → new ≡ old ++ macro_text title (of_element array k what) v
element_macro title array k what v old a b c d new p q r s t =
    let joined : old ++ codes "#define FIXD_" ++ title ++ codes "_" ++ array ++ decimal k ++ what ++ codes " "
    ++ number_text v ++ codes "\n" ≡ old ++ macro_text title (of_element array k what) v = simp append_assoc in
    t ∙ ap (λ o. o ++ codes " " ++ number_text v ++ codes "\n") (s ∙ ap (λ o. o ++ what) (r
    ∙ ap (λ o. o ++ decimal k) (q ∙ ap (λ o. o ++ array) p))) ∙ joined

-- one group more: what was appended, and the groups that are left, are all of them
pub group_more : {p q : Program} (group : ℕ → List ℕ) (count : Program → ℕ) (k : ℕ) (old out new : List ℕ) → p ≡ q →
    k < count p → new ≡ out ++ group k
    → out ++ numbered_lines group k (count q - k) ≡ old ++ numbered_lines group 0 (count q)
    → new ++ numbered_lines group (k + 1) (count q - (k + 1)) ≡ old ++ numbered_lines group 0 (count q)
group_more {p} {q} group count k old out new view test added all =
    let below : k < count q = subst (λ (r : Program). k < count r) view test in
    let rest = numbered_lines group (k + 1) (count q - (k + 1)) in
    ap (λ o. o ++ rest) added ∙ append_assoc out (group k) rest
    ∙ ap (λ t. out ++ t) (sym (next_line group (count q) k below)) ∙ all
