-- What is written field by field is the line's text.
use Rattle.std.proofs.Common.{◌≡◌, ℕ, ◌+◌, ◌<◌, List, [], ◌∷◌, ◌++◌, length, map, arith, refl, sym, ap, ◌∙◌, append_assoc}
use Rattle.std.specs.Prelude.{min}
use Rattle.std.specs.Fmt.{decimal}
use Rattle.std.specs.List.{flat_map}
use Rattle.std.proofs.lemmas.List.Concat.{flat_map-cons}
use Rattle.fx_inequalities.specs.CertificateText.{path_field}
use Rattle.fx_model.specs.LineText.{line_text, dyadic_text}
use Rattle.fx_text.specs.Cutting.{Line}
use Rattle.fx_text.proofs.LineLaws.{line_text-cons}
use Rattle.fx_inequalities.specs.Certificate as model
use Rattle.fx_cert.specs.declared.certificate.Share.{Share}
use Rattle.fx_cert.specs.CertificateView.{shares_of}
use Rattle.fx_cert_text.specs.Printing.{spaced}

-- some fields and some more
pub spaced_append : (xs ys : Line) → spaced (xs ++ ys) ≡ spaced xs ++ spaced ys
spaced_append [] ys = refl
spaced_append (x ∷ xs) ys =
    flat_map-cons (λ f. 32 ∷ f) x (xs ++ ys) ∙ ap (λ t. (32 ∷ x) ++ t) (spaced_append xs ys)
    ∙ sym (append_assoc (32 ∷ x) (spaced xs) (spaced ys))
    ∙ ap (λ t. t ++ spaced ys) (sym (flat_map-cons (λ f. 32 ∷ f) x xs))

pub spaced_cons : (x : List ℕ) (xs : Line) → spaced (x ∷ xs) ≡ (32 ∷ x) ++ spaced xs
spaced_cons x xs = flat_map-cons (λ f. 32 ∷ f) x xs

-- a share's fields, its template and its times
abbrev pub pairs : model.Share → Line
pairs s = decimal s.template ∷ dyadic_text s.times ∷ []

-- shares, each written so
pub spaced_pairs : (shares : List Share) →
    spaced (flat_map pairs (shares_of shares))
    ≡ flat_map (λ s. (32 ∷ decimal s.template) ++ 32 ∷ dyadic_text s.times) shares
spaced_pairs [] = refl
spaced_pairs (s ∷ shares) =
    let template = decimal s.template in let times = dyadic_text s.times in
    let rest = flat_map pairs (shares_of shares) in
    ap spaced (flat_map-cons pairs (record { template = s.template; times = s.times }) (shares_of shares))
    ∙ spaced_cons template (times ∷ rest)
    ∙ ap (λ t. (32 ∷ template) ++ t) (spaced_cons times rest ∙ ap (λ t. (32 ∷ times) ++ t) (spaced_pairs shares))
    ∙ sym (append_assoc (32 ∷ template) (32 ∷ times)
    (flat_map (λ s. (32 ∷ decimal s.template) ++ 32 ∷ dyadic_text s.times) shares))
    ∙ sym (flat_map-cons (λ s. (32 ∷ decimal s.template) ++ 32 ∷ dyadic_text s.times) s shares)

-- a line is a word, its fields and a line feed
line_is : (word : List ℕ) (fields : Line) → line_text (word ∷ fields) ≡ (word ++ spaced fields) ++ 10 ∷ []
line_is word fields = line_text-cons word fields

-- a path, whose turns are written as digits
digits_of : (path : List ℕ) → map (λ d. 48 + min d 1) path ≡ map (λ k. 48 + k) (map (λ d. min d 1) path)
digits_of [] = refl
digits_of (d ∷ ds) = ap (λ t. (48 + min d 1) ∷ t) (digits_of ds)

-- a path of some turns
pub path_text : (path : List ℕ) → 0 < length path → path_field (map (λ d. min d 1) path) ≡ map (λ d. 48 + min d 1) path
path_text [] lt = absurd (omega arith)
path_text (d ∷ ds) lt = sym (digits_of (d ∷ ds))

-- the fields of a line in two and in three parts
pub two_parts : (word : List ℕ) (a b : Line) → line_text (word ∷ (a ++ b)) ≡ ((word ++ spaced a) ++ spaced b) ++ 10 ∷ []
two_parts word a b = line_is word (a ++ b) ∙ ap (λ t. (word ++ t) ++ 10 ∷ []) (spaced_append a b)
    ∙ ap (λ t. t ++ 10 ∷ []) (sym (append_assoc word (spaced a) (spaced b)))

pub three_parts : (word : List ℕ) (a b c : Line) →
    line_text (word ∷ ((a ++ b) ++ c)) ≡ (((word ++ spaced a) ++ spaced b) ++ spaced c) ++ 10 ∷ []
three_parts word a b c = two_parts word (a ++ b) c ∙ ap (λ t. ((word ++ t) ++ spaced c) ++ 10 ∷ []) (spaced_append a b)
    ∙ ap (λ t. (t ++ spaced c) ++ 10 ∷ []) (sym (append_assoc word (spaced a) (spaced b)))

-- the fields of a form
pub form_spaced : (x y : List ℕ) (a b c d e : Line) →
    spaced (x ∷ y ∷ ((((a ++ b) ++ c) ++ d) ++ e)) ≡ ((32 ∷ x) ++ (32 ∷ y))
    ++ ((((spaced a ++ spaced b) ++ spaced c) ++ spaced d) ++ spaced e)
form_spaced x y a b c d e =
    let rest = (((a ++ b) ++ c) ++ d) ++ e in
    let parts : spaced rest ≡ (((spaced a ++ spaced b) ++ spaced c) ++ spaced d) ++ spaced e =
    spaced_append (((a ++ b) ++ c) ++ d) e
    ∙ ap (λ t. t ++ spaced e) (spaced_append ((a ++ b) ++ c) d
    ∙ ap (λ t. t ++ spaced d) (spaced_append (a ++ b) c ∙ ap (λ t. t ++ spaced c) (spaced_append a b))) in
    spaced_cons x (y ∷ rest) ∙ ap (λ t. (32 ∷ x) ++ t) (spaced_cons y rest ∙ ap (λ t. (32 ∷ y) ++ t) parts)
    ∙ sym (append_assoc (32 ∷ x) (32 ∷ y) ((((spaced a ++ spaced b) ++ spaced c) ++ spaced d) ++ spaced e))
