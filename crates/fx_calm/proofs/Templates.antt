-- Unit templates, one more.
use Rattle.std.proofs.Common.{◌≡◌, ℕ, zero, suc, ◌+◌, ◌<◌, List, [], ◌∷◌, ◌++◌, map, length, take, get_or, sym, ap, ◌∙◌, arith}
use Rattle.std.proofs.lemmas.List.{map_push, take_more}
use Rattle.fx_rational.specs.Interval.{Interval}
use Rattle.fx_inequalities.specs.Certificate as model
use Rattle.fx_inequalities.specs.LawfulCertificate.{unit_vector}
use Rattle.fx_cert.specs.CertificateView.{template_view, templates_in}
use Rattle.fx_cert.specs.declared.certificate.Template.{Template}
use Rattle.fx_plan_laws.specs.CalmPlan.{unit_templates}

-- template i of so many states
abbrev pub unit_template_in : ℕ → Interval → ℕ → model.Template
unit_template_in states bound i = record { coefs = unit_vector states i; bound = bound; shares = [] }

templates_push : (states : ℕ) (bound : Interval) (i k : ℕ) →
    unit_templates states bound i (suc k) ≡ unit_templates states bound i k ++ unit_template_in states bound (i + k) ∷ []
templates_push states bound i zero =
    let e : i ≡ i + 0 = omega arith in ap (λ (j : ℕ). unit_template_in states bound j ∷ []) e
templates_push states bound i (suc k) =
    let e : (i + 1) + k ≡ i + suc k = omega arith in
    (λ t. unit_template_in states bound i ∷ (templates_push states bound (i + 1) k t))
    ∙ ap (λ (j : ℕ). unit_template_in states bound i
    ∷ (unit_templates states bound (i + 1) k ++ unit_template_in states bound j ∷ [])) e

pub template_more : (states : ℕ) (bound : Interval) (k : ℕ) (templates all : List Template) (r : Template) →
    templates_in templates ≡ unit_templates states bound 0 k → template_view r ≡ unit_template_in states bound k →
    all ≡ templates ++ r ∷ [] → templates_in all ≡ unit_templates states bound 0 (k + 1)
template_more states bound k templates all r h own pushed_view =
    let one : suc k ≡ k + 1 = omega arith in let e : k ≡ 0 + k = omega arith in
    ap templates_in pushed_view ∙ map_push template_view templates r ∙ (λ t. h t ++ own t ∷ [])
    ∙ ap (λ (j : ℕ). unit_templates states bound 0 k ++ unit_template_in states bound j ∷ []) e
    ∙ sym (templates_push states bound 0 k) ∙ ap (unit_templates states bound 0) one

-- ---- lists that a loop makes of others
mapped_more : {A B : Type 0} (g : A → B) (xs : List A) (i : ℕ) (x : A) → i < length xs → get_or xs i x ≡ x →
    map g (take (i + 1) xs) ≡ map g (take i xs) ++ g x ∷ []
mapped_more {A} g xs i x lt is = ap (map g) (take_more xs i x lt) ∙ map_push g (take i xs) (get_or xs i x)
    ∙ ap (λ (y : A). map g (take i xs) ++ g y ∷ []) is

pub pushed_view : {X Y A : Type 0} (view : X → Y) (g : A → Y) (xs : List A) (i : ℕ) (x : A) (ys all : List X) (y : X) →
    i < length xs → get_or xs i x ≡ x → map view ys ≡ map g (take i xs) → view y ≡ g x → all ≡ ys ++ y ∷ [] →
    map view all ≡ map g (take (i + 1) xs)
pushed_view view g xs i x ys all y lt is h own p =
    ap (map view) p ∙ map_push view ys y ∙ (λ j. h j ++ own j ∷ []) ∙ sym (mapped_more g xs i x lt is)
