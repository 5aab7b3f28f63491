-- Shares of templates, one more at the end a turn, and coefficients in an array.
use Rattle.std.proofs.Common.{◌≡◌, inl, inr, ℕ, zero, suc, ◌+◌, ◌-◌, ◌==◌, ◌<◌, ◌≤◌, pos, Bool, if◌then◌else◌, List, [], ◌∷◌, ◌++◌, length, take, drop, set, get_or, replicate, Option, None, refl, ap, sym, ◌∙◌, subst, arith, rules, tests, true, false}
use Rattle.std.proofs.Math.Seq.{take-suc}
use Rattle.std.proofs.lemmas.Bool.{cases_lt}
use Rattle.std.specs.Prelude.{ltb}
use Rattle.std.proofs.lemmas.List.{map-append, get_or-drop, get_or-set_same, get_or-set_other, length-drop, length-replicate, take_all}
use Rattle.fx_rational.specs.Dyadic.{Dyadic, zero_dyadic}
use Rattle.fx_model.specs.Tree.{at}
use Rattle.fx_inequalities.specs.Formula.{Formula, Num, Sum, Difference, Product, Span, point, span_sum, span_product}
use Rattle.fx_inequalities.specs.Certificate.{Share, Template, no_template}
use Rattle.fx_inequalities.specs.Affine.{Templates, left_over, templates_of, shared_sum, sum_of, unit_coef}
use Rattle.fx_formulas.specs.Judging.{Forms}
use Rattle.fx_formulas.specs.Places.{IsShort}
use Rattle.fx_formulas.proofs.Shorts.{short_difference, short_product, short_sum}
use Rattle.fx_cert.specs.declared.certificate.Share as written
use Rattle.fx_cert.specs.CertificateView.{share_of, shares_of}
use Rattle.fx_template_conditions.specs.Coefficients.{AreFormed, AreLeft, AreUnits}
use Rattle.fx_conditions.specs.Limits.{AreShortTemplates, AreShortShares}
use Rattle.fx_conditions.proofs.Shorts.{template_coef_short}

-- one share more at the end
pub shared_more : (z : Span) (templates : Templates) (xs : List Share) (s : Share) →
    shared_sum z templates (xs ++ s ∷ [])
    ≡ span_sum (shared_sum z templates xs) (span_product (point (Num s.times)) (templates.bound s.template))
shared_more z templates [] s = refl
shared_more z templates (x ∷ xs) s =
    shared_more (span_sum z (span_product (point (Num x.times)) (templates.bound x.template))) templates xs s

pub left_more : (c : Formula) (templates : Templates) (xs : List Share) (s : Share) (k : ℕ) →
    left_over c templates (xs ++ s ∷ []) k
    ≡ Difference (left_over c templates xs k) (Product (Num s.times) (templates.coef s.template k))
left_more c templates [] s k = refl
left_more c templates (x ∷ xs) s k =
    left_more (Difference c (Product (Num x.times) (templates.coef x.template k))) templates xs s k

-- shares up to the next one
pub next_shares : (xs : List written.Share) (n : ℕ) (s : written.Share) → s ≡ get_or xs n s → n < length xs →
    shares_of (take (n + 1) xs) ≡ shares_of (take n xs) ++ share_of s ∷ []
next_shares xs n s is lt =
    let next : suc n ≡ n + 1 = omega arith in
    ap (λ (m : ℕ). shares_of (take m xs)) (sym next) ∙ ap shares_of (take-suc xs n s lt)
    ∙ map-append share_of (take n xs) (get_or xs n s ∷ [])
    ∙ ap (λ (x : written.Share). shares_of (take n xs) ++ share_of x ∷ []) (sym is)

-- each of short shares is short
each_short : (xs : List written.Share) (n : ℕ) (d : written.Share) → AreShortShares (shares_of xs) →
    n < length xs → IsShort 96 (Num (get_or xs n d).times)
each_short [] n d h lt = absurd (omega arith)
each_short (x ∷ xs) zero d h lt = h.0
each_short (x ∷ xs) (suc n) d h lt = each_short xs n d h.1 (omega arith)

pub share_short : (xs : List written.Share) (n : ℕ) (s : written.Share) → s ≡ get_or xs n s →
    AreShortShares (shares_of xs) → n < length xs → IsShort 96 (Num s.times)
share_short xs n s is h lt = subst (λ (x : written.Share). IsShort 96 (Num x.times)) (sym is) (each_short xs n s h lt)

-- what shares leave of a short coefficient is short
pub left_short : (templates : List Template) → AreShortTemplates templates → (states : ℕ) (shares : List Share) →
    AreShortShares shares → (k : ℕ) (c : Formula) → IsShort 192 c →
    IsShort 192 (left_over c (templates_of states templates) shares k)
left_short templates h states [] s k c short = short
left_short templates h states (x ∷ xs) s k c short =
    left_short templates h states xs s.1 k
    (Difference c (Product (Num x.times) ((templates_of states templates).coef x.template k)))
    (short_difference short (short_product s.0 (template_coef_short templates h states x.template k)))

-- one number more
pub one_number_more : (r : Option Dyadic) (n : ℕ) (c : ℕ → Formula) → Forms r (Sum (sum_of n c) (c n)) →
    Forms r (sum_of (n + 1) c)
one_number_more r n c h = let next : suc n ≡ n + 1 = omega arith in subst (λ (m : ℕ). Forms r (sum_of m c)) next h

-- a sum of short numbers is short
pub sum_short : (n : ℕ) (c : ℕ → Formula) (p : ℕ) → ((k : ℕ) → IsShort p (c k)) → IsShort p (sum_of n c)
sum_short zero c p h = record { few = omega arith }
sum_short (suc n) c p h = short_sum (sum_short n c p h) (h n)

-- ---- an array of coefficients, one more at its end
pub set_formed : (xs : List (Option Dyadic)) (n : ℕ) (c : ℕ → Formula) (x : Option Dyadic) → AreFormed xs n c →
    n < length xs → Forms x (c n) → IsShort 192 (c n) → AreFormed (set xs n x) (n + 1) c
set_formed xs n c x h lt f s = record { each = each; short = short }
  where
    each : (j : ℕ) → j < n + 1 → Forms (at None (set xs n x) j) (c j)
    each j le = elim (cases_lt j n) [
      | inl less ↦ subst (λ o. Forms o (c j)) (sym (get_or-set_other xs n j x None (omega arith))) (h.each j less)
      | inr more ↦ (let same : n ≡ j = omega arith in
          subst (λ (k : ℕ). Forms (at None (set xs n x) k) (c k)) same
          (subst (λ o. Forms o (c n)) (sym (get_or-set_same xs n x None lt)) f))
    ]

    short : (j : ℕ) → j < n + 1 → IsShort 192 (c j)
    short j le = elim (cases_lt j n) [
      | inl less ↦ h.short j less
      | inr more ↦ (let same : n ≡ j = omega arith in subst (λ (k : ℕ). IsShort 192 (c k)) same s)
    ]

zeros_at : (m k : ℕ) → at zero_dyadic (replicate m zero_dyadic) k ≡ zero_dyadic
zeros_at zero k = refl
zeros_at (suc m) zero = refl
zeros_at (suc m) (suc k) = zeros_at m k

-- 1 at its own place among so many zeros
pub unit_among : (m i k : ℕ) (z : Dyadic) → z ≡ zero_dyadic → i < m →
    Num (at zero_dyadic (set (replicate m z) i (record { m = pos 1; e = 0 })) k) ≡ unit_coef i k
unit_among m i k z none room =
    subst (λ (d : Dyadic). Num (at zero_dyadic (set (replicate m d) i one) k) ≡ unit_coef i k) (sym none)
    (by (i == k) refl)
  where
    one : Dyadic
    one = record { m = pos 1; e = 0 }

    by : (t : Bool) → (i == k) ≡ t →
        Num (at zero_dyadic (set (replicate m zero_dyadic) i one) k) ≡ (if t then Num one else Num zero_dyadic)
    by true e =
        let same : i ≡ k = grind (arith, e) in
        subst (λ (j : ℕ). Num (at zero_dyadic (set (replicate m zero_dyadic) i one) j) ≡ Num one) same
        (ap Num (get_or-set_same (replicate m zero_dyadic) i one zero_dyadic
        (omega (arith, length-replicate m zero_dyadic))))
    by false e =
        ap Num (get_or-set_other (replicate m zero_dyadic) i k one zero_dyadic (grind (arith, e)) ∙ zeros_at m k)

-- from so many places before that 1 on
same_place : (i k : ℕ) → i < 96 → unit_coef 95 (95 - i + k) ≡ unit_coef i k
same_place i k few = by (i == k) (95 == 95 - i + k) refl refl
  where
    by : (s t : Bool) → (i == k) ≡ s → (95 == 95 - i + k) ≡ t →
        (if t then Num (record { m = pos 1; e = 0 }) else Num zero_dyadic)
        ≡ (if s then Num (record { m = pos 1; e = 0 }) else Num zero_dyadic)
    by true true d e = refl
    by false false d e = refl
    by true false d e = absurd (grind (arith, d, e, few))
    by false true d e = absurd (grind (arith, d, e, few))

pub unit_from : (xs : List Dyadic) (i k : ℕ) → AreUnits xs → i < 96 →
    Num (at zero_dyadic (take (length xs - (95 - i)) (drop (95 - i) xs)) k) ≡ unit_coef i k
unit_from xs i k units few =
    let n = 95 - i in
    ap (λ (ys : List Dyadic). Num (at zero_dyadic ys k))
    (take_all (length xs - n) (drop n xs) (omega (arith, length-drop n xs)))
    ∙ ap Num (get_or-drop n xs k zero_dyadic) ∙ units (n + k) ∙ same_place i k few

-- what stands for a unit template, and for any other
pub unit_template_is : (rs : List Template) (n i k : ℕ) → i < n → (templates_of n rs).coef i k ≡ unit_coef i k
unit_template_is rs n i k lt = let e : ltb i n ≡ true = search (rules, tests) in rw e refl

pub other_template_is : (rs : List Template) (n i k : ℕ) → n ≤ i →
    (templates_of n rs).coef i k ≡ Num (at zero_dyadic (at no_template rs i).coefs k)
other_template_is rs n i k le = let e : ltb i n ≡ false = search (rules, tests) in rw e refl

pub all_formed : (xs : List (Option Dyadic)) (n m : ℕ) (c : ℕ → Formula) → n ≡ m → AreFormed xs n c → AreFormed xs m c
all_formed xs n m c e h = subst (λ (k : ℕ). AreFormed xs k c) e h

-- ---- what is left of the coefficients behind the first i, from which a share is taken one after the other
pub set_left : (xs : List (Option Dyadic)) (i n k : ℕ) (c d : ℕ → Formula) (x : Option Dyadic) → i + k < length xs →
    AreLeft xs i k d → ((j : ℕ) → k ≤ j → j < n → Forms (at None xs (i + j)) (c j)) → Forms x (d k) →
    AreLeft (set xs (i + k) x) i (k + 1) d ×
    ((j : ℕ) → k + 1 ≤ j → j < n → Forms (at None (set xs (i + k) x) (i + j)) (c j))
set_left xs i n k c d x room taken rest f = (now, later)
  where
    now : (j : ℕ) → j < k + 1 → Forms (at None (set xs (i + k) x) (i + j)) (d j)
    now j lt = elim (cases_lt j k) [
      | inl less ↦ subst (λ o. Forms o (d j)) (sym (get_or-set_other xs (i + k) (i + j) x None (omega arith)))
          (taken j less)
      | inr more ↦ (let same : k ≡ j = omega arith in
          subst (λ (m : ℕ). Forms (at None (set xs (i + k) x) (i + m)) (d m)) same
          (subst (λ o. Forms o (d k)) (sym (get_or-set_same xs (i + k) x None room)) f))
    ]

    later : (j : ℕ) → k + 1 ≤ j → j < n → Forms (at None (set xs (i + k) x) (i + j)) (c j)
    later j le lt =
        subst (λ o. Forms o (c j)) (sym (get_or-set_other xs (i + k) (i + j) x None (omega arith)))
        (rest j (omega arith) lt)
