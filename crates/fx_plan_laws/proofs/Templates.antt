-- Unit templates of plain lines: the sums over next states and over starts are those of one state alone.
use Rattle.std.proofs.Common.{◌≡◌, ℕ, zero, suc, ◌+◌, ◌*◌, ◌^◌, ◌<◌, ◌≤◌, ◌==◌, ltb, Bool, true, false, if◌then◌else◌, List, [], length, ◌⊎◌, ⊎_elim, pos, refl, sym, ap, subst, ◌∙◌, arith}
use Rattle.std.proofs.lemmas.Int.{ints}
use Rattle.fx_rational.specs.Dyadic.{zero_dyadic}
use Rattle.fx_rational.specs.Interval.{Interval}
use Rattle.fx_model.specs.Tree.{at}
use Rattle.fx_inequalities.specs.Formula.{Formula, Num, Product, Span, span, zero_span, span_sum, span_product, point}
use Rattle.fx_inequalities.specs.Claim.{inside}
use Rattle.fx_inequalities.specs.Affine.{Affine, Templates, unit_coef, weighted_sum, sum_of, templates_of, bound_by_templates}
use Rattle.fx_inequalities.specs.Accepted.{start_template_claims}
use Rattle.fx_inequalities.specs.Certificate.{Template, no_template}
use Rattle.fx_inequalities.specs.LawfulCertificate.{unit_vector}
use Rattle.fx_plan_laws.proofs.Claims.{AreMet}
use Rattle.fx_plan_laws.proofs.Sizes.{IsSmall, IsSmallSpan, small_number, small_sum, small_product, span_sums, span_products, small_zero, zero_interval_small}
use Rattle.fx_plan_laws.specs.CalmPlan.{units, unit_templates}
use Rattle.fx_plan_laws.proofs.Units.{small_units, inside_units}

-- the numbers 0 and 1, which are whole
one_small : IsSmall 0 1 (Num record { m = pos 1; e = 0 })
one_small =
    small_number (record { m = pos 1; e = 0 }) 0 1 (omega arith)
    (record { low = omega (arith, ints); high = omega (arith, ints) }) (omega arith)

pub unit_small : (i j : ℕ) → IsSmall 0 1 (unit_coef i j)
unit_small i j = by (i == j)
  where
    by : (t : Bool) → IsSmall 0 1 (if t then Num record { m = pos 1; e = 0 } else Num zero_dyadic)
    by true = one_small
    by false = small_zero 0 1 (omega arith)

other_small : (i j : ℕ) → (i ≡ j → ⊥) → IsSmall 0 0 (unit_coef i j)
other_small i j ne = by (i == j) refl
  where
    same : (i == j) ≡ true → i ≡ j
    same e = grind (arith, e)

    by : (t : Bool) → (i == j) ≡ t → IsSmall 0 0 (if t then Num record { m = pos 1; e = 0 } else Num zero_dyadic)
    by true e = absurd (ne (same e))
    by false e = small_zero 0 0 (omega arith)

-- a whole number k times what is small
times_small : (f k r : ℕ) (c : Formula) (s : Span) → k * r < 2 ^ 127 → IsSmall 0 k c → IsSmallSpan f r s →
    IsSmallSpan f (k * r) (span_product (point c) s)
times_small f k r c s l h g =
    let z : 0 + f ≡ f = omega arith in
    subst (λ (e : ℕ). IsSmallSpan e (k * r) (span_product (point c) s)) z
    (span_products {e = 0} {c = f} l (record { lo = h; hi = h }) g)

-- ---- sums in which all coefficients are zero
pub zero_sum : (f r n : ℕ) (z : Span) (c : ℕ → Formula) (v : ℕ → Span) (w : ℕ → ℕ) → r < 2 ^ 127 → IsSmallSpan f r z →
    ((j : ℕ) → j < n → IsSmall 0 0 (c j)) → ((j : ℕ) → j < n → IsSmallSpan f (w j) (v j)) →
    IsSmallSpan f r (weighted_sum z n c v)
zero_sum f r zero z c v w l h g k = h
zero_sum f r (suc n) z c v w l h g k =
    let a = zero_sum f r n z c v w l h (λ j lt. g j (omega (arith, lt))) (λ j lt. k j (omega (arith, lt))) in
    let none : 0 * w n ≡ 0 = omega arith in
    let b =
    subst (λ (m : ℕ). IsSmallSpan f m (span_product (point (c n)) (v n))) none
    (times_small f 0 (w n) (c n) (v n) (omega arith) (g n (omega arith)) (k n (omega arith))) in
    let same : r + 0 ≡ r = omega arith in
    subst (λ (m : ℕ). IsSmallSpan f m (span_sum (weighted_sum z n c v) (span_product (point (c n)) (v n)))) same
    (span_sums (omega (arith, l)) a b)

-- the coefficients of a template's sum over plain lines are such
pub zero_coefs : (k : ℕ) (c d : ℕ → Formula) → ((j : ℕ) → j < k → IsSmall 0 1 (c j)) →
    ((j : ℕ) → j < k → IsSmall 0 0 (d j)) → IsSmall 0 0 (sum_of k (λ j. Product (c j) (d j)))
zero_coefs zero c d h g = small_zero 0 0 (omega arith)
zero_coefs (suc k) c d h g =
    let a = zero_coefs k c d (λ j lt. h j (omega (arith, lt))) (λ j lt. g j (omega (arith, lt))) in
    let b : IsSmall 0 0 (Product (c k) (d k)) =
    small_product {e = 0} {c = 0} {m = 1} {k = 0} (omega arith) (h k (omega arith)) (g k (omega arith)) in
    small_sum {m = 0} {k = 0} (omega arith) a b

-- ---- a unit template: of all spans but one nothing is left
module _ (f i : ℕ) (c : ℕ → Formula) (unit : (j : ℕ) → c j ≡ unit_coef i j) (v : ℕ → Span) (w : ℕ → ℕ) (most : (j : ℕ) →
    w j < 2 ^ 126) where
  nothing : (n : ℕ) → n ≤ i → ((j : ℕ) → j < n → IsSmallSpan f (w j) (v j)) →
      IsSmallSpan f 0 (weighted_sum zero_span n c v)
  nothing n l h =
      zero_sum f 0 n zero_span c v w (omega arith) (zero_interval_small f 0 (omega arith))
      (λ j lt. subst (IsSmall 0 0) (sym (unit j)) (other_small i j (λ e. omega (arith, lt, l, e)))) h

  here_or_before : (n : ℕ) → i < suc n → (i ≡ n) ⊎ (i < n)
  here_or_before n l = grind (arith, l)

  pub alone : (n : ℕ) → i < n → ((j : ℕ) → j < n → IsSmallSpan f (w j) (v j)) →
      IsSmallSpan f (w i) (weighted_sum zero_span n c v)
  alone zero l h = absurd (omega (arith, l))
  alone (suc n) l h =
      ⊎_elim here (λ (lt : i < n). before (alone n lt (λ j less. h j (omega (arith, less)))) lt) (here_or_before n l)
    where
      below : (j : ℕ) → j < n → IsSmallSpan f (w j) (v j)
      below j lt = h j (omega (arith, lt))

      few : (j : ℕ) → 1 * w j < 2 ^ 127
      few j = let m = most j in omega (arith, m)

      here : i ≡ n → IsSmallSpan f (w i) (span_sum (weighted_sum zero_span n c v) (span_product (point (c n)) (v n)))
      here e =
          let a = nothing n (omega (arith, e)) below in
          let b =
          times_small f 1 (w n) (c n) (v n) (few n) (subst (IsSmall 0 1) (sym (unit n)) (unit_small i n))
          (h n (omega arith)) in
          let same : 0 + 1 * w n ≡ w n = omega arith in
          let m = few n in
          subst (λ (k : ℕ). IsSmallSpan f (w k)
          (span_sum (weighted_sum zero_span n c v) (span_product (point (c n)) (v n)))) (sym e)
          (subst (λ (k : ℕ). IsSmallSpan f k
          (span_sum (weighted_sum zero_span n c v) (span_product (point (c n)) (v n)))) same (span_sums
          (omega (arith, m)) a b))

      before : IsSmallSpan f (w i) (weighted_sum zero_span n c v) → i < n →
          IsSmallSpan f (w i) (span_sum (weighted_sum zero_span n c v) (span_product (point (c n)) (v n)))
      before a lt =
          let none : 0 * w n ≡ 0 = omega arith in
          let b =
          subst (λ (m : ℕ). IsSmallSpan f m (span_product (point (c n)) (v n))) none
          (times_small f 0 (w n) (c n) (v n) (omega arith)
          (subst (IsSmall 0 0) (sym (unit n)) (other_small i n (λ e. omega (arith, lt, e)))) (h n (omega arith))) in
          let same : w i + 0 ≡ w i = omega arith in
          let m = most i in
          subst (λ (k : ℕ). IsSmallSpan f k
          (span_sum (weighted_sum zero_span n c v) (span_product (point (c n)) (v n)))) same (span_sums
          (omega (arith, m)) a b)

-- ---- the templates of a certificate
-- unit template j
pub unit_template_at : (states i k j : ℕ) (bound : Interval) → j < k →
    at no_template (unit_templates states bound i k) j ≡ record {
      coefs = unit_vector states (i + j);
      bound = bound;
      shares = [];
    }
unit_template_at states i zero j bound lt = absurd (omega (arith, lt))
unit_template_at states i (suc k) zero bound lt =
    let e : i ≡ i + 0 = omega arith in
    ap (λ (n : ℕ). record { coefs = unit_vector states n; bound = bound; shares = [] }) e
unit_template_at states i (suc k) (suc j) bound lt =
    let e : (i + 1) + j ≡ i + suc j = omega arith in
    unit_template_at states (i + 1) k j bound (omega (arith, lt))
    ∙ ap (λ (n : ℕ). record { coefs = unit_vector states n; bound = bound; shares = [] }) e

pub unit_templates_long : (states i k : ℕ) (bound : Interval) → length (unit_templates states bound i k) ≡ k
unit_templates_long states i zero bound = refl
unit_templates_long states i (suc k) bound = ap suc (unit_templates_long states (i + 1) k bound)

unit_coef_at : (k i j : ℕ) (other : Formula) → i < k → (if ltb i k then unit_coef i j else other) ≡ unit_coef i j
unit_coef_at k i j other lt = let e : ltb i k ≡ true = grind (arith, lt) in rw e refl

-- k unit templates with one bound: from -box to box units
module _ (f k box : ℕ) (few : box < 2 ^ 126) where
  abbrev written : List Template
  written = unit_templates k (units f box) 0 k

  abbrev templates : Templates
  templates = templates_of k written

  -- starts: template i's is the box of state i
  pub start_template_met : (i : ℕ) (boxes : ℕ → Span) (w : ℕ → ℕ) → i < k → ((j : ℕ) → w j < 2 ^ 126) →
      ((j : ℕ) → j < k → IsSmallSpan f (w j) (boxes j)) → w i ≤ box → AreMet (start_template_claims k templates boxes i)
  start_template_met i boxes w lt most small fits =
      let h = alone f i (templates.coef i) (λ j. unit_coef_at k i j _ lt) boxes w most k lt small in
      subst (λ (r : Template). AreMet (inside (weighted_sum zero_span k (templates.coef i) boxes) (span r.bound)))
      (sym (unit_template_at k 0 k i (units f box) lt))
      (inside_units box (weighted_sum zero_span k (templates.coef i) boxes) (omega (arith, few)) fits h)

  -- a step: template i's is the rest of next state i, where no next state has coefficients
  pub template_met : (m i : ℕ) (form : ℕ → Affine) (rest : Affine → Span) (v : ℕ → Span) (w x : ℕ → ℕ) → i < k →
      ((j : ℕ) → w j < 2 ^ 126) → ((j : ℕ) → j < k → IsSmallSpan f (w j) (rest (form j))) →
      ((j s : ℕ) → s < k → IsSmall 0 0 ((form s).coef j)) →
      ((j : ℕ) → j < m → IsSmallSpan f (x j) (v j)) → w i ≤ box →
      AreMet (inside (bound_by_templates m k (λ j. sum_of k (λ s. Product (templates.coef i s) ((form s).coef j)))
      (weighted_sum zero_span k (templates.coef i) (λ s. rest (form s))) v templates
      (at no_template written i).shares) (templates.bound i))
  template_met m i form rest v w x lt most small coefs spans fits =
      let g = λ (j : ℕ). sum_of k (λ s. Product (templates.coef i s) ((form s).coef j)) in
      let z = weighted_sum zero_span k (templates.coef i) (λ s. rest (form s)) in
      let unit = λ (j : ℕ). unit_coef_at k i j (Num (at zero_dyadic (at no_template written i).coefs j)) lt in
      let h : IsSmallSpan f (w i) z = alone f i (templates.coef i) unit (λ s. rest (form s)) w most k lt small in
      let none : (j : ℕ) → IsSmall 0 0 (g j) =
      λ j. zero_coefs k (templates.coef i) (λ s. (form s).coef j)
      (λ s l. subst (IsSmall 0 1) (sym (unit s)) (unit_small i s)) (λ s l. coefs j s l) in
      let wi = most i in
      let a = zero_sum f (w i) m z g v x (omega (arith, wi)) h (λ j l. none j) spans in
      let b =
      zero_sum f (w i) k (weighted_sum z m g v) (λ j. g (m + j)) templates.bound (λ j. box) (omega (arith, wi)) a
      (λ j l. none (m + j)) bounds in
      subst (λ (r : Template). AreMet (inside (bound_by_templates m k g z v templates r.shares) (span r.bound)))
      (sym (unit_template_at k 0 k i (units f box) lt))
      (inside_units box (weighted_sum (weighted_sum z m g v) k (λ j. g (m + j)) templates.bound)
      (omega (arith, few)) fits b)
    where
      bounds : (j : ℕ) → j < k → IsSmallSpan f box (templates.bound j)
      bounds j l =
          subst (λ (r : Template). IsSmallSpan f box (span r.bound)) (sym (unit_template_at k 0 k j (units f box) l))
          (small_units f box (omega (arith, few)))
