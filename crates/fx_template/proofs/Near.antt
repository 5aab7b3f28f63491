-- The exponents of products: what a formula asks of the numbers that its parts come to.
use Rattle.std.proofs.Common.{◌≡◌, ℕ, zero, suc, ◌+◌, ◌<◌, ◌≤◌, ◌^◌, Some, ap, arith}
use Rattle.fx_rational.specs.Dyadic.{Dyadic}
use Rattle.fx_rational.specs.Interval.{Interval}
use Rattle.fx_inequalities.specs.Formula.{Formula, Num, Sum, Difference, Product, Least, Greatest, formed, Span, point, span_sum, span_difference, span_product}
use Rattle.fx_inequalities.specs.Affine.{weighted_sum}
use Rattle.fx_formulas.specs.Judging.{Forms, FormsSpan}
use Rattle.fx_formulas.specs.Places.{IsShort, IsShortSpan}
use Rattle.fx_formulas.proofs.Shorts.{formed_places}
use Rattle.fx_template.proofs.Indexes.{of_each}
use Rattle.fx_template.specs.Combining.{HasNearProducts, HasNearSpan}

-- a product's factors
pub near_factors : (x y : Dyadic) (f g : Formula) → HasNearProducts (Product f g) → Forms (Some x) f →
    Forms (Some y) g → x.e + y.e ≤ 2 ^ 20
near_factors x y f g (_, _, near) h k =
    let a : x.e ≡ (formed f).e = ap (λ (d : Dyadic). d.e) h.1 in
    let b : y.e ≡ (formed g).e = ap (λ (d : Dyadic). d.e) k.1 in
    omega arith

-- those of intervals
pub record AreNearIntervals (v w : Interval) : Type 0 where
  pub ll : v.lo.e + w.lo.e ≤ 2 ^ 20
  pub lh : v.lo.e + w.hi.e ≤ 2 ^ 20
  pub hl : v.hi.e + w.lo.e ≤ 2 ^ 20
  pub hh : v.hi.e + w.hi.e ≤ 2 ^ 20

pub near_ends : (v w : Interval) (s t : Span) → HasNearSpan (span_product s t) → FormsSpan (Some v) s →
    FormsSpan (Some w) t → AreNearIntervals v w
near_ends v w s t near h k =
    by near.lo
    (ap (λ (i : Interval). i.lo.e) h.1) (ap (λ (i : Interval). i.hi.e) h.1) (ap (λ (i : Interval). i.lo.e) k.1)
    (ap (λ (i : Interval). i.hi.e) k.1)
  where
    by : HasNearProducts (span_product s t).lo → v.lo.e ≡ (formed s.lo).e → v.hi.e ≡ (formed s.hi).e →
        w.lo.e ≡ (formed t.lo).e → w.hi.e ≡ (formed t.hi).e → AreNearIntervals v w
    by (((_, _, ll), (_, _, lh)), ((_, _, hl), (_, _, hh))) a b c d =
        record { ll = omega arith; lh = omega arith; hl = omega arith; hh = omega arith }

-- ---- parts
pub near_sum : {s t : Span} → HasNearSpan (span_sum s t) → HasNearSpan s × HasNearSpan t
near_sum near = (record { lo = near.lo.0; hi = near.hi.0 }, record { lo = near.lo.1; hi = near.hi.1 })

pub near_difference : {s t : Span} → HasNearSpan (span_difference s t) → HasNearSpan s × HasNearSpan t
near_difference near = (record { lo = near.lo.0; hi = near.hi.0 }, record { lo = near.hi.1; hi = near.lo.1 })

-- a summand of a weighted sum
pub near_summand : (z : Span) (n j : ℕ) (c : ℕ → Formula) (v : ℕ → Span) → j < n → HasNearSpan (weighted_sum z n c v) →
    HasNearSpan (span_product (point (c j)) (v j))
near_summand z zero j c v below near = absurd (omega (arith, below))
near_summand z (suc n) j c v below near =
    let parts = near_sum {s = weighted_sum z n c v} {t = span_product (point (c n)) (v n)} near in
    of_each (λ k. HasNearSpan (span_product (point (c k)) (v k))) n j below
    (λ h. near_summand z n j c v h parts.0) parts.1

-- ---- formulas with few places have near products
pub near_places : (f : Formula) → IsShort (2 ^ 20) f → HasNearProducts f
near_places (Num d) h = tt
near_places (Sum a b) h =
    let p = h.few in (near_places a (record { few = omega arith }), near_places b (record { few = omega arith }))
near_places (Difference a b) h =
    let p = h.few in (near_places a (record { few = omega arith }), near_places b (record { few = omega arith }))
near_places (Product a b) h =
    let p = h.few in let q = formed_places a in let r = formed_places b in
    (near_places a (record { few = omega arith }), near_places b (record { few = omega arith }), omega arith)
near_places (Least a b) h =
    let p = h.few in (near_places a (record { few = omega arith }), near_places b (record { few = omega arith }))
near_places (Greatest a b) h =
    let p = h.few in (near_places a (record { few = omega arith }), near_places b (record { few = omega arith }))

pub near_span : (s : Span) → IsShortSpan (2 ^ 20) s → HasNearSpan s
near_span s h = record { lo = near_places s.lo h.lo; hi = near_places s.hi h.hi }
