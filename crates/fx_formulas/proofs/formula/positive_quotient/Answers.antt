use Rattle.std.proofs.Common.{Some, [], ◌∷◌, subst, sym}
use Rattle.fx_rational.specs.Interval.{Interval}
use Rattle.fx_inequalities.specs.Formula.{Product}
use Rattle.fx_inequalities.specs.Claim.{Below}
use Rattle.fx_formulas.specs.Judging.{FormsSpan}
use Rattle.fx_formulas.proofs.Judged.{forms_end}
use Rattle.fx_formulas.proofs.formula.positive_quotient.Goals as goal

pub returns : goal.returns
returns c = λ s t u m n h j k.
    let a =
    forms_end (record { lo = c.a.inside.lo; hi = c.a.inside.hi }) s
    (subst (λ (v : Interval). FormsSpan (Some v) s) (sym c.a.view_is) h) in
    let b =
    forms_end (record { lo = c.b.inside.lo; hi = c.b.inside.hi }) t
    (subst (λ (v : Interval). FormsSpan (Some v) t) (sym c.b.view_is) j) in
    let l =
    forms_end (record { lo = c.c.inside.lo; hi = c.c.inside.hi }) u
    (subst (λ (v : Interval). FormsSpan (Some v) u) (sym c.c.view_is) k) in
    let first = c.is_product_at_most-first.ensures u.lo t.lo s.lo n.lo m.lo l.0 b.0 a.0 in
    let second = c.is_product_at_most-second.ensures u.lo t.hi s.lo n.lo m.hi l.0 b.1 a.0 in
    let third = c.is_product_at_least-third.ensures u.hi t.lo s.hi n.hi m.lo l.1 b.0 a.1 in
    let fourth = c.is_product_at_least-fourth.ensures u.hi t.hi s.hi n.hi m.hi l.1 b.1 a.1 in
    let last = Below s.hi (Product u.hi t.lo) ∷ Below s.hi (Product u.hi t.hi) ∷ [] in
    c.and-3.ensures (Below (Product u.lo t.lo) s.lo ∷ []) (Below (Product u.lo t.hi) s.lo ∷ last) first
    (c.and-2.ensures (Below (Product u.lo t.hi) s.lo ∷ []) last second
    (c.and.ensures (Below s.hi (Product u.hi t.lo) ∷ []) (Below s.hi (Product u.hi t.hi) ∷ []) third fourth))
