-- No condition of a node has a fault.
use Rattle.std.proofs.Common.{◌≡◌, ℕ, ◌+◌, ◌-◌, ◌^◌, ◌<◌, ◌≤◌, ltb, Bool, true, false, if◌then◌else◌, List, [], length, map, None, ℤ, pos, ◌-ℤ◌, refl, sym, ap, ap₂, subst, ◌∙◌, arith, pow-add}
use Rattle.std.specs.Prelude.{All}
use Rattle.std.proofs.Common.{int_eq}
use Rattle.std.proofs.lemmas.Int.{ints}
use Rattle.std.proofs.lemmas.List.{get_or-map}
use Rattle.std.proofs.lemmas.Bool.{eq-eqb}
use Rattle.fx_rational.specs.Interval.{Interval}
use Rattle.fx_model.specs.Tree.{at}
use Rattle.fx_model.specs.Function.{Function}
use Rattle.fx_model.specs.Machine.{Round}
use Rattle.fx_model.specs.Nodes.{Node, Input, State, Const, Neg, Add, Sub, Mul, Div, Copy}
use Rattle.fx_inequalities.specs.Formula.{Span, span, zero_span, span_sum, span_difference, span_product, roundoff_at}
use Rattle.fx_inequalities.specs.Claim.{Claim, inside}
use Rattle.fx_inequalities.specs.Certificate.{Certificate, NodeLine, no_line, no_template}
use Rattle.fx_inequalities.specs.Affine.{range_at, error_at}
use Rattle.fx_inequalities.specs.Condition.{first_fault_of}
use Rattle.fx_inequalities.specs.OperationSpans.{product_error}
use Rattle.fx_inequalities.specs.NodeConditions.{no_input, same_shape, same_point, state_point, shape_conditions, node_conditions, divisor_claims, plain_range_claims, plain_error_claims, word_claims}
use Rattle.fx_flat.specs.InPlace.{IsInPlace}
use Rattle.fx_plan_laws.specs.Narrow.{IsNarrowInput, IsNarrowNode}
use Rattle.fx_plan_laws.proofs.Sizes.{AddsSizes, small_sum, sums_add, differences_add}
use Rattle.fx_plan_laws.proofs.Claims.{AreMet, none_met}
use Rattle.fx_plan_laws.proofs.Words.{words_met}
use Rattle.fx_plan_laws.proofs.Conditions.{same_whole, node_met, shape_met}
use Rattle.fx_plan_laws.specs.Bounds.{Bound, no_bound, state_bound, sum_bound, product_bound}
use Rattle.fx_plan_laws.specs.Calm.{Numbers}
use Rattle.fx_plan_laws.proofs.Factors.{IsRoomyInput}
use Rattle.fx_plan_laws.specs.CalmPlan.{node_bound, calm_code, units, calm_line}
use Rattle.fx_plan_laws.proofs.Flattened.{IsLimited}
use Rattle.fx_plan_laws.proofs.Folded.{IsNodeBound}
use Rattle.fx_plan_laws.proofs.NodeClaims.{IsSpacious, limit_few, same_inside, turned_inside, copied_inside, added_inside, added_error_inside, product_inside, product_error_inside, const_range, const_error, input_range, input_error}
use Rattle.fx_plan_laws.proofs.Units.{small_units}

-- the range and the error of a bound, at the point f
abbrev pub bound_range : ℕ → Bound → Span
bound_range f b = span (units f b.r)

abbrev pub bound_error : ℕ → Bound → Span
bound_error f b = span (units f b.e)

-- WordTooSmall
word_met : (n : ℕ) (c : Numbers) (b : Bound) → IsSpacious n c → IsLimited c b →
    AreMet (word_claims n (pos c.f) (bound_range c.f b) (bound_error c.f b))
word_met n c b space l =
    let lf = limit_few n c space in let r = l.r in let e = l.e in let w = space.width in let m = space.most in
    let small_range = small_units c.f b.r (omega (arith, r, lf)) in
    let small_error = small_units c.f b.e (omega (arith, e, lf)) in
    let some : b.r + b.e < 2 ^ 127 = omega (arith, r, e, lf) in
    let half : b.r + b.e ≤ 2 ^ (n - 2) = let d = pow-add 2 (c.m + c.f) 1 in
    let q : 2 ^ (n - 2) ≡ 2 ^ ((c.m + c.f) + 1) = ap (λ (k : ℕ). 2 ^ k) (omega (arith, w)) in
    omega (arith, r, e, d, q) in
    words_met n c.f 0 (b.r + b.e) (pos c.f) (omega (arith, ints)) (omega (arith, w)) (omega (arith, w, m))
    (let z : n - 2 + 0 ≡ n - 2 = omega arith in
    subst (λ (j : ℕ). b.r + b.e ≤ 2 ^ j) (sym z) half) _ _ (small_sum some small_range.lo small_error.lo)
    (small_sum some small_range.hi small_error.hi)

-- ---- one node
-- no quotient
abbrev pub IsUndivided : Node → Type 0
IsUndivided (Div a b) = ⊥
IsUndivided node = Unit {0}

-- what the certificate holds: lines by bounds, and unit templates with the state's boxes
pub record HasBounds (fn : Function) (c : Numbers) (bs : List Bound) (cert : Certificate) : Type 0 where
  pub lines : cert.lines ≡ map (calm_line c.f) bs
  pub templates : (k : ℕ) → k < length fn.states → (at no_template cert.templates k).bound ≡ units c.f (state_bound c).r
  pub error_templates : (k : ℕ) → k < length fn.states →
      (at no_template cert.error_templates k).bound ≡ units c.f (state_bound c).e

-- the claims of a product's range, and of its error
abbrev range_of_product : Span → Span → Span → List Claim
range_of_product a b g = inside (span_product a b) g

abbrev error_of_product : Round → ℕ → Span → Span → Span → Span → Span → List Claim
error_of_product r f ga ha gb hb h = inside (product_error r (pos f) f ga gb ha hb) h

module _ (n : ℕ) (fn : Function) (c : Numbers) (bs : List Bound) (cert : Certificate) (space : IsSpacious n c)
    (has : HasBounds fn c bs cert) (limited : (a : ℕ) → a < length bs → IsLimited c (at no_bound bs a))
    (narrow : All IsNarrowInput fn.inputs) (roomy : (k : ℕ) → k < length fn.inputs →
    IsRoomyInput c (at no_input fn.inputs k)) (k : ℕ) (long : k < length bs) where
  line_at : (a : ℕ) → a < k → at no_line cert.lines a ≡ calm_line c.f (at no_bound bs a)
  line_at a lt = ap (λ (ls : List NodeLine). at no_line ls a) has.lines
      ∙ get_or-map (calm_line c.f) bs a no_bound no_line (omega (arith, lt, long))

  range_is : (a : ℕ) → a < k → range_at cert.lines a ≡ bound_range c.f (at no_bound bs a)
  range_is a lt = ap (λ (l : NodeLine). span l.range) (line_at a lt)

  error_is : (a : ℕ) → a < k → error_at cert.lines a ≡ bound_error c.f (at no_bound bs a)
  error_is a lt = ap (λ (l : NodeLine). span l.error) (line_at a lt)

  before : (a : ℕ) → a < k → IsLimited c (at no_bound bs a)
  before a lt = limited a (omega (arith, lt, long))

  -- a sum or a difference
  added_range : (op : Span → Span → Span) → AddsSizes op → (a b : ℕ) → a < k → b < k →
      IsLimited c (sum_bound (at no_bound bs a) (at no_bound bs b)) →
      AreMet (inside (op (range_at cert.lines a) (range_at cert.lines b))
      (bound_range c.f (sum_bound (at no_bound bs a) (at no_bound bs b))))
  added_range op adds a b p q l =
      let x = at no_bound bs a in let y = at no_bound bs b in
      subst AreMet (sym (ap₂ (λ (s t : Span). inside (op s t) (bound_range c.f (sum_bound x y))) (range_is a p)
      (range_is b q))) (added_inside n c space op adds x.r y.r l.r)

  added_error : (op : Span → Span → Span) → AddsSizes op → (a b : ℕ) → a < k → b < k →
      IsLimited c (sum_bound (at no_bound bs a) (at no_bound bs b)) →
      (let z = roundoff_at (pos c.f) (pos 0) in
      AreMet (inside (op (span_sum (op (error_at cert.lines a) (error_at cert.lines b)) z) z)
      (bound_error c.f (sum_bound (at no_bound bs a) (at no_bound bs b)))))
  added_error op adds a b p q l =
      let x = at no_bound bs a in let y = at no_bound bs b in let z = roundoff_at (pos c.f) (pos 0) in
      subst AreMet (sym (ap₂ (λ (s t : Span). inside (op (span_sum (op s t) z) z) (bound_error c.f (sum_bound x y)))
      (error_is a p) (error_is b q))) (added_error_inside n c space op adds x.e y.e l.e)

  range_met : (node : Node) → IsInPlace (length fn.inputs) (length fn.states) k node →
      IsNarrowNode node × IsUndivided node → IsLimited c (node_bound c fn.inputs bs node) →
      AreMet (plain_range_claims fn cert node (bound_range c.f (node_bound c fn.inputs bs node)))
  range_met (Input j) o w l = input_range n c space (at no_input fn.inputs j) (narrow j no_input o.1) (roomy j o.1) l.r
  range_met (State j) o w l =
      subst (λ (i : Interval). AreMet (inside (span i) (bound_range c.f (state_bound c)))) (sym (has.templates j o.1))
      (same_inside n c space (state_bound c).r l.r)
  range_met (Const x) o w l = const_range n c space x w.0 l
  range_met (Neg a) o w l =
      subst (λ (s : Span). AreMet (inside (span_difference zero_span s) (bound_range c.f (at no_bound bs a))))
      (sym (range_is a o.1)) (turned_inside n c space (at no_bound bs a).r l.r)
  range_met (Add a b) o w l = added_range span_sum sums_add a b o.1 o.2 l
  range_met (Sub a b) o w l = added_range span_difference differences_add a b o.1 o.2 l
  range_met (Mul a b) o w l =
      let x = at no_bound bs a in let y = at no_bound bs b in
      subst (λ (s : Span). AreMet (range_of_product s (range_at cert.lines b) (bound_range c.f (product_bound c.f x y))))
      (sym (range_is a o.1))
      (subst (λ (s : Span). AreMet (range_of_product (bound_range c.f x) s (bound_range c.f (product_bound c.f x y))))
      (sym (range_is b o.2)) (product_inside n c space x.r y.r (before a o.1).r (before b o.2).r l.r))
  range_met (Div a b) o w l = absurd w.1
  range_met (Copy a) o w l =
      subst (λ (s : Span). AreMet (inside s (bound_range c.f (at no_bound bs a)))) (sym (range_is a o.1))
      (same_inside n c space (at no_bound bs a).r l.r)

  error_met : (r : Round) (node : Node) → IsInPlace (length fn.inputs) (length fn.states) k node →
      IsNarrowNode node × IsUndivided node → IsLimited c (node_bound c fn.inputs bs node) →
      (let x = node_bound c fn.inputs bs node in
      AreMet (plain_error_claims fn cert node (calm_code r fn c.f node) (pos c.f) (bound_range c.f x)
      (bound_error c.f x)))
  error_met r (Input j) o w l =
      input_error n c space (at no_input fn.inputs j) (narrow j no_input o.1) (roomy j o.1) l.e
  error_met r (State j) o w l =
      subst (λ (i : Interval). AreMet (inside (span i) (bound_error c.f (state_bound c))))
      (sym (has.error_templates j o.1)) (same_inside n c space (state_bound c).e l.e)
  error_met r (Const x) o w l = const_error n c space x w.0 l
  error_met r (Neg a) o w l =
      subst (λ (s : Span). AreMet (inside (span_difference zero_span s) (bound_error c.f (at no_bound bs a))))
      (sym (error_is a o.1)) (turned_inside n c space (at no_bound bs a).e l.e)
  error_met r (Add a b) o w l = added_error span_sum sums_add a b o.1 o.2 l
  error_met r (Sub a b) o w l = added_error span_difference differences_add a b o.1 o.2 l
  error_met r (Mul a b) o w l =
      let x = at no_bound bs a in let y = at no_bound bs b in let z = product_bound c.f x y in
      subst (λ (m : NodeLine). AreMet
      (error_of_product r c.f (span m.range) (span m.error) (range_at cert.lines b) (error_at cert.lines b)
      (bound_error c.f z))) (sym (line_at a o.1))
      (subst (λ (m : NodeLine). AreMet
      (error_of_product r c.f (bound_range c.f x) (bound_error c.f x) (span m.range) (span m.error) (bound_error c.f z)))
      (sym (line_at b o.2))
      (product_error_inside n c space r x.r y.r x.e y.e (before a o.1).r (before b o.2).r (before a o.1).e
      (before b o.2).e l.e))
  error_met r (Div a b) o w l = absurd w.1
  error_met r (Copy a) o w l =
      subst (λ (s : Span). AreMet (inside (span_sum s (roundoff_at (pos c.f) (pos 0))) (bound_error c.f (at no_bound bs a))))
      (sym (error_is a o.1)) (copied_inside n c space (at no_bound bs a).e l.e)

-- ---- all conditions of one node
no_divisor : (cert : Certificate) (node : Node) → IsUndivided node → divisor_claims cert.lines node ≡ []
no_divisor cert (Input j) m = refl
no_divisor cert (State j) m = refl
no_divisor cert (Const c) m = refl
no_divisor cert (Neg a) m = refl
no_divisor cert (Add a b) m = refl
no_divisor cert (Sub a b) m = refl
no_divisor cert (Mul a b) m = refl
no_divisor cert (Div a b) m = absurd m
no_divisor cert (Copy a) m = refl

-- Form, Divisor, Range, Error and WordTooSmall
pub node_faults : (n : ℕ) (r : Round) (fn : Function) (c : Numbers) (bs : List Bound) (cert : Certificate) (ps : List ℤ)
    (k : ℕ) (node : Node) (x : Bound) → IsSpacious n c → HasBounds fn c bs cert →
    ((a : ℕ) → a < length bs → IsLimited c (at no_bound bs a)) →
    All IsNarrowInput fn.inputs → ((k : ℕ) → k < length fn.inputs → IsRoomyInput c (at no_input fn.inputs k)) →
    at (pos 0) ps k ≡ pos c.f → IsNodeBound (length fn.states) c fn.inputs bs k node x → IsNarrowNode node →
    IsUndivided node →
    first_fault_of (node_conditions fn n ps cert k node (calm_code r fn c.f node)) ≡ None
node_faults n r fn c bs cert ps k node x space has limited narrow roomy point h w whole =
    let l : at no_line cert.lines k ≡ calm_line c.f x = ap (λ (ls : List NodeLine). at no_line ls k) has.lines
    ∙ get_or-map (calm_line c.f) bs k no_bound no_line h.below ∙ ap (calm_line c.f) h.at in
    let own : IsLimited c x = subst (IsLimited c) h.at (limited k h.below) in
    let fine = subst (IsLimited c) h.is own in
    let range = range_met n fn c bs cert space has limited narrow roomy k h.below node h.ordered (w, whole) fine in
    let error = error_met n fn c bs cert space has limited narrow roomy k h.below r node h.ordered (w, whole) fine in
    let no_div : AreMet (divisor_claims cert.lines node) = subst AreMet (sym (no_divisor cert node whole)) none_met in
    let back = sym h.is in
    node_met n fn cert ps k node (calm_code r fn c.f node) (calm_line c.f x) (pos c.f) l refl point no_div
    (subst (λ (y : Bound). AreMet (plain_range_claims fn cert node (bound_range c.f y))) back range)
    (subst (λ (y : Bound). AreMet
    (plain_error_claims fn cert node (calm_code r fn c.f node) (pos c.f) (bound_range c.f y)
    (bound_error c.f y))) back error) (word_met n c x space own)

-- ---- Shape and Shift
shaped : (r : Round) (fn : Function) (f : ℕ) (node : Node) → same_shape node (calm_code r fn f node) ≡ true
shaped r fn f (Input j) = eq-eqb j j refl
shaped r fn f (State j) = eq-eqb j j refl
shaped r fn f (Const c) = refl
shaped r fn f (Neg a) = eq-eqb a a refl
shaped r fn f (Add a b) = let p = eq-eqb a a refl in let q = eq-eqb b b refl in rw (p, q) refl
shaped r fn f (Sub a b) = let p = eq-eqb a a refl in let q = eq-eqb b b refl in rw (p, q) refl
shaped r fn f (Mul a b) = let p = eq-eqb a a refl in let q = eq-eqb b b refl in rw (p, q) refl
shaped r fn f (Div a b) = let p = eq-eqb a a refl in let q = eq-eqb b b refl in rw (p, q) refl
shaped r fn f (Copy a) = eq-eqb a a refl

-- all points are f
pointed : (r : Round) (fn : Function) (i s f k : ℕ) (ps : List ℤ) (node : Node) → IsInPlace i s k node →
    ((a : ℕ) → a < k → at (pos 0) ps a ≡ pos f) → same_point ps (calm_code r fn f node) ≡ true
pointed r fn i s f k ps (Input j) o e = refl
pointed r fn i s f k ps (State j) o e = refl
pointed r fn i s f k ps (Const c) o e = refl
pointed r fn i s f k ps (Neg a) o e = refl
pointed r fn i s f k ps (Add a b) o e = same_whole _ _ (ap (λ (z : ℤ). z -ℤ pos 0) (e a o.1 ∙ sym (e b o.2)))
pointed r fn i s f k ps (Sub a b) o e = same_whole _ _ (ap (λ (z : ℤ). z -ℤ pos 0) (e a o.1 ∙ sym (e b o.2)))
pointed r fn i s f k ps (Mul a b) o e = refl
pointed r fn i s f k ps (Div a b) o e = refl
pointed r fn i s f k ps (Copy a) o e = refl

states_pointed : (i next k f : ℕ) (ps : List ℤ) → at (pos 0) ps k ≡ pos f →
    (next ≤ k → at (pos 0) ps (i + (k - next)) ≡ pos f) → state_point i next ps k ≡ true
states_pointed i next k f ps p q = by (ltb k next) refl
  where
    behind : ltb k next ≡ false → next ≤ k
    behind e = grind (arith, e)

    by : (t : Bool) → ltb k next ≡ t →
        (if t then true else int_eq (at (pos 0) ps k) (at (pos 0) ps (i + (k - next)))) ≡ true
    by true e = refl
    by false e = same_whole _ _ (p ∙ sym (q (behind e)))

pub shape_faults : (r : Round) (fn : Function) (i s next f k : ℕ) (ps : List ℤ) (node : Node) → IsInPlace i s k node →
    ((a : ℕ) → a ≤ k → at (pos 0) ps a ≡ pos f) → (next ≤ k → i + (k - next) ≤ k) →
    first_fault_of (shape_conditions i next ps k node (calm_code r fn f node)) ≡ None
shape_faults r fn i s next f k ps node o e within =
    shape_met i next k ps node (calm_code r fn f node) (shaped r fn f node)
    (pointed r fn i s f k ps node o (λ a l. e a (omega (arith, l))))
    (states_pointed i next k f ps (e k (omega arith)) (λ l. e (i + (k - next)) (within l)))
