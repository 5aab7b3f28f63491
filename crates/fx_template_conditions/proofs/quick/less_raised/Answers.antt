use Rattle.std.proofs.Common.{rules, ◌≡◌, ◌+◌, ◌-◌, ◌^◌, ◌≤◌, ℕ, ℤ, pos, ◌*ℤ◌, ◌-ℤ◌, unsigned_abs, IsTrue, FitsSigned, refl, ap, subst, ◌∙◌, arith}
use Rattle.std.specs.Int.{w128}
use Rattle.fx_rational.specs.Dyadic.{Dyadic, dyadic, dyadic_product, fits_128}
use Rattle.fx_rational.proofs.Fits.{fits_is}
use Rattle.fx_template_conditions.specs.ShortTimes.{AreTimes}
use Rattle.fx_template_conditions.proofs.Raised.{raised_product, factors_fit, near_fits, room_left}
use Rattle.fx_template_conditions.proofs.Taken.{Taken, product_taken, whole_fits, less_fits, less_is}
use Rattle.fx_template_conditions.proofs.quick.less_raised.Goals as goal

-- the product has no more places
few : (c : goal.After-new) (a : Dyadic) → AreTimes c.args.times a → a.e + c.args.b.e ≤ c.args.left.e
few c a is =
    let t = is.exponent in let b = ap (λ (d : Dyadic). d.e) c.b.view_is in
    let l = ap (λ (d : Dyadic). d.e) c.left.view_is in
    omega (arith, t, b, l, c.if-left-places.false)

-- both factors are short
whole : (c : goal.After-new) (a : Dyadic) → AreTimes c.args.times a → IsTrue (fits_128 (a.m *ℤ c.args.b.m))
whole c a is =
    let own = room_left (unsigned_abs c.args.times.mantissa) 0 c.args.times.room (omega arith) c.requires.near in
    let near : unsigned_abs a.m ≤ 2 ^ 62 =
    subst (λ (m : ℤ). unsigned_abs m ≤ 2 ^ 62) is.mantissa (omega (arith, own)) in
    let small : unsigned_abs c.args.b.m ≤ 2 ^ 64 = search rules in
    factors_fit a.m c.args.b.m near small

-- what is taken away is their product, raised
taken : (c : goal.After-new) (a : Dyadic) → AreTimes c.args.times a →
    c.in_ok-taken.taken ≡ (a.m *ℤ c.args.b.m) *ℤ pos (2 ^ (c.args.left.e - (a.e + c.args.b.e)))
taken c a is =
    let q : c.in_ok-factor.factor ≡ c.args.times.mantissa *ℤ pos
    (2 ^ (c.args.left.e - (c.args.times.exponent + c.args.b.e))) = search rules in
    let own : c.in_ok-factor.factor ≡ a.m *ℤ pos (2 ^ (c.args.left.e - (a.e + c.args.b.e))) =
    q ∙ ap (λ (m : ℤ). m *ℤ pos (2 ^ (c.args.left.e - (c.args.times.exponent + c.args.b.e)))) is.mantissa
    ∙ ap (λ (e : ℕ). a.m *ℤ pos (2 ^ (c.args.left.e - (e + c.args.b.e)))) is.exponent in
    let t : c.in_ok-taken.taken ≡ c.in_ok-factor.factor *ℤ c.args.b.m = search rules in
    raised_product a.m c.args.b.m c.in_ok-factor.factor c.in_ok-taken.taken
    (2 ^ (c.args.left.e - (a.e + c.args.b.e))) own t

is_taken : (c : goal.After-new) (a : Dyadic) → AreTimes c.args.times a →
    Taken c.args.left (dyadic_product a c.args.b) c.in_ok-taken.taken
is_taken c a is =
    product_taken c.args.left a c.args.b (a.m *ℤ c.args.b.m) c.in_ok-taken.taken (few c a is) refl (taken c a is)

pub returns-clause-product : goal.returns-clause-product
returns-clause-product c = λ a is. whole_fits a c.args.b (a.m *ℤ c.args.b.m) refl (whole c a is)

pub returns-clause-difference : goal.returns-clause-difference
returns-clause-difference c = λ a is.
    let m : c.in_ok-m.m ≡ c.args.left.m -ℤ c.in_ok-taken.taken = search rules in
    let f : FitsSigned w128 c.in_ok-m.m = search rules in
    let k : IsTrue (fits_128 (c.args.left.m -ℤ c.in_ok-taken.taken)) =
    subst (λ z. IsTrue (fits_128 z)) m ((fits_is c.in_ok-m.m).1 f) in
    less_fits c.args.left (dyadic_product a c.args.b) c.in_ok-taken.taken (is_taken c a is) c.keeps.ensures
    (near_fits c.in_ok-taken.taken c.in_ok-taken.ensures.near) k

pub returns-clause-is : goal.returns-clause-is
returns-clause-is c = λ a is.
    let m : c.in_ok-m.m ≡ c.args.left.m -ℤ c.in_ok-taken.taken = search rules in
    let d : c.new.result ≡ dyadic c.in_ok-m.m c.args.left.e = search rules in
    less_is c.args.left (dyadic_product a c.args.b) c.new.result c.in_ok-taken.taken c.in_ok-m.m (is_taken c a is) m d
