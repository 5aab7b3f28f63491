use Rattle.std.proofs.Common.{◌≡◌, pos, ◌*ℤ◌, ◌-ℤ◌, ℤ, IsTrue, ap, sym, subst, ◌∙◌, arith, rules, tests}
use Rattle.std.proofs.lemmas.Int.{ints}
use Rattle.fx_rational.specs.Dyadic.{dyadic_product, fits_128}
use Rattle.fx_template_conditions.proofs.Taken.{nothing_taken, zero_fits, whole_fits, less_fits, less_is}
use Rattle.fx_template_conditions.proofs.quick.less_nothing.Goals as goal

none : (c : goal.After-new) → c.args.b.m ≡ pos 0
none c = search (rules, tests)

pub returns-clause-product : goal.returns-clause-product
returns-clause-product c =
    λ a. whole_fits a c.args.b (pos 0) (sym (ap (λ (m : ℤ). a.m *ℤ m) (none c) ∙ omega (arith, ints))) zero_fits

pub returns-clause-difference : goal.returns-clause-difference
returns-clause-difference c = λ a.
    let same : c.args.left.m -ℤ pos 0 ≡ c.args.left.m = omega (arith, ints) in
    less_fits c.args.left (dyadic_product a c.args.b) (pos 0)
    (nothing_taken c.args.left a c.args.b (none c)) c.keeps.ensures zero_fits
    (subst (λ (z : ℤ). IsTrue (fits_128 z)) (sym same) c.keeps.ensures)

pub returns-clause-is : goal.returns-clause-is
returns-clause-is c = λ a.
    let same : c.args.left.m -ℤ pos 0 ≡ c.args.left.m = omega (arith, ints) in
    less_is c.args.left (dyadic_product a c.args.b) c.new.result (pos 0) c.args.left.m
    (nothing_taken c.args.left a c.args.b (none c)) (sym same) (search rules)
