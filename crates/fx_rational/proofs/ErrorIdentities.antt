-- How errors of operands enter a product and a quotient.
use Rattle.std.proofs.Common.{◌≡◌, refl, [], ◌∷◌, Some}
use Rattle.fx_rational.specs.Rational.{Rational, plus, minus, times, quotient, Equal}
use Rattle.fx_rational.proofs.Ring.{by_quotes, quotes}
use Rattle.fx_rational.proofs.Laws.{equal_refl, equal_trans, minus_same, plus_same}
use Rattle.fx_rational.proofs.Quotient.{quotient_back, quotient_only}

pub product_error_identity : (x y dx dy : Rational) →
    Equal (minus (times (plus x dx) (plus y dy)) (times x y)) (plus (plus (times x dy) (times y dx)) (times dx dy))
product_error_identity x y dx dy = by_quotes {ρ = x ∷ y ∷ dx ∷ dy ∷ []} (search quotes depth 20) (search quotes depth 20) refl

pub centred_product : (x y mx my : Rational) →
    Equal (times x y) (plus (minus (plus (times my x) (times mx y)) (times mx my)) (times (minus x mx) (minus y my)))
centred_product x y mx my = by_quotes {ρ = x ∷ y ∷ mx ∷ my ∷ []} (search quotes depth 20) (search quotes depth 20) refl

-- r is (x + dx) / (y + dy), z is x / y, and r - z is the quotient of dx - z * dy by y + dy
pub quotient_error_identity : (x y dx dy z r d : Rational) → quotient x y ≡ Some z → quotient (plus x dx) (plus y dy) ≡ Some r →
    quotient (minus dx (times z dy)) (plus y dy) ≡ Some d → Equal (minus r z) d
quotient_error_identity x y dx dy z r d is_z is_r is_d = quotient_only (minus dx (times z dy)) (plus y dy) d (minus r z) is_d
    (equal_trans (by_quotes {ρ = r ∷ z ∷ y ∷ dy ∷ []} {b = minus (times r (plus y dy)) (plus (times z y) (times z dy))}
    (search quotes depth 20) (search quotes depth 20) refl)
    (equal_trans (minus_same (quotient_back (plus x dx) (plus y dy) r is_r)
    (plus_same (quotient_back x y z is_z) (equal_refl (times z dy))))
    (by_quotes {ρ = x ∷ dx ∷ z ∷ dy ∷ []} {b = minus dx (times z dy)} (search quotes depth 20)
    (search quotes depth 20) refl)))
