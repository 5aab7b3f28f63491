-- The ends of literals' and inputs' errors as quotients of whole numbers.
use Rattle.std.proofs.Common.{◌≡◌, ℕ, suc, ◌*◌, ◌^◌, ◌<◌, ◌≤◌, ℤ, pos, negsuc, ◌-ℤ◌, ◌*ℤ◌, neg_ℤ, [], ◌∷◌, refl, sym, ap, subst, ◌∙◌, arith, pow_pos}
use Rattle.std.proofs.lemmas.Int.{ints}
use Rattle.std.proofs.Math.Nat.{mul-pos}
use Rattle.fx_rational.proofs.Quote as int
use Rattle.fx_rational.specs.Rational.{Rational, bottom, whole, over, minus, negative, times, scaled, floor, floor_div, ceil_div, Equal}
use Rattle.fx_rational.proofs.Ring.{by_quotes, quotes}
use Rattle.fx_rational.proofs.Laws.{equal_refl, equal_sym, equal_trans, times_same, minus_same, negative_same}
use Rattle.fx_rational.proofs.Quotient.{whole_above, over_times, times_cancel}
use Rattle.fx_rational.proofs.Powers.{power, unit, unit_power, unit_left, whole_difference, whole_product, bottom_times}
use Rattle.fx_rational.proofs.Lowest.{suc_pred}
use Rattle.fx_model.specs.LawfulProgram.{IsPoint}
use Rattle.fx_inequalities.specs.Formula.{formula_value, word_at}
use Rattle.fx_bounds.proofs.Words.{word_at_is, unit_at_is}
use Rattle.fx_outward.specs.Grid.{lowest_dyadic, grid_down, grid_up, error_grid}
use Rattle.fx_outward.specs.Narrow.{unit_value}
use Rattle.fx_outward.specs.Exact.{scaled_top, scaled_bottom, unit_bottom}

-- ---- on the grid
pub over_down : (n : ℤ) (d e : ℕ) → 0 < d → lowest_dyadic (floor_div (n *ℤ pos (2 ^ e)) d) e ≡ grid_down e (over n d)
unfolding grid_down scaled over
over_down n d e h = ap (λ (k : ℕ). lowest_dyadic (floor_div (n *ℤ pos (2 ^ e)) k) e) (sym (suc_pred d h))

pub over_up : (n : ℤ) (d e : ℕ) → 0 < d → lowest_dyadic (ceil_div (n *ℤ pos (2 ^ e)) d) e ≡ grid_up e (over n d)
unfolding grid_up scaled over
over_up n d e h = ap (λ (k : ℕ). lowest_dyadic (ceil_div (n *ℤ pos (2 ^ e)) k) e) (sym (suc_pred d h))

-- ---- how many places
pub grid_few : (f : ℤ) → IsPoint f → error_grid f ≤ 96
grid_few (pos f) h = let p = h.high in omega (arith, ints, p)
grid_few (negsuc f) h = omega arith

-- ---- a quotient
by_product : (x : Rational) (n : ℤ) (d : ℕ) → 0 < d → Equal (times x (whole (pos d))) (whole n) → Equal (over n d) x
by_product x n d h e = times_cancel (whole_above d h) (equal_trans (over_times n d h) (equal_sym e))

-- ---- literals: the word's value less the literal
high_product : (c : Rational) (W : ℤ) (k : ℕ) →
    Equal (times (minus (formula_value (word_at W (pos k))) c) (whole (pos (bottom c * 2 ^ k))))
    (whole (W *ℤ pos (bottom c) -ℤ c.top *ℤ pos (2 ^ k)))
high_product c W k =
    let w = whole W in let q = whole (pos (bottom c)) in let t = power k in let u = unit (pos k) in
    let p = whole c.top in
    equal_trans (times_same (minus_same (word_at_is W (pos k)) (equal_refl c))
    (whole_product (pos (bottom c)) (pos (2 ^ k))))
    (equal_trans (by_quotes {ρ = w ∷ u ∷ c ∷ q ∷ t
    ∷ []} {b =
    minus (times (times w q) (times u t)) (times (times c q) t)} (search quotes depth 20)
    (search quotes depth 20) refl)
    (equal_trans (minus_same (times_same (equal_refl (times w q)) (unit_power k))
    (times_same (bottom_times c) (equal_refl t)))
    (equal_trans (by_quotes {ρ = w ∷ q ∷ p ∷ t ∷ []} {b = minus (times w q) (times p t)} (search quotes depth 20)
    (search quotes depth 20) refl)
    (equal_sym (equal_trans (whole_difference (W *ℤ pos (bottom c)) (c.top *ℤ pos (2 ^ k)))
    (minus_same (whole_product W (pos (bottom c))) (whole_product c.top (pos (2 ^ k)))))))))

low_product : (c : Rational) (W : ℤ) (k : ℕ) →
    Equal (times (minus (formula_value (word_at W (negsuc k))) c) (whole (pos (bottom c))))
    (whole ((W *ℤ pos (2 ^ suc k)) *ℤ pos (bottom c) -ℤ c.top))
low_product c W k =
    let w = whole W in let q = whole (pos (bottom c)) in let t = power (suc k) in let p = whole c.top in
    equal_trans (times_same
    (minus_same (equal_trans (word_at_is W (negsuc k)) (times_same (equal_refl w) (equal_sym (unit_left k))))
    (equal_refl c)) (equal_refl q))
    (equal_trans (by_quotes {ρ = w ∷ t ∷ c ∷ q ∷ []} {b = minus (times (times w t) q) (times c q)}
    (search quotes depth 20) (search quotes depth 20) refl)
    (equal_trans (minus_same (times_same (equal_sym (whole_product W (pos (2 ^ suc k)))) (equal_refl q))
    (bottom_times c))
    (equal_sym (equal_trans (whole_difference ((W *ℤ pos (2 ^ suc k)) *ℤ pos (bottom c)) c.top)
    (minus_same (whole_product (W *ℤ pos (2 ^ suc k)) (pos (bottom c))) (equal_refl p))))))

turn : (W s q p : ℤ) → (W *ℤ s) *ℤ q -ℤ p ≡ neg_ℤ (p -ℤ W *ℤ (q *ℤ s))
turn W s q p = int.by_quotes {ρ = W ∷ s ∷ q ∷ p ∷ []} (search int.quotes depth 20) (search int.quotes depth 20) refl

turn_high : (W q p : ℤ) → W *ℤ q -ℤ p ≡ neg_ℤ (p -ℤ W *ℤ q)
turn_high W q p = int.by_quotes {ρ = W ∷ q ∷ p ∷ []} (search int.quotes depth 20) (search int.quotes depth 20) refl

pub literal_word : (c : Rational) (f : ℤ) → floor (scaled c f) ≡ floor_div (scaled_top c f) (scaled_bottom c f)
unfolding floor scaled over
literal_word c (pos k) = refl
literal_word c (negsuc k) =
    ap (floor_div c.top) (suc_pred (bottom c * 2 ^ suc k)
    (mul-pos {m = bottom c} {n = 2 ^ suc k} (omega arith) (pow_pos (suc k))))

pub unit_some : (c : Rational) (f : ℤ) → 0 < unit_bottom c f
unit_some c (pos k) = mul-pos {m = bottom c} {n = 2 ^ k} (omega arith) (pow_pos k)
unit_some c (negsuc k) = omega arith

pub literal_value : (c : Rational) (W f : ℤ) (r : ℕ) → pos r ≡ scaled_top c f -ℤ W *ℤ pos (scaled_bottom c f) →
    Equal (over (neg_ℤ (pos r)) (unit_bottom c f)) (minus (formula_value (word_at W f)) c)
literal_value c W (pos k) r e =
    by_product (minus (formula_value (word_at W (pos k))) c) (neg_ℤ (pos r)) (bottom c * 2 ^ k) (unit_some c (pos k))
    (subst (λ (z : ℤ). Equal (times (minus (formula_value (word_at W (pos k))) c) (whole (pos (bottom c * 2 ^ k))))
    (whole z)) (turn_high W (pos (bottom c)) (c.top *ℤ pos (2 ^ k)) ∙ ap neg_ℤ (sym e)) (high_product c W k))
literal_value c W (negsuc k) r e =
    by_product (minus (formula_value (word_at W (negsuc k))) c) (neg_ℤ (pos r)) (bottom c) (unit_some c (negsuc k))
    (subst (λ (z : ℤ). Equal (times (minus (formula_value (word_at W (negsuc k))) c) (whole (pos (bottom c))))
    (whole z)) (turn W (pos (2 ^ suc k)) (pos (bottom c)) c.top ∙ ap neg_ℤ (sym e)) (low_product c W k))

-- ---- inputs: less than the error with the other sign, by a unit
high_input : (c : Rational) (k : ℕ) →
    Equal (times (minus (negative c) (unit_value (pos k))) (whole (pos (bottom c * 2 ^ k))))
    (whole (neg_ℤ (c.top *ℤ pos (2 ^ k)) -ℤ pos (bottom c)))
unfolding negative
high_input c k =
    let q = whole (pos (bottom c)) in let t = power k in let u = unit (pos k) in let p = whole c.top in
    equal_trans (times_same (minus_same (equal_refl (negative c)) (unit_at_is (pos k)))
    (whole_product (pos (bottom c)) (pos (2 ^ k))))
    (equal_trans (by_quotes {ρ = u ∷ c ∷ q ∷ t ∷ []} {b = minus (negative (times (times c q) t)) (times q (times u t))}
    (search quotes depth 20) (search quotes depth 20) refl)
    (equal_trans (minus_same (negative_same (times_same (bottom_times c) (equal_refl t)))
    (times_same (equal_refl q) (unit_power k)))
    (equal_trans (by_quotes {ρ = q ∷ p ∷ t ∷ []} {b = minus (negative (times p t)) q} (search quotes depth 20)
    (search quotes depth 20) refl)
    (equal_sym (equal_trans (whole_difference (neg_ℤ (c.top *ℤ pos (2 ^ k))) (pos (bottom c)))
    (minus_same (negative_same (whole_product c.top (pos (2 ^ k)))) (equal_refl q)))))))

low_input : (c : Rational) (k : ℕ) →
    Equal (times (minus (negative c) (unit_value (negsuc k))) (whole (pos (bottom c))))
    (whole (neg_ℤ c.top -ℤ pos (bottom c * 2 ^ suc k)))
unfolding negative
low_input c k =
    let q = whole (pos (bottom c)) in let t = power (suc k) in let p = whole c.top in
    equal_trans (times_same
    (minus_same (equal_refl (negative c)) (equal_trans (unit_at_is (negsuc k)) (equal_sym (unit_left k))))
    (equal_refl q))
    (equal_trans (by_quotes {ρ = t ∷ c ∷ q ∷ []} {b = minus (negative (times c q)) (times q t)} (search quotes depth 20)
    (search quotes depth 20) refl)
    (equal_trans (minus_same (negative_same (bottom_times c))
    (equal_sym (whole_product (pos (bottom c)) (pos (2 ^ suc k)))))
    (equal_sym (whole_difference (neg_ℤ c.top) (pos (bottom c * 2 ^ suc k))))))

pub input_value : (c : Rational) (f : ℤ) →
    Equal (over (neg_ℤ (scaled_top c f) -ℤ pos (scaled_bottom c f)) (unit_bottom c f))
    (minus (negative c) (unit_value f))
input_value c (pos k) =
    by_product (minus (negative c) (unit_value (pos k))) (neg_ℤ (c.top *ℤ pos (2 ^ k)) -ℤ pos (bottom c))
    (bottom c * 2 ^ k) (unit_some c (pos k)) (high_input c k)
input_value c (negsuc k) =
    by_product (minus (negative c) (unit_value (negsuc k))) (neg_ℤ c.top -ℤ pos (bottom c * 2 ^ suc k)) (bottom c)
    (unit_some c (negsuc k)) (low_input c k)
