-- Rounding down: by the helping function, and by more bits than a word has.
use Rattle.std.proofs.Common.{◌≡◌, ℕ, ◌+◌, ◌-◌, ◌*◌, ◌^◌, ◌/◌, ◌%◌, ◌<◌, ◌≤◌, lit≤, ℤ, pos, negsuc, ◌-ℤ◌, int_le, nat_lt}
use Rattle.std.proofs.Common.{Bool, true, false, cond, Some, None, refl, sym, ap, ◌∙◌, arith, pow_pos}
use Rattle.std.specs.Prelude.{◌&&◌}
use Rattle.std.specs.Option.{option_and_then}
use Rattle.std.proofs.lemmas.Int.{ints}
use Rattle.std.proofs.lemmas.Bool.{lt-ltb}
use Rattle.std.proofs.lemmas.Nat.{div-add-mod', mod_below}
use Rattle.std.proofs.Math.Nat.{pow-le-pow_right, div-eq_of_lt}
use Rattle.fx_rational.specs.Rational.{floor_div}
use Rattle.fx_model.specs.Machine.{IsWord}
use Rattle.fx_model.proofs.Wide.{Held, held, is_word_from}
use Rattle.fx_statements.specs.Meaning.{unchanged}
use Rattle.fx_statements.proofs.Kept as keep
use Rattle.fx_c99.specs.CMeaning.{shifted_right, complement}
use Rattle.fx_c99.specs.OfProgram.{few}
use Rattle.fx_c99.specs.Laws.{FlooredLaw}

div_one : (a : ℕ) → a / 1 ≡ a
div_one a = let e = div-add-mod' a 1 in let l = mod_below a 1 (lit≤ tt) in omega arith

-- by nothing
pub floor_one : (x : ℤ) → floor_div x (2 ^ 0) ≡ x
floor_one (pos a) = ap pos (div_one a)
floor_one (negsuc a) = ap negsuc (div_one a)

div_below : (a d : ℕ) → 0 < d → a / d ≤ a
div_below a d h = let e = div-add-mod' a d in by (a / d) d h e
  where
    by : (q d : ℕ) → 0 < d → q * d + (a % d) ≡ a → q ≤ a
    by q d h e = grind arith

complement_is : (bits : ℕ) (x y : ℤ) → negsuc 0 -ℤ x ≡ y → IsWord bits y → complement bits x ≡ Some y
complement_is bits x y e h = ap (unchanged bits) e ∙ keep.kept bits y h

not_below : (a : ℕ) → int_le (pos 0) (pos a) ≡ true
not_below a = grind (arith, ints)

right_is : (bits s a : ℕ) → s < bits → shifted_right bits (pos a) s ≡ Some (pos (a / 2 ^ s))
right_is bits s a lt =
    ap (λ (b : Bool). cond (b && nat_lt s bits) (Some (floor_div (pos a) (2 ^ s))) None) (not_below a)
    ∙ ap (λ (b : Bool). cond b (Some (floor_div (pos a) (2 ^ s))) None) (lt-ltb s bits lt)

pub floored_is : FlooredLaw
floored_is bits s (pos a) h lt =
    ap (λ (b : Bool). cond b (shifted_right bits (pos a) s)
    (option_and_then (λ y. option_and_then (complement bits) (shifted_right bits y s)) (complement bits (pos a))))
    (not_below a)
    ∙ right_is bits s a lt
floored_is bits s (negsuc a) h lt =
    let k = held bits (negsuc a) h in let low = k.low in let high = k.high in
    let l = div_below a (2 ^ s) (pow_pos s) in
    let up : IsWord bits (pos a) =
    is_word_from bits (pos a) record { low = omega (arith, ints); high = omega (arith, ints) } in
    let down : IsWord bits (negsuc (a / 2 ^ s)) =
    is_word_from bits (negsuc (a / 2 ^ s)) record { low = omega (arith, ints); high = omega (arith, ints) } in
    ap (option_and_then (λ y. option_and_then (complement bits) (shifted_right bits y s)))
    (complement_is bits (negsuc a) (pos a) (omega (arith, ints)) up)
    ∙ ap (option_and_then (complement bits)) (right_is bits s a lt)
    ∙ complement_is bits (pos (a / 2 ^ s)) (negsuc (a / 2 ^ s)) (omega (arith, ints)) down

-- ---- by as many bits as a word has, or more, its sign is left
sign_of : ℤ → ℤ
sign_of (pos a) = pos 0
sign_of (negsuc a) = negsuc 0

sign_left : (m d : ℕ) (w : ℤ) → Held m w → m ≤ d → floor_div w d ≡ sign_of w
unfolding sign_of
sign_left m d (pos a) h le = let k = h.high in ap pos (div-eq_of_lt (let l : a < d = omega (arith, ints) in l))
sign_left m d (negsuc a) h le = let k = h.low in ap negsuc (div-eq_of_lt (let l : a < d = omega (arith, ints) in l))

pub few_less : (n s : ℕ) → 1 ≤ n → few n s < n
few_less n s some = by (nat_lt s n) refl
  where
    by : (b : Bool) → nat_lt s n ≡ b → few n s < n
    by true e = rw e (grind arith)
    by false e = rw e (omega arith)

pub few_enough : (n s : ℕ) (w : ℤ) → 1 ≤ n → IsWord n w → floor_div w (2 ^ few n s) ≡ floor_div w (2 ^ s)
few_enough n s w some h = by (nat_lt s n) refl
  where
    by : (b : Bool) → nat_lt s n ≡ b → floor_div w (2 ^ few n s) ≡ floor_div w (2 ^ s)
    by true e = ap (λ (b : Bool). floor_div w (2 ^ cond b s (n - 1))) e
    by false e =
        let le : n ≤ s = grind arith in
        let k = held n w h in
        let more : 2 ^ (n - 1) ≤ 2 ^ s = pow-le-pow_right {n = 2} (lit≤ tt) (let l : n - 1 ≤ s = omega arith in l) in
        ap (λ (b : Bool). floor_div w (2 ^ cond b s (n - 1))) e
        ∙ sign_left (2 ^ (n - 1)) (2 ^ (n - 1)) w k (let l : 2 ^ (n - 1) ≤ 2 ^ (n - 1) = omega arith in l)
        ∙ sym (sign_left (2 ^ (n - 1)) (2 ^ s) w k more)
