-- The decimal in the fewest places.
use Rattle.std.proofs.Common.{◌≡◌, ◌≢◌, ◌⊎◌, ℕ, zero, suc, ◌-◌, ◌*◌, ◌/◌, ◌^◌, ◌%◌, ◌<◌, ◌≤◌, Bool, true, false, cond, eqb, Ok, inl, inr, refl, sym, ap, ◌∙◌, arith, rules, tests}
use Rattle.std.specs.Prelude.{nat_lt, nat_le}
use Rattle.std.proofs.Math.Nat.{pow-suc, mul_assoc, mul_comm, mul-mod_left}
use Rattle.std.proofs.lemmas.Bool.{eqb-true}
use Rattle.fx_fraction.specs.DecimalOf.{trimmed, within_limits}
use Rattle.fx_fraction.specs.Numeral.{signed}

-- the pair is n / 10 ^ p, and has no zero that isn't needed
pub record IsTrimmed (n p : ℕ) (x : ℕ × ℕ) : Type 0 where
  pub value : x.0 * 10 ^ p ≡ n * 10 ^ x.1
  pub fewest : (x.1 ≡ 0) ⊎ (x.0 % 10 ≢ 0)
  pub within : x.1 ≤ p

tenth : (n : ℕ) → n % 10 ≡ 0 → n / 10 * 10 ≡ n
tenth n e = omega arith

times : (a k : ℕ) → a * 10 ^ k * 10 ≡ a * 10 * 10 ^ k
times a k = mul_assoc a (10 ^ k) 10 ∙ ap (λ y. a * y) (mul_comm (10 ^ k) 10) ∙ sym (mul_assoc a 10 (10 ^ k))

trimmed_more : (n p : ℕ) → IsTrimmed (n / 10) p (trimmed (n / 10) p) → (b : Bool) → eqb (n % 10) 0 ≡ b →
    IsTrimmed n (suc p) (cond b (trimmed (n / 10) p) (n, suc p))
trimmed_more n p h true e =
    let t = tenth n (eqb-true _ _ e) in
    record {
      value = rw pow-suc (sym (mul_assoc (trimmed (n / 10) p).0 (10 ^ p) 10) ∙ ap (λ y. y * 10) h.value
          ∙ times (n / 10) (trimmed (n / 10) p).1 ∙ ap (λ y. y * 10 ^ (trimmed (n / 10) p).1) t);
      fewest = h.fewest;
      within = omega (arith, h.within);
    }
trimmed_more n p h false e =
    record { value = refl; fewest = inr (λ h. absurd (search (rules, tests))); within = omega arith }

pub trimmed_is : (n p : ℕ) → IsTrimmed n p (trimmed n p)
unfolding trimmed
trimmed_is n zero = record { value = refl; fewest = inl refl; within = omega arith }
trimmed_is n (suc p) = trimmed_more n p (trimmed_is (n / 10) p) (eqb (n % 10) 0) refl

-- a front with zeros behind it
abbrev pub by_zeros : ℕ → ℕ → ℕ → ℕ × ℕ
by_zeros f z zero = (f * 10 ^ z, 0)
by_zeros f zero (suc p) = (f, suc p)
by_zeros f (suc z) (suc p) = by_zeros f z p

pub trimmed_front : (f z p : ℕ) → f % 10 ≢ 0 → trimmed (f * 10 ^ z) p ≡ by_zeros f z p
unfolding trimmed
trimmed_front f z zero last = refl
trimmed_front f zero (suc p) last =
    let e : f * 10 ^ 0 ≡ f = omega arith in
    let b : eqb (f % 10) 0 ≡ false = search (rules, tests) in
    rw (e, b) refl
trimmed_front f (suc z) (suc p) last =
    let e : f * 10 ^ suc z ≡ f * 10 ^ z * 10 = rw pow-suc (sym (mul_assoc f (10 ^ z) 10)) in
    let m : f * 10 ^ z * 10 % 10 ≡ 0 = mul-mod_left (f * 10 ^ z) 10 in
    let d : f * 10 ^ z * 10 / 10 ≡ f * 10 ^ z = omega arith in
    rw (e, m, d) (trimmed_front f z p last)

-- a zero at the end comes off, and nothing where none does
pub trimmed_step : (n p : ℕ) → 0 < p → n % 10 ≡ 0 → trimmed (n / 10) (p - 1) ≡ trimmed n p
unfolding trimmed
trimmed_step n zero some e = absurd (omega arith)
trimmed_step n (suc p) some e = let m : suc p - 1 ≡ p = omega arith in rw (e, m) refl

pub trimmed_stops : (n p : ℕ) → (p ≡ 0) ⊎ (n % 10 ≢ 0) → trimmed n p ≡ (n, p)
unfolding trimmed
trimmed_stops n zero h = refl
trimmed_stops n (suc p) (inl e) = absurd (omega arith)
trimmed_stops n (suc p) (inr last) = let b : eqb (n % 10) 0 ≡ false = search (rules, tests) in rw b refl

-- what is within the limits
pub limits_keep : (s : Bool) (a b : ℕ) → a < 2 ^ 62 → b ≤ 18 →
    within_limits s (a, b) ≡ Ok (record { a = signed s a; b = b })
limits_keep s a b small few =
    let t : nat_lt a (2 ^ 62) ≡ true = search (rules, tests) in
    let u : nat_le b 18 ≡ true = search (rules, tests) in
    rw (t, u) refl
