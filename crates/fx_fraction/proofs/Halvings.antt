-- A number is halved as often as it can be, and what is left is odd; powers of two as sums and products.
use Rattle.std.proofs.Common.{◌≡◌, ℕ, zero, suc, ◌+◌, ◌-◌, ◌*◌, ◌/◌, ◌%◌, ◌^◌, ◌<◌, ◌≤◌, ◌⊎◌, inl, inr, min, refl, sym, ap, ◌∙◌, arith}
use Rattle.std.specs.Int.Count.{under, count_trailing_zeros}
use Rattle.std.proofs.Math.Pow.{pow-add}
use Rattle.std.proofs.lemmas.Nat.{div-add-mod', div-mul-add, mod_below, mul-le, pow_pos}

-- n is halved s times, and where it can't be halved again what is left is odd
pub record Halved (k n s : ℕ) : Type 0 where
  pub rest : ℕ
  pub is : n ≡ rest * 2 ^ s
  pub odd : s ≡ count_trailing_zeros k n → s < k → rest % 2 ≡ 1

once : (n : ℕ) → n ≡ n * 2 ^ 0
once n = omega arith

pub double_power : (i : ℕ) → 2 ^ (i + 1) ≡ 2 ^ i + 2 ^ i
double_power i = let e = pow-add 2 i 1 in omega (arith, e)

pub split_power : (s e : ℕ) → s ≤ e → 2 ^ (e - s) * 2 ^ s ≡ 2 ^ e
split_power s e h = let k : (e - s) + s ≡ e = omega (arith, h) in sym (pow-add 2 (e - s) s) ∙ ap (λ (n : ℕ). 2 ^ n) k

twice : (n q s : ℕ) → n % 2 ≡ 0 → n / 2 ≡ q * 2 ^ s → n ≡ q * 2 ^ suc s
twice n q s even half =
    let d = div-add-mod' n 2 in let one : suc s ≡ s + 1 = omega arith in
    let p : 2 ^ suc s ≡ 2 ^ s + 2 ^ s = ap (λ (k : ℕ). 2 ^ k) one ∙ double_power s in
    let e : q * 2 ^ suc s ≡ q * 2 ^ s + q * 2 ^ s = ap (λ (k : ℕ). q * k) p
    ∙ (let m : q * (2 ^ s + 2 ^ s) ≡ q * 2 ^ s + q * 2 ^ s = grind arith in m) in
    omega (arith, d, even, half, e)

pub halved : (k n s : ℕ) → s ≤ count_trailing_zeros k n → Halved k n s
unfolding count_trailing_zeros
halved zero n zero l = record { rest = n; is = once n; odd = λ _ h. absurd (omega (arith, h)) }
halved zero n (suc s) l = absurd (omega (arith, l))
halved (suc k) n zero l = record { rest = n; is = once n; odd = λ e _. by (n % 2) refl e }
  where
    by : (d : ℕ) → n % 2 ≡ d → 0 ≡ under d (count_trailing_zeros k (n / 2)) → n % 2 ≡ 1
    by zero h e = absurd (omega (arith, e))
    by (suc d) h e = let m = mod_below n 2 (omega arith) in omega (arith, h, m)
halved (suc k) n (suc s) l = by (n % 2) refl l (halved k (n / 2) s)
  where
    by : (d : ℕ) → n % 2 ≡ d → suc s ≤ under d (count_trailing_zeros k (n / 2)) →
        (s ≤ count_trailing_zeros k (n / 2) → Halved k (n / 2) s) → Halved (suc k) n (suc s)
    by zero h l half = let r = half (omega (arith, l)) in record {
      rest = r.rest;
      is = twice n r.rest s h r.is;
      odd = λ e lt. r.odd (let f : suc s ≡ suc (count_trailing_zeros k (n / 2)) = e
          ∙ ap (λ (d : ℕ). under d (count_trailing_zeros k (n / 2))) h in omega (arith, f)) (omega (arith, lt));
    }
    by (suc d) h l half = absurd (omega (arith, l))

shifted_is : (f q t : ℕ) → f ≡ q * 2 ^ t → f / 2 ^ t ≡ q
shifted_is f q t is =
    let p = pow_pos t in
    let e : f ≡ q * 2 ^ t + 0 = omega (arith, is) in
    ap (λ (n : ℕ). n / 2 ^ t) e ∙ div-mul-add q (2 ^ t) 0 p

few_left : (f q t s : ℕ) → t ≤ s → f < 2 ^ s → f ≡ q * 2 ^ t → q < 2 ^ (s - t)
few_left f q t s fits few is = by (q < 2 ^ (s - t)) (below q (2 ^ (s - t)))
  where
    below : (a b : ℕ) → (a < b) ⊎ (b ≤ a)
    below a b = grind arith

    by : (G : Type 0) → G ⊎ (2 ^ (s - t) ≤ q) → G
    by G (inl h) = h
    by G (inr h) = absurd (let p = split_power t s fits in
        let m = mul-le (2 ^ (s - t)) (2 ^ t) q (2 ^ t) h (omega arith) in omega (arith, few, is, p, m))

-- places that don't all end in zeros, without those zeros
pub record Parts (f s t : ℕ) : Type 0 where
  pub rest : ℕ
  pub is : f ≡ rest * 2 ^ t
  pub shifted : f / 2 ^ t ≡ rest
  pub odd : rest % 2 ≡ 1
  pub few : rest < 2 ^ (s - t)
  pub less : t < s

pub parts : (k f s t : ℕ) → f < 2 ^ s → s ≤ k → t ≡ min (count_trailing_zeros k f) s → (t ≡ s → ⊥) → Parts f s t
parts k f s t few most least other =
    let h = halved k f t (omega (arith, least)) in let l : t < s = omega (arith, least, other) in record {
      rest = h.rest;
      is = h.is;
      shifted = shifted_is f h.rest t h.is;
      odd = h.odd (omega (arith, least, l)) (omega (arith, l, most));
      few = few_left f h.rest t s (omega (arith, l)) few h.is;
      less = l;
    }

-- a number that isn't 0 doesn't end in as many zeros as it has places
pub some_parts : (k f s : ℕ) → 0 < f → f < 2 ^ s → s ≤ k → Parts f s (count_trailing_zeros k f)
some_parts k f s some few most = by (count_trailing_zeros k f) refl (up_to s (count_trailing_zeros k f))
  where
    up_to : (a b : ℕ) → (a ≤ b) ⊎ (b < a)
    up_to a b = grind arith

    by : (t : ℕ) → count_trailing_zeros k f ≡ t → (s ≤ t) ⊎ (t < s) → Parts f s t
    by t e (inl l) = absurd (nothing (halved k f s (omega (arith, e, l))))
      where
        nothing : Halved k f s → ⊥
        nothing h = none h.rest h.is
          where
            none : (r : ℕ) → f ≡ r * 2 ^ s → ⊥
            none zero e = omega (arith, e, some)
            none (suc r) e = omega (arith, e, few)
    by t e (inr l) = parts k f s t few most (omega (arith, e, l)) (λ same. omega (arith, l, same))
