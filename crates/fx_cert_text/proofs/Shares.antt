-- Shares, whose templates rise, so that no more of them are read than there are templates.
use Rattle.std.proofs.Common.{◌≡◌, ℕ, zero, suc, ◌+◌, ◌-◌, ◌^◌, ◌<◌, ◌≤◌, Bool, true, false, cond, List, ◌∷◌, Option, Some, None, Result, Ok, Err, ℤ, pos, negsuc, ◌-ℤ◌, refl, ap, subst, arith}
use Rattle.std.specs.Prelude.{int_le, unsigned_abs}
use Rattle.std.specs.Fmt.{decimal, signed_decimal}
use Rattle.std.proofs.lemmas.Int.{ints}
use Rattle.fx_rational.specs.Dyadic.{Dyadic, IsWritten}
use Rattle.fx_model.specs.LineText.{dyadic_text}
use Rattle.fx_inequalities.specs.Certificate.{Share}
use Rattle.fx_text.specs.declared.fault.TextKind.{TextKind}
use Rattle.fx_text.specs.declared.fault.TextKind.TheVariants.{OutOfRange}
use Rattle.fx_text.specs.Cutting.{Line}
use Rattle.fx_text.specs.Numbers.{integer_of}
use Rattle.fx_model.specs.Steps.{◌>>=◌}
use Rattle.fx_text.specs.Reading.{IsWithin, field_at, known}
use Rattle.fx_text.specs.Many.{many}
use Rattle.fx_text.specs.Laws.{AreNarrow}
use Rattle.fx_model.proofs.Steps.{on_ok}
use Rattle.fx_text.proofs.FieldLaws.{done, front, number_takes, number_again}
use Rattle.fx_text.proofs.DyadicLaws.{dyadic_takes, dyadic_again}
use Rattle.fx_cert_text.specs.FieldReading.{size_at, size_up_to, share_at, above, shares_at, few_shares_at}

-- templates below an end that is no more than the limit
narrow_templates : (end least : ℕ) → end < 2 ^ 32 → AreNarrow (pos least) (pos end -ℤ pos 1)
narrow_templates end least small = record { least = omega (arith, ints); greatest = omega (arith, ints) }

-- a share that may stand where templates from `least` on are due
pub record IsShare (end least : ℕ) (s : Share) : Type 0 where
  pub low : least ≤ s.template
  pub high : s.template < end
  pub times : IsWritten s.times

pub share_takes : (end least : ℕ) (line : Line) (x : Share × Line) → end < 2 ^ 32 → share_at end least line ≡ Ok x →
    (line ≡ decimal x.0.template ∷ dyadic_text x.0.times ∷ x.1) × IsShare end least x.0
unfolding share_at
share_takes end least line x small e =
    on_ok _ _ x e (λ z hz e.
    on_ok _ _ x e (λ d hd e.
    by z.0 z.1 d (number_takes (pos least) (pos end -ℤ pos 1) line z (narrow_templates end least small) hz)
    (dyadic_takes z.1 d hd) e))
  where
    by : (z : ℤ) (rest : Line) (d : Dyadic × Line) →
        (line ≡ signed_decimal z ∷ rest) × IsWithin (pos least) (pos end -ℤ pos 1) z →
        (rest ≡ dyadic_text d.0 ∷ d.1) × IsWritten d.0 →
        done (record { template = unsigned_abs z; times = d.0 }, d.1) ≡ done x →
        (line ≡ decimal x.0.template ∷ dyadic_text x.0.times ∷ x.1) × IsShare end least x.0
    by (pos n) rest d tz td e =
        let made : (record { template = n; times = d.0 }, d.1) ≡ x = cc in
        subst (λ (y : Share × Line). (line ≡ decimal y.0.template ∷ dyadic_text y.0.times ∷ y.1) ×
        IsShare end least y.0) made (
          front tz.0 td.0,
          record {
            low = omega (arith, ints, tz.1.0);
            high = omega (arith, ints, tz.1.1);
            times = td.1;
          },
        )
    by (negsuc n) rest d tz td e = absurd (omega (arith, ints, tz.1.0))

pub share_again : (end least : ℕ) (s : Share) (rest : Line) → end < 2 ^ 32 → IsShare end least s →
    share_at end least (decimal s.template ∷ dyadic_text s.times ∷ rest) ≡ Ok (s, rest)
unfolding share_at
share_again end least s rest small h =
    let within : IsWithin (pos least) (pos end -ℤ pos 1) (pos s.template) = (let a = h.low in let b = h.high in
    (omega (arith, ints), omega (arith, ints))) in
    rw (
      number_again (pos least) (pos end -ℤ pos 1) (pos s.template) (dyadic_text s.times ∷ rest)
          (narrow_templates end least small) within,
      dyadic_again s.times rest h.times,
    ) refl

-- ---- counts past the last template
abbrev Shares : Type 0
Shares = Result (List Share × Line) TextKind

-- counts of more shares than there are templates left say the same
beyond : (end : ℕ) → end < 2 ^ 32 → (n m least : ℕ) (line : Line) → end - least < n → end - least < m →
    many (share_at end) above n least line ≡ many (share_at end) above m least line
unfolding many
beyond end small zero m least line h k = absurd (omega arith)
beyond end small (suc n) zero least line h k = absurd (omega arith)
beyond end small (suc n) (suc m) least line h k =
    by (share_at end least line) refl (λ x e.
    let t = (share_takes end least line x small e).1 in let a = t.low in let b = t.high in
    beyond end small n m (x.0.template + 1) x.1 (omega arith) (omega arith))
  where
    by : (r : Result (Share × Line) TextKind) → share_at end least line ≡ r →
        ((x : Share × Line) → share_at end least line ≡ Ok x →
        many (share_at end) above n (above least x.0) x.1 ≡ many (share_at end) above m (above least x.0) x.1)
        → many (share_at end) above (suc n) least line ≡ many (share_at end) above (suc m) least line
    by (Err d) e go = rw e refl
    by (Ok x) e go = rw e (ap (λ (r : Shares). r >>= λ others. Ok (x.0 ∷ others.0, others.1)) (go x e))

-- what is read of a number, as it is and up to a limit
abbrev pub sized : ℤ → Line → Result (ℕ × Line) TextKind
sized z rest = cond (int_le (pos 0) z) (Ok (unsigned_abs z, rest)) (Err OutOfRange)

abbrev sized_up_to : ℕ → ℤ → Line → Result (ℕ × Line) TextKind
sized_up_to limit z rest = cond (int_le z (pos limit)) (sized z rest) (Ok (limit, rest))

-- the shares behind a count
abbrev counted : ℕ → ℕ × Line → Shares
counted end count = many (share_at end) above count.0 0 count.1

-- so what is read of a count is told by the count up to one more than there are templates
pub few_shares : (end : ℕ) (line : Line) → end < 2 ^ 32 → shares_at end line ≡ few_shares_at end line
unfolding shares_at few_shares_at size_at size_up_to
few_shares end line small = by (field_at line)
  where
    positive : (n : ℕ) (rest : Line) (b : Bool) → int_le (pos n) (pos (end + 1)) ≡ b →
        counted end (n, rest) ≡ (cond b (done (n, rest)) (done (end + 1, rest)) >>= counted end)
    positive n rest true e = refl
    positive n rest false e =
        let more : end + 1 < n = grind (arith, ints) in beyond end small n (end + 1) 0 rest (omega arith) (omega arith)

    told : (o : Option ℤ) (rest : Line) →
        ((known o >>= λ z. sized z rest) >>= counted end)
        ≡ ((known o >>= λ z. sized_up_to (end + 1) z rest) >>= counted end)
    told None rest = refl
    told (Some (negsuc n)) rest = refl
    told (Some (pos n)) rest =
        let d : int_le (pos 0) (pos n) ≡ true = grind (arith, ints) in
        rw d (positive n rest (int_le (pos n) (pos (end + 1))) refl)

    by : (f : Result (List ℕ × Line) TextKind) →
        ((f >>= λ field. known (integer_of field.0) >>= λ z. sized z field.1) >>= counted end)
        ≡ ((f >>= λ field. known (integer_of field.0) >>= λ z. sized_up_to (end + 1) z field.1) >>= counted end)
    by (Err d) = refl
    by (Ok x) = told (integer_of x.0) x.1
