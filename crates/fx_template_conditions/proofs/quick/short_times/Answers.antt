use Rattle.std.proofs.Common.{◌≡◌, ℕ, ◌-◌, ◌≤◌, ◌*◌, ◌^◌, unsigned_abs, to_z, of_z, refl, subst, arith, rules}
use Rattle.std.specs.Int.{w64, leading_zeros}
use Rattle.std.proofs.lemmas.Nat.{leading_le}
use Rattle.fx_template_conditions.proofs.Raised.{room_is}
use Rattle.fx_template_conditions.proofs.quick.short_times.Goals as goal

pub returns-clause-room : goal.returns-clause-room
returns-clause-room c =
    let n = c.unsigned_abs-zeros.result in let z = leading_zeros w64 n in
    let same : n ≡ unsigned_abs (to_z w64 (of_z w64 c.in_ok-mantissa.mantissa)) = search rules in
    let most = leading_le 64 n in
    record {
      few = omega (arith, most);
      near =
          subst (λ (k : ℕ). k * 2 ^ (z - 2) ≤ 2 ^ 62) same
          (room_is n (z - 2) z c.unsigned_abs-zeros.type_inv refl c.if-zeros-lt2.false (omega arith));
      places = search rules;
    }
