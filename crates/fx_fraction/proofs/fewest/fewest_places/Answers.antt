use Rattle.std.proofs.Common.{SFits, ◌≡◌, ◌≢◌, ◌⊎◌, ◌%◌, ℤ, Ok, inl, inr, sym, ap, ◌∙◌, arith, rules}
use Rattle.std.specs.Int.{w64}
use Rattle.std.proofs.lemmas.Int.{to_z-of_z}
use Rattle.fx_fraction.specs.DecimalOf.{within_limits}
use Rattle.fx_fraction.specs.Numeral.{signed}
use Rattle.fx_fraction.proofs.Trimmed.{trimmed_step, trimmed_stops, limits_keep}
use Rattle.fx_fraction.proofs.fewest.fewest_places.Goals as goal
use Rattle.fx_fraction.proofs.fewest.fewest_places.Goals.{then-loop-left-test+else-front-eq0, else-loop-left-test}

pub loop-left-preserved : goal.loop-left-preserved
loop-left-preserved c =
    let few = c.loop-left.invariant.few in
    record {
      value = trimmed_step c.loop-left.front c.loop-left.left (omega arith) c.if-front-eq0.true
          ∙ c.loop-left.invariant.value;
      few = omega arith;
    }

pub returns : goal.returns
returns c =
    let front = c.loop-left.front in let left = c.loop-left.left in
    let stop : (c.loop-left.left ≡ 0) ⊎ (c.loop-left.front % 10 ≢ 0) = elim c.loop-left-test.branch [
      | then-loop-left-test+else-front-eq0 w ↦ inr w.if-front-eq0.false
      | else-loop-left-test w ↦ inl (omega arith)
    ] in
    let fits : SFits w64 c.signed.result = search rules in
    let a : signed c.args.is_negative front ≡ c.signed.result = sym c.signed.ensures in
    ap (within_limits c.args.is_negative) (sym c.loop-left.invariant.value ∙ trimmed_stops front left stop)
    ∙ limits_keep c.args.is_negative front left (omega arith) c.loop-left.invariant.few
    ∙ ap (λ (z : ℤ). Ok (record { a = z; b = left })) (a ∙ sym (to_z-of_z w64 c.signed.result fits))
