use Rattle.std.proofs.Common.{◌≡◌, ◌-◌, ◌*◌, ◌<◌, ◌^◌, ◌++◌, [], take, sym, ap, refl, ◌∙◌, arith}
use Rattle.std.proofs.lemmas.List.{append-nil}
use Rattle.std.proofs.lemmas.Nat.{mod_below, pow_pos}
use Rattle.fx_model.specs.WordText.{digits_after}
use Rattle.fx_fraction.proofs.Tails.{glyphs, drop_later, digits_step, some_left, after_zero}
use Rattle.fx_fraction.proofs.text.put_digits.Goals as goal

pub loop-now-preserved : goal.loop-now-preserved
loop-now-preserved c =
    let n = c.next_digit-digit.ensures in
    let i = c.loop-now.invariant in
    let some : 0 < c.loop-now.left = some_left c.loop-now.now c.loop-now.left c.loop-now-test.true i.below in
    record {
      few = omega arith;
      below = rw n.rest (mod_below (5 * c.loop-now.now) (2 ^ (c.loop-now.left - 1)) (pow_pos (c.loop-now.left - 1)));
      room = omega (arith, c.put_byte-end.ensures.end);
      behind = c.put_byte-end.ensures.rest
          ∙ drop_later c.loop-now.end c.put_byte-end.result c.loop-now.out c.args.out.now
          (omega (arith, c.put_byte-end.ensures.end)) i.behind;
      above = omega (arith, c.put_byte-end.ensures.end, i.above);
      length_is = omega arith;
      written =
          digits_step (take c.loop-now.end c.loop-now.out) _ c.loop-now.left c.loop-now.now c.next_digit-digit.result.0
          c.next_digit-digit.result.1 c.loop-now-test.true some n.digit n.rest c.put_byte-end.ensures.written
          ∙ i.written;
    }

pub returns-clause-written : goal.returns-clause-written
returns-clause-written c =
    let z : c.loop-now.now ≡ 0 = omega arith in
    let e : glyphs (digits_after c.loop-now.left c.loop-now.now) ≡ [] = rw (z, after_zero c.loop-now.left) refl in
    sym (ap (λ xs. take c.loop-now.end c.loop-now.out ++ xs) e ∙ append-nil (take c.loop-now.end c.loop-now.out))
    ∙ c.loop-now.invariant.written
