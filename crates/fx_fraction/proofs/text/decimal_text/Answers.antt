use Rattle.std.proofs.Common.{◌≡◌, ◌≤◌, take, length, sym, ap, ◌∙◌, arith, rules, pos}
use Rattle.std.specs.Prelude.{unsigned_abs, int_lt}
use Rattle.std.specs.Int.{w128}
use Rattle.std.proofs.lemmas.Int.{to_z-of_z}
use Rattle.std.proofs.lemmas.List.{length-take-le}
use Rattle.fx_model.specs.WordText.{decimal_text}
use Rattle.fx_fraction.proofs.Tails.{drop_later, text_in_two}
use Rattle.fx_fraction.proofs.text.decimal_text.Goals as goal

pub returns : goal.returns
returns c =
    let fw = c.ranges.w in
    let ff = c.ranges.f in
    let k : c.unsigned_abs.result ≡ unsigned_abs c.args.w = simp to_z-of_z at c.unsigned_abs.ensures.value in
    let d = simp to_z-of_z at c.put_size.ensures.written in
    let front : take c.put_size.result c.put_size.new.out ≡ decimal_text c.args.w c.args.f =
    text_in_two c.args.w c.args.f _ _ _ c.unsigned_abs.result
    (ap (λ z. int_lt z (pos 0)) (to_z-of_z w128 c.args.w fw)) k c.put_sign-at.ensures.written d in
    let within : c.put_size.result ≤ length c.put_size.new.out = search rules in
    record {
      front = front;
      length = sym (length-take-le c.put_size.result c.put_size.new.out within) ∙ ap length front;
      rest = c.put_size.ensures.rest
          ∙ drop_later c.put_sign-at.result c.put_size.result c.put_sign-at.new.out c.args.out.now
          (omega (arith, c.put_size.ensures.end)) c.put_sign-at.ensures.rest;
    }
