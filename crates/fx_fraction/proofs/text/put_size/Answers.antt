use Rattle.std.proofs.Common.{◌≡◌, ◌++◌, take, ap, refl, ◌∙◌, arith}
use Rattle.std.specs.Prelude.{unsigned_abs}
use Rattle.std.proofs.lemmas.Int.{ints, to_z-of_z}
use Rattle.fx_fraction.proofs.Tails.{drop_later, size_low, size_in_two, high_few, mask_is}
use Rattle.fx_fraction.proofs.text.put_size.Goals as goal

pub returns-then-point-lt0-clause-written : goal.returns-then-point-lt0-clause-written
returns-then-point-lt0-clause-written c =
    let fp = c.ranges.point in
    let k : c.unsigned_abs-shift.result ≡ unsigned_abs c.args.point =
    simp to_z-of_z at c.unsigned_abs-shift.ensures.value in
    c.put_number.ensures.written ∙ ap (λ xs. take c.args.at c.args.out.now ++ xs)
    (size_low c.args.size c.args.point c.unsigned_abs-shift.result c.from.result c.requires.size c.requires.low
    (omega (arith, ints)) k c.from.ensures)

pub returns-clause-written : goal.returns-clause-written
returns-clause-written c =
    let fp = c.ranges.point in
    let k : c.unsigned_abs-shift.result ≡ unsigned_abs c.args.point =
    simp to_z-of_z at c.unsigned_abs-shift.ensures.value in
    size_in_two (take c.args.at c.args.out.now) _ _ c.args.size c.args.point c.unsigned_abs-shift.result _ _
    (omega (arith, ints)) k refl
    (mask_is c.args.size c.unsigned_abs-shift.result
    (high_few c.args.point c.unsigned_abs-shift.result (omega (arith, ints)) c.requires.high k))
    c.put_whole-end.ensures.written c.put_part.ensures.written

pub returns-clause-rest : goal.returns-clause-rest
returns-clause-rest c = c.put_part.ensures.rest
    ∙ drop_later c.put_whole-end.result c.put_part.result c.put_whole-end.new.out c.args.out.now
    (omega (arith, c.put_part.ensures.end)) c.put_whole-end.ensures.rest
