use Rattle.std.proofs.Common.{◌≡◌, ℕ, ◌≤◌, ◌++◌, List, length, take, drop, ap, ◌∙◌, length-append, length-drop, arith, rules}
use Rattle.std.proofs.lemmas.List.{take-append-le, length-take}
use Rattle.fx_model.specs.WordText.{decimal_text}
use Rattle.fx_stream.proofs.page.put_text.Goals as goal

long : (out old : List ℕ) → 128 ≤ length old → length (out ++ drop 128 old) ≡ length old → length out ≡ 128
long out old room same = omega (arith, length-append out (drop 128 old), length-drop 128 old, room, same)

fits : (c : goal.After-slice_known-in-Some-1) → c.decimal_text.result ≤ length c.decimal_text.new.out
fits c =
    omega (
      arith,
      length-take c.decimal_text.result c.decimal_text.new.out,
      ap length c.decimal_text.ensures.front,
      c.decimal_text.ensures.length,
    )

pub returns-in-Some-clause-text : goal.returns-in-Some-clause-text
returns-in-Some-clause-text c =
    let fw = c.ranges.word in
    let fp = c.ranges.point in
    let front : take c.decimal_text.result c.decimal_text.new.out ≡ decimal_text c.args.word c.args.point =
    search rules in
    take-append-le c.decimal_text.result c.decimal_text.new.out _ (fits c) ∙ front

pub returns-in-Some-clause-few : goal.returns-in-Some-clause-few
returns-in-Some-clause-few c =
    let same : length (c.decimal_text.new.out ++ drop 128 c.args.free.now) ≡ length c.args.free.now = search rules in
    omega (arith, fits c, long c.decimal_text.new.out c.args.free.now c.requires.room same)
