use Rattle.std.proofs.Common.{◌≡◌, ℕ, ◌+◌, ◌*◌, ◌^◌, ◌++◌, ◌∷◌, take, drop, length, ap, sym, ◌∙◌, arith}
use Rattle.fx_model.specs.WordText.{digits_after}
use Rattle.fx_fraction.proofs.Tails.{glyphs}
use Rattle.fx_fraction.proofs.Spelled.{number, pointed_over, pointed_digits}
use Rattle.fx_fraction.proofs.text.put_few.Goals as goal

pub write_digits-requires : goal.write_digits-requires
write_digits-requires c =
    let m =
    number c.args.places 0 c.args.rest c.ten_to-power.result c.requires.few c.requires.below
    (λ _. c.requires.odd) c.ten_to-power.ensures.value in
    (omega (arith, ap length m.is, m.count), c.requires.room)

over : (c : goal.After-slice_known-3-1) (ends : ℕ) →
    (let end = c.args.at + c.args.places + 1 in
    let ds = glyphs (digits_after (c.args.places + ends) (c.args.rest * 2 ^ ends)) in
    (take end c.put_byte.new.out ≡ take c.args.at c.args.out.now ++ 46 ∷ ds) ×
    (drop end c.put_byte.new.out ≡ drop end c.args.out.now))
over c ends =
    let end = c.args.at + c.args.places + 1 in
    let m =
    number c.args.places ends c.args.rest c.ten_to-power.result c.requires.few c.requires.below
    (λ _. c.requires.odd) c.ten_to-power.ensures.value in
    let w = c.write_digits.ensures in
    let at : c.write_digits.result ≡ c.args.at = omega (arith, w.start, ap length m.is, m.count) in
    let behind = ap (λ (k : ℕ). drop k c.write_digits.new.buf) (sym at) ∙ w.written
    ∙ ap (λ ds. ds ++ drop end c.args.out.now) m.is in
    let before = ap (λ (k : ℕ). take k c.write_digits.new.buf) (sym at) ∙ w.before
    ∙ ap (λ (k : ℕ). take k c.args.out.now) at in
    let one = c.put_byte.ensures.end in
    let first = ap (λ (k : ℕ). take k c.put_byte.new.out) (sym one) ∙ c.put_byte.ensures.written in
    let rest = ap (λ (k : ℕ). drop k c.put_byte.new.out) (sym one) ∙ c.put_byte.ensures.rest
    ∙ ap (λ (k : ℕ). drop k c.write_digits.new.buf) one in
    pointed_over c.args.out.now c.write_digits.new.buf c.put_byte.new.out _ c.args.at c.args.places 49 46
    (omega (arith, c.requires.room)) m.count behind before first rest

pub returns-clause-written : goal.returns-clause-written
returns-clause-written c ends =
    (over c ends).0 ∙ ap (λ ds. take c.args.at c.args.out.now ++ ds)
    (pointed_digits c.args.places ends c.args.rest c.requires.below c.requires.odd)

pub returns-clause-rest : goal.returns-clause-rest
returns-clause-rest c = (over c 0).1
