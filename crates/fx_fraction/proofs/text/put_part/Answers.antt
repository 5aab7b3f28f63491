use Rattle.std.proofs.Common.{◌≡◌, ℕ, ◌+◌, ◌-◌, ◌*◌, ◌/◌, ◌^◌, ◌<◌, ◌≤◌, ◌++◌, take, sym, ap, ap₂, ◌∙◌, arith}
use Rattle.std.specs.Int.Count.{count_trailing_zeros}
use Rattle.std.proofs.lemmas.List.{append-nil}
use Rattle.fx_model.specs.WordText.{digits_after, pointed}
use Rattle.fx_fraction.proofs.Halvings.{Parts, some_parts}
use Rattle.fx_fraction.proofs.Tails.{drop_later, point_none, with_point}
use Rattle.fx_fraction.proofs.text.put_part.Goals as goal

pub returns-then-rest-eq0-clause-written : goal.returns-then-rest-eq0-clause-written
returns-then-rest-eq0-clause-written c =
    sym (ap (λ xs. take c.args.at c.args.out.now ++ xs) (point_none c.args.point c.args.rest c.if-rest-eq0.true)
    ∙ append-nil (take c.args.at c.args.out.now))

pub returns-clause-written : goal.returns-clause-written
returns-clause-written c =
    with_point (take c.args.at c.args.out.now) _ _ c.args.point c.args.rest
    (omega arith) c.requires.below c.put_byte-end.ensures.written c.put_digits.ensures.written

pub returns-clause-rest : goal.returns-clause-rest
returns-clause-rest c = c.put_digits.ensures.rest
    ∙ drop_later c.put_byte-end.result c.put_digits.result c.put_byte-end.new.out c.args.out.now
    (omega (arith, c.put_digits.ensures.end)) c.put_byte-end.ensures.rest

kept : (f s : ℕ) → (f ≡ 0 → ⊥) → f < 2 ^ s → s ≤ 62 → Parts f s (count_trailing_zeros 64 f)
kept f s some few most = some_parts 64 f s (omega (arith, some)) few (omega (arith, most))

pub overflow_sub-places : goal.overflow_sub-places
overflow_sub-places c =
    omega (arith, (kept c.args.rest c.args.point c.if-rest-eq0.false c.requires.below c.requires.few).less)

pub put_few-requires-clause-some : goal.put_few-requires-clause-some
put_few-requires-clause-some c =
    omega (arith, (kept c.args.rest c.args.point c.if-rest-eq0.false c.requires.below c.requires.few).less)

pub put_few-requires-clause-below : goal.put_few-requires-clause-below
put_few-requires-clause-below c =
    let k = kept c.args.rest c.args.point c.if-rest-eq0.false c.requires.below c.requires.few in rw k.shifted k.few

pub put_few-requires-clause-odd : goal.put_few-requires-clause-odd
put_few-requires-clause-odd c =
    let k = kept c.args.rest c.args.point c.if-rest-eq0.false c.requires.below c.requires.few in rw k.shifted k.odd

pub returns-then-places-le18-clause-written : goal.returns-then-places-le18-clause-written
returns-then-places-le18-clause-written c =
    let zeros = count_trailing_zeros 64 c.args.rest in
    let k = kept c.args.rest c.args.point c.if-rest-eq0.false c.requires.below c.requires.few in
    let places : (c.args.point - zeros) + zeros ≡ c.args.point = omega (arith, k.less) in
    let rest : (c.args.rest / 2 ^ zeros) * 2 ^ zeros ≡ c.args.rest = ap (λ (n : ℕ). n * 2 ^ zeros) k.shifted
    ∙ sym k.is in
    c.put_few.ensures.written zeros
    ∙ ap₂ (λ (p r : ℕ). take c.args.at c.args.out.now ++ pointed (digits_after p r)) places rest
