use Rattle.std.proofs.Common.{ℕ, ◌+◌, subst, arith}
use Rattle.fx_calm.specs.declared.sum.Sum.TheVariants.{Values}
use Rattle.fx_calm.specs.declared.limit.Limit.TheVariants.{Sums}
use Rattle.fx_calm.specs.LimitOf.{IsLeast, count_of}
use Rattle.fx_calm.proofs.Found.{none_is, not_contracting, not_started, starts_are, not_sized, not_valued, exponents}
use Rattle.fx_calm.proofs.numbers.of_tame.Goals as goal

pub returns-then-branch-gt0 : goal.returns-then-branch-gt0
returns-then-branch-gt0 c =
    let t = c.if-branch-gt0.true in
    none_is c.args.width c.args.function.now
    (not_contracting c.args.width c.args.function.now c.requires.width c.keeps.ensures c.in_ok-least.field-0
    c.in_ok-least.ensures (omega (arith, t)))

pub returns-then-q-gt23 : goal.returns-then-q-gt23
returns-then-q-gt23 c =
    let t = c.if-q-gt23.true in
    none_is c.args.width c.args.function.now
    (not_started c.args.width c.args.function.now c.requires.width c.keeps.ensures c.in_ok-q.q c.in_ok-q.ensures
    (omega (arith, t)))

pub returns-then-a-gt56 : goal.returns-then-a-gt56
returns-then-a-gt56 c =
    let t = c.if-a-gt56.true in
    none_is c.args.width c.args.function.now
    (not_sized c.args.width c.args.function.now c.requires.width c.keeps.ensures c.in_ok-a.a c.in_ok-a.ensures
    (omega (arith, t)))

pub least-requires-3-clause-ready : goal.least-requires-3-clause-ready
least-requires-3-clause-ready c = let q = c.if-q-gt23.false in (c.requires.tame, omega (arith, q))

pub returns-then-w-gt25 : goal.returns-then-w-gt25
returns-then-w-gt25 c =
    let fn = c.args.function.now in let few = c.if-q-gt23.false in let t = c.if-w-gt25.true in
    none_is c.args.width fn
    (not_valued c.args.width fn c.requires.width c.keeps.ensures c.in_ok-q.q c.args.low c.in_ok-w.w
    (starts_are c.args.width fn c.requires.width c.keeps.ensures c.in_ok-q.q c.in_ok-q.ensures
    (omega (arith, few))) c.requires.low
    (subst (λ (k : ℕ). IsLeast fn (Sums (Values (c.in_ok-q.q + 2))) k 25
    (count_of fn (Sums (Values (c.in_ok-q.q + 2)))) c.in_ok-w.w) c.max.ensures c.in_ok-w.ensures)
    (omega (arith, t)))

pub with_errors-requires-clause-exponents : goal.with_errors-requires-clause-exponents
with_errors-requires-clause-exponents c =
    let fn = c.args.function.now in let z = c.if-branch-gt0.false in let q = c.if-q-gt23.false in
    let a = c.if-a-gt56.false in let w = c.if-w-gt25.false in
    exponents c.args.width fn c.requires.width c.keeps.ensures c.args.low c.in_ok-least.field-0 c.in_ok-q.q c.in_ok-a.a
    c.in_ok-w.w c.requires.form c.requires.low c.in_ok-least.ensures (omega (arith, z)) c.in_ok-q.ensures
    (omega (arith, q))
    c.in_ok-a.ensures (omega (arith, a))
    (subst (λ (k : ℕ). IsLeast fn (Sums (Values (c.in_ok-q.q + 2))) k 25
    (count_of fn (Sums (Values (c.in_ok-q.q + 2)))) c.in_ok-w.w) c.max.ensures c.in_ok-w.ensures) (omega (arith, w))
