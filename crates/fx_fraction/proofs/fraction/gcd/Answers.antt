use Rattle.std.proofs.Common.{subst, sym, arith}
use Rattle.std.specs.Int.{IsGcd}
use Rattle.std.proofs.lemmas.Nat.Gcd.{IsGcd-from_mod, IsGcd-from_zero}
use Rattle.fx_fraction.proofs.fraction.gcd.Goals as goal

pub loop-y-preserved : goal.loop-y-preserved
loop-y-preserved c = λ g h. c.loop-y.invariant g (IsGcd-from_mod c.loop-y.x c.loop-y.y g h)

pub returns-then-y-eq0 : goal.returns-then-y-eq0
returns-then-y-eq0 c = c.loop-y.invariant c.loop-y.x (IsGcd-from_zero c.loop-y.x c.loop-y.y (omega arith))

pub returns : goal.returns
returns c =
    c.loop-y.invariant c.from.result
    (subst (IsGcd c.loop-y.x c.loop-y.y) (sym c.from.ensures)
    (IsGcd-from_mod c.loop-y.x c.loop-y.y c.short_gcd.result c.short_gcd.ensures))
