use Rattle.std.proofs.Common.{◌+◌, ◌^◌, ◌≤◌, sym, subst}
use Rattle.fx_plan_laws.proofs.Powers.{power_more}
use Rattle.fx_calm.proofs.bound.state_of.Goals as goal

pub returns-clause-short : goal.returns-clause-short
returns-clause-short c =
    let q = c.args.c.q + 2 + c.args.c.f in record {
      r = subst (λ n. n ≤ 2 ^ 61) (sym c.power.ensures) (power_more {a = q} {b = 61} c.requires.states);
      e =
          subst (λ n. n ≤ 2 ^ 61) (sym c.power-2.ensures)
          (power_more {a = c.error_box.result} {b = 61} c.error_box.ensures.few);
    }
