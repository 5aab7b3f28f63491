use Rattle.std.proofs.Common.{arith, ap, ◌∙◌, ◌^◌, ℕ}
use Rattle.fx_fraction.proofs.Quanta.{ten_pos, ten_small, tens_at}
use Rattle.fx_fraction.proofs.decimal.ten_to.Goals as goal

pub returns : goal.returns
returns c =
    let e = tens_at c.from.result (omega arith) ∙ ap (λ (n : ℕ). 10 ^ n) c.from.ensures in
    record { value = e; some = rw e (ten_pos c.args.places); few = rw e (ten_small c.args.places c.requires) }
