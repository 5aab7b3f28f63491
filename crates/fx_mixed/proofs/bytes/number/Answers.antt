use Rattle.std.proofs.Common.{◌<◌, length, arith, rules}
use Rattle.fx_mixed.proofs.Loops.{room}
use Rattle.fx_mixed.proofs.bytes.number.Goals as goal

pub overflow_mul-all : goal.overflow_mul-all
overflow_mul-all c =
    let r =
    room c.loop-k.all c.loop-k.k (length c.args.bytes.now) 0 c.loop-k.invariant.1 (search rules) c.requires
    (omega arith) in
    record { fits = omega (arith, r) }

pub overflow_add-all : goal.overflow_add-all
overflow_add-all c =
    let b : c.from.result < 256 = search (rules, arith) in
    let r =
    room c.loop-k.all c.loop-k.k (length c.args.bytes.now) c.from.result c.loop-k.invariant.1
    (search rules) c.requires b in
    record { fits = omega (arith, r) }
