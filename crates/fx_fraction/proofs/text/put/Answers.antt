use Rattle.std.proofs.Common.{◌+◌, ◌-◌, length, arith, rules}
use Rattle.std.proofs.lemmas.Slice.{drop-put_mid}
use Rattle.fx_fraction.proofs.text.put.Goals as goal

pub returns-clause-rest : goal.returns-clause-rest
returns-clause-rest c =
    drop-put_mid c.args.at (c.args.at + length c.args.bytes.now - c.args.at) c.args.out.now _
    (c.args.at + length c.args.bytes.now) (omega arith) (omega arith) (search rules)
