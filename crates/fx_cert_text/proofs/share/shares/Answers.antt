use Rattle.std.proofs.Common.{arith}
use Rattle.fx_cert_text.proofs.Shares.{few_shares}
use Rattle.fx_cert_text.proofs.share.shares.Goals as goal

pub returns : goal.returns
returns c = rw (few_shares c.args.end c.args.fields.now (omega (arith, c.requires))) c.few_shares.ensures
