use Rattle.std.proofs.Common.{◌∙◌, sym}
use Rattle.fx_c99.proofs.Rooms.{copy_bits_are}
use Rattle.fx_c.proofs.working.lowered_bits.Goals as goal

pub returns : goal.returns
returns c = c.plain_bits.ensures ∙ sym (copy_bits_are c.args.width c.args.a c.args.s)
