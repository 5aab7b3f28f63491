use Rattle.std.proofs.Common.{codes}
use Rattle.fx_c99.specs.CText.{working_text, floor_call}
use Rattle.fx_c.proofs.Appended.{four_pieces}
use Rattle.fx_c.proofs.text.put_floor_head.Goals as goal

pub returns : goal.returns
returns c =
    four_pieces (codes "/* x / 2^s, rounded down */\nstatic inline ") (working_text c.args.bits) (codes " ")
    (floor_call c.args.bits) c.args.out.now.items c.put.new.out.items c.put_working.new.out.items
    c.put-2.new.out.items c.put_floor_call.new.out.items c.in_ok-put.ensures c.in_ok-put_working.ensures
    c.in_ok-put-2.ensures c.in_ok-put_floor_call.ensures
