use Rattle.std.proofs.Common.{map}
use Rattle.fx_program.specs.CodeView.{code_of}
use Rattle.fx_c99.specs.OfProgram.{c_lets_from}
use Rattle.fx_c.proofs.Appended.{helped}
use Rattle.fx_c.proofs.text.put_helpers.Goals as goal

pub returns : goal.returns
returns c =
    helped c.args.width (c_lets_from c.args.width 0 c.args.widths.now (map code_of c.args.codes.now))
    c.any_passes-wide.result c.any_passes-first.result c.any_passes-second.result c.any_passes-third.result
    c.args.out.now.items c.put_wide_if.new.out.items c.put_floor_if.new.out.items c.put_floor_if-2.new.out.items
    c.put_floor_if-3.new.out.items c.any_passes-wide.ensures c.any_passes-first.ensures
    c.any_passes-second.ensures c.any_passes-third.ensures c.in_ok-put_wide_if.ensures c.in_ok-put_floor_if.ensures
    c.in_ok-put_floor_if-2.ensures c.in_ok-put_floor_if-3.ensures
