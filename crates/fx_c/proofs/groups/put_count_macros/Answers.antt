use Rattle.std.proofs.Common.{pos, codes}
use Rattle.fx_c99.specs.CHeader.{macro_text}
use Rattle.fx_c.proofs.Appended.{five_pieces}
use Rattle.fx_c.proofs.groups.put_count_macros.Goals as goal

pub returns : goal.returns
returns c =
    let title = c.args.title.now in
    five_pieces (codes "/* bits of a word w, which stands for w / 2^POINT, and elements of the arrays */\n")
    (macro_text title (codes "WIDTH") (pos c.args.width)) (macro_text title (codes "INPUTS") (pos c.args.inputs))
    (macro_text title (codes "STATES") (pos c.args.states)) (macro_text title (codes "OUTPUTS") (pos c.args.outputs))
    c.args.out.now.items c.put.new.out.items c.put_count.new.out.items c.put_count-2.new.out.items
    c.put_count-3.new.out.items c.put_count-4.new.out.items c.in_ok-put.ensures c.in_ok-put_count.ensures
    c.in_ok-put_count-2.ensures c.in_ok-put_count-3.ensures c.in_ok-put_count-4.ensures
