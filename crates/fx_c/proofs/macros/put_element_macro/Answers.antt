use Rattle.std.proofs.Common.{ap, ◌++◌, ◌∙◌, codes}
use Rattle.std.specs.Int.{w128}
use Rattle.std.proofs.lemmas.Int.{to_z-of_z}
use Rattle.fx_c99.specs.CHeader.{number_text}
use Rattle.fx_c.proofs.HeaderPieces.{element_macro}
use Rattle.fx_c.proofs.macros.put_element_macro.Goals as goal

pub returns : goal.returns
returns c =
    element_macro c.args.title.now c.args.array.now c.args.k c.args.what.now c.args.v c.args.out.now.items
    c.open_macro.new.out.items c.put.new.out.items c.put_digits.new.out.items c.put-2.new.out.items
    c.close_macro.new.out.items c.in_ok-open_macro.ensures c.in_ok-put.ensures c.in_ok-put_digits.ensures
    c.in_ok-put-2.ensures (c.in_ok-close_macro.ensures ∙ ap (λ v. c.put-2.new.out.items ++ codes " " ++ number_text v ++ codes "\n")
    (to_z-of_z w128 c.args.v c.ranges.v))
