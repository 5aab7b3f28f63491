use Rattle.std.proofs.Common.{ap, ◌++◌, ◌∙◌, codes}
use Rattle.std.specs.Int.{w32, w128}
use Rattle.std.proofs.lemmas.Int.{to_z-of_z}
use Rattle.fx_c99.specs.CHeader.{macro_text, of_element, input_comment}
use Rattle.fx_c.proofs.Appended.{four_pieces}
use Rattle.fx_c.proofs.groups.put_input_macros.Goals as goal

pub returns : goal.returns
returns c =
    let title = c.args.title.now in let name = of_element (codes "INPUT") c.args.k in
    let f = to_z-of_z w32 c.args.f c.ranges.f in let least = to_z-of_z w128 c.args.least c.ranges.least in
    let greatest = to_z-of_z w128 c.args.greatest c.ranges.greatest in
    let a = c.put_named_comment.new.out.items in let b = c.put_point.new.out.items in
    let d = c.put_element_macro.new.out.items in
    four_pieces (input_comment c.args.k c.args.name.now) (macro_text title (name (codes "_POINT")) c.args.f)
    (macro_text title (name (codes "_LEAST")) c.args.least)
    (macro_text title (name (codes "_GREATEST")) c.args.greatest)
    c.args.out.now.items a b d c.put_element_macro-2.new.out.items c.in_ok-put_named_comment.ensures
    (c.in_ok-put_point.ensures ∙ ap (λ v. a ++ macro_text title (name (codes "_POINT")) v) f)
    (c.in_ok-put_element_macro.ensures ∙ ap (λ v. b ++ macro_text title (name (codes "_LEAST")) v) least)
    (c.in_ok-put_element_macro-2.ensures ∙ ap (λ v. d ++ macro_text title (name (codes "_GREATEST")) v) greatest)
