use Rattle.std.proofs.Common.{rules, ap, ◌++◌, ◌∙◌, codes}
use Rattle.std.specs.Int.{w32, w64, w128}
use Rattle.std.proofs.lemmas.Int.{to_z-of_z}
use Rattle.fx_c99.specs.CHeader.{macro_text, of_element, state_comment}
use Rattle.fx_c.proofs.Whole.{three_pieces}
use Rattle.fx_c.proofs.groups.put_state_macros.Goals as goal

pub returns : goal.returns
returns c =
    let title = c.args.title.now in let name = of_element (codes "STATE") c.args.k in
    let f = to_z-of_z w32 c.args.f c.ranges.f in
    let start = to_z-of_z w128 c.from.result (search rules) ∙ c.from.ensures ∙ to_z-of_z w64 c.args.start c.ranges.start in
    let a = c.put_named_comment.new.out.items in let b = c.put_point.new.out.items in
    three_pieces (state_comment c.args.k c.args.name.now) (macro_text title (name (codes "_POINT")) c.args.f)
    (macro_text title (name (codes "_START")) c.args.start)
    c.args.out.now.items a b c.put_element_macro.new.out.items c.in_ok-put_named_comment.ensures
    (c.in_ok-put_point.ensures ∙ ap (λ v. a ++ macro_text title (name (codes "_POINT")) v) f)
    (c.in_ok-put_element_macro.ensures ∙ ap (λ v. b ++ macro_text title (name (codes "_START")) v) start)
