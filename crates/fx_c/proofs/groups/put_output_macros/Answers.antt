use Rattle.std.proofs.Common.{pos, rules, ap, ◌++◌, ◌∙◌, codes}
use Rattle.std.specs.Int.{w32, w128}
use Rattle.std.proofs.lemmas.Int.{to_z-of_z}
use Rattle.fx_rational.specs.Dyadic.{Dyadic}
use Rattle.fx_c99.specs.CHeader.{macro_text, of_element, output_comment}
use Rattle.fx_c.proofs.Appended.{four_pieces}
use Rattle.fx_c.proofs.groups.put_output_macros.Goals as goal

pub returns : goal.returns
returns c =
    let title = c.args.title.now in let name = of_element (codes "OUTPUT") c.args.j in let bound = c.args.bound in let own = c.bound.inside.m in
    let f = to_z-of_z w32 c.args.f c.ranges.f in
    let m = to_z-of_z w128 own (search rules) ∙ ap (λ (d : Dyadic). d.m) c.bound.view_is in
    let e = to_z-of_z w128 c.from.result (search rules) ∙ c.from.ensures
    ∙ ap (λ (d : Dyadic). pos d.e) c.bound.view_is in
    let a = c.put_output_comment.new.out.items in let b = c.put_point.new.out.items in
    let d = c.put_element_macro.new.out.items in
    four_pieces (output_comment c.args.j) (macro_text title (name (codes "_POINT")) c.args.f)
    (macro_text title (name (codes "_BOUND")) bound.m) (macro_text title (name (codes "_BOUND_POINT")) (pos bound.e))
    c.args.out.now.items a b d c.put_element_macro-2.new.out.items c.in_ok-put_output_comment.ensures
    (c.in_ok-put_point.ensures ∙ ap (λ v. a ++ macro_text title (name (codes "_POINT")) v) f)
    (c.in_ok-put_element_macro.ensures ∙ ap (λ v. b ++ macro_text title (name (codes "_BOUND")) v) m)
    (c.in_ok-put_element_macro-2.ensures ∙ ap (λ v. d ++ macro_text title (name (codes "_BOUND_POINT")) v) e)
