use Rattle.std.proofs.Common.{◌≡◌, Some, IfSome, Option, sym, ap, subst, ◌∙◌}
use Rattle.std.specs.Option.{option_map}
use Rattle.fx_expr.specs.TreeOf.{tree}
use Rattle.fx_model.specs.Rules as table
use Rattle.fx_rules.specs.Turned.{nothing, matched, or_zero}
use Rattle.fx_rewrite.specs.Moving.{IsMovable}
use Rattle.fx_rewrite.specs.RuleOf.{pattern_of, folding_of, rule_of}
use Rattle.fx_rewrite.specs.declared.pattern.Rule.{Rule}
use Rattle.fx_rewrite.specs.FoundOf.{found_of}
use Rattle.fx_rewrite.specs.FoldedAs.{folded_by}
use Rattle.fx_rewrite.proofs.Matches.{finds, matches}
use Rattle.fx_rewrite.proofs.matching.judge.Goals as goal

pub returns-in-Literal : goal.returns-in-Literal
returns-in-Literal c =
    let r = c.in-Some.row in
    let is : table.rule c.args.number_of_rule ≡ Some (rule_of r) =
    sym c.rule.ensures.row ∙ ap (option_map rule_of) c.in-Some.is in
    let movable : IsMovable r = subst (λ (o : Option Rule). IfSome o IsMovable) c.in-Some.is c.rule.ensures.movable in
    let found : matched (pattern_of r.left) (tree c.args.e.now) nothing ≡ Some (found_of c.find.new.z) =
    ap (matched (pattern_of r.left) (tree c.args.e.now)) (sym c.nothing.ensures)
    ∙ finds c.find.result _ nothing _ c.find.ensures c.if-not-find.false in
    let m =
    matches c.args.number_of_rule r (tree c.args.e.now) (found_of c.find.new.z) c.in-Literal.made c.both_sizes.result
    is found
    (sym c.in-Literal.is ∙ c.fold.ensures ∙ ap (λ l. folded_by (folding_of r.folding) l c.number-2.result)
    c.number.ensures
    ∙ ap (folded_by (folding_of r.folding) (or_zero c.find.new.z.l)) c.number-2.ensures) c.both_sizes.ensures movable in
    record { becomes = m.becomes; less = m.less; more = m.more; finished = m.finished }
