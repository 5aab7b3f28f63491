use Rattle.std.proofs.Common.{◌≡◌, ℕ, ◌+◌, List, Some, None, ap, sym, ◌∙◌, arith}
use Rattle.std.proofs.Common.{Vec, Global}
use Rattle.fx_expr.specs.TreeOf.{tree}
use Rattle.fx_rewrite.specs.Ahead.{ahead}
use Rattle.fx_rewrite.specs.NextPath.{next_path}
use Rattle.fx_rewrite.proofs.Trees.{on_path, on_place, place_small, seen, unseen}
use Rattle.fx_rewrite.proofs.successor.position_after.Goals as goal

pub overflow_add-result : goal.overflow_add-result
overflow_add-result c =
    let h = place_small c.args.function.now c.args.place (tree c.args.whole.now) c.keeps.ensures c.requires in
    omega arith

pub returns-in-Some : goal.returns-in-Some
returns-in-Some c =
    let n : next_path c.args.path.now (tree c.args.whole.now) ≡ Some c.in-Some.path.items =
    seen (λ (p : Vec ℕ Global). p.items) c.in_ok-path.field-0
    (next_path c.args.path.now (tree c.args.whole.now)) c.in-Some.path c.in_ok-path.ensures c.in-Some.is in
    on_path c.args.function.now c.args.place c.args.path.now c.in-Some.path.items (tree c.args.whole.now) c.requires n

pub returns-in-None : goal.returns-in-None
returns-in-None c =
    let n : next_path c.args.path.now (tree c.args.whole.now) ≡ None =
    unseen (λ (p : Vec ℕ Global). p.items) c.in_ok-path.field-0
    (next_path c.args.path.now (tree c.args.whole.now)) c.in_ok-path.ensures c.in-None.is in
    on_place c.args.function.now c.args.place c.args.path.now (tree c.args.whole.now) n
    ∙ ap (λ (p : List ℕ). ahead c.args.function.now (c.args.place + 1) p 1) (sym c.new.ensures.items)
