use Rattle.std.proofs.Common.{◌≡◌, ◌+◌, ◌<◌, ◌++◌, ◌∷◌, [], ap, sym, length, drop}
use Rattle.fx_expr.specs.LawfulFunction.{IsLawfulFunction}
use Rattle.fx_expr.specs.TreeOf.{tree}
use Rattle.fx_flat.proofs.Turns.{front, result_room, result_turn, result_known, seen_length}
use Rattle.fx_flat.proofs.list.put_results.Goals as goal

-- the next result stands in front of what is left
left : (c : goal.After-put_tree-arg-1) →
    drop c.loop-result.result-index c.args.function.now.results ≡ tree c.result-item.result
    ∷ drop (c.loop-result.result-index + 1) c.args.function.now.results
left c =
    front tree c.function.inside.results c.as_slice-result-items.result.now c.args.function.now.results
    c.loop-result.result-index c.result-item.result
    (ap (λ f. f.results) c.function.view_is) c.as_slice-result-items.ensures c.loop-result-test.true c.result-item.is

lawful : (c : goal.After-put_tree-arg-1) → IsLawfulFunction c.args.function.now
lawful c = rw (sym c.function.view_is) c.function.invariant.lawful

pub put_tree-requires-clause-few : goal.put_tree-requires-clause-few
put_tree-requires-clause-few c =
    (result_room c.args.function.now c.args.inputs c.loop-result.result-index c.loop-result.list.items c.args.temps.now
    c.loop-result.roots.items (tree c.result-item.result) c.requires.inputs (left c) c.loop-result.invariant
    (lawful c).sizes.nodes)

pub put_tree-requires-clause-refers : goal.put_tree-requires-clause-refers
put_tree-requires-clause-refers c =
    let lt : c.loop-result.result-index < length c.args.function.now.results =
    seen_length tree c.function.inside.results c.as_slice-result-items.result.now c.args.function.now.results
    c.loop-result.result-index
    (ap (λ f. f.results) c.function.view_is) c.as_slice-result-items.ensures c.loop-result-test.true in
    (result_known c.args.function.now c.args.inputs c.loop-result.result-index c.args.temps.now
    (tree c.result-item.result) (lawful c).valid (lawful c).sizes.states c.requires.inputs lt
    (left c) c.requires.temps)

-- the same where the turn ends
still_left : (c : goal.In_ok-push) →
    drop c.loop-result.result-index c.args.function.now.results ≡ tree c.result-item.result
    ∷ drop (c.loop-result.result-index + 1) c.args.function.now.results
still_left c =
    front tree c.function.inside.results c.as_slice-result-items.result.now c.args.function.now.results
    c.loop-result.result-index c.result-item.result
    (ap (λ f. f.results) c.function.view_is) c.as_slice-result-items.ensures c.loop-result-test.true c.result-item.is

pub loop-result-preserved : goal.loop-result-preserved
loop-result-preserved c =
    let items : c.push.new.self.items ≡ c.loop-result.roots.items ++ c.in_ok-root.root ∷ [] =
    c.in_ok-push.ensures.items in
    rw items (result_turn c.args.function.now c.args.inputs c.loop-result.result-index c.loop-result.list.items
    c.put_tree.new.list.items c.args.temps.now c.loop-result.roots.items c.in_ok-root.root
    (tree c.result-item.result) c.requires.inputs (still_left c) c.loop-result.invariant
    c.in_ok-root.ensures.list c.in_ok-root.ensures.root)
