use Rattle.std.proofs.Common.{◌≡◌, ◌+◌, ◌<◌, ◌++◌, ◌∷◌, [], ap, sym, length, drop, arith, length-append}
use Rattle.fx_expr.specs.LawfulFunction.{IsLawfulFunction}
use Rattle.fx_expr.specs.Parts.{temp_of}
use Rattle.fx_flat.proofs.Turns.{front, temp_room, temp_turn, temp_known, seen_length}
use Rattle.fx_flat.proofs.list.put_temps.Goals as goal

-- the next temp stands in front of what is left
left : (c : goal.After-deref) →
    drop c.loop-temp.temp-index c.args.function.now.temps ≡ temp_of c.temp-item.result
    ∷ drop (c.loop-temp.temp-index + 1) c.args.function.now.temps
left c =
    front temp_of c.function.inside.temps c.as_slice-temp-items.result.now c.args.function.now.temps
    c.loop-temp.temp-index c.temp-item.result
    (ap (λ f. f.temps) c.function.view_is) c.as_slice-temp-items.ensures c.loop-temp-test.true c.temp-item.is

lawful : (c : goal.After-deref) → IsLawfulFunction c.args.function.now
lawful c = rw (sym c.function.view_is) c.function.invariant.lawful

pub put_tree-requires-clause-few : goal.put_tree-requires-clause-few
put_tree-requires-clause-few c =
    rw c.deref.ensures.value
    (temp_room c.args.function.now c.args.inputs c.loop-temp.temp-index c.loop-temp.list.items
    c.loop-temp.temps.items (temp_of c.temp-item.result) c.requires.inputs (left c) c.loop-temp.invariant.rest
    (lawful c).sizes.nodes)

pub put_tree-requires-clause-refers : goal.put_tree-requires-clause-refers
put_tree-requires-clause-refers c =
    let lt : c.loop-temp.temp-index < length c.args.function.now.temps =
    seen_length temp_of c.function.inside.temps c.as_slice-temp-items.result.now c.args.function.now.temps
    c.loop-temp.temp-index (ap
    (λ f. f.temps) c.function.view_is) c.as_slice-temp-items.ensures c.loop-temp-test.true in
    rw c.deref.ensures.value
    (temp_known c.args.function.now c.args.inputs c.loop-temp.temp-index c.loop-temp.temps.items
    (temp_of c.temp-item.result) (lawful c).valid (lawful c).sizes.states c.requires.inputs lt
    (left c) c.loop-temp.invariant.count)

-- the same where the turn ends
still_left : (c : goal.In_ok-push) →
    drop c.loop-temp.temp-index c.args.function.now.temps ≡ temp_of c.temp-item.result
    ∷ drop (c.loop-temp.temp-index + 1) c.args.function.now.temps
still_left c =
    front temp_of c.function.inside.temps c.as_slice-temp-items.result.now c.args.function.now.temps
    c.loop-temp.temp-index c.temp-item.result
    (ap (λ f. f.temps) c.function.view_is) c.as_slice-temp-items.ensures c.loop-temp-test.true c.temp-item.is

pub loop-temp-preserved : goal.loop-temp-preserved
loop-temp-preserved c =
    let items : c.push.new.self.items ≡ c.loop-temp.temps.items ++ c.in_ok-root.root ∷ [] =
    c.in_ok-push.ensures.items in
    record {
      count = rw items (let n = length-append c.loop-temp.temps.items (c.in_ok-root.root ∷ []) in
          omega (arith, n, c.loop-temp.invariant.count));
      rest =
          rw items (temp_turn c.args.function.now c.args.inputs c.loop-temp.temp-index c.loop-temp.list.items
          c.put_tree.new.list.items c.loop-temp.temps.items c.in_ok-root.root
          (temp_of c.temp-item.result) c.requires.inputs (still_left c) c.loop-temp.invariant.rest
          (rw (sym c.deref.ensures.value) c.in_ok-root.ensures.list)
          (rw (sym c.deref.ensures.value) c.in_ok-root.ensures.root));
    }
