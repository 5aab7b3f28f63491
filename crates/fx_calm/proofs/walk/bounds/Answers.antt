use Rattle.std.proofs.Common.{◌≡◌, ◌∙◌, ◌+◌, ◌++◌, ◌∷◌, [], List, length, ℕ, ap, sym, subst}
use Rattle.std.specs.Prelude.{All}
use Rattle.std.proofs.lemmas.List.{length-map, map_push}
use Rattle.fx_model.specs.Nodes.{nodes_of}
use Rattle.fx_model.proofs.Lists.{seen_at}
use Rattle.fx_flat.specs.NodeOf.{node_of}
use Rattle.fx_flat.specs.InPlace.{IsInPlace}
use Rattle.fx_flat.proofs.Ordered.{node_list, ordered_at}
use Rattle.fx_plan_laws.specs.CalmPlan.{node_bound, bounds_of}
use Rattle.fx_calm.specs.NumbersOf.{numbers_view}
use Rattle.fx_calm.specs.BoundOf.{bound_of, bounds_in, IsShort}
use Rattle.fx_calm.specs.declared.bound.Bound.{Bound}
use Rattle.fx_calm.proofs.Walked.{IsWalked, front_short, next_short, walk_on}
use Rattle.fx_calm.proofs.walk.bounds.Goals as goal

pub node_bound-requires-clause-ordered : goal.node_bound-requires-clause-ordered
node_bound-requires-clause-ordered c =
    let fn = c.args.function.now in
    let s =
    seen_at node_of c.args.nodes.now
    (nodes_of fn) c.loop-i.i c.index-nodes-i.result c.requires.nodes c.loop-i-test.true c.index-nodes-i.is in
    let o =
    subst (IsInPlace (length fn.inputs) (length fn.states) c.loop-i.i) s.1
    (ordered_at (length fn.inputs) (length fn.states) c.loop-i.i (nodes_of fn) (node_of c.index-nodes-i.result)
    (node_list fn c.keeps.ensures.valid).ordered s.0) in
    let long : length c.deref.result.now ≡ c.loop-i.i = ap length c.deref.ensures.value
    ∙ sym (length-map c.loop-i.bs.items bound_of) ∙ c.loop-i.invariant.count in
    subst (λ (k : ℕ). IsInPlace (length fn.inputs) (length fn.states) k (node_of c.index-nodes-i.result)) (sym long) o

pub node_bound-requires-clause-short : goal.node_bound-requires-clause-short
node_bound-requires-clause-short c =
    let fn = c.args.function.now in let n = numbers_view c.args.c in
    subst (λ (xs : List Bound). All IsShort (bounds_in xs)) (sym c.deref.ensures.value)
    (front_short n fn.inputs (nodes_of fn) (bounds_of n fn) c.loop-i.i
    (bounds_in c.loop-i.bs.items) c.loop-i.invariant c.requires.short)

pub node_bound-requires-clause-own : goal.node_bound-requires-clause-own
node_bound-requires-clause-own c =
    let fn = c.args.function.now in let n = numbers_view c.args.c in let node = node_of c.index-nodes-i.result in
    let s =
    seen_at node_of c.args.nodes.now
    (nodes_of fn) c.loop-i.i c.index-nodes-i.result c.requires.nodes c.loop-i-test.true c.index-nodes-i.is in
    subst (λ (xs : List Bound). IsShort (node_bound n fn.inputs (bounds_in xs) node)) (sym c.deref.ensures.value)
    (next_short n fn.inputs (nodes_of fn) (bounds_of n fn) c.loop-i.i
    (bounds_in c.loop-i.bs.items) node s.0 s.1 c.loop-i.invariant c.requires.short)

pub loop-i-preserved : goal.loop-i-preserved
loop-i-preserved c =
    let fn = c.args.function.now in let n = numbers_view c.args.c in let node = node_of c.index-nodes-i.result in
    let s =
    seen_at node_of c.args.nodes.now
    (nodes_of fn) c.loop-i.i c.index-nodes-i.result c.requires.nodes c.loop-i-test.true c.index-nodes-i.is in
    let made : bound_of c.node_bound.result ≡ node_bound n fn.inputs (bounds_in c.loop-i.bs.items) node =
    c.node_bound.ensures ∙ ap
    (λ (xs : List Bound). node_bound n fn.inputs (bounds_in xs) node) c.deref.ensures.value in
    let pushed : bounds_in c.push.new.self.items ≡ bounds_in c.loop-i.bs.items ++ bound_of c.node_bound.result ∷ [] =
    ap bounds_in c.in_ok-push.ensures.items ∙ map_push bound_of c.loop-i.bs.items c.node_bound.result in
    subst (IsWalked n fn.inputs (nodes_of fn) (bounds_of n fn) (c.loop-i.i + 1)) (sym pushed)
    (walk_on n fn.inputs (nodes_of fn) (bounds_of n fn) c.loop-i.i
    (bounds_in c.loop-i.bs.items) node s.0 s.1 c.loop-i.invariant (bound_of c.node_bound.result) made)
