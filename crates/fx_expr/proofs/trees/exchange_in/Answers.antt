use Rattle.std.proofs.Common.{◌≡◌, ◌+◌, ◌-◌, ap, sym, subst, ◌∙◌, arith, length, map, IsSome, Option}
use Rattle.std.specs.Option.{option_and_then}
use Rattle.fx_model.specs.Tree.{Tree}
use Rattle.fx_model.specs.Paths as paths
use Rattle.fx_model.specs.Paths.{put, subtree}
use Rattle.fx_expr.specs.TreeOf.{tree}
use Rattle.fx_expr.specs.Parts.{temp_of}
use Rattle.fx_expr.proofs.Places.{temp_there, results_kept, temps_kept, results_past, result_there, old_is}
use Rattle.fx_expr.proofs.trees.exchange_in.Goals as goal

pub exchange_in_results-requires : goal.exchange_in_results-requires
exchange_in_results-requires c =
    let e : c.args.place ≡ length c.args.temps.now + (c.args.place - c.len-count.result) = omega arith in
    (result_there c.args.path.now c.args.temps.now c.args.results.now c.args.place
    (c.args.place - c.len-count.result) e c.requires).0

pub returns-then-place-count-clause-results : goal.returns-then-place-count-clause-results
returns-then-place-count-clause-results c =
    sym (results_kept c.args.temps.now (map tree c.args.results.now) c.args.place
    (put c.args.path.now (tree c.args.new)) (omega arith))

pub returns-then-place-count-clause-old : goal.returns-then-place-count-clause-old
returns-then-place-count-clause-old c =
    let t = temp_there c.args.temps.now (map tree c.args.results.now) c.args.place (omega arith) in
    let same = ap (option_and_then (subtree c.args.path.now)) t.2 in
    same ∙ c.exchange_in_temps.ensures.old t.0 t.1 (subst (λ (o : Option Tree). IsSome o) same c.requires)

pub returns-else-place-count-clause-temps : goal.returns-else-place-count-clause-temps
returns-else-place-count-clause-temps c =
    let e : c.args.place ≡ length c.args.temps.now + (c.args.place - c.len-count.result) = omega arith in
    sym (temps_kept c.args.temps.now c.args.place (c.args.place - c.len-count.result)
    (put c.args.path.now (tree c.args.new)) e)

pub returns-else-place-count-clause-results : goal.returns-else-place-count-clause-results
returns-else-place-count-clause-results c =
    let e : c.args.place ≡ length c.args.temps.now + (c.args.place - c.len-count.result) = omega arith in
    c.exchange_in_results.ensures.changed
    ∙ sym (results_past c.args.temps.now (map tree c.args.results.now) c.args.place
    (c.args.place - c.len-count.result) (put c.args.path.now (tree c.args.new)) e)

pub returns-else-place-count-clause-old : goal.returns-else-place-count-clause-old
returns-else-place-count-clause-old c =
    let e : c.args.place ≡ length c.args.temps.now + (c.args.place - c.len-count.result) = omega arith in
    let r =
    result_there c.args.path.now c.args.temps.now c.args.results.now c.args.place
    (c.args.place - c.len-count.result) e c.requires in
    old_is c.args.path.now (paths.tree_in (map temp_of c.args.temps.now) (map tree c.args.results.now) c.args.place)
    (tree c.exchange_in_results.result) c.requires
    (λ t at some. c.exchange_in_results.ensures.old t (r.1 ∙ at) some)
