use Rattle.std.proofs.Common.{ap, ◌∙◌, ◌≡◌, subst, IsSome}
use Rattle.fx_model.specs.Tree.{Tree}
use Rattle.fx_model.specs.Paths.{put, subtree}
use Rattle.fx_expr.specs.TreeOf.{tree}
use Rattle.fx_expr.proofs.Places.{results_exchanged, result_is}
use Rattle.fx_expr.proofs.trees.exchange_in_results.Goals as goal

pub returns-clause-changed : goal.returns-clause-changed
returns-clause-changed c =
    results_exchanged c.results.inside.list.items c.args.results.now c.args.place c.index_mut-result.result.now
    c.exchange.new.e (put c.args.path.now
    (tree c.args.new)) c.results.view_is c.requires c.index_mut-result.ensures.value c.exchange.ensures.changed

pub returns-clause-old : goal.returns-clause-old
returns-clause-old c t at there =
    let same : t ≡ tree c.index_mut-result.result.now =
    result_is c.results.inside.list.items c.args.results.now c.args.place c.index_mut-result.result.now t
    c.results.view_is c.requires c.index_mut-result.ensures.value at in
    let back : subtree c.args.path.now t ≡ subtree c.args.path.now (tree c.index_mut-result.result.now) =
    ap (λ (u : Tree). subtree c.args.path.now u) same in
    back ∙ c.exchange.ensures.old (subst IsSome back there)
