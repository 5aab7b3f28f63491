use Rattle.std.proofs.Common.{ap, ◌∙◌, ◌≡◌, subst, IsSome}
use Rattle.fx_model.specs.Function as model
use Rattle.fx_model.specs.Paths.{put, subtree}
use Rattle.fx_expr.specs.TreeOf.{tree}
use Rattle.fx_expr.specs.Parts.{temp_of}
use Rattle.fx_expr.proofs.Places.{temps_exchanged, temp_is}
use Rattle.fx_expr.proofs.trees.exchange_in_temps.Goals as goal

pub returns-clause-changed : goal.returns-clause-changed
returns-clause-changed c =
    temps_exchanged c.temps.inside.list.items c.args.temps.now c.args.place c.index_mut-temp.result.now c.exchange.new.e
    (put c.args.path.now (tree c.args.new)) c.temps.view_is c.requires c.index_mut-temp.ensures.value
    c.exchange.ensures.changed

pub returns-clause-old : goal.returns-clause-old
returns-clause-old c t at there =
    let same : t ≡ temp_of c.index_mut-temp.result.now =
    temp_is c.temps.inside.list.items c.args.temps.now c.args.place c.index_mut-temp.result.now t c.temps.view_is
    c.requires c.index_mut-temp.ensures.value at in
    let back : subtree c.args.path.now t.tree ≡ subtree c.args.path.now (tree c.index_mut-temp.result.now.expr) =
    ap (λ (u : model.Temp). subtree c.args.path.now u.tree) same in
    back ∙ c.exchange.ensures.old (subst IsSome back there)
