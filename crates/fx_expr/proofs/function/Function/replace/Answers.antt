use Rattle.std.proofs.Common.{◌≡◌, ap, sym, subst, ◌∙◌, arith, length}
use Rattle.fx_model.specs.Function as model
use Rattle.fx_model.specs.Nodes.{nodes_of}
use Rattle.fx_model.specs.Paths.{with_tree}
use Rattle.fx_expr.specs.TreeOf.{tree}
use Rattle.fx_expr.specs.FunctionOf.{made_function, function_of}
use Rattle.fx_expr.specs.LawfulFunction.{IsLawfulFunction}
use Rattle.fx_expr.proofs.Nodes.{replaced}
use Rattle.fx_expr.proofs.function.Function.replace.Goals as goal

pub overflow_sub-self : goal.overflow_sub-self
overflow_sub-self c =
    (replaced c.self.inside c.args.self.now c.args.place c.args.path.now (tree c.exchange_in-old.result)
    (tree c.args.new) c.args.less c.args.more c.self.view_is c.self.invariant c.requires.lawful
    c.exchange_in-old.ensures.old c.requires.less c.requires.more).below

pub overflow_add-self : goal.overflow_add-self
overflow_add-self c =
    let h =
    (replaced c.self.inside c.args.self.now c.args.place c.args.path.now (tree c.exchange_in-old.result)
    (tree c.args.new) c.args.less c.args.more c.self.view_is c.self.invariant c.requires.lawful
    c.exchange_in-old.ensures.old c.requires.less c.requires.more).small in
    omega arith

-- the parts that were exchanged are those of the function with the tree
whole : (c : goal.After-self-1) →
    made_function c.self.inside.name c.self.inside.inputs c.self.inside.states c.exchange_in-old.new.temps
    c.exchange_in-old.new.results c.self.inside.demands
    ≡ with_tree (function_of c.self.inside) c.args.place c.args.path.now (tree c.args.new)
whole c = λ i. record (function_of c.self.inside) {
  temps = c.exchange_in-old.ensures.temps i;
  results = c.exchange_in-old.ensures.results i;
}

pub invariant_of-self : goal.invariant_of-self
invariant_of-self c = record {
  lawful =
      subst IsLawfulFunction (ap (λ (f : model.Function). with_tree f c.args.place c.args.path.now (tree c.args.new))
      (sym c.self.view_is) ∙ sym (whole c)) c.requires.lawful;
  nodes =
      (replaced c.self.inside c.args.self.now c.args.place c.args.path.now (tree c.exchange_in-old.result)
      (tree c.args.new) c.args.less c.args.more c.self.view_is c.self.invariant c.requires.lawful
      c.exchange_in-old.ensures.old c.requires.less c.requires.more).is
      ∙ ap (λ (f : model.Function). length (nodes_of f)) (sym (whole c));
}
