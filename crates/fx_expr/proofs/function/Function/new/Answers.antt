use Rattle.std.proofs.Common.{◌+◌, ap, ◌∙◌, arith, List, map}
use Rattle.std.proofs.lemmas.List.{length-map}
use Rattle.fx_model.specs.Counts.{temp_nodes, result_nodes}
use Rattle.fx_expr.specs.TreeOf.{tree}
use Rattle.fx_expr.specs.Parts.{input_of, state_of, temp_of}
use Rattle.fx_expr.specs.FunctionOf.{made_function}
use Rattle.fx_expr.specs.SizeOf.{size_counted}
use Rattle.fx_expr.specs.declared.expr.Expr.{Expr}
use Rattle.fx_expr.specs.declared.parts.Temp.{Temp}
use Rattle.fx_expr.proofs.Nodes.{all_counted}
use Rattle.fx_expr.proofs.function.Function.new.Goals as goal

pub invariant_of-result : goal.invariant_of-result
invariant_of-result c =
    let i = length-map c.args.inputs input_of in let s = length-map c.args.states state_of in
    record {
      lawful = c.requires;
      nodes =
          all_counted (made_function c.args.name c.args.inputs c.args.states c.args.temps c.args.results c.args.demands)
          (c.len.result + c.len-2.result) c.count_temps.result c.count_results.result c.saturating_add-nodes.result
          (omega arith)
          (c.count_temps.ensures ∙ ap
          (λ (ts : List Temp). size_counted (temp_nodes (map temp_of ts))) c.as_slice.ensures)
          (c.count_results.ensures
          ∙ ap (λ (es : List Expr). size_counted (result_nodes (map tree es))) c.as_slice-2.ensures)
          (omega arith)
          c.requires.sizes.nodes;
    }
