use Rattle.std.proofs.Common.{map, sym, arith}
use Rattle.std.specs.Option.{option_map}
use Rattle.std.proofs.lemmas.List.{length-map}
use Rattle.fx_program.specs.CodeView.{round_of, code_of}
use Rattle.fx_lowering.proofs.Ordered.{frame_tested}
use Rattle.fx_lowering.proofs.lawful.lawful_points.Goals as goal

pub returns : goal.returns
returns c =
    let counts = c.is_count.ensures.0 c.if-not-is_count.false in
    frame_tested (option_map (λ points. points.items)) c.args.width (round_of c.args.round) c.args.function.now
    (map code_of c.args.codes.now) _ _ _ _ _ _ c.points_in_order.result c.keeps.ensures
    (c.is_width.ensures.known.0 c.if-not-is_width.false) c.first_version.ensures c.input_count-inputs.ensures
    c.state_count-states.ensures c.output_count-outputs.ensures (sym (length-map c.args.codes.now code_of))
    (omega (arith, counts.1)) counts c.points_in_order.ensures
