use Rattle.std.proofs.Common.{◌≡◌, map, take}
use Rattle.fx_flat.specs.NodeOf.{nodes_in}
use Rattle.fx_program.specs.CodeView.{round_of, code_of}
use Rattle.fx_plan_laws.specs.CalmPlan.{calm_code}
use Rattle.fx_calm.proofs.code.codes.Given as goal

abbrev pub invariant-loop-i : goal.invariant-loop-i
invariant-loop-i l =
    map code_of l.codes.items ≡ map (calm_code (round_of l.fn.round) l.fn.function l.fn.f)
    (take l.i (nodes_in l.fn.nodes))
