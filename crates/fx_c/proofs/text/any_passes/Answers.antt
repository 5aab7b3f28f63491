use Rattle.std.proofs.Common.{pos, rules}
use Rattle.fx_program.specs.CodeView.{code_of}
use Rattle.fx_program.specs.declared.code.Code.TheVariants.{Input}
use Rattle.fx_c.specs.Choices.{passes}
use Rattle.fx_c.proofs.Appended.{any_more}
use Rattle.fx_c.proofs.text.any_passes.Goals as goal

pub loop-n-preserved : goal.loop-n-preserved
loop-n-preserved c =
    any_more (passes c.args.test c.args.width) code_of c.args.width c.args.widths.now c.args.codes.now c.loop-n.n
    (Input 0 (pos 0)) c.loop-n.found c.passes-here.result c.either-found.result (search rules) c.loop-n.invariant
    c.passes-here.ensures c.either-found.ensures
