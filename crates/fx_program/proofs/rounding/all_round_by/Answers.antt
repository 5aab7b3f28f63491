use Rattle.std.proofs.Common.{refl, subst}
use Rattle.std.specs.Prelude.{All}
use Rattle.std.proofs.lemmas.List.{take_all}
use Rattle.std.proofs.lemmas.List.Elements.{All-more}
use Rattle.fx_program.specs.CodeView.{round_of, code_of}
use Rattle.fx_program.specs.Rounding.{RoundsBy}
use Rattle.fx_program.specs.declared.code.Code.{Code}
use Rattle.fx_program.proofs.rounding.all_round_by.Goals as goal

pub loop-i-preserved : goal.loop-i-preserved
loop-i-preserved c =
    All-more (λ (code : Code). RoundsBy (round_of c.args.round) c.args.width
    (code_of code)) c.args.codes.now c.loop-i.i _ c.loop-i-test.true c.loop-i.invariant
    (c.rounds_by.ensures.0 c.if-not-rounds_by.false)

pub returns : goal.returns
returns c = (
  λ t. subst (All (λ (code : Code). RoundsBy (round_of c.args.round) c.args.width (code_of code)))
      (take_all c.loop-i.i c.args.codes.now c.loop-i-test.false) c.loop-i.invariant,
  λ all. refl,
)
