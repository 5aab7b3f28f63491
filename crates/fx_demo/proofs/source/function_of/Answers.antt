use Rattle.std.proofs.Common.{◌<◌, ◌^◌, ◌∙◌, length, sym, subst}
use Rattle.fx_demo.proofs.Lengths.{source_short}
use Rattle.fx_demo.proofs.source.function_of.Goals as goal

pub parse-requires : goal.parse-requires
parse-requires c =
    subst (λ t. length t < 2 ^ 32) (sym (c.deref.ensures.value ∙ c.in_ok-source.ensures))
    (source_short c.args.n c.requires)
