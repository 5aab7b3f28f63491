use Rattle.std.proofs.Common.{◌∙◌, ap}
use Rattle.fx_model.specs.Machine as machine
use Rattle.fx_program.specs.CodeView.{round_of}
use Rattle.fx_plan_laws.proofs.Roundings.{product_so}
use Rattle.fx_calm.proofs.code.product.Goals as goal

pub returns : goal.returns
returns c = c.product_code.ensures
    ∙ ap (λ (r : machine.Round). machine.Mul r c.args.a c.args.b c.args.f)
    (product_so (round_of c.args.round) c.args.f c.requires)
