use Rattle.std.proofs.Common.{◌∙◌, ◌-◌, ap}
use Rattle.fx_model.specs.Machine.{Round, Mul}
use Rattle.fx_program.proofs.Rounded.{product_rounds}
use Rattle.fx_program.specs.CodeView.{round_of}
use Rattle.fx_weight.proofs.Lawful.{product_shift}
use Rattle.fx_weight.proofs.part.product.Goals as goal

pub returns : goal.returns
returns c =
    let r = round_of c.args.round in let s = c.args.width - 1 in
    c.product_code.ensures ∙ ap (λ (q : Round). Mul q c.args.a c.args.b s)
    (product_rounds r s (product_shift c.args.width r c.requires))
