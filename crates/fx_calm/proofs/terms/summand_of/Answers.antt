use Rattle.std.proofs.Common.{◌*◌, ◌∙◌}
use Rattle.std.specs.Prelude.{unsigned_abs}
use Rattle.fx_rational.specs.Rational.{bottom}
use Rattle.fx_calm.proofs.Counted.{product_is}
use Rattle.fx_calm.proofs.terms.summand_of.Goals as goal

pub returns-clause-value : goal.returns-clause-value
returns-clause-value c =
    let s = c.term_size.ensures.value in let w = c.weight_of.ensures.value in
    (λ i. record { top = c.product.ensures.top i; bottom = c.product.ensures.bottom i })
    ∙ product_is c.term_size.result.top c.term_size.result.bottom c.weight_of.result.top c.weight_of.result.bottom
    c.term_size.ensures.size.some c.weight_of.ensures.weight.size.some
    ∙ (λ i. record { top = unsigned_abs (s i).top * unsigned_abs (w i).top; bottom = bottom (s i) * bottom (w i) })
