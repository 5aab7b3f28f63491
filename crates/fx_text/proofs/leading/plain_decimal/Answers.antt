use Rattle.fx_text.proofs.Signs.{leads}
use Rattle.fx_text.proofs.leading.plain_decimal.Goals as goal

pub returns : goal.returns
returns c =
    leads c.args.text.now c.sign_end-start.result _ _ _ _ c.sign_end-start.ensures.end c.in_ok-number.ensures
    (c.is_end.ensures c.if-not-is_end.false) c.in_ok-value.ensures
