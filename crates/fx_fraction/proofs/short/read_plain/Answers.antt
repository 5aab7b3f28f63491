use Rattle.std.proofs.Common.{ap, sym, ◌∙◌, arith}
use Rattle.std.proofs.lemmas.Option.{IfSome_then}
use Rattle.fx_fraction.specs.DecimalOf.{trimmed, within_limits}
use Rattle.fx_fraction.proofs.Reading.{plain_is}
use Rattle.fx_fraction.proofs.short.read_plain.Goals as goal

pub returns : goal.returns
returns c =
    let n = c.in_ok-number.number in
    IfSome_then c.fewest_places.result c.fewest_places.ensures (λ d keeps.
    sym (plain_is c.args.text.now c.behind_sign-body.result.now n.size n.places n.end c.behind_sign-body.ensures
    c.in_ok-number.ensures (omega arith))
    ∙ ap (λ b. within_limits b (trimmed n.size n.places)) (sym c.is_negative.ensures)
    ∙ keeps)
