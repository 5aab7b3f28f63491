use Rattle.std.proofs.Common.{◌≡◌, true, ◌∙◌, sym, refl}
use Rattle.std.specs.Int.{w32}
use Rattle.std.proofs.lemmas.Int.{to_z-of_z}
use Rattle.fx_c99.specs.Working.{is_additive, sum_bits}
use Rattle.fx_c99.proofs.Rooms.{sum_bits_are}
use Rattle.fx_c.specs.Choices.{operator_of}
use Rattle.fx_c.specs.declared.working.Sign.{Sign}
use Rattle.fx_c.specs.declared.working.Sign.TheVariants.{Plus, Minus}
use Rattle.fx_c.proofs.working.sum_bits.Goals as goal

additive : (sign : Sign) → is_additive (operator_of sign) ≡ true
additive Plus = refl
additive Minus = refl

pub returns : goal.returns
returns c = c.operand_bits.ensures
    ∙ (λ i. sum_bits c.args.width (to_z-of_z w32 c.args.sa c.ranges.sa i) (to_z-of_z w32 c.args.sb c.ranges.sb i))
    ∙ sym (sum_bits_are c.args.width c.args.a c.args.b (operator_of c.args.sign) c.args.sa c.args.sb
    (additive c.args.sign))
