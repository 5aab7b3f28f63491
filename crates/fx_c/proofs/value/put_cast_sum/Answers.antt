use Rattle.std.proofs.Common.{◌++◌, ◌∙◌, to_z, of_z}
use Rattle.std.specs.Int.{w32}
use Rattle.std.proofs.lemmas.Int.{to_z-of_z}
use Rattle.fx_model.specs.Machine.{Floor}
use Rattle.fx_statements.specs.Statements.{Two, Narrowed}
use Rattle.fx_statements.specs.OfProgram.{least_size}
use Rattle.fx_c99.specs.CText.{c_value_text}
use Rattle.fx_c99.specs.OfProgram.{c_operand}
use Rattle.fx_c.specs.Choices.{operator_of}
use Rattle.fx_c.proofs.Appended.{cast_sum}
use Rattle.fx_c.proofs.value.put_cast_sum.Goals as goal

pub returns : goal.returns
returns c =
    let ra = to_z-of_z w32 c.args.sa c.ranges.sa in let rb = to_z-of_z w32 c.args.sb c.ranges.sb in
    let n = c.args.width in let size = least_size c.args.own in let operator = operator_of c.args.sign in
    cast_sum n c.sum_bits-bits.result size operator (c_operand n Floor c.args.a (to_z w32 (of_z w32 c.args.sa)))
    (c_operand n Floor c.args.b (to_z w32 (of_z w32 c.args.sb))) c.args.out.now.items c.put_cast.new.out.items
    c.put_sum.new.out.items c.sum_bits-bits.ensures c.in_ok-put_cast.ensures c.in_ok-put_sum.ensures
    ∙ (λ i. c.args.out.now.items ++ c_value_text n size (Narrowed (Two operator (c_operand n Floor c.args.a (ra i))
    (c_operand n Floor c.args.b (rb i)))))
