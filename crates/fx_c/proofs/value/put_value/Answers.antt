use Rattle.std.proofs.Common.{◌≡◌, OnOk, rules}
use Rattle.std.specs.Int.{w32}
use Rattle.std.proofs.lemmas.Int.{to_z-of_z}
use Rattle.fx_model.specs.Machine as machine
use Rattle.fx_c.proofs.Appended.{shifts_again}
use Rattle.fx_c.proofs.value.put_value.Goals as goal

pub returns-in-Add : goal.returns-in-Add
returns-in-Add c =
    rw c.in-Add.is (shifts_again (λ t. OnOk c.put_cast_sum.result (c.put_cast_sum.new.out.items ≡ t)) machine.Add
    c.args.width c.args.own c.in-Add.a c.in-Add.b c.in-Add.sa c.in-Add.sb c.args.out.now.items
    (to_z-of_z w32 c.in-Add.sa (search rules)) (to_z-of_z w32 c.in-Add.sb (search rules)) c.put_cast_sum.ensures)

pub returns-in-Sub : goal.returns-in-Sub
returns-in-Sub c =
    rw c.in-Sub.is (shifts_again (λ t. OnOk c.put_cast_sum-in-Sub.result (c.put_cast_sum-in-Sub.new.out.items ≡ t))
    machine.Sub c.args.width c.args.own c.in-Sub.a c.in-Sub.b c.in-Sub.sa c.in-Sub.sb c.args.out.now.items
    (to_z-of_z w32 c.in-Sub.sa (search rules)) (to_z-of_z w32 c.in-Sub.sb (search rules)) c.put_cast_sum-in-Sub.ensures)
