use Rattle.fx_program.specs.CodeView.{round_of}
use Rattle.fx_statements.specs.OfProgram.{product}
use Rattle.fx_rust.proofs.Appended.{between}
use Rattle.fx_rust.proofs.value.put_rounded_product.Goals as goal

pub returns : goal.returns
returns c =
    between (round_of c.args.r)
    (product c.args.a c.args.b) c.args.s c.args.out.now.items c.open_rounded.new.out.items c.put_product.new.out.items
    c.close_rounded.new.out.items c.in_ok-open_rounded.ensures c.in_ok-put_product.ensures c.in_ok-close_rounded.ensures
