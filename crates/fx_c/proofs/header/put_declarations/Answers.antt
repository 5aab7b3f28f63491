use Rattle.std.proofs.Common.{codes}
use Rattle.fx_c99.specs.CText.{step_head}
use Rattle.fx_c99.specs.CHeader.{reset_declaration}
use Rattle.fx_c.proofs.Appended.{four_pieces}
use Rattle.fx_c.proofs.header.put_declarations.Goals as goal

pub returns : goal.returns
returns c =
    let title = c.args.title.now in let n = c.args.width in
    four_pieces (codes "\n#ifdef __cplusplus\nextern \"C\" {\n#endif\n\n") (reset_declaration title n c.args.states)
    (step_head title n c.args.states c.args.inputs c.args.outputs)
    (codes ";\n\n#ifdef __cplusplus\n}\n#endif\n\n#endif\n") c.args.out.now.items c.put.new.out.items
    c.put_reset_declaration.new.out.items c.put_step_head.new.out.items c.put-2.new.out.items c.in_ok-put.ensures
    c.in_ok-put_reset_declaration.ensures c.in_ok-put_step_head.ensures c.in_ok-put-2.ensures
