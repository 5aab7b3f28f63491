use Rattle.std.proofs.Common.{◌∷◌, [], ◌++◌, length, codes}
use Rattle.std.specs.Fmt.{decimal}
use Rattle.fx_model.specs.LineText.{line_text}
use Rattle.fx_program.proofs.Appended.{four}
use Rattle.fx_cert_text.proofs.print.put_source.Goals as goal

pub returns : goal.returns
returns c =
    let s = c.args.source.now in
    four c.args.out.now.items c.put_headline.new.out.items c.put_one.new.out.items c.begin_line.new.out.items
    c.begin_line-2.new.out.items
    (line_text (codes "fixd" ∷ codes "bundle" ∷ decimal c.args.version ∷ []))
    (line_text (codes "source" ∷ decimal (length s) ∷ [])) s (codes "\n" ++ line_text (codes "program" ∷ []))
    c.in_ok-put_headline.ensures c.in_ok-put_one.ensures c.in_ok-begin_line.ensures c.in_ok-begin_line-2.ensures
