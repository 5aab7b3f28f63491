use Rattle.std.proofs.Common.{◌++◌, ◌∷◌, [], ◌∙◌, sym, ap, codes}
use Rattle.fx_model.specs.LineText.{interval_fields}
use Rattle.fx_inequalities.specs.CertificateText.{form_fields}
use Rattle.fx_program.proofs.Appended.{five}
use Rattle.fx_cert.specs.CertificateView.{form_view}
use Rattle.fx_cert_text.specs.Printing.{spaced}
use Rattle.fx_cert_text.proofs.Printed.{three_parts}
use Rattle.fx_cert_text.proofs.print_line.put_formed.Goals as goal

pub returns : goal.returns
returns c =
    let line = c.args.line.now in let old = c.args.out.now.items in
    let range = interval_fields line.range in let error = interval_fields line.error in
    let form = form_fields (form_view c.args.form.now) in
    five old c.begin_line.new.out.items c.put_ends.new.out.items c.put_ends-2.new.out.items c.put_form.new.out.items
    c.end_line.new.out.items (codes "form") (spaced range) (spaced error) (spaced form) (10 ∷ [])
    c.in_ok-begin_line.ensures c.in_ok-put_ends.ensures c.in_ok-put_ends-2.ensures c.in_ok-put_form.ensures
    c.in_ok-end_line.ensures ∙ ap (λ t. old ++ t) (sym (three_parts (codes "form") range error form))
