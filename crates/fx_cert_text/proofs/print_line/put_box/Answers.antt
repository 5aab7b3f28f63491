use Rattle.std.proofs.Common.{◌≡◌, ◌++◌, ◌∷◌, [], ◌∙◌, sym, ap, codes}
use Rattle.fx_model.specs.LineText.{interval_fields}
use Rattle.fx_inequalities.specs.CertificateText.{share_fields}
use Rattle.fx_program.proofs.Appended.{four}
use Rattle.fx_cert.specs.CertificateView.{shares_of}
use Rattle.fx_cert_text.specs.Printing.{spaced}
use Rattle.fx_cert_text.proofs.Printed.{two_parts}
use Rattle.fx_cert_text.proofs.print_line.put_box.Goals as goal

pub returns : goal.returns
returns c =
    let template = c.args.template.now in let old = c.args.out.now.items in
    let bound = interval_fields template.bound in let shares = share_fields (shares_of template.shares) in
    let s : c.put_shares.new.out.items ≡ c.put_ends.new.out.items ++ spaced shares = c.in_ok-put_shares.ensures
    ∙ ap (λ ss. c.put_ends.new.out.items ++ spaced (share_fields (shares_of ss))) c.as_slice.ensures in
    four old c.begin_line.new.out.items c.put_ends.new.out.items c.put_shares.new.out.items c.end_line.new.out.items
    (codes "box") (spaced bound) (spaced shares) (10 ∷ [])
    c.in_ok-begin_line.ensures c.in_ok-put_ends.ensures s c.in_ok-end_line.ensures
    ∙ ap (λ t. old ++ t) (sym (two_parts (codes "box") bound shares))
