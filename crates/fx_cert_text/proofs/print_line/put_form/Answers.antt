use Rattle.std.proofs.Common.{◌≡◌, ◌++◌, ◌∷◌, ◌∙◌, sym, ap, map}
use Rattle.std.specs.Option.{option_map}
use Rattle.fx_model.specs.LineText.{dyadic_text, interval_fields}
use Rattle.fx_inequalities.specs.CertificateText.{by_fields}
use Rattle.fx_program.proofs.Appended.{two, five}
use Rattle.fx_cert.specs.CertificateView.{shares_of}
use Rattle.fx_cert_text.specs.Printing.{spaced}
use Rattle.fx_cert_text.proofs.Printed.{form_spaced}
use Rattle.fx_cert_text.proofs.print_line.put_form.Goals as goal

pub returns : goal.returns
returns c =
    let f = c.args.form.now in let old = c.args.out.now.items in
    let x = dyadic_text f.centre_a in let y = dyadic_text f.centre_b in let coefs = map dyadic_text f.coefs in
    let rest = interval_fields f.rest in let errors = interval_fields f.error_rest in
    let range_by = by_fields (option_map shares_of f.range_by) in
    let error_by = by_fields (option_map shares_of f.error_by) in
    let o2 = c.put_dyadic-2.new.out.items in let o7 = c.put_by-2.new.out.items in
    let tail = (((spaced coefs ++ spaced rest) ++ spaced errors) ++ spaced range_by) ++ spaced error_by in
    let k : c.put_coefs.new.out.items ≡ o2 ++ spaced coefs = c.in_ok-put_coefs.ensures
    ∙ ap (λ ds. o2 ++ spaced (map dyadic_text ds)) c.as_slice.ensures in
    let centres : o2 ≡ old ++ ((32 ∷ x) ++ (32 ∷ y)) =
    two old c.put_dyadic.new.out.items o2 (32 ∷ x)
    (32 ∷ y) c.in_ok-put_dyadic.ensures c.in_ok-put_dyadic-2.ensures in
    let others : o7 ≡ o2 ++ tail =
    five o2 c.put_coefs.new.out.items c.put_ends.new.out.items c.put_ends-2.new.out.items c.put_by.new.out.items o7
    (spaced coefs) (spaced rest) (spaced errors) (spaced range_by) (spaced error_by)
    k c.in_ok-put_ends.ensures c.in_ok-put_ends-2.ensures c.in_ok-put_by.ensures c.in_ok-put_by-2.ensures in
    two old o2 o7 ((32 ∷ x) ++ (32 ∷ y)) tail centres others
    ∙ ap (λ t. old ++ t) (sym (form_spaced x y coefs rest errors range_by error_by))
