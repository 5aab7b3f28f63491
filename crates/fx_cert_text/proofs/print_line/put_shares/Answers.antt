use Rattle.std.proofs.Common.{◌≡◌, ◌++◌, ◌∷◌, ◌∙◌, length, sym, ap}
use Rattle.std.specs.Fmt.{decimal}
use Rattle.std.specs.List.{flat_map}
use Rattle.std.proofs.lemmas.List.{length-map}
use Rattle.fx_program.proofs.Appended.{two}
use Rattle.fx_cert.specs.CertificateView.{share_of, shares_of}
use Rattle.fx_cert_text.specs.Printing.{spaced}
use Rattle.fx_cert_text.proofs.Printed.{pairs, spaced_cons, spaced_pairs}
use Rattle.fx_cert_text.proofs.print_line.put_shares.Goals as goal

pub returns : goal.returns
returns c =
    let ss = c.args.shares.now in let old = c.args.out.now.items in let n = length (shares_of ss) in
    let all = flat_map pairs (shares_of ss) in
    let count : c.put_number.new.out.items ≡ old ++ 32 ∷ decimal (length ss) = c.in_ok-put_number.ensures in
    let a : c.put_number.new.out.items ≡ old ++ 32 ∷ decimal n = count
    ∙ ap (λ n. old ++ 32 ∷ decimal n) (sym (length-map ss share_of)) in
    let b : c.put_pairs.new.out.items ≡ c.put_number.new.out.items ++ spaced all = c.in_ok-put_pairs.ensures
    ∙ ap (λ t. c.put_number.new.out.items ++ t) (sym (spaced_pairs ss)) in
    two old c.put_number.new.out.items c.put_pairs.new.out.items (32 ∷ decimal n) (spaced all) a b
    ∙ ap (λ t. old ++ t) (sym (spaced_cons (decimal n) all))
