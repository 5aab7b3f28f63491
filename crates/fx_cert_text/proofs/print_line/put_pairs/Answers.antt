use Rattle.std.proofs.Common.{◌++◌, ◌∷◌, ◌∙◌, ap, append_assoc}
use Rattle.std.specs.Fmt.{decimal}
use Rattle.fx_model.specs.LineText.{dyadic_text}
use Rattle.fx_cert_text.proofs.Written.{one_more, no_more}
use Rattle.fx_cert_text.proofs.print_line.put_pairs.Goals as goal

pub loop-share-preserved : goal.loop-share-preserved
loop-share-preserved c =
    let s = c.share-item.result in let out = c.loop-share.out.items in
    one_more (λ x. 32 ∷ decimal x.template ++ 32 ∷ dyadic_text x.times) c.args.shares.now c.loop-share.share-index s
    c.args.out.now.items out c.put_dyadic.new.out.items c.loop-share-test.true c.share-item.is c.loop-share.invariant
    (c.in_ok-put_dyadic.ensures ∙ ap (λ o. o ++ 32 ∷ dyadic_text s.times) c.in_ok-put_number.ensures
    ∙ append_assoc out (32 ∷ decimal s.template) (32 ∷ dyadic_text s.times))

pub returns : goal.returns
returns c =
    no_more (λ x. 32 ∷ decimal x.template ++ 32 ∷ dyadic_text x.times) c.args.shares.now c.loop-share.share-index
    c.args.out.now.items c.loop-share.out.items c.loop-share-test.false c.loop-share.invariant
