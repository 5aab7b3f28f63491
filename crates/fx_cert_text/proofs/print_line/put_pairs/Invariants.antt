use Rattle.std.proofs.Common.{◌≡◌, ◌++◌, ◌∷◌, take}
use Rattle.std.specs.Fmt.{decimal}
use Rattle.std.specs.List.{flat_map}
use Rattle.fx_model.specs.LineText.{dyadic_text}
use Rattle.fx_cert_text.proofs.print_line.put_pairs.Given as goal

abbrev pub invariant-loop-share : goal.invariant-loop-share
invariant-loop-share l =
    l.out.items ≡ l.fn.out.items ++ flat_map (λ s. 32 ∷ decimal s.template ++ 32 ∷ dyadic_text s.times)
    (take l.share-index l.shares)
