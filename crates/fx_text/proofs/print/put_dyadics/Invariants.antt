use Rattle.std.proofs.Common.{◌≡◌, ◌++◌, ◌∷◌, take}
use Rattle.std.specs.List.{flat_map}
use Rattle.fx_model.specs.LineText.{dyadic_text}
use Rattle.fx_text.proofs.print.put_dyadics.Given as goal

abbrev pub invariant-loop-d : goal.invariant-loop-d
invariant-loop-d l = l.out.items ≡ l.fn.out.items ++ flat_map (λ d. 32 ∷ dyadic_text d) (take l.d-index l.ds)
