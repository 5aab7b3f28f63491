use Rattle.std.proofs.Common.{◌∷◌}
use Rattle.std.proofs.lemmas.List.Folds.{flat_map-map}
use Rattle.fx_model.specs.LineText.{dyadic_text}
use Rattle.fx_cert_text.proofs.print_line.put_coefs.Goals as goal

pub returns : goal.returns
returns c = rw (flat_map-map (λ f. 32 ∷ f) dyadic_text c.args.coefs.now) c.put_dyadics.ensures
