use Rattle.fx_text.proofs.FieldLaws.{place_takes, place_again}
use Rattle.fx_text.proofs.law.place_law.Goals as goal

pub returns : goal.returns
returns c = λ end small. record {
  takes = λ line x e. place_takes end line x small e;
  again = λ n rest is. place_again end n rest small is;
}
