use Rattle.fx_text.proofs.FieldLaws.{count_takes, count_again}
use Rattle.fx_text.proofs.law.count_law.Goals as goal

pub returns : goal.returns
returns c = λ low limit small. record {
  takes = λ line x e. let t = count_takes low limit line x small e in
      (t.0, (t.1, t.2));
  again = λ n rest is. count_again low limit n rest small is.0 is.1;
}
