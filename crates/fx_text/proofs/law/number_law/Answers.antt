use Rattle.fx_text.proofs.FieldLaws.{number_takes, number_again}
use Rattle.fx_text.proofs.law.number_law.Goals as goal

pub returns : goal.returns
returns c = λ low high narrow. record {
  takes = λ line x e. number_takes low high line x narrow e;
  again = λ z rest is. number_again low high z rest narrow is;
}
