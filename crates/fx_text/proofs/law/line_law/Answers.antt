use Rattle.fx_text.proofs.LineLaws.{fields_at-takes, fields_at-again}
use Rattle.fx_text.proofs.law.line_law.Goals as goal

pub returns : goal.returns
returns c = λ n. record { takes = fields_at-takes n; again = fields_at-again n }
