use Rattle.std.proofs.Common.{rules}
use Rattle.fx_cert_text.specs.LineReading.{certificate_headline_at}
use Rattle.fx_cert_text.proofs.read_line.read_headline.Goals as goal

pub returns-in_err-word-3 : goal.returns-in_err-word-3
unfolding certificate_headline_at
returns-in_err-word-3 c = rw (c.in_ok-word.ensures, c.in_ok-word-2.ensures, c.in_err-word-3.ensures) (search rules)

pub returns : goal.returns
unfolding certificate_headline_at
returns c = rw (c.in_ok-word.ensures, c.in_ok-word-2.ensures, c.in_ok-word-3.ensures) (search rules)
