use Rattle.std.proofs.Common.{subst, sym}
use Rattle.fx_demo.specs.LastLine.{IsLastLine}
use Rattle.fx_demo.specs.LastLine.{HasTwoLines}
use Rattle.fx_demo.proofs.Running.{paged}
use Rattle.fx_demo.proofs.demo.demonstrate.Goals as goal

pub last_of-requires : goal.last_of-requires
last_of-requires c =
    subst HasTwoLines (sym c.bytes.ensures)
    (paged c.in_ok-certified.certified c.in_ok-page.page.taken c.in_ok-page.ensures)

pub returns : goal.returns
returns c = record {
  program = c.in_ok-certified.ensures;
  text = c.in_ok-page.page.taken;
  run = c.in_ok-page.ensures;
  last_is = subst (λ text. IsLastLine text c.in_ok-last.last.items) c.bytes.ensures c.in_ok-last.ensures;
}
