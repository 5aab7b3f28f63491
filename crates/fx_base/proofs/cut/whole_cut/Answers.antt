use Rattle.std.proofs.Common.{◌≡◌, ◌+◌, ◌-◌, ◌<◌, ◌≤◌, take, drop, length, min, arith, sym, ap, subst, ◌∙◌, length-take}
use Rattle.fx_base.specs.Text.{text_at}
use Rattle.fx_base.proofs.Cutting.{feed-at}
use Rattle.fx_base.proofs.Answering.{ahead-of, takes-whole}
use Rattle.fx_base.proofs.cut.whole_cut.Goals as goal

pub returns-clause-cut : goal.returns-clause-cut
returns-clause-cut c =
    let bytes = c.args.bytes.now in
    let end = c.args.end in
    let from = c.line_in-from.result.0 in
    let len = c.line_in-from.result.1 in
    let within : end < length bytes = (feed-at bytes end c.requires).within in
    let inside : from + len ≤ end = omega (arith, c.line_in-from.ensures.within, length-take end bytes) in
    let size : from + c.min.result - from ≡ min len 65537 = omega (arith, c.min.ensures) in record {
      order = omega arith;
      within = omega (arith, c.min.ensures);
      next = omega arith;
      some = omega arith;
      ahead = λ _. ahead-of bytes (end + 1) _ c.line_end.ensures;
      ended = λ e. absurd (cc);
      takes = λ old new more whole first number left. takes-whole old new more bytes end from len whole c.requires
          (subst (λ v. text_at v (take end bytes) ≡ drop from (take end bytes)) (sym first)
          c.line_in-from.ensures.skips)
          c.line_in-from.ensures.strips c.line_in-from.ensures.within left.held number left.ready left.ended
          (left.line ∙ ap (λ n. take n (drop from bytes)) size);
    }
