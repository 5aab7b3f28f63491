use Rattle.std.proofs.Common.{◌≡◌, ◌+◌, ◌-◌, ◌<◌, take, drop, length, min, arith, sym, ap, subst, ◌∙◌}
use Rattle.std.proofs.lemmas.List.{drop_all}
use Rattle.std.proofs.lemmas.Grind.{common_steps}
use Rattle.fx_base.specs.Text.{text_at}
use Rattle.std.specs.Prelude.{position}
use Rattle.fx_base.proofs.Cutting.{is_feed}
use Rattle.fx_base.proofs.Answering.{takes-last}
use Rattle.fx_base.proofs.cut.last_cut.Goals as goal

pub returns-clause-cut : goal.returns-clause-cut
returns-clause-cut c =
    let bytes = c.args.bytes.now in
    let from = c.mark_len-from.result in
    let some : 0 < length bytes - from = grind (arith, c.if-length-eq0.false, common_steps) in
    let size : from + c.min.result - from ≡ min (length bytes - from) 65537 = omega (arith, c.min.ensures) in
    let all = drop_all (length bytes) bytes (omega arith) in record {
      order = omega arith;
      within = omega (arith, c.min.ensures);
      next = omega arith;
      some = omega arith;
      ahead = λ _. ap (position is_feed) (sym all);
      ended = λ _. all;
      takes = λ old new more whole first number left. takes-last old new more bytes from whole c.requires
          (subst (λ v. text_at v bytes ≡ drop from bytes) (sym first) c.mark_len-from.ensures.skips) some
          (left.held ∙ all) number left.ready left.ended (left.line ∙ ap (λ n. take n (drop from bytes)) size);
    }
