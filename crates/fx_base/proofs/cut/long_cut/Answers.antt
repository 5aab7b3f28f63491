use Rattle.std.proofs.Common.{◌≡◌, ◌+◌, ◌-◌, ◌<◌, ◌≤◌, take, drop, length, arith, sym, ap, subst, ◌∙◌}
use Rattle.std.proofs.lemmas.List.{drop_all}
use Rattle.fx_base.specs.Text.{text_at}
use Rattle.fx_base.proofs.Answering.{takes-long}
use Rattle.fx_base.proofs.cut.long_cut.Goals as goal

pub returns-clause-cut : goal.returns-clause-cut
returns-clause-cut c =
    let bytes = c.args.bytes.now in
    let from = c.mark_len-from.result in
    let few : from ≤ 3 = c.mark_len-from.ensures.few in
    let long : 65540 < length bytes = c.requires.long in
    let size : from + 65537 - from ≡ 65537 = omega arith in
    let all = drop_all (length bytes) bytes (omega arith) in record {
      order = omega arith;
      within = omega arith;
      next = omega arith;
      some = omega arith;
      ahead = λ e. absurd (cc);
      ended = λ e. absurd (cc);
      takes = λ old new more whole first number left. takes-long old new more bytes from whole c.requires.none
          (subst (λ v. text_at v bytes ≡ drop from bytes) (sym first) c.mark_len-from.ensures.skips) long few
          (left.held ∙ all) number left.ready left.ended (left.line ∙ ap (λ n. take n (drop from bytes)) size);
    }
