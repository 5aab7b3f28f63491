use Rattle.std.proofs.Common.{◌≡◌, ◌+◌, ◌<◌, ◌++◌, ap, sym, ◌∙◌, drop, decimal, arith}
use Rattle.std.specs.Prelude.{codes}
use Rattle.std.proofs.lemmas.Bool.Decides.{nat_tests}
use Rattle.fx_model.specs.Page.{line_of, names_from}
use Rattle.fx_run.proofs.Fields.{rest_of_line, field_put, all_fields, names_length, output_name_at}
use Rattle.fx_run.proofs.words.put_names.Goals as goal

pub loop-j-preserved : goal.loop-j-preserved
loop-j-preserved c =
    let all = names_from 1 c.args.count in let j = c.loop-j.j in
    let lt : j < c.args.count = grind (arith, nat_tests, c.loop-j-test.true) in
    let number : 1 + j ≡ j + 1 = omega arith in
    record {
      line = ap (λ t. t ++ rest_of_line (drop (j + 1) all)) c.put_name.ensures.written
          ∙ field_put all c.args.count j (codes "out" ++ decimal (j + 1)) c.loop-j.page c.args.page.now
          (names_length 1 c.args.count) lt
          (output_name_at 1 c.args.count j lt ∙ ap (λ k. codes "out" ++ decimal k) number) c.loop-j.invariant.line;
      short = omega (arith, c.loop-j.invariant.short, c.put_name.ensures.short);
    }

pub returns : goal.returns
returns c =
    let all = names_from 1 c.args.count in
    let end : c.loop-j.j ≡ c.args.count = grind (arith, nat_tests, c.loop-j-test.false, c.loop-j.auto.j-end) in
    all_fields all c.args.count (c.loop-j.page) (c.args.page.now ++ line_of all) (names_length 1 c.args.count)
    (ap (λ k. c.loop-j.page ++ rest_of_line (drop k all)) (sym end) ∙ c.loop-j.invariant.line)
