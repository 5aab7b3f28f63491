use Rattle.std.proofs.Common.{◌<◌, length, arith, ◌∙◌}
use Rattle.std.proofs.lemmas.Bool.Decides.{nat_tests}
use Rattle.fx_run.proofs.Blocks.{one_more}
use Rattle.fx_run.proofs.block.fill.Goals as goal

pub loop-k-preserved : goal.loop-k-preserved
loop-k-preserved c =
    let n = length c.args.row.now in let k = c.loop-k.k in
    let lt : k < 16 = grind (arith, nat_tests, c.loop-k-test.true) in
    record {
      same = c.put_at.ensures.same ∙ c.loop-k.invariant.same;
      put =
          one_more n k c.loop-k.rows c.put_at.new.rows c.args.row.now lt c.loop-k.invariant.put c.put_at.ensures.put
          c.put_at.ensures.others;
    }
