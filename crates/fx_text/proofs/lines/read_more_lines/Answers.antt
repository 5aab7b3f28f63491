use Rattle.std.proofs.Common.{◌≡◌, ◌++◌, ◌∷◌, [], map}
use Rattle.std.proofs.lemmas.Result.{err_from_is_err_and}
use Rattle.fx_text.specs.Many.{lines_by, with_front}
use Rattle.fx_text.proofs.SoFar.{begins_behind, goes_on, ends, is_done, all_read}
use Rattle.fx_text.proofs.lines.read_more_lines.Goals as goal

pub loop-i-init : goal.loop-i-init
loop-i-init g c =
    begins_behind g.R.LineReader.told
    (g.R.LineReader.line_at c.args.reader.now) c.args.first c.args.count c.args.before.items c.args.text.now

pub returns-in_err-next-clause-value : goal.returns-in_err-next-clause-value
returns-in_err-next-clause-value g c =
    let p = err_from_is_err_and c.from_residual.result c.from_residual.ensures.1 in
    rw (p.1, p.2) (ends {total = with_front (map g.R.LineReader.told c.args.before.items)
    (lines_by (g.R.LineReader.line_at c.args.reader.now) c.args.first c.args.count c.args.text.now)}
    c.in_err-next.field-0.0 c.loop-i.invariant c.loop-i-test.true c.in_err-next.ensures)

pub loop-i-preserved : goal.loop-i-preserved
loop-i-preserved g c =
    let items : c.push.new.self.items ≡ c.loop-i.found.items ++ c.in_ok-next.next ∷ [] = c.in_ok-push.ensures.items in
    rw items (goes_on {total = with_front (map g.R.LineReader.told c.args.before.items)
    (lines_by (g.R.LineReader.line_at c.args.reader.now) c.args.first c.args.count c.args.text.now)}
    c.in_ok-next.next c.in_ok-next.after.now c.loop-i.invariant c.loop-i-test.true c.in_ok-next.ensures)

pub returns-clause-value : goal.returns-clause-value
returns-clause-value g c = is_done c.loop-i.invariant c.loop-i-test.false

pub returns-clause-count : goal.returns-clause-count
returns-clause-count g c = all_read c.loop-i.invariant c.loop-i-test.false
