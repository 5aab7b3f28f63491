use Rattle.std.proofs.Common.{ap, sym, ◌∙◌}
use Rattle.fx_base.proofs.Noting.{none_noted}
use Rattle.fx_stream.specs.Promise.{IsAnswered}
use Rattle.fx_stream.proofs.Exits.{not-written}
use Rattle.fx_stream.proofs.Turns.{on-ok, on-err, unheld}
use Rattle.fx_stream.proofs.Asking.{Turn, comes, prompt}
use Rattle.fx_stream.proofs.ask.ask.Given.{Over}
use Rattle.fx_stream.proofs.ask.ask.Goals as goal

pub returns-then-is_err-clause-asked : goal.returns-then-is_err-clause-asked
returns-then-is_err-clause-asked g c = λ o now left before count none ran.
    not-written g.P.Printer.told ran
    (on-err c.flush.result (sym c.is_err.ensures.value ∙ c.if-is_err.true) c.flush.ensures.front)

pub returns-then-is_err-clause-prompt : goal.returns-then-is_err-clause-prompt
returns-then-is_err-clause-prompt g c =
    λ o now left before count none ran. none_noted (IsAnswered o left before) (g.S.Source.seen c.args.source.now).asked

-- what the flush and the call for the next line say
turn : (g : Over) (c : goal.After-as_run g) →
    Turn c.args.lines.now c.next_line.new.self (g.S.Source.seen c.args.source.now).left
    (g.S.Source.seen c.next_line.new.source).left (g.K.Sink.seen c.args.sink.now).taken
    (g.K.Sink.seen c.flush.new.sink).taken
    c.args.page.now c.flush.new.page c.next_line.ensures.taken.0 (g.S.Source.seen c.args.source.now).asked
    (g.S.Source.seen c.next_line.new.source).asked c.holds_line.result c.next_line.result
turn g c =
    let m = c.next_line.ensures.taken in
    let says = c.next_line.ensures in
    record {
      flush = on-ok c.flush.result (sym c.is_err.ensures.value ∙ c.if-is_err.false) c.flush.ensures.all;
      took = m.1;
      sum = m.2;
      few = m.3;
      line = m.4;
      none = m.5;
      kept = m.6;
      counts = says.counts;
      end = says.end;
      ended = says.ended;
      number = λ other. (says.stop other).2;
      nowhere = λ e. (says.read_fault e).1;
      over = says.too_long;
      within = says.within;
      limit = says.limit;
      lazy = λ e. let l = says.lazy (c.holds_line.ensures.0 e) in (ap (λ s. (g.S.Source.seen s).asked) l.0, l.1, l.2);
      unheld = unheld c.holds_line.result _ c.holds_line.ensures;
      after_end = λ e. let l = says.after_end e in
          (ap (λ s. (g.S.Source.seen s).left) l.0, ap (λ s. (g.S.Source.seen s).asked) l.0, l.1, l.2);
      sought = says.sought;
    }

pub returns-clause-asked : goal.returns-clause-asked
returns-clause-asked g c = λ o now left before count none ran.
    rw c.as_run.ensures.is (comes none ran c.requires.limit (turn g c) g.P.Printer.told)

pub returns-clause-prompt : goal.returns-clause-prompt
returns-clause-prompt g c = λ o now left before count none ran. prompt none ran c.requires.limit (turn g c)
