use Rattle.std.proofs.Common.{sym, ◌∙◌}
use Rattle.fx_stream.proofs.Turns.{long-bad, told-bad}
use Rattle.fx_stream.proofs.ask.take_line.Goals as goal

pub returns-then-not-ready-clause-bad : goal.returns-then-not-ready-clause-bad
returns-then-not-ready-clause-bad g c =
    let put = c.put_held.ensures.put in (
      put.0,
      put.1,
      long-bad g.P.Printer.told (g.P.Printer.outcome c.args.printer.now)
          (g.P.Printer.outcome c.put_held.new.self) c.args.lines.now put.0 c.too_long.result
          (sym (sym c.ready.ensures ∙ c.if-not-ready.true)) put.2 (c.too_long.ensures c.put_held.ensures.none_held),
    )

pub returns-clause-bad : goal.returns-clause-bad
returns-clause-bad g c =
    told-bad g.P.Printer.told c.take.result c.take.new.page c.args.page.now
    (g.P.Printer.outcome c.args.printer.now) c.args.lines.now c.line.result.now c.line.ensures
    (sym c.ready.ensures ∙ c.if-not-ready.false) c.take.ensures.bad
