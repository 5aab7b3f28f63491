use Rattle.std.proofs.Common.{◌⊎◌, ◌-◌, ◌≤◌}
use Rattle.fx_stream.specs.Rooms.{HasRoom}
use Rattle.fx_stream.proofs.Loop.{SoFar}
use Rattle.fx_stream.proofs.run.run_on.Given as goal

abbrev pub invariant-lines : goal.invariant-lines
invariant-lines g l = record {
  so_far : SoFar (g.P.Printer.outcome l.initial.printer) (g.P.Printer.outcome l.printer) l.lines
      (g.S.Source.seen l.initial.source).left (g.S.Source.seen l.source).left
      (g.K.Sink.seen l.initial.sink).taken (g.K.Sink.seen l.sink).taken l.page l.count l.initial.lines.limit
      (g.S.Source.seen l.initial.source).asked (g.S.Source.seen l.source).asked;
  can : g.P.Printer.can_take l.printer;
  held : g.P.Printer.holds_none l.printer ⊎ HasRoom l.page;
  later : (g.S.Source.seen l.initial.source).faults ≤ (g.S.Source.seen l.source).faults;
  later_sink : (g.K.Sink.seen l.initial.sink).faults ≤ (g.K.Sink.seen l.sink).faults;
}

abbrev pub decreases-lines : goal.decreases-lines
decreases-lines g l = l.initial.lines.limit - l.lines.number
