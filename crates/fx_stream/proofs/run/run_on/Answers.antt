use Rattle.std.proofs.Common.{arith, inl, rules}
use Rattle.fx_stream.proofs.Loop.{asking-failed, below, ended, ends_run, smaller, run_starts, stopped, turned}
use Rattle.fx_stream.proofs.run.run_on.Goals as goal

pub lines-init : goal.lines-init
lines-init g c = record {
  so_far = run_starts _ _ _ _ (g.met.P.Printer.none c.args.printer.now c.requires.none_held).0 c.requires.fresh
      c.requires.empty;
  can = c.requires.can;
  held = inl c.requires.none_held;
  later = omega arith;
  later_sink = omega arith;
}

pub lines-smaller : goal.lines-smaller
lines-smaller g c =
    let so_far = c.lines.invariant.so_far in
    smaller so_far (c.in-Ok-Line.ensures.asked _ _ _ _ so_far.ran) c.in-Ok-Line.field-0-is
    c.in-Ok.ensures.ready

pub lines-preserved : goal.lines-preserved
lines-preserved g c =
    let so_far = c.lines.invariant.so_far in
    record {
      so_far = turned so_far (c.in-Ok-Line.ensures.asked _ _ _ _ so_far.ran) c.next.ensures.grown
          (c.next.ensures.prompt _ _ _ _ so_far.ran) _ _ _ _ c.in-Ok-Line.field-0-is c.in-Ok.ensures.ready
          c.in-Ok.ensures.taken c.one-count.ensures;
      can = c.in-Ok.ensures.can;
      held = c.in-Ok.ensures.held;
      later = omega (arith, c.lines.invariant.later, c.next.ensures.later);
      later_sink = omega (arith, c.lines.invariant.later_sink, c.next.ensures.later_sink);
    }

pub returns-in-Err-take_line : goal.returns-in-Err-take_line
returns-in-Err-take_line g c =
    let so_far = c.lines.invariant.so_far in
    ends_run (stopped so_far (c.in-Ok-Line.ensures.asked _ _ _ _ so_far.ran) c.next.ensures.grown
    (c.next.ensures.prompt _ _ _ _ so_far.ran) g.P.Printer.told _ _ _ _ _ c.in-Ok-Line.field-0-is c.number.ensures
    c.stop_at.ensures.stops c.in-Err-take_line.ensures.bad) (record {
      read_fault = search rules;
      write_fault = search rules;
      later = omega (arith, c.lines.invariant.later, c.next.ensures.later);
      later_sink = omega (arith, c.lines.invariant.later_sink, c.next.ensures.later_sink, c.stop_at.ensures.later_sink);
    })

pub end_at-requires : goal.end_at-requires
end_at-requires g c =
    let so_far = c.lines.invariant.so_far in
    below so_far (c.in-Ok-End.ensures.asked _ _ _ _ so_far.ran) c.in-Ok-End.field-0-is c.number-in-Ok-End.ensures
    c.requires.limit

pub returns-in-Ok-End : goal.returns-in-Ok-End
returns-in-Ok-End g c =
    let so_far = c.lines.invariant.so_far in
    ends_run (ended so_far (c.in-Ok-End.ensures.asked _ _ _ _ so_far.ran) c.next.ensures.grown
    (c.next.ensures.prompt _ _ _ _ so_far.ran) g.P.Printer.told c.in-Ok-End.field-0-is
    (λ none. g.met.P.Printer.none c.next.new.printer (c.next.ensures.none_held none)) c.number-in-Ok-End.ensures
    c.end_at.ensures) (record {
      read_fault = search rules;
      write_fault = search rules;
      later = omega (arith, c.lines.invariant.later, c.next.ensures.later);
      later_sink = omega (arith, c.lines.invariant.later_sink, c.next.ensures.later_sink);
    })

pub returns-in-Err : goal.returns-in-Err
returns-in-Err g c =
    let so_far = c.lines.invariant.so_far in
    ends_run (asking-failed g.P.Printer.told c.in-Err.fault so_far c.next.ensures.grown
    (c.next.ensures.prompt _ _ _ _ so_far.ran) (c.in-Err.ensures.asked _ _ _ _ so_far.ran)) (record {
      read_fault = search rules;
      write_fault = search rules;
      later = omega (arith, c.lines.invariant.later, c.next.ensures.later);
      later_sink = omega (arith, c.lines.invariant.later_sink, c.next.ensures.later_sink);
    })
