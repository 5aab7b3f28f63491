use Rattle.std.proofs.Common.{inl}
use Rattle.fx_stream.proofs.Steps.{put-out}
use Rattle.fx_stream.proofs.ask.next.Goals as goal

pub returns-clause-none_held : goal.returns-clause-none_held
returns-clause-none_held g c = λ none. c.put_held_before.ensures.none_held (inl none)

pub returns-clause-asked : goal.returns-clause-asked
returns-clause-asked g c = λ o left before count ran.
    c.ask.ensures.asked o _ left before count
    (λ out. (g.met.P.Printer.none c.put_held_before.new.printer (c.put_held_before.ensures.none_held out)).0)
    (put-out o _ _ c.args.lines.now left _ before _ c.args.page.now c.put_held_before.new.page count _ ran
    c.put_held_before.ensures.put)

pub returns-clause-prompt : goal.returns-clause-prompt
returns-clause-prompt g c = λ o left before count ran.
    c.ask.ensures.prompt o _ left before count
    (λ out. (g.met.P.Printer.none c.put_held_before.new.printer (c.put_held_before.ensures.none_held out)).0)
    (put-out o _ _ c.args.lines.now left _ before _ c.args.page.now c.put_held_before.new.page count _ ran
    c.put_held_before.ensures.put)
