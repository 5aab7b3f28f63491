use Rattle.std.proofs.Common.{◌++◌, take, sym, ap, ◌∙◌}
use Rattle.std.proofs.lemmas.Fmt.{decimal_digit}
use Rattle.fx_fraction.proofs.text.put_whole.Goals as goal

pub returns-then-whole-lt10-clause-written : goal.returns-then-whole-lt10-clause-written
returns-then-whole-lt10-clause-written c =
    c.put_byte.ensures.written
    ∙ ap (λ ds. take c.args.at c.args.out.now ++ ds) (sym (decimal_digit c.args.whole c.if-whole-lt10.true))
