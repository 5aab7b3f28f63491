use Rattle.fx_rules.specs.Turned.{letters_of}
use Rattle.fx_rewrite.specs.FoundOf.{found_of}
use Rattle.fx_rewrite.proofs.matching.both_sizes.Goals as goal

pub returns : goal.returns
returns c = record {
  old = λ made. c.pattern.ensures (letters_of (found_of c.args.found.now) made) (c.of-letters.ensures made);
  new = λ made. c.pattern-2.ensures (letters_of (found_of c.args.found.now) made) (c.of-letters.ensures made);
}
