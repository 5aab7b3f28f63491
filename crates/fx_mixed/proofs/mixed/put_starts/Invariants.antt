use Rattle.std.proofs.Common.{◌≡◌}
use Rattle.fx_program.specs.CodeView.{code_of}
use Rattle.fx_mixed.specs.Mixing.{first_word}
use Rattle.fx_mixed.proofs.Starts.{begun}
use Rattle.fx_mixed.proofs.mixed.put_starts.Given as goal

abbrev pub invariant-loop-n : goal.invariant-loop-n
invariant-loop-n l = record {
  widths : l.bank.widths ≡ l.initial.bank.widths;
  words : l.bank.words ≡ begun first_word code_of l.codes l.n;
}
