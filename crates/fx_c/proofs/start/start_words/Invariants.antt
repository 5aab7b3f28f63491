use Rattle.std.proofs.Common.{◌≡◌, map, take}
use Rattle.fx_model.specs.Machine.{start_words}
use Rattle.fx_program.specs.CodeView.{code_of}
use Rattle.fx_c.proofs.start.start_words.Given as goal

abbrev pub invariant-loop-code : goal.invariant-loop-code
invariant-loop-code l = l.words.items ≡ start_words (map code_of (take l.code-index l.codes))
