use Rattle.std.proofs.Common.{◌≡◌, ℕ, ◌<◌, false, length, map, take}
use Rattle.std.specs.List.{list_any}
use Rattle.fx_model.specs.Tree.{at}
use Rattle.fx_program.specs.CodeView.{code_of}
use Rattle.fx_c.specs.Around.{code_takes}
use Rattle.fx_c.proofs.unread.taken_names.Given as goal

abbrev pub invariant-loop-code : goal.invariant-loop-code
invariant-loop-code l = record {
  many : length l.taken.items ≡ length l.codes;
  marked : (m : ℕ) → m < length l.codes
      → at false l.taken.items m ≡ list_any (code_takes m) (map code_of (take l.code-index l.codes));
}
