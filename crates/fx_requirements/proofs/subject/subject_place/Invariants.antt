use Rattle.std.proofs.Common.{◌≡◌, ℕ, ◌<◌, get_or, false, [], map}
use Rattle.std.specs.Prelude.{bytes_eq}
use Rattle.fx_requirements.specs.Views.{subject_of}
use Rattle.fx_grammar.specs.Ranges.{names_of}
use Rattle.fx_requirements.proofs.subject.subject_place.Given as goal

abbrev pub invariant-loop-i : goal.invariant-loop-i
invariant-loop-i l = (k : ℕ) → k < l.i → bytes_eq (get_or (names_of (map subject_of l.subjects)) k []) l.text ≡ false
