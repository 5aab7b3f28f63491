-- When a step is refused, and by which fault.
use Rattle.std.specs.Prelude.{◌≡◌, Some, None}
use Rattle.fx_model.specs.Tree.{Tree}
use Rattle.fx_model.specs.Function.{Function}
use Rattle.fx_model.specs.Paths.{found, with_tree}
use Rattle.fx_inequalities.specs.Rewriting.{Rewriting}
use Rattle.fx_model.specs.Rules.{RewritesTree}
use Rattle.fx_rules.specs.Steps.{rewrite, IsUnmatched}
use Rattle.fx_rules.specs.Turned.{Found}
use Rattle.fx_rewrite.specs.Matching.{IsMatch, new_of}
use Rattle.fx_rewrite.specs.declared.matching.Match.{Match}
use Rattle.fx_rewrite.specs.declared.fault.StepFault.{StepFault}
use Rattle.fx_rewrite.specs.declared.fault.StepFault.TheVariants.{NoPlace, NoMatch, TooLong, Memory}

-- the place or the path leads nowhere; a tree is there and the rule's left side doesn't match it; it matches, and a
-- limit isn't kept
abbrev pub IsRefused : StepFault → Function → Rewriting → Type 0
IsRefused NoPlace f s = found f s.place s.path ≡ None
IsRefused NoMatch f s = (old : Tree) × (found f s.place s.path ≡ Some old) × IsUnmatched s.rule old
IsRefused TooLong f s = (old : Tree) × (new : Tree) × (found f s.place s.path ≡ Some old) ×
    RewritesTree s.rule old new × (rewrite f s ≡ None)
IsRefused Memory f s = Unit {0}

-- so refused, it is no step
abbrev pub IsRefusedThere : StepFault → Function → Rewriting → Type 0
IsRefusedThere fault f s = IsRefused fault f s × (rewrite f s ≡ None)

-- the step is there: the rule matches, and the limits are kept
pub record IsAdmitted (f : Function) (s : Rewriting) (old : Tree) (letters : Found) (m : Match) : Type 0 where
  pub matches : IsMatch letters m s.rule old
  pub is : rewrite f s ≡ Some (with_tree f s.place s.path (new_of letters m))
