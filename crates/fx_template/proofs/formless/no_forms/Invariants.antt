use Rattle.std.proofs.Common.{◌≡◌, length, false}
use Rattle.std.specs.Prelude.{is_some}
use Rattle.std.specs.List.{All}
use Rattle.fx_template.proofs.formless.no_forms.Given as goal

-- so many, and none is a form
abbrev pub invariant-loop-turn : goal.invariant-loop-turn
invariant-loop-turn l = All (λ f. is_some f ≡ false) l.forms.items × (length l.forms.items ≡ l._turn)
