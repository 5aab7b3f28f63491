-- What a rule that was judged says of a step.
use Rattle.std.proofs.Common.{◌≡◌, Bool, true, false, Some, None, sym, ap, ◌∙◌}
use Rattle.std.specs.Option.{option_and_then}
use Rattle.std.specs.Prelude.{if◌then◌else◌}
use Rattle.fx_model.specs.Tree.{Tree}
use Rattle.fx_model.specs.Function.{Function}
use Rattle.fx_model.specs.Paths.{found, with_tree}
use Rattle.fx_inequalities.specs.Rewriting.{Rewriting}
use Rattle.fx_rules.specs.Turned as rules
use Rattle.fx_rules.specs.Turned.{Turned, turned}
use Rattle.fx_rules.specs.Steps.{is_within_limits, after, rewrite}
use Rattle.fx_rules.proofs.Turns.{turned_judges}
use Rattle.fx_rewrite.specs.Matching.{IsMatch, new_of}
use Rattle.fx_rewrite.specs.Refusals.{IsRefusedThere, IsAdmitted}
use Rattle.fx_rewrite.specs.declared.matching.Match.{Match}
use Rattle.fx_rewrite.specs.declared.fault.StepFault.TheVariants as faults

-- rewriting where a tree is found and the rule has an outcome
rewrite_is : (f : Function) (s : Rewriting) (old : Tree) (o : Turned) → found f s.place s.path ≡ Some old →
    turned s.rule old ≡ o → rewrite f s ≡ after f s o
rewrite_is f s old o there is = ap (option_and_then (λ old. after f s (turned s.rule old))) there ∙ ap (after f s) is

pub unmatched : (f : Function) (s : Rewriting) (old : Tree) → found f s.place s.path ≡ Some old →
    turned s.rule old ≡ rules.NoMatch → IsRefusedThere faults.NoMatch f s
unmatched f s old there is =
    ((old, there, turned_judges s.rule old rules.NoMatch is), rewrite_is f s old rules.NoMatch there is)

pub overlong : (f : Function) (s : Rewriting) (old : Tree) → found f s.place s.path ≡ Some old →
    turned s.rule old ≡ rules.TooLong → IsRefusedThere faults.TooLong f s
overlong f s old there is =
    let j = turned_judges s.rule old rules.TooLong is in
    let none = rewrite_is f s old rules.TooLong there is in
    ((old, j.0, there, j.1, none), none)

kept : (f : Function) (s : Rewriting) (old : Tree) (z : rules.Found) (m : Match) (b : Bool) → found f s.place s.path ≡
    Some old →
    IsMatch z m s.rule old → b ≡ is_within_limits (with_tree f s.place s.path (new_of z m)) s.place →
    rewrite f s ≡ (if b then Some (with_tree f s.place s.path (new_of z m)) else None)
kept f s old z m b there is within = rewrite_is f s old (rules.Becomes (new_of z m)) there is.becomes
    ∙ ap (λ (t : Bool). if t then Some (with_tree f s.place s.path (new_of z m)) else None) (sym within)

pub overfull : (f : Function) (s : Rewriting) (old : Tree) (z : rules.Found) (m : Match) → found f s.place s.path ≡ Some
    old →
    IsMatch z m s.rule old → false ≡ is_within_limits (with_tree f s.place s.path (new_of z m)) s.place →
    IsRefusedThere faults.TooLong f s
overfull f s old z m there is within =
    let j = turned_judges s.rule old (rules.Becomes (new_of z m)) is.becomes in
    let none = kept f s old z m false there is within in
    ((old, new_of z m, there, j.0, none), none)

pub admitted : (f : Function) (s : Rewriting) (old : Tree) (z : rules.Found) (m : Match) → found f s.place s.path ≡ Some
    old →
    IsMatch z m s.rule old → true ≡ is_within_limits (with_tree f s.place s.path (new_of z m)) s.place →
    IsAdmitted f s old z m
admitted f s old z m there is within = record { matches = is; is = kept f s old z m true there is within }
