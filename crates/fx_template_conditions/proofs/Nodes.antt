-- The first fault of a node's five conditions.
use Rattle.std.proofs.Common.{◌≡◌, ℕ, ℤ, pos, Bool, true, List, Option, Some, None, refl, ap, ◌∙◌}
use Rattle.fx_model.specs.Tree.{at}
use Rattle.fx_model.specs.Function.{Function}
use Rattle.fx_model.specs.Machine.{Code}
use Rattle.fx_model.specs.Nodes.{Node}
use Rattle.fx_inequalities.specs.Affine.{error_at, form_of, range_at}
use Rattle.fx_inequalities.specs.Certificate.{Certificate, no_line}
use Rattle.fx_inequalities.specs.Claim.{Claim}
use Rattle.fx_inequalities.specs.Condition as condition
use Rattle.fx_inequalities.specs.Condition.{Condition, Fault, Kind, fault_of, first_some, first_fault_of, OfNode}
use Rattle.fx_inequalities.specs.NodeConditions.{node_conditions, variables, form_claims, divisor_claims, range_claims, error_claims, word_claims}

pub first_some_none : (f : Option Fault) → first_some f None ≡ f
first_some_none None = refl
first_some_none (Some e) = refl

-- the fault of comparisons of node n, with a test
abbrev pub fault_at : Kind → ℕ → Bool → List Claim → Option Fault
fault_at kind n test claims = fault_of (record { kind = kind; part = OfNode; index = n; test = test; claims = claims })

-- the first of the five, of v variables and at point f
abbrev pub node_condition_faults : Function → ℕ → Certificate → ℕ → Node → Code → ℕ → ℤ → Option Fault
node_condition_faults fn w cert n node c v f =
    let ls = cert.lines in let l = at no_line ls n in let form = form_of v ls n in
    first_some (fault_at condition.Form n true (form_claims v ls l node c f form))
    (first_some (fault_at condition.Divisor n true (divisor_claims ls node))
    (first_some (fault_at condition.Range n true (range_claims fn cert l node form))
    (first_some (fault_at condition.Error n true (error_claims fn cert l node c f form))
    (fault_at condition.WordTooSmall n true (word_claims w f (range_at ls n) (error_at ls n))))))

pub five : (fn : Function) (w : ℕ) (ps : List ℤ) (cert : Certificate) (n : ℕ) (node : Node) (c : Code) (v : ℕ) (f : ℤ) →
    variables fn ≡ v → at (pos 0) ps n ≡ f
    → first_fault_of (node_conditions fn w ps cert n node c) ≡ node_condition_faults fn w cert n node c v f
five fn w ps cert n node c v f e h =
    let g = at (pos 0) ps n in let u = variables fn in let ls = cert.lines in let l = at no_line ls n in
    let form = form_of u ls n in
    ap (λ (o : Option Fault). first_some (fault_at condition.Form n true (form_claims u ls l node c g form))
    (first_some (fault_at condition.Divisor n true (divisor_claims ls node))
    (first_some (fault_at condition.Range n true (range_claims fn cert l node form))
    (first_some (fault_at condition.Error n true (error_claims fn cert l node c g form)) o))))
    (first_some_none (fault_at condition.WordTooSmall n true (word_claims w g (range_at ls n) (error_at ls n))))
    ∙ ap (λ (m : ℕ). node_condition_faults fn w cert n node c m g) e ∙ ap (λ (m : ℤ). node_condition_faults fn w cert n node c v m) h
