-- A subtree moved out, and another that is moved in: the function is lawful before, between and behind.
use Rattle.std.proofs.Common.{◌≡◌, ℕ, ◌+◌, ◌≤◌, List, Option, Some, IsSome, IfSome, refl, sym, ap, subst, ◌∙◌, arith, length}
use Rattle.std.proofs.lemmas.Option.{same_Some}
use Rattle.fx_model.specs.Tree.{Tree, Input}
use Rattle.fx_model.specs.Function.{Function}
use Rattle.fx_model.specs.Nodes.{nodes_of}
use Rattle.fx_model.specs.Paths.{height, subtree, put, tree_at, found, with_tree}
use Rattle.fx_model.proofs.Options.{some_then}
use Rattle.fx_inequalities.specs.Rewriting.{Rewriting}
use Rattle.fx_expr.specs.LawfulFunction.{IsLawfulFunction}
use Rattle.fx_expr.specs.SizeOf.{size_of}
use Rattle.fx_rules.specs.Turned.{Becomes}
use Rattle.fx_rules.proofs.Turns.{turned_judges}
use Rattle.fx_rules.proofs.Whole.{rewrite_is}
use Rattle.fx_rules.proofs.Sound.{rewrites_sound}
use Rattle.fx_rewrite.specs.Moving.{all_carried}
use Rattle.fx_rewrite.specs.Prepared.{IsPrepared}
use Rattle.fx_rewrite.specs.declared.matching.Match.{Match}
use Rattle.fx_rewrite.proofs.Heights.{height_above, high_after}
use Rattle.fx_rewrite.proofs.There.{tree_there}
use Rattle.fx_rewrite.proofs.Twice.{with_twice, with_there}
use Rattle.fx_rewrite.proofs.Lawful.{lawful_with, lawful_leaf}

-- what is known of the new tree
record Limits (f : Function) (s : Rewriting) (new : Tree) : Type 0 where
  low : length s.path + height new ≤ 200
  few : length (nodes_of (with_tree f s.place s.path new)) ≤ 4000

module _ (f : Function) (s : Rewriting) (begun : Tree) (m : Match) (is : IsLawfulFunction f)
    (p : IsPrepared f s begun m) where
  limits : Limits f s p.new
  limits =
      let r = (rewrite_is.exact f s (with_tree f s.place s.path p.new)).0 p.is in
      let t = some_then (subtree s.path) (tree_at f s.place) p.old p.there in
      let whole : height (put s.path p.new t.0) ≤ 200 =
      subst (λ (o : Option Tree). IfSome o (λ e. height e ≤ 200))
      (tree_there f s.place t.0 (put s.path p.new) t.1) r.height in
      let up = high_after s.path t.0 p.old p.new t.2 in
      record { low = omega arith; few = r.nodes }

  -- with the new tree in its place
  in_lawful : IsLawfulFunction (with_tree f s.place s.path p.new)
  in_lawful =
      let j = turned_judges s.rule p.old (Becomes p.new) p.becomes in
      lawful_with f s.place s.path p.old p.new is p.there
      (λ k n h. (rewrites_sound s.rule p.old p.new j.0).1 (length f.inputs) k n h) limits.low limits.few

  -- by a path that is the step's
  module _ (path : List ℕ) (same : path ≡ s.path) where
    -- with a leaf in its place
    pub out_lawful : IsLawfulFunction (with_tree f s.place path (Input 0))
    out_lawful =
        let h = limits.low in let k = height_above p.new in
        subst (λ (q : List ℕ). IsLawfulFunction (with_tree f s.place q (Input 0))) (sym same)
        (lawful_leaf f s.place s.path p.old is p.there (omega arith))

    module _ (g : Function) (out : g ≡ with_tree f s.place path (Input 0)) where
      leaf_there : found g s.place path ≡ Some (Input 0)
      leaf_there =
          ap (λ (x : Function). found x s.place path) out
          ∙ subst (λ (q : List ℕ). found (with_tree f s.place q (Input 0)) s.place q ≡ Some (Input 0)) (sym same)
          (with_there f s.place s.path p.old (Input 0) p.there)

      pub out_there : IsSome (found g s.place path)
      out_there = subst (λ (o : Option Tree). IsSome o) (sym leaf_there) refl

      -- the leaf has no nodes
      pub out_nodes : (t : Tree) → found g s.place path ≡ Some t → 0 ≡ (size_of t).nodes
      out_nodes t h = ap (λ (t : Tree). (size_of t).nodes) (sym (same_Some _ _ (sym h ∙ leaf_there)))

      -- what goes in is what the rule makes of the tree that came out
      pub in_is : (came went : Tree) → found f s.place path ≡ Some came → went ≡ all_carried m.moves came begun →
          with_tree g s.place path went ≡ with_tree f s.place s.path p.new
      in_is came went h finished =
          let o : came ≡ p.old =
          same_Some _ _ (sym h ∙ ap (λ (q : List ℕ). found f s.place q) same ∙ p.there) in
          let t : went ≡ p.new = finished ∙ ap (λ (e : Tree). all_carried m.moves e begun) o ∙ p.finished in
          ap (λ (x : Function). with_tree x s.place path went) out ∙ with_twice f s.place path (Input 0) went
          ∙ ap (λ (u : Tree). with_tree f s.place path u) t
          ∙ ap (λ (q : List ℕ). with_tree f s.place q p.new) same

      pub back_lawful : (came went : Tree) → found f s.place path ≡ Some came → went ≡ all_carried m.moves came begun →
          IsLawfulFunction (with_tree g s.place path went)
      back_lawful came went h finished =
          subst (λ (x : Function). IsLawfulFunction x) (sym (in_is came went h finished)) in_lawful
