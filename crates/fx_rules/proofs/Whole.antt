-- Rewriting is what the rules say, and keeps the meaning.
use Rattle.std.proofs.Common.{◌≡◌, ◌≤◌, ℕ, Bool, true, false, Option, Some, None, refl, sym, ap, subst, ◌∙◌, rules, tests}
use Rattle.std.specs.Prelude.{◌&&◌, nat_le, length, IfSome, cond}
use Rattle.std.specs.Option.{option_and_then}
use Rattle.std.proofs.lemmas.Bool.{and_parts}
use Rattle.fx_model.specs.Limits.{node_limit, height_limit}
use Rattle.fx_model.specs.Tree.{Tree}
use Rattle.fx_model.specs.Function.{Function}
use Rattle.fx_model.specs.Nodes.{nodes_of}
use Rattle.fx_model.specs.Valid.{IsValid}
use Rattle.fx_model.specs.Sameness.{HasMeaningOf}
use Rattle.fx_model.specs.Paths.{height, found, tree_at, subtree, put, with_tree}
use Rattle.fx_model.proofs.Options.{some_then}
use Rattle.fx_inequalities.specs.Rewriting.{Rewriting}
use Rattle.fx_rules.specs.Turned.{Turned, NoMatch, TooLong, Becomes, where_fits, turned}
use Rattle.fx_rules.specs.Steps.{IsRewritten, is_low, kept_within, after, rewrite, RewriteLaw}
use Rattle.fx_rules.proofs.Turns.{turned_there, turned_judges}
use Rattle.fx_rules.proofs.Sound.{rewrites_sound}
use Rattle.fx_rules.proofs.Under.{put_same, changed_same}
use Rattle.fx_rules.proofs.Refers.{put_refers, changed_valid}

low_is : (o : Option Tree) → is_low o ≡ true → IfSome o (λ e. height e ≤ height_limit)
low_is None e = tt {0}
low_is (Some t) e = search (rules, tests)

is_low_from : (o : Option Tree) → IfSome o (λ e. height e ≤ height_limit) → is_low o ≡ true
is_low_from None h = refl
is_low_from (Some t) h = search (rules, tests)

record Kept (h : Function) (place : ℕ) (g : Function) : Type 0 where
  same : g ≡ h
  nodes : length (nodes_of h) ≤ node_limit
  height : IfSome (tree_at h place) (λ e. height e ≤ height_limit)

kept_is : (h : Function) (place : ℕ) (g : Function) → kept_within h place ≡ Some g → Kept h place g
kept_is h place g e = by (nat_le (length (nodes_of h)) node_limit && is_low (tree_at h place)) refl e
  where
    by : (b : Bool) → (nat_le (length (nodes_of h)) node_limit && is_low (tree_at h place)) ≡ b →
        cond b (Some h) None ≡ Some g → Kept h place g
    by false is e = absurd cc
    by true is e =
        let p = and_parts (nat_le (length (nodes_of h)) node_limit) (is_low (tree_at h place)) is in
        record { same = cc; nodes = (let q = p.0 in search (rules, tests)); height = low_is (tree_at h place) p.1 }

kept_from : (h : Function) (place : ℕ) → length (nodes_of h) ≤ node_limit →
    IfSome (tree_at h place) (λ e. height e ≤ height_limit) → kept_within h place ≡ Some h
kept_from h place n l =
    let few : nat_le (length (nodes_of h)) node_limit ≡ true = search (rules, tests) in
    let low : is_low (tree_at h place) ≡ true = is_low_from (tree_at h place) l in
    rw (few, low) refl

gives : (f : Function) (s : Rewriting) (h : Function) (old : Tree) → found f s.place s.path ≡ Some old → (o : Turned) →
    turned s.rule old ≡ o → after f s o ≡ Some h → IsRewritten f s h
gives f s h old there NoMatch is e = absurd cc
gives f s h old there TooLong is e = absurd cc
gives f s h old there (Becomes new) is e =
    let k = kept_is (with_tree f s.place s.path new) s.place h e in
    let j = turned_judges s.rule old (Becomes new) is in
    record {
      old = old;
      new = new;
      there = there;
      rewrites = j.0;
      literal = j.1;
      result = k.same;
      nodes = subst (λ (g : Function). length (nodes_of g) ≤ node_limit) (sym k.same) k.nodes;
      height =
          subst (λ (g : Function). IfSome (tree_at g s.place) (λ e. height e ≤ height_limit)) (sym k.same) k.height;
    }

forward : (f : Function) (s : Rewriting) (h : Function) → rewrite f s ≡ Some h → IsRewritten f s h
forward f s h e =
    let p = some_then (λ old. after f s (turned s.rule old)) (found f s.place s.path) h e in
    gives f s h p.0 p.1 (turned s.rule p.0) refl p.2

backward : (f : Function) (s : Rewriting) (h : Function) → IsRewritten f s h → rewrite f s ≡ Some h
backward f s h r =
    let to : turned s.rule r.old ≡ Becomes r.new = turned_there s.rule r.old r.new r.rewrites
    ∙ ap (λ b. where_fits b r.new) r.literal in
    ap (option_and_then (λ old. after f s (turned s.rule old))) r.there ∙ ap (after f s) to
    ∙ ap (λ (g : Function). kept_within g s.place) (sym r.result) ∙ kept_from h s.place r.nodes r.height

keeps : (f : Function) (s : Rewriting) (h : Function) → rewrite f s ≡ Some h → IsValid f → IsValid h × HasMeaningOf f h
keeps f s h e v =
    let r = forward f s h e in
    let p = some_then (subtree s.path) (tree_at f s.place) r.old r.there in
    let sound = rewrites_sound s.rule r.old r.new r.rewrites in
    subst (λ (g : Function). IsValid g × HasMeaningOf f g) (sym r.result) (
      changed_valid f s.place p.0 (put s.path r.new) p.1
          (put_refers (length f.inputs) s.path p.0 r.old r.new p.2 (λ k m h. sound.1 (length f.inputs) k m h)) v,
      changed_same f s.place p.0 (put s.path r.new) p.1 (put_same s.path p.0 r.old r.new p.2 sound.0),
    )

pub rewrite_is : RewriteLaw
rewrite_is = record { exact = λ f s h. (forward f s h, backward f s h); keeps = keeps }
