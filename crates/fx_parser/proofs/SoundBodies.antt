-- The temps and results of a body that is read are lawful.
use Rattle.std.proofs.Common.{◌≡◌, ℕ, suc, ◌+◌, ◌<◌, ◌≤◌, Bool, true, false, eqb, List, [], ◌∷◌, ◌++◌, length, drop, Option, Some, None, Ok, refl, subst, ◌∙◌, length-append, arith, rules, tests}
use Rattle.std.specs.Prelude.{nat_lt}
use Rattle.std.specs.List.{All}
use Rattle.std.proofs.lemmas.List.Elements.{All-append, All-nil}
use Rattle.fx_model.specs.Names.{IsName}
use Rattle.fx_model.specs.Tree.{Tree}
use Rattle.fx_model.specs.Function as model
use Rattle.fx_model.specs.Valid.{RefersBelow, AllReferBelow, ReferBack}
use Rattle.fx_expr.specs.LawfulFunction.{IsLow}
use Rattle.fx_grammar.specs.declared.head.Head.TheVariants as heads
use Rattle.fx_grammar.specs.Heads.{◌==ₕ◌}
use Rattle.fx_grammar.specs.Steps.{Tokens, Text, next_head, past_semicolon, stands_next, behind}
use Rattle.fx_grammar.specs.Operands.{Operand, is_high, tree_or, counted_nodes}
use Rattle.fx_grammar.specs.Expressions.{expr_at}
use Rattle.fx_grammar.specs.Bodies.{Body, known_of, whole_at, typed_at, with_temp, val_at, vals_at, Results, single_at, element_at, tuple_at, result_at}
use Rattle.fx_parser.specs.LawfulTokens.{AreSound}
use Rattle.fx_model.proofs.Steps.{on_ok}
use Rattle.fx_parser.proofs.Reading.{only, on_if, same_ok, sound_drop, sound_semicolon, want_ok, real_ok, repeat_ok, listed_ok}
use Rattle.fx_model.specs.Counts.{tree_nodes, temp_nodes}
use Rattle.fx_parser.proofs.NodeCounts.{all_tree_nodes}
use Rattle.fx_parser.proofs.SoundTrees.{IsTree, IsOperand, expr_ok}
use Rattle.fx_parser.proofs.SoundSubjects.{is_name}
use Rattle.fx_parser.proofs.SoundFronts.{free_ok}

-- a tree that isn't too high
abbrev IsGood : ℕ → ℕ → ℕ → Tree → ℕ → Type 0
IsGood i k m t n = RefersBelow i k m t × IsLow t × (n ≡ counted_nodes (tree_nodes t))

good_tree : (i k m : ℕ) (t : Option Tree) (h n : ℕ) → IsTree i k m t h n → eqb h 201 ≡ false →
    IsGood i k m (tree_or t) n
good_tree i k m None h n p e = let apart : (h ≡ 201) → ⊥ = search (rules, tests) in absurd (apart p)
good_tree i k m (Some t) h n p e = (p.0, omega (arith, p.1, p.2), p.3)

pub record IsSoundBody (b : Body) : Type 0 where
  pub names : length b.names ≡ b.inputs + b.states + length b.temps
  pub temps : length b.temps ≤ 1000
  pub back : ReferBack b.inputs b.states 0 b.temps
  pub low : All (λ t. IsLow t.tree) b.temps
  pub named : All (λ t. IsName t.name) b.temps
  pub nodes : b.nodes ≡ counted_nodes (temp_nodes b.temps)

read_ok : (end : ℕ) (b : Body) (outside : Bool) (ts : Tokens) (x : Operand × Tokens) → IsSoundBody b → AreSound ts →
    expr_at (known_of end b) outside 200 ts ≡ Ok x
    → IsOperand b.inputs b.states (length b.temps) x.0 × AreSound x.1
read_ok end b outside ts x p s e = expr_ok (known_of end b) (length b.temps) p.names outside 200 ts x s e

whole_ok : (end : ℕ) (b : Body) (ts : Tokens) (x : Operand × Tokens) → IsSoundBody b → AreSound ts → whole_at end b ts ≡ Ok x
    → IsGood b.inputs b.states (length b.temps) (tree_or x.0.tree) x.0.nodes × AreSound x.1
unfolding whole_at
whole_ok end b ts x p s e = on_ok _ _ x e (λ y ye e. on_if (is_high y.0) _ _ x e (λ on e. absurd cc) (λ off e.
    let r = read_ok end b true ts y p s ye in
    subst (λ (z : Operand × Tokens). IsGood b.inputs b.states (length b.temps) (tree_or z.0.tree) z.0.nodes ×
    AreSound z.1) (same_ok y x e)
    (good_tree _ _ _ y.0.tree y.0.height y.0.nodes r.0 off, r.1)))

back_more : (i k m : ℕ) (ts : List model.Temp) (t : model.Temp) → ReferBack i k m ts →
    RefersBelow i k (m + length ts) t.tree → ReferBack i k m (ts ++ t ∷ [])
back_more i k m [] t p q = (subst (λ n. RefersBelow i k n t.tree) (omega arith) q, tt {0})
back_more i k m (u ∷ ts) t p q =
    (p.0, back_more i k (m + 1) ts t p.1 (subst (λ n. RefersBelow i k n t.tree) (omega arith) q))

temps_more : (ts : List model.Temp) (t : model.Temp) → temp_nodes (ts ++ t ∷ []) ≡ temp_nodes ts + tree_nodes t.tree
temps_more [] t = omega arith
temps_more (u ∷ ts) t = omega (arith, temps_more ts t)

trees_more : (ts : List Tree) (t : Tree) → all_tree_nodes (ts ++ t ∷ []) ≡ all_tree_nodes ts + tree_nodes t
trees_more [] t = omega arith
trees_more (u ∷ ts) t = omega (arith, trees_more ts t)

below_more : (i k m : ℕ) (ts : List Tree) (t : Tree) → AllReferBelow i k m ts → RefersBelow i k m t →
    AllReferBelow i k m (ts ++ t ∷ [])
below_more i k m [] t p q = (q, tt {0})
below_more i k m (u ∷ ts) t p q = (p.0, below_more i k m ts t p.1 q)

typed_ok : (end : ℕ) (ts us : Tokens) → AreSound ts → typed_at end ts ≡ Ok us → AreSound us
unfolding typed_at
typed_ok end ts us s e = on_if (next_head ts ==ₕ heads.Colon) _ _ us e
    (λ on e. on_ok _ _ us e
    (λ r re e. subst AreSound (same_ok r.1 us e) (real_ok end (drop 1 ts) r (sound_drop 1 ts s) re)))
    (λ off e. subst AreSound (same_ok ts us e) s)

with_temp_ok : (b : Body) (name : Text) (x : Operand) → length b.temps + 1 ≤ 1000 → IsName name → IsSoundBody b →
    IsGood b.inputs b.states (length b.temps) (tree_or x.tree) x.nodes → IsSoundBody (with_temp b name x)
with_temp_ok b name x few n p g =
    let t : model.Temp = record { name = name; tree = tree_or x.tree } in
    record {
      names = omega (arith, length-append b.names (name ∷ []), length-append b.temps (t ∷ []), p.names);
      temps = omega (arith, length-append b.temps (t ∷ []), few);
      back =
          back_more b.inputs b.states 0 b.temps t p.back
          (subst (λ n. RefersBelow b.inputs b.states n (tree_or x.tree)) (omega arith) g.0);
      low = All-append (λ t. IsLow t.tree) b.temps (t ∷ []) p.low (only (λ (t : model.Temp). IsLow t.tree) t g.1);
      named = All-append (λ t. IsName t.name) b.temps (t ∷ []) p.named (only (λ (t : model.Temp). IsName t.name) t n);
      nodes = omega (arith, temps_more b.temps t, p.nodes, g.2);
    }

abbrev Same : Body → Body → Type 0
Same b c = (c.inputs ≡ b.inputs) × (c.states ≡ b.states)

val_ok : (end : ℕ) (b : Body) (ts : Tokens) (x : Body × Tokens) → IsSoundBody b → AreSound ts → val_at end b ts ≡ Ok x →
    (IsSoundBody x.0 × Same b x.0) × AreSound x.1
unfolding val_at
val_ok end b ts x p s e =
    on_ok _ _ x e (λ t te e. on_ok _ _ x e
    (λ u ue e. on_ok _ _ x e (λ c ce e. on_ok _ _ x e (λ q qe e. on_ok _ _ x e (λ y ye e.
    let w = want_ok end heads.Name ts t s te in
    let v = want_ok end heads.Equals c q (typed_ok end t.1 c w.2 ce) qe in
    let r = whole_ok end b q.1 y p v.2 ye in
    let few = free_ok 1000 (length b.temps) b.names t.0 u p.temps ue in
    subst (λ (z : Body × Tokens). (IsSoundBody z.0 × Same b z.0) ×
    AreSound z.1) (same_ok (with_temp b t.0.text y.0, past_semicolon y.1) x e)
    ((with_temp_ok b t.0.text y.0 few (is_name t.0 w.0 w.1) p r.0, (refl, refl)), sound_semicolon y.1 r.1))))))

pub vals_ok : (end : ℕ) (b : Body) (ts : Tokens) (x : Body × Tokens) → IsSoundBody b → AreSound ts → vals_at end b ts ≡ Ok x →
    (IsSoundBody x.0 × Same b x.0) × AreSound x.1
unfolding vals_at
vals_ok end b ts x p s e = repeat_ok (λ c. IsSoundBody c × Same b c) (stands_next heads.Val) (behind (val_at end))
    (λ c ts x p s e. let r = val_ok end c (drop 1 ts) x p.0 (sound_drop 1 ts s) e in
    ((r.0.0, (r.0.1.0 ∙ p.1.0, r.0.1.1 ∙ p.1.1)), r.1))
    (suc (length ts)) b ts x (p, (refl, refl)) s e

pub record AreResults (b : Body) (r : Results) : Type 0 where
  pub below : AllReferBelow b.inputs b.states (length b.temps) r.trees
  pub low : All IsLow r.trees
  pub nodes : r.nodes ≡ counted_nodes (temp_nodes b.temps + all_tree_nodes r.trees)

single_ok : (end word : ℕ) (b : Body) (ts : Tokens) (x : Results × Tokens) → IsSoundBody b → AreSound ts →
    single_at end word b ts ≡ Ok x → ((length x.0.trees ≡ 1) × AreResults b x.0) × AreSound x.1
unfolding single_at
single_ok end word b ts x p s e = on_ok _ _ x e (λ y ye e. on_if (is_high y.0) _ _ x e (λ on e. absurd cc) (λ off e.
    let r = read_ok end b true ts y p s ye in
    let g = good_tree _ _ _ y.0.tree y.0.height y.0.nodes r.0 off in
    subst (λ (z : Results × Tokens). ((length z.0.trees ≡ 1) × AreResults b z.0) × AreSound z.1)
    (same_ok (_, y.1) x e) (
      (
        refl,
        record {
          below = (g.0, tt {0});
          low = only IsLow (tree_or y.0.tree) g.1;
          nodes = omega (arith, p.nodes, g.2);
        },
      ),
      r.1,
    )))

element_ok : (end first reals : ℕ) (b : Body) (r : Results) (ts : Tokens) (x : Results × Tokens) → IsSoundBody b →
    AreResults b r → AreSound ts → element_at end first reals b r ts ≡ Ok x → AreResults b x.0 × AreSound x.1
unfolding element_at
element_ok end first reals b r ts x p q s e =
    on_ok _ _ x e (λ y ye e. on_if (is_high y.0) _ _ x e (λ on e. absurd cc) (λ off e.
    let o = read_ok end b false ts y p s ye in
    let g = good_tree _ _ _ y.0.tree y.0.height y.0.nodes o.0 off in
    subst (λ (z : Results × Tokens). AreResults b z.0 × AreSound z.1) (same_ok (_, y.1) x e) (
      record {
        below = below_more _ _ _ r.trees (tree_or y.0.tree) q.below g.0;
        low = All-append IsLow r.trees (tree_or y.0.tree ∷ []) q.low (only IsLow (tree_or y.0.tree) g.1);
        nodes = omega (arith, trees_more r.trees (tree_or y.0.tree), q.nodes, g.2);
      },
      o.1,
    )))

tuple_ok : (end reals : ℕ) (b : Body) (ts : Tokens) (x : Results × Tokens) → IsSoundBody b → AreSound ts →
    tuple_at end reals b ts ≡ Ok x → ((length x.0.trees ≡ reals) × AreResults b x.0) × AreSound x.1
unfolding tuple_at
tuple_ok end reals b ts x p s e =
    on_ok _ _ x e (λ o oe e. on_ok _ _ x e (λ y ye e. on_if (eqb (length y.0.trees) reals) _ _ x e (λ on e.
    let w = want_ok end heads.Open ts o s oe in
    let none : AreResults b (record { trees = []; nodes = b.nodes }) =
    record { below = tt {0}; low = All-nil IsLow; nodes = omega (arith, p.nodes) } in
    let r = listed_ok (AreResults b) (AreResults b) (element_at end o.0.at reals b) end
    (λ r ts x q s e. element_ok end o.0.at reals b r ts x p q s e)
    (λ r ts x q s e. element_ok end o.0.at reals b r ts x p q s e) _ o.1 y none w.2 ye in
    let n : length y.0.trees ≡ reals = search (rules, tests) in
    subst (λ (z : Results × Tokens). ((length z.0.trees ≡ reals) × AreResults b z.0) ×
    AreSound z.1) (same_ok y x e) ((n, r.0), r.1))
    (λ off e. absurd cc)))

pub result_ok : (end word reals : ℕ) (b : Body) (ts : Tokens) (x : Results × Tokens) → 1 ≤ reals → IsSoundBody b → AreSound ts →
    result_at end word reals b ts ≡ Ok x → ((length x.0.trees ≡ reals) × AreResults b x.0) × AreSound x.1
unfolding result_at
result_ok end word reals b ts x some p s e = on_if (nat_lt reals 2) _ _ x e
    (λ on e. let lt : reals < 2 = search (rules, tests) in let r = single_ok end word b ts x p s e in
    ((omega (arith, lt, some, r.0.0), r.0.1), r.1))
    (λ off e. tuple_ok end reals b ts x p s e)
