-- All codes of the calm program are at one point, and its state codes have the words of the starts.
use Rattle.std.proofs.Common.{◌≡◌, ℕ, zero, suc, ◌+◌, ◌<◌, List, [], ◌∷◌, ◌++◌, length, map, ◌⊎◌, ⊎_elim, ℤ, pos, ◌+ℤ◌, ◌-ℤ◌, refl, sym, ap, subst, ◌∙◌, arith, length-append, append_assoc}
use Rattle.std.specs.Prelude.{All}
use Rattle.std.proofs.lemmas.Int.{ints}
use Rattle.std.proofs.lemmas.List.{get_or_append_left, map-append}
use Rattle.std.proofs.lemmas.List.Elements.{All-head, All-tail}
use Rattle.std.proofs.Math.Seq.{get_or-append_seam}
use Rattle.fx_rational.specs.Rational.{scaled, floor}
use Rattle.fx_model.specs.Tree.{at}
use Rattle.fx_model.specs.Function.{Function}
use Rattle.fx_model.specs.Machine.{Round, Code, starts_of, point_of, points_after, points_of, start_words}
use Rattle.fx_model.specs.Nodes.{Node, Input, State, Const, Neg, Add, Sub, Mul, Div, Copy, inputs_from, states_from}
use Rattle.fx_inequalities.specs.Accepted.{start_of}
use Rattle.fx_flat.specs.InPlace.{IsInPlace, AreInPlace}
use Rattle.fx_plan_laws.specs.CalmPlan.{calm_code}
use Rattle.fx_plan_laws.proofs.NodeFaults.{IsUndivided}

-- ---- points
-- each is f
abbrev pub ArePointed : ℕ → List ℤ → Type 0
ArePointed f ps = (a : ℕ) → a < length ps → at (pos 0) ps a ≡ pos f

pub record IsPointed (f k : ℕ) (ps : List ℤ) : Type 0 where
  pub points : ArePointed f ps
  pub long : length ps ≡ k

sum_point : (f : ℕ) → (pos f -ℤ pos 0) ≡ pos f
sum_point f = omega (arith, ints)

product_point : (f : ℕ) → ((pos f +ℤ pos f) -ℤ pos f) ≡ pos f
product_point f = omega (arith, ints)

code_point : (r : Round) (fn : Function) (i s f : ℕ) (ps : List ℤ) (node : Node) → IsInPlace i s (length ps) node →
    IsUndivided node → ArePointed f ps → point_of (calm_code r fn f node) ps ≡ pos f
code_point r fn i s f ps (Input j) o w h = refl
code_point r fn i s f ps (State j) o w h = refl
code_point r fn i s f ps (Const x) o w h = refl
code_point r fn i s f ps (Neg a) o w h = h a o.1
code_point r fn i s f ps (Add a b) o w h = ap (λ (p : ℤ). p -ℤ pos 0) (h a o.1) ∙ sum_point f
code_point r fn i s f ps (Sub a b) o w h = ap (λ (p : ℤ). p -ℤ pos 0) (h a o.1) ∙ sum_point f
code_point r fn i s f ps (Mul a b) o w h = (λ j. (h a o.1 j +ℤ h b o.2 j) -ℤ pos f) ∙ product_point f
code_point r fn i s f ps (Div a b) o w h = absurd w
code_point r fn i s f ps (Copy a) o w h = ap (λ (p : ℤ). p -ℤ pos 0) (h a o.1) ∙ sum_point f

before_or_last : (a n : ℕ) → a < n + 1 → (a < n) ⊎ (a ≡ n)
before_or_last a n l = grind (arith, l)

one_more : (f : ℕ) (ps : List ℤ) (p : ℤ) → p ≡ pos f → ArePointed f ps → ArePointed f (ps ++ p ∷ [])
one_more f ps p e h a lt =
    let l = length-append ps (p ∷ []) in
    ⊎_elim (λ (less : a < length ps). get_or_append_left ps (p ∷ []) (pos 0) a less ∙ h a less)
    (λ (same : a ≡ length ps). ap (λ (k : ℕ). at (pos 0) (ps ++ p ∷ []) k) same ∙ get_or-append_seam ps p [] (pos 0)
    ∙ e) (before_or_last a (length ps) (omega (arith, lt, l)))

after_points : (r : Round) (fn : Function) (i s f : ℕ) (nodes : List Node) (ps : List ℤ) →
    AreInPlace i s (length ps) nodes → All IsUndivided nodes → ArePointed f ps →
    IsPointed f (length ps + length nodes) (points_after (map (calm_code r fn f) nodes) ps)
after_points r fn i s f [] ps o w h = record { points = h; long = omega arith }
after_points r fn i s f (node ∷ nodes) ps o w h =
    let p = point_of (calm_code r fn f node) ps in
    let e = code_point r fn i s f ps node o.0 (All-head IsUndivided node nodes w) h in
    let l = length-append ps (p ∷ []) in
    let more =
    after_points r fn i s f nodes (ps ++ p ∷ []) (subst (λ (k : ℕ). AreInPlace i s k nodes) (sym l) o.1)
    (All-tail IsUndivided node nodes w) (one_more f ps p e h) in
    record { points = more.points; long = let m = more.long in omega (arith, m, l) }

pub all_points : (r : Round) (fn : Function) (i s f : ℕ) (nodes : List Node) → AreInPlace i s 0 nodes →
    All IsUndivided nodes → IsPointed f (length nodes) (points_of (map (calm_code r fn f) nodes))
all_points r fn i s f nodes o w =
    let h = after_points r fn i s f nodes [] o w (λ a lt. absurd (omega (arith, lt))) in
    record { points = h.points; long = let l = h.long in omega (arith, l) }

-- ---- start words
words_append : (xs ys : List Code) → start_words (xs ++ ys) ≡ start_words xs ++ start_words ys
words_append [] ys = refl
words_append (c ∷ xs) ys = ap (λ (zs : List ℤ). starts_of c ++ zs) (words_append xs ys)
    ∙ sym (append_assoc (starts_of c) (start_words xs) (start_words ys))

inputs_no_words : (r : Round) (fn : Function) (f k m : ℕ) → start_words (map (calm_code r fn f) (inputs_from k m)) ≡ []
inputs_no_words r fn f k zero = refl
inputs_no_words r fn f k (suc m) = inputs_no_words r fn f (k + 1) m

abbrev pub start_word : Function → ℕ → ℕ → ℤ
start_word fn f k = floor (scaled (start_of fn k) (pos f))

states_words : (r : Round) (fn : Function) (f k m j : ℕ) (ws : List ℤ) → j < m →
    at (pos 0) (start_words (map (calm_code r fn f) (states_from k m)) ++ ws) j ≡ start_word fn f (k + j)
states_words r fn f k zero j ws lt = absurd (omega (arith, lt))
states_words r fn f k (suc m) zero ws lt = ap (start_word fn f) (omega arith)
states_words r fn f k (suc m) (suc j) ws lt =
    states_words r fn f (k + 1) m j ws (omega (arith, lt)) ∙ ap (start_word fn f) (omega arith)

-- state k's, where the inputs and states stand in front
pub start_word_at : (r : Round) (fn : Function) (f i m k : ℕ) (nodes more : List Node) →
    nodes ≡ (inputs_from 0 i ++ states_from 0 m) ++ more → k < m →
    at (pos 0) (start_words (map (calm_code r fn f) nodes)) k ≡ start_word fn f k
start_word_at r fn f i m k nodes more e lt =
    let code = calm_code r fn f in
    ap (λ (ns : List Node). at (pos 0) (start_words (map code ns)) k) e
    ∙ ap (λ (cs : List Code). at (pos 0) (start_words cs) k) (map-append code (inputs_from 0 i ++ states_from 0 m) more)
    ∙ ap (λ (ws : List ℤ). at (pos 0) ws k)
    (words_append (map code (inputs_from 0 i ++ states_from 0 m)) (map code more))
    ∙ ap (λ (ws : List ℤ). at (pos 0) (ws ++ start_words (map code more)) k)
    (ap start_words (map-append code (inputs_from 0 i) (states_from 0 m))
    ∙ words_append (map code (inputs_from 0 i)) (map code (states_from 0 m))
    ∙ ap (λ (ws : List ℤ). ws ++ start_words (map code (states_from 0 m))) (inputs_no_words r fn f 0 i))
    ∙ states_words r fn f 0 m k (start_words (map code more)) lt
    ∙ ap (start_word fn f) (omega arith)
