-- Under a path in a tree, and in a whole function.
use Rattle.std.proofs.Common.{◌≡◌, ℕ, zero, suc, List, [], ◌∷◌, ◌++◌, Option, Some, None, refl, take, drop}
use Rattle.std.specs.Prelude.{pos, slice_get}
use Rattle.std.specs.Option.{option_map, option_and_then}
use Rattle.fx_rational.specs.Rational.{Rational, whole, plus, minus, negative, times, quotient, Equal}
use Rattle.fx_model.specs.Tree.{Tree, Literal, Input, State, Temp, Negation, Sum, Difference, Product, Quotient, at, on_one, on_two, always, value_of}
use Rattle.fx_model.specs.Function as function
use Rattle.fx_model.specs.Function.{Function, temp_values, values_of, exact, step_of, outputs}
use Rattle.fx_rational.proofs.Laws.{equal_refl, plus_same, minus_same, times_same, negative_same}
use Rattle.fx_rational.specs.Laws.{SameOption}
use Rattle.fx_rational.proofs.Quotient.{quotient_same}
use Rattle.fx_model.specs.Sameness.{SameNumbers, SameStep, HasMeaningOf}
use Rattle.fx_model.specs.Paths.{child, subtree, child_changed, put, tree_in, tree_at, temps_changed, results_changed, results_after, changed}
use Rattle.fx_model.proofs.Options.{some_then}
use Rattle.fx_rules.proofs.EachRule.{same_refl, same_trans}
use Rattle.fx_rules.proofs.Rows.{SameTrees}

on_two_same : (op : Rational → Rational → Option Rational) →
    ((x y u v : Rational) → Equal x y → Equal u v → SameOption (op x u) (op y v)) →
    (a b c d : Option Rational) → SameOption a c → SameOption b d → SameOption (on_two op a b) (on_two op c d)
on_two_same op keeps None None None None h k = tt {0}
on_two_same op keeps None None None (Some v) h k = absurd k
on_two_same op keeps None (Some u) None None h k = absurd k
on_two_same op keeps None (Some u) None (Some v) h k = tt {0}
on_two_same op keeps None b (Some y) d h k = absurd h
on_two_same op keeps (Some x) b None d h k = absurd h
on_two_same op keeps (Some x) None (Some y) None h k = tt {0}
on_two_same op keeps (Some x) None (Some y) (Some v) h k = absurd k
on_two_same op keeps (Some x) (Some u) (Some y) None h k = absurd k
on_two_same op keeps (Some x) (Some u) (Some y) (Some v) h k = keeps x y u v h k

neg_same : (a b : Option Rational) → SameOption a b → SameOption (on_one negative a) (on_one negative b)
neg_same None None h = tt {0}
neg_same None (Some y) h = absurd h
neg_same (Some x) None h = absurd h
neg_same (Some x) (Some y) h = negative_same h

add_same : (a b c d : Option Rational) → SameOption a c → SameOption b d →
    SameOption (on_two (always plus) a b) (on_two (always plus) c d)
add_same = on_two_same (always plus) (λ x y u v h k. plus_same h k)

sub_same : (a b c d : Option Rational) → SameOption a c → SameOption b d →
    SameOption (on_two (always minus) a b) (on_two (always minus) c d)
sub_same = on_two_same (always minus) (λ x y u v h k. minus_same h k)

mul_same : (a b c d : Option Rational) → SameOption a c → SameOption b d →
    SameOption (on_two (always times) a b) (on_two (always times) c d)
mul_same = on_two_same (always times) (λ x y u v h k. times_same h k)

div_same : (a b c d : Option Rational) → SameOption a c → SameOption b d →
    SameOption (on_two quotient a b) (on_two quotient c d)
div_same = on_two_same quotient quotient_same

-- ---- under a path
child_same : (d : ℕ) (e a : Tree) (f : Tree → Tree) → child d e ≡ Some a → SameTrees a (f a) →
    SameTrees e (child_changed d f e)
child_same zero (Negation c) a f i h t x y =
    let e : c ≡ a = cc in neg_same (value_of c t x y) (value_of (f c) t x y) (rw e (h t x y))
child_same zero (Sum c b) a f i h t x y =
    let e : c ≡ a = cc in
    add_same (value_of c t x y) (value_of b t x y) (value_of (f c) t x y) (value_of b t x y) (rw e (h t x y))
    (same_refl (value_of b t x y))
child_same zero (Difference c b) a f i h t x y =
    let e : c ≡ a = cc in
    sub_same (value_of c t x y) (value_of b t x y) (value_of (f c) t x y) (value_of b t x y) (rw e (h t x y))
    (same_refl (value_of b t x y))
child_same zero (Product c b) a f i h t x y =
    let e : c ≡ a = cc in
    mul_same (value_of c t x y) (value_of b t x y) (value_of (f c) t x y) (value_of b t x y) (rw e (h t x y))
    (same_refl (value_of b t x y))
child_same zero (Quotient c b) a f i h t x y =
    let e : c ≡ a = cc in
    div_same (value_of c t x y) (value_of b t x y) (value_of (f c) t x y) (value_of b t x y) (rw e (h t x y))
    (same_refl (value_of b t x y))
child_same (suc zero) (Sum b c) a f i h t x y =
    let e : c ≡ a = cc in
    add_same (value_of b t x y) (value_of c t x y) (value_of b t x y) (value_of (f c) t x y)
    (same_refl (value_of b t x y)) (rw e (h t x y))
child_same (suc zero) (Difference b c) a f i h t x y =
    let e : c ≡ a = cc in
    sub_same (value_of b t x y) (value_of c t x y) (value_of b t x y) (value_of (f c) t x y)
    (same_refl (value_of b t x y)) (rw e (h t x y))
child_same (suc zero) (Product b c) a f i h t x y =
    let e : c ≡ a = cc in
    mul_same (value_of b t x y) (value_of c t x y) (value_of b t x y) (value_of (f c) t x y)
    (same_refl (value_of b t x y)) (rw e (h t x y))
child_same (suc zero) (Quotient b c) a f i h t x y =
    let e : c ≡ a = cc in
    div_same (value_of b t x y) (value_of c t x y) (value_of b t x y) (value_of (f c) t x y)
    (same_refl (value_of b t x y)) (rw e (h t x y))
child_same _ e a f i h t x y = absurd cc

pub put_same : (path : List ℕ) (e old new : Tree) → subtree path e ≡ Some old → SameTrees old new →
    SameTrees e (put path new e)
put_same [] e old new i h = let same : e ≡ old = cc in rw same h
put_same (d ∷ ds) e old new i h =
    let s = some_then (subtree ds) (child d e) old i in
    child_same d e s.0 (put ds new) s.1 (put_same ds s.0 old new s.2 h)

-- ---- equal temps give equal values_of
same_at : (xs ys : List Rational) (j : ℕ) → SameNumbers xs ys →
    Equal (at (whole (pos 0)) xs j) (at (whole (pos 0)) ys j)
same_at [] [] j h = equal_refl (whole (pos 0))
same_at [] (y ∷ ys) j h = absurd h
same_at (x ∷ xs) [] j h = absurd h
same_at (x ∷ xs) (y ∷ ys) zero h = h.0
same_at (x ∷ xs) (y ∷ ys) (suc j) h = same_at xs ys j h.1

pub value_same : (e : Tree) (t x y z : List Rational) → SameNumbers y z →
    SameOption (value_of e t x y) (value_of e t x z)
value_same (Literal c) t x y z h = equal_refl c
value_same (Input k) t x y z h = equal_refl _
value_same (State k) t x y z h = equal_refl _
value_same (Temp k) t x y z h = same_at y z k h
value_same (Negation a) t x y z h = neg_same (value_of a t x y) (value_of a t x z) (value_same a t x y z h)
value_same (Sum a b) t x y z h =
    add_same (value_of a t x y) (value_of b t x y) (value_of a t x z) (value_of b t x z) (value_same a t x y z h)
    (value_same b t x y z h)
value_same (Difference a b) t x y z h =
    sub_same (value_of a t x y) (value_of b t x y) (value_of a t x z) (value_of b t x z) (value_same a t x y z h)
    (value_same b t x y z h)
value_same (Product a b) t x y z h =
    mul_same (value_of a t x y) (value_of b t x y) (value_of a t x z) (value_of b t x z) (value_same a t x y z h)
    (value_same b t x y z h)
value_same (Quotient a b) t x y z h =
    div_same (value_of a t x y) (value_of b t x y) (value_of a t x z) (value_of b t x z) (value_same a t x y z h)
    (value_same b t x y z h)

-- a tree and another with the same value_of
pub tree_same : (e r : Tree) → SameTrees e r → (t x y z : List Rational) → SameNumbers y z →
    SameOption (value_of e t x y) (value_of r t x z)
tree_same e r same t x y z h =
    same_trans (value_of e t x y) (value_of r t x y) (value_of r t x z) (same t x y) (value_same r t x y z h)

-- ---- lists of values_of
abbrev pub SameValues : Option (List Rational) → Option (List Rational) → Type 0
SameValues None None = Unit {0}
SameValues (Some xs) (Some ys) = SameNumbers xs ys
SameValues _ _ = ⊥

joined_same : (xs ys : List Rational) (v w : Rational) → SameNumbers xs ys → Equal v w →
    SameNumbers (xs ++ v ∷ []) (ys ++ w ∷ [])
joined_same [] [] v w h k = (k, tt {0})
joined_same [] (y ∷ ys) v w h k = absurd h
joined_same (x ∷ xs) [] v w h k = absurd h
joined_same (x ∷ xs) (y ∷ ys) v w h k = (h.0, joined_same xs ys v w h.1 k)

-- one value_of and then the rest
then_same : (p q : Option Rational) (f g : Rational → Option (List Rational)) → SameOption p q →
    ((v w : Rational) → Equal v w → SameValues (f v) (g w)) → SameValues (option_and_then f p) (option_and_then g q)
then_same None None f g h k = tt {0}
then_same None (Some w) f g h k = absurd h
then_same (Some v) None f g h k = absurd h
then_same (Some v) (Some w) f g h k = k v w h

cons_same : (p q : Option (List Rational)) (v w : Rational) → Equal v w → SameValues p q →
    SameValues (option_map (λ vs. v ∷ vs) p) (option_map (λ vs. w ∷ vs) q)
cons_same None None v w h k = tt {0}
cons_same None (Some b) v w h k = absurd k
cons_same (Some a) None v w h k = absurd k
cons_same (Some a) (Some b) v w h k = (h, k)

temps_kept : (ts : List function.Temp) (t x y z : List Rational) → SameNumbers y z →
    SameValues (temp_values ts t x y) (temp_values ts t x z)
temps_kept [] t x y z h = h
temps_kept (a ∷ ts) t x y z h =
    then_same (value_of a.tree t x y) (value_of a.tree t x z) (λ v. temp_values ts t x (y ++ v ∷ []))
    (λ v. temp_values ts t x (z ++ v ∷ []))
    (value_same a.tree t x y z h) (λ v w k. temps_kept ts t x (y ++ v ∷ []) (z ++ w ∷ []) (joined_same y z v w h k))

temps_same : (ts : List function.Temp) (es : List Tree) (k : ℕ) (e : Tree) (g : Tree → Tree) →
    tree_in ts es k ≡ Some e → SameTrees e (g e) → (t x y z : List Rational) → SameNumbers y z →
    SameValues (temp_values ts t x y) (temp_values (temps_changed ts k g) t x z)
temps_same [] es k e g i same t x y z h = h
temps_same (a ∷ ts) es zero e g i same t x y z h =
    let is : a.tree ≡ e = cc in
    then_same (value_of a.tree t x y) (value_of (g a.tree) t x z) (λ v. temp_values ts t x (y ++ v ∷ []))
    (λ v. temp_values ts t x (z ++ v ∷ []))
    (rw is (tree_same e (g e) same t x y z h))
    (λ v w m. temps_kept ts t x (y ++ v ∷ []) (z ++ w ∷ []) (joined_same y z v w h m))
temps_same (a ∷ ts) es (suc k) e g i same t x y z h =
    then_same (value_of a.tree t x y) (value_of a.tree t x z) (λ v. temp_values ts t x (y ++ v ∷ []))
    (λ v. temp_values (temps_changed ts k g) t x (z ++ v ∷ []))
    (value_same a.tree t x y z h)
    (λ v w m. temps_same ts es k e g i same t x (y ++ v ∷ []) (z ++ w ∷ []) (joined_same y z v w h m))

values_kept : (es : List Tree) (t x y z : List Rational) → SameNumbers y z →
    SameValues (values_of es t x y) (values_of es t x z)
values_kept [] t x y z h = tt {0}
values_kept (e ∷ es) t x y z h =
    then_same (value_of e t x y) (value_of e t x z) (λ v. option_map (λ vs. v ∷ vs) (values_of es t x y))
    (λ v. option_map (λ vs. v ∷ vs) (values_of es t x z))
    (value_same e t x y z h)
    (λ v w k. cons_same (values_of es t x y) (values_of es t x z) v w k (values_kept es t x y z h))

results_same : (es : List Tree) (k : ℕ) (e : Tree) (g : Tree → Tree) → slice_get es k ≡ Some e → SameTrees e (g e) →
    (t x y z : List Rational) → SameNumbers y z →
    SameValues (values_of es t x y) (values_of (results_changed es k g) t x z)
results_same [] k e g i same t x y z h = tt {0}
results_same (a ∷ es) zero e g i same t x y z h =
    let is : a ≡ e = cc in
    then_same (value_of a t x y) (value_of (g a) t x z) (λ v. option_map (λ vs. v ∷ vs) (values_of es t x y))
    (λ v. option_map (λ vs. v ∷ vs) (values_of es t x z))
    (rw is (tree_same e (g e) same t x y z h))
    (λ v w m. cons_same (values_of es t x y) (values_of es t x z) v w m (values_kept es t x y z h))
results_same (a ∷ es) (suc k) e g i same t x y z h =
    then_same (value_of a t x y) (value_of a t x z) (λ v. option_map (λ vs. v ∷ vs) (values_of es t x y))
    (λ v. option_map (λ vs. v ∷ vs) (values_of (results_changed es k g) t x z))
    (value_same a t x y z h)
    (λ v w m. cons_same (values_of es t x y) (values_of (results_changed es k g) t x z) v w m
    (results_same es k e g i same t x y z h))

after_same : (ts : List function.Temp) (es : List Tree) (k : ℕ) (e : Tree) (g : Tree → Tree) →
    tree_in ts es k ≡ Some e → SameTrees e (g e) → (t x y z : List Rational) → SameNumbers y z →
    SameValues (values_of es t x y) (values_of (results_after ts es k g) t x z)
after_same [] es k e g i same t x y z h = results_same es k e g i same t x y z h
after_same (a ∷ ts) es zero e g i same t x y z h = values_kept es t x y z h
after_same (a ∷ ts) es (suc k) e g i same t x y z h = after_same ts es k e g i same t x y z h

-- ---- the function
take_same : (n : ℕ) (xs ys : List Rational) → SameNumbers xs ys → SameNumbers (take n xs) (take n ys)
take_same zero xs ys h = tt {0}
take_same (suc n) [] [] h = tt {0}
take_same (suc n) [] (y ∷ ys) h = absurd h
take_same (suc n) (x ∷ xs) [] h = absurd h
take_same (suc n) (x ∷ xs) (y ∷ ys) h = (h.0, take_same n xs ys h.1)

drop_same : (n : ℕ) (xs ys : List Rational) → SameNumbers xs ys → SameNumbers (drop n xs) (drop n ys)
drop_same zero xs ys h = h
drop_same (suc n) [] [] h = tt {0}
drop_same (suc n) [] (y ∷ ys) h = absurd h
drop_same (suc n) (x ∷ xs) [] h = absurd h
drop_same (suc n) (x ∷ xs) (y ∷ ys) h = drop_same n xs ys h.1

step_same : (m : ℕ) (p q : Option (List Rational)) → SameValues p q →
    SameStep (option_map (step_of m) p) (option_map (step_of m) q)
step_same m None None h = tt {0}
step_same m None (Some b) h = absurd h
step_same m (Some a) None h = absurd h
step_same m (Some a) (Some b) h = (take_same m a b h, drop_same m a b h)

steps_same : (m : ℕ) (p q : Option (List Rational)) (f g : List Rational → Option (List Rational)) → SameValues p q →
    ((y z : List Rational) → SameNumbers y z → SameValues (f y) (g z)) →
    SameStep (option_and_then (λ y. option_map (step_of m) (f y)) p)
    (option_and_then (λ y. option_map (step_of m) (g y)) q)
steps_same m None None f g h k = tt {0}
steps_same m None (Some b) f g h k = absurd h
steps_same m (Some a) None f g h k = absurd h
steps_same m (Some a) (Some b) f g h k = step_same m (f a) (g b) (k a b h)

pub changed_same : (f : Function) (k : ℕ) (e : Tree) (g : Tree → Tree) → tree_at f k ≡ Some e → SameTrees e (g e) →
    HasMeaningOf f (changed f k g)
changed_same f k e g i same = record {
  name = refl;
  inputs = refl;
  states = refl;
  demands = refl;
  exact = λ t x. steps_same (outputs f) (temp_values f.temps t x []) (temp_values (temps_changed f.temps k g) t x [])
      (λ y. values_of f.results t x y) (λ y. values_of (results_after f.temps f.results k g) t x y)
      (temps_same f.temps f.results k e g i same t x [] [] (tt {0}))
      (λ y z h. after_same f.temps f.results k e g i same t x y z h);
}
