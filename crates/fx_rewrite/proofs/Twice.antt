-- A tree that is exchanged twice, and what stands there then.
use Rattle.std.proofs.Common.{◌≡◌, ℕ, zero, suc, List, [], ◌∷◌, Some, refl, ap, ◌∙◌}
use Rattle.std.specs.Option.{option_and_then}
use Rattle.fx_model.specs.Tree.{Tree, Negation, Sum, Difference, Product, Quotient}
use Rattle.fx_model.specs.Function as function
use Rattle.fx_model.specs.Function.{Function}
use Rattle.fx_model.specs.Paths.{child, subtree, child_changed, put, tree_at, found, temps_changed, results_changed, results_after, changed, with_tree}
use Rattle.fx_model.proofs.Options.{some_then}
use Rattle.fx_rewrite.proofs.There.{tree_there}

child_twice : (d : ℕ) (f g h : Tree → Tree) (e : Tree) → ((t : Tree) → f (g t) ≡ h t) →
    child_changed d f (child_changed d g e) ≡ child_changed d h e
child_twice zero f g h (Negation a) p = ap Negation (p a)
child_twice zero f g h (Sum a b) p = ap (λ t. Sum t b) (p a)
child_twice zero f g h (Difference a b) p = ap (λ t. Difference t b) (p a)
child_twice zero f g h (Product a b) p = ap (λ t. Product t b) (p a)
child_twice zero f g h (Quotient a b) p = ap (λ t. Quotient t b) (p a)
child_twice (suc zero) f g h (Sum a b) p = ap (λ t. Sum a t) (p b)
child_twice (suc zero) f g h (Difference a b) p = ap (λ t. Difference a t) (p b)
child_twice (suc zero) f g h (Product a b) p = ap (λ t. Product a t) (p b)
child_twice (suc zero) f g h (Quotient a b) p = ap (λ t. Quotient a t) (p b)
child_twice _ f g h e p = refl

put_twice : (path : List ℕ) (mid new e : Tree) → put path new (put path mid e) ≡ put path new e
put_twice [] mid new e = refl
put_twice (d ∷ ds) mid new e = child_twice d (put ds new) (put ds mid) (put ds new) e (λ t. put_twice ds mid new t)

temps_twice : (ts : List function.Temp) (k : ℕ) (f g h : Tree → Tree) → ((t : Tree) → f (g t) ≡ h t) →
    temps_changed (temps_changed ts k g) k f ≡ temps_changed ts k h
temps_twice [] k f g h p = refl
temps_twice (t ∷ ts) zero f g h p = λ i. record { name = t.name; tree = p t.tree i } ∷ ts
temps_twice (t ∷ ts) (suc k) f g h p = ap (λ (us : List function.Temp). t ∷ us) (temps_twice ts k f g h p)

results_twice : (es : List Tree) (k : ℕ) (f g h : Tree → Tree) → ((t : Tree) → f (g t) ≡ h t) →
    results_changed (results_changed es k g) k f ≡ results_changed es k h
results_twice [] k f g h p = refl
results_twice (e ∷ es) zero f g h p = ap (λ (t : Tree). t ∷ es) (p e)
results_twice (e ∷ es) (suc k) f g h p = ap (λ (us : List Tree). e ∷ us) (results_twice es k f g h p)

after_twice : (ts : List function.Temp) (es : List Tree) (k : ℕ) (f g h : Tree → Tree) → ((t : Tree) → f (g t) ≡ h t) →
    results_after (temps_changed ts k g) (results_after ts es k g) k f ≡ results_after ts es k h
after_twice [] es k f g h p = results_twice es k f g h p
after_twice (t ∷ ts) es zero f g h p = refl
after_twice (t ∷ ts) es (suc k) f g h p = after_twice ts es k f g h p

-- the last one stays
pub with_twice : (f : Function) (k : ℕ) (path : List ℕ) (mid new : Tree) →
    with_tree (with_tree f k path mid) k path new ≡ with_tree f k path new
with_twice f k path mid new = λ i. record (with_tree f k path new) {
  temps = temps_twice f.temps k (put path new) (put path mid) (put path new) (λ t. put_twice path mid new t) i;
  results =
      after_twice f.temps f.results k (put path new) (put path mid) (put path new) (λ t. put_twice path mid new t) i;
}

child_there : (d : ℕ) (e a : Tree) (f : Tree → Tree) → child d e ≡ Some a → child d (child_changed d f e) ≡ Some (f a)
child_there zero (Negation c) a f i = let e : c ≡ a = cc in ap (λ t. Some (f t)) e
child_there zero (Sum c b) a f i = let e : c ≡ a = cc in ap (λ t. Some (f t)) e
child_there zero (Difference c b) a f i = let e : c ≡ a = cc in ap (λ t. Some (f t)) e
child_there zero (Product c b) a f i = let e : c ≡ a = cc in ap (λ t. Some (f t)) e
child_there zero (Quotient c b) a f i = let e : c ≡ a = cc in ap (λ t. Some (f t)) e
child_there (suc zero) (Sum b c) a f i = let e : c ≡ a = cc in ap (λ t. Some (f t)) e
child_there (suc zero) (Difference b c) a f i = let e : c ≡ a = cc in ap (λ t. Some (f t)) e
child_there (suc zero) (Product b c) a f i = let e : c ≡ a = cc in ap (λ t. Some (f t)) e
child_there (suc zero) (Quotient b c) a f i = let e : c ≡ a = cc in ap (λ t. Some (f t)) e
child_there _ e a f i = absurd cc

put_there : (path : List ℕ) (e old new : Tree) → subtree path e ≡ Some old → subtree path (put path new e) ≡ Some new
put_there [] e old new i = refl
put_there (d ∷ ds) e old new i =
    let s = some_then (subtree ds) (child d e) old i in
    ap (option_and_then (subtree ds)) (child_there d e s.0 (put ds new) s.1) ∙ put_there ds s.0 old new s.2

-- what was put there is found there
pub with_there : (f : Function) (k : ℕ) (path : List ℕ) (old new : Tree) → found f k path ≡ Some old →
    found (with_tree f k path new) k path ≡ Some new
with_there f k path old new there =
    let s = some_then (subtree path) (tree_at f k) old there in
    ap (option_and_then (subtree path)) (tree_there f k s.0 (put path new) s.1) ∙ put_there path s.0 old new s.2
