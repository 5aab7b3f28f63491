-- A tree that is put in place of another keeps a function valid.
use Rattle.std.proofs.Common.{◌≡◌, ℕ, zero, suc, ◌+◌, List, [], ◌∷◌, Some, refl, length, ◌∙◌, ap}
use Rattle.std.specs.Prelude.{slice_get}
use Rattle.fx_model.specs.Tree.{Tree, Negation, Sum, Difference, Product, Quotient}
use Rattle.fx_model.specs.Function as function
use Rattle.fx_model.specs.Function.{Function}
use Rattle.fx_model.specs.Valid.{RefersBelow, AllReferBelow, ReferBack, IsValid}
use Rattle.fx_model.specs.Paths.{child, subtree, child_changed, put, tree_in, tree_at, temps_changed, results_changed, results_after, changed}
use Rattle.fx_model.proofs.Options.{some_then}

-- below so many inputs, new refers to no more than old
abbrev pub KeepsBelow : ℕ → Tree → Tree → Type 0
KeepsBelow i old new = (k m : ℕ) → RefersBelow i k m old → RefersBelow i k m new

child_refers : (i d : ℕ) (e a : Tree) (f : Tree → Tree) → child d e ≡ Some a → KeepsBelow i a (f a) →
    KeepsBelow i e (child_changed d f e)
child_refers i zero (Negation c) a f p q k m h = let e : c ≡ a = cc in rw e (q k m (rw e at h))
child_refers i zero (Sum c b) a f p q k m h = let e : c ≡ a = cc in (rw e (q k m (rw e at h.0)), h.1)
child_refers i zero (Difference c b) a f p q k m h = let e : c ≡ a = cc in (rw e (q k m (rw e at h.0)), h.1)
child_refers i zero (Product c b) a f p q k m h = let e : c ≡ a = cc in (rw e (q k m (rw e at h.0)), h.1)
child_refers i zero (Quotient c b) a f p q k m h = let e : c ≡ a = cc in (rw e (q k m (rw e at h.0)), h.1)
child_refers i (suc zero) (Sum b c) a f p q k m h = let e : c ≡ a = cc in (h.0, rw e (q k m (rw e at h.1)))
child_refers i (suc zero) (Difference b c) a f p q k m h = let e : c ≡ a = cc in (h.0, rw e (q k m (rw e at h.1)))
child_refers i (suc zero) (Product b c) a f p q k m h = let e : c ≡ a = cc in (h.0, rw e (q k m (rw e at h.1)))
child_refers i (suc zero) (Quotient b c) a f p q k m h = let e : c ≡ a = cc in (h.0, rw e (q k m (rw e at h.1)))
child_refers i _ e a f p q k m h = absurd cc

pub put_refers : (i : ℕ) (path : List ℕ) (e old new : Tree) → subtree path e ≡ Some old → KeepsBelow i old new →
    KeepsBelow i e (put path new e)
put_refers i [] e old new p q = let same : e ≡ old = cc in rw same q
put_refers i (d ∷ ds) e old new p q =
    let s = some_then (subtree ds) (child d e) old p in
    child_refers i d e s.0 (put ds new) s.1 (put_refers i ds s.0 old new s.2 q)

temps_refer : (i k m : ℕ) (ts : List function.Temp) (es : List Tree) (n : ℕ) (e : Tree) (g : Tree → Tree) →
    tree_in ts es n ≡ Some e → KeepsBelow i e (g e) → ReferBack i k m ts → ReferBack i k m (temps_changed ts n g)
temps_refer i k m [] es n e g p q h = tt {0}
temps_refer i k m (t ∷ ts) es zero e g p q h = let same : t.tree ≡ e = cc in (rw same (q k m (rw same at h.0)), h.1)
temps_refer i k m (t ∷ ts) es (suc n) e g p q h = (h.0, temps_refer i k (m + 1) ts es n e g p q h.1)

results_refer : (i k m : ℕ) (es : List Tree) (n : ℕ) (e : Tree) (g : Tree → Tree) → slice_get es n ≡ Some e →
    KeepsBelow i e (g e) → AllReferBelow i k m es → AllReferBelow i k m (results_changed es n g)
results_refer i k m [] n e g p q h = tt {0}
results_refer i k m (a ∷ es) zero e g p q h = let same : a ≡ e = cc in (rw same (q k m (rw same at h.0)), h.1)
results_refer i k m (a ∷ es) (suc n) e g p q h = (h.0, results_refer i k m es n e g p q h.1)

after_refer : (i k m : ℕ) (ts : List function.Temp) (es : List Tree) (n : ℕ) (e : Tree) (g : Tree → Tree) →
    tree_in ts es n ≡ Some e → KeepsBelow i e (g e) → AllReferBelow i k m es →
    AllReferBelow i k m (results_after ts es n g)
after_refer i k m [] es n e g p q h = results_refer i k m es n e g p q h
after_refer i k m (t ∷ ts) es zero e g p q h = h
after_refer i k m (t ∷ ts) es (suc n) e g p q h = after_refer i k m ts es n e g p q h

pub same_temps : (ts : List function.Temp) (n : ℕ) (g : Tree → Tree) → length (temps_changed ts n g) ≡ length ts
same_temps [] n g = refl
same_temps (t ∷ ts) zero g = refl
same_temps (t ∷ ts) (suc n) g = ap suc (same_temps ts n g)

same_results : (es : List Tree) (n : ℕ) (g : Tree → Tree) → length (results_changed es n g) ≡ length es
same_results [] n g = refl
same_results (e ∷ es) zero g = refl
same_results (e ∷ es) (suc n) g = ap suc (same_results es n g)

pub same_after : (ts : List function.Temp) (es : List Tree) (n : ℕ) (g : Tree → Tree) →
    length (results_after ts es n g) ≡ length es
same_after [] es n g = same_results es n g
same_after (t ∷ ts) es zero g = refl
same_after (t ∷ ts) es (suc n) g = same_after ts es n g

pub changed_valid : (f : Function) (n : ℕ) (e : Tree) (g : Tree → Tree) → tree_at f n ≡ Some e →
    KeepsBelow (length f.inputs) e (g e) → IsValid f → IsValid (changed f n g)
changed_valid f n e g p q v = record {
  all_results = same_after f.temps f.results n g ∙ v.all_results;
  temps = temps_refer (length f.inputs) (length f.states) 0 f.temps f.results n e g p q v.temps;
  results =
      rw (same_temps f.temps n g)
      (after_refer (length f.inputs) (length f.states) (length f.temps) f.temps f.results n e g p q v.results);
}
