-- What stands in the place of a tree that was changed.
use Rattle.std.proofs.Common.{◌≡◌, ℕ, zero, suc, List, [], ◌∷◌, Some, ap}
use Rattle.std.specs.Prelude.{slice_get}
use Rattle.fx_model.specs.Tree.{Tree}
use Rattle.fx_model.specs.Function as function
use Rattle.fx_model.specs.Function.{Function}
use Rattle.fx_model.specs.Paths.{tree_in, tree_at, temps_changed, results_changed, results_after, changed}

list_there : (es : List Tree) (k : ℕ) (e : Tree) (g : Tree → Tree) → slice_get es k ≡ Some e →
    slice_get (results_changed es k g) k ≡ Some (g e)
list_there [] k e g i = absurd cc
list_there (a ∷ es) zero e g i = let same : a ≡ e = cc in ap (λ t. Some (g t)) same
list_there (a ∷ es) (suc k) e g i = list_there es k e g i

in_there : (ts : List function.Temp) (es : List Tree) (k : ℕ) (e : Tree) (g : Tree → Tree) → tree_in ts es k ≡ Some e →
    tree_in (temps_changed ts k g) (results_after ts es k g) k ≡ Some (g e)
in_there [] es k e g i = list_there es k e g i
in_there (t ∷ ts) es zero e g i = let same : t.tree ≡ e = cc in ap (λ t. Some (g t)) same
in_there (t ∷ ts) es (suc k) e g i = in_there ts es k e g i

pub tree_there : (f : Function) (k : ℕ) (e : Tree) (g : Tree → Tree) → tree_at f k ≡ Some e →
    tree_at (changed f k g) k ≡ Some (g e)
tree_there f k e g i = in_there f.temps f.results k e g i
