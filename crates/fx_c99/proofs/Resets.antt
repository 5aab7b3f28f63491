-- The start words are written over what stood there.
use Rattle.std.proofs.Common.{◌≡◌, ℕ, ◌+◌, ◌≤◌, ℤ, List, [], ◌∷◌, ◌++◌, length, Some, refl, sym, ap, ◌∙◌, arith, length-append, append_assoc}
use Rattle.std.specs.Option.{option_and_then}
use Rattle.fx_model.specs.Machine.{Code, State, Input, Const, Neg, Add, Sub, Mul, Div, Copy, IsWord, start_words}
use Rattle.fx_model.specs.LawfulProgram.{AreLawful}
use Rattle.fx_model.proofs.Widths.{width_of}
use Rattle.fx_statements.specs.Meaning.{put}
use Rattle.fx_statements.proofs.Starts.{start_count}
use Rattle.fx_c99.specs.CMeaning.{c_reset}
use Rattle.fx_c99.specs.Laws.{ResetLaw}
use Rattle.fx_c99.proofs.Codes.{element_kept}
use Rattle.fx_statements.proofs.Ends.{put_behind}

unfoldable pub AreWords : ℕ → List ℤ → Type 0
AreWords n [] = Unit {0}
AreWords n (w ∷ ws) = IsWord n w × AreWords n ws

pub start_fit : (n i k m : ℕ) (cs : List Code) → AreLawful n i k m cs → AreWords n (start_words cs)
unfolding AreWords
start_fit n i k m [] l = tt
start_fit n i k m (State j f w ∷ cs) l = (l.0.0, start_fit n i k (m + 1) cs l.1)
start_fit n i k m (Input j f ∷ cs) l = start_fit n i k (m + 1) cs l.1
start_fit n i k m (Const w f ∷ cs) l = start_fit n i k (m + 1) cs l.1
start_fit n i k m (Neg a ∷ cs) l = start_fit n i k (m + 1) cs l.1
start_fit n i k m (Add a b sa sb ∷ cs) l = start_fit n i k (m + 1) cs l.1
start_fit n i k m (Sub a b sa sb ∷ cs) l = start_fit n i k (m + 1) cs l.1
start_fit n i k m (Mul r a b s ∷ cs) l = start_fit n i k (m + 1) cs l.1
start_fit n i k m (Div a b s ∷ cs) l = start_fit n i k (m + 1) cs l.1
start_fit n i k m (Copy r a s ∷ cs) l = start_fit n i k (m + 1) cs l.1

resets : (n : ℕ) → n ≤ 64 → (front ws rest : List ℤ) → AreWords n ws → length ws ≡ length rest →
    c_reset n (length front) ws (front ++ rest) ≡ Some (front ++ ws)
unfolding AreWords
resets n hi front [] [] fit many = refl
resets n hi front [] (u ∷ rest) fit many = absurd (omega (arith, many))
resets n hi front (w ∷ ws) [] fit many = absurd (omega (arith, many))
resets n hi front (w ∷ ws) (u ∷ rest) fit many =
    let more : length (front ++ w ∷ []) ≡ length front + 1 = length-append front (w ∷ []) in
    let after = resets n hi (front ++ w ∷ []) ws rest fit.1 (omega (arith, many)) in
    ap (option_and_then (λ v. option_and_then (c_reset n (length front + 1) ws) (put (front ++ u ∷ rest) (length front) v)))
    (element_kept n w hi fit.0)
    ∙ ap (option_and_then (c_reset n (length front + 1) ws)) (put_behind front u w rest)
    ∙ ap (λ (k : ℕ). c_reset n k ws (front ++ w ∷ rest)) (sym more)
    ∙ ap (c_reset n (length (front ++ w ∷ [])) ws) (sym (append_assoc front (w ∷ []) rest))
    ∙ after ∙ ap Some (append_assoc front (w ∷ []) ws)

pub reset_is : ResetLaw
reset_is p s lawful many =
    let w = width_of p.width lawful.width in
    let fit = start_fit p.width p.inputs p.states 0 p.codes lawful.codes in
    resets p.width w.most [] (start_words p.codes) s fit (start_count p lawful ∙ sym many)
