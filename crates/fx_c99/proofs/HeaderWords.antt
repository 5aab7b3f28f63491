-- The numbers of what is certified lie in 64 bits: points, start words, bounds, and the words of inputs.
use Rattle.std.proofs.Common.{◌≡◌, ℕ, zero, suc, ◌+◌, ◌-◌, ◌*◌, ◌^◌, ◌<◌, ◌≤◌, ℤ, pos, unsigned_abs, Bool, true, false, cond, ◌&&◌, List, [], ◌∷◌, ◌++◌, length, map, Some, refl, sym, ap, subst, ◌∙◌, arith, length-append, pow_pos, All}
use Rattle.std.specs.Option.{option_and_then}
use Rattle.std.specs.List.{list_all}
use Rattle.std.proofs.Math.ListN.{get_or-map}
use Rattle.std.proofs.lemmas.Int.{ints}
use Rattle.std.proofs.lemmas.Option.{cond_some}
use Rattle.fx_rational.specs.Rational.{Rational, whole, floor, scaled, AtMost}
use Rattle.fx_rational.specs.Dyadic.{Dyadic, IsWritten, negated, is_dyadic_at_most, zero_dyadic}
use Rattle.fx_rational.specs.Interval.{Interval, IsWrittenInterval}
use Rattle.fx_rational.proofs.Laws.{le_refl, less_below, more_above}
use Rattle.fx_rational.proofs.Lowest.{size-neg_ℤ}
use Rattle.fx_model.specs.Tree.{at, value_at}
use Rattle.fx_model.specs.Function.{Function, Input}
use Rattle.fx_model.specs.Rows.{IsInput, AreInputs, IsTrueOf}
use Rattle.fx_model.specs.Machine.{Program, Code, Made, Const, Neg, Add, Sub, Mul, Div, Copy, IsWord, is_word, kept, made, words_after, words_of, points_of, points_after, point_of, start_words}
use Rattle.fx_model.specs.Machine as machine
use Rattle.fx_model.specs.LawfulProgram.{IsPoint, AreLawful, IsLawfulProgram}
use Rattle.fx_model.proofs.Options.{some_then}
use Rattle.fx_model.proofs.Wide.{is_word_from}
use Rattle.fx_inequalities.specs.Certificate.{Certificate, NodeLine, no_line}
use Rattle.fx_inequalities.specs.LawfulCertificate.{AreWrittenLines, IsLawfulCertificate}
use Rattle.fx_inequalities.specs.NodeConditions.{no_input}
use Rattle.fx_inequalities.specs.Accepted.{output_code, bound_dyadic}
use Rattle.fx_inequalities.specs.Rewriting.{Rewrites}
use Rattle.fx_sound.specs.Soundness.{IsCertified, StartLaw, StepLaw}
use Rattle.fx_sound.proofs.Points.{at_next}
use Rattle.fx_statements.specs.OfProgram.{input_words}
use Rattle.fx_c99.specs.CHeader.{point, input_word, start_word}

-- ---- points
points_are : (ps : List ℤ) → All IsPoint ps → (k : ℕ) → IsPoint (at (pos 0) ps k)
points_are [] h k = record { low = omega (arith, ints); high = omega (arith, ints) }
points_are (p ∷ ps) h zero = h 0 (pos 0) (omega arith)
points_are (p ∷ ps) h (suc k) = points_are ps (λ j d lt. h (suc j) d (omega arith)) k

pub point_is : (p : Program) → IsLawfulProgram p → (n : ℕ) → IsPoint (point p n)
point_is p h n = points_are (points_of p.codes) h.points n

-- ---- start words
zero_word : (n : ℕ) → IsWord n (pos 0)
zero_word n =
    let some = pow_pos (n - 1) in is_word_from n (pos 0) record { low = omega (arith, ints); high = omega (arith, ints) }

starts_fit : (w i s n : ℕ) (cs : List Code) → AreLawful w i s n cs → (k : ℕ) → IsWord w (at (pos 0) (start_words cs) k)
starts_fit w i s n [] l k = zero_word w
starts_fit w i s n (machine.State j f v ∷ cs) l zero = l.0.0
starts_fit w i s n (machine.State j f v ∷ cs) l (suc k) = starts_fit w i s (n + 1) cs l.1 k
starts_fit w i s n (machine.Input j f ∷ cs) l k = starts_fit w i s (n + 1) cs l.1 k
starts_fit w i s n (Const v f ∷ cs) l k = starts_fit w i s (n + 1) cs l.1 k
starts_fit w i s n (Neg a ∷ cs) l k = starts_fit w i s (n + 1) cs l.1 k
starts_fit w i s n (Add a b sa sb ∷ cs) l k = starts_fit w i s (n + 1) cs l.1 k
starts_fit w i s n (Sub a b sa sb ∷ cs) l k = starts_fit w i s (n + 1) cs l.1 k
starts_fit w i s n (Mul r a b t ∷ cs) l k = starts_fit w i s (n + 1) cs l.1 k
starts_fit w i s n (Div a b t ∷ cs) l k = starts_fit w i s (n + 1) cs l.1 k
starts_fit w i s n (Copy r a t ∷ cs) l k = starts_fit w i s (n + 1) cs l.1 k

pub start_fits : (p : Program) → IsLawfulProgram p → (k : ℕ) → IsWord p.width (start_word p k)
start_fits p h k = starts_fit p.width p.inputs p.states 0 p.codes h.codes k

-- ---- bounds
zero_written : IsWritten zero_dyadic
zero_written = record { small = omega arith; places = omega arith; one_spelling = λ lt. absurd (omega (arith, lt)) }

line_written : (v r e n : ℕ) (ls : List NodeLine) → AreWrittenLines v r e n ls → (k : ℕ) →
    IsWrittenInterval (at no_line ls k).error
line_written v r e n [] h k = (zero_written, zero_written)
line_written v r e n (l ∷ ls) h zero = h.0.1
line_written v r e n (l ∷ ls) h (suc k) = line_written v r e (n + 1) ls h.1 k

-- the mantissa and the exponent of a bound
pub record IsShortEnd (d : Dyadic) : Type 0 where
  pub small : unsigned_abs d.m < 2 ^ 62
  pub places : d.e ≤ 96

farthest_short : (i : Interval) → IsWrittenInterval i → (b : Bool) → IsShortEnd (cond b i.hi (negated i.lo))
farthest_short i w true = record { small = w.1.small; places = w.1.places }
farthest_short i w false = record { small = rw (size-neg_ℤ i.lo.m) w.0.small; places = w.0.places }

pub certified_bound_short : (p : Program) (cert : Certificate) → IsLawfulCertificate cert → (j : ℕ) → IsShortEnd (bound_dyadic p cert j)
certified_bound_short p cert h j =
    let i = (at no_line cert.lines (output_code p j)).error in
    farthest_short i (line_written (cert.inputs + cert.states) (length cert.templates) (length cert.error_templates) 0
    cert.lines h.lines (output_code p j)) (is_dyadic_at_most (negated i.lo) i.hi)

-- ---- the words of inputs
-- that of input k is what the machine makes of its value at its code's point
words_at : (w i s n : ℕ) (cs : List Code) (ps : List ℤ) (g : List Rational) → AreLawful w i s n cs → length ps ≡ n →
    (k : ℕ) → n + k < i → k < length cs →
    at (pos 0) (input_words cs g) k ≡ input_word (value_at g (n + k)) (at (pos 0) (points_after cs ps) (n + k))
words_at w i s n [] ps g l e k few lt = absurd (omega arith)
words_at w i s n (machine.Input j f ∷ cs) ps g l e zero few lt =
    let here : j ≡ n + 0 = omega (arith, l.0.1.0) in
    let place : length ps ≡ n + 0 = omega arith in
    let own = at_next cs (machine.Input j f) ps (points_after (machine.Input j f ∷ cs) ps) refl in
    λ a. input_word (value_at g (here a))
    ((sym own ∙ ap (at (pos 0) (points_after (machine.Input j f ∷ cs) ps)) place) a)
words_at w i s n (machine.Input j f ∷ cs) ps g l e (suc k) few lt =
    let next : (n + 1) + k ≡ n + suc k = omega arith in
    let more : length (ps ++ f ∷ []) ≡ n + 1 = length-append ps (f ∷ []) ∙ omega arith in
    words_at w i s (n + 1) cs (ps ++ f ∷ []) g l.1 more k (omega arith) (omega arith)
    ∙ ap (λ (m : ℕ). input_word (value_at g m) (at (pos 0) (points_after (machine.Input j f ∷ cs) ps) m)) next
words_at w i s n (machine.State j f v ∷ cs) ps g l e k few lt = absurd (omega (arith, l.0.1.0))
words_at w i s n (Const v f ∷ cs) ps g l e k few lt = absurd (omega (arith, l.0.1))
words_at w i s n (Neg a ∷ cs) ps g l e k few lt = absurd (omega (arith, l.0.1))
words_at w i s n (Add a b sa sb ∷ cs) ps g l e k few lt = absurd (omega (arith, l.0.1))
words_at w i s n (Sub a b sa sb ∷ cs) ps g l e k few lt = absurd (omega (arith, l.0.1))
words_at w i s n (Mul r a b t ∷ cs) ps g l e k few lt = absurd (omega (arith, l.0.1))
words_at w i s n (Div a b t ∷ cs) ps g l e k few lt = absurd (omega (arith, l.0.1))
words_at w i s n (Copy r a t ∷ cs) ps g l e k few lt = absurd (omega (arith, l.0.1))

pub input_words_are : (p : Program) (g : List Rational) (k : ℕ) → IsLawfulProgram p → k < p.inputs →
    at (pos 0) (input_words p.codes g) k ≡ input_word (value_at g k) (point p k)
input_words_are p g k h lt =
    let enough = h.counts.enough in
    let none : 0 + k ≡ k = omega arith in
    words_at p.width p.inputs p.states 0 p.codes [] g h.codes refl k (omega arith) (omega arith)
    ∙ ap (λ (m : ℕ). input_word (value_at g m) (point p m)) none

-- where the step isn't stuck they are words
words_fit : (n : ℕ) (cs : List Code) (g : List Rational) (z ws vs : List ℤ) → words_after n cs g z ws ≡ Some vs →
    (k : ℕ) → IsWord n (at (pos 0) (input_words cs g) k)
words_fit n [] g z ws vs e k = zero_word n
words_fit n (c ∷ cs) g z ws vs e k =
    let s = some_then (λ w. words_after n cs g z (ws ++ w ∷ [])) (option_and_then (kept n) (made c g z ws)) vs e in
    by c s.0 s.1 (words_fit n cs g z (ws ++ s.0 ∷ []) vs s.2) k
  where
    by : (c : Code) (w : ℤ) → option_and_then (kept n) (made c g z ws) ≡ Some w →
        ((k : ℕ) → IsWord n (at (pos 0) (input_words cs g) k))
        → (k : ℕ) → IsWord n (at (pos 0) (input_words (c ∷ cs) g) k)
    by (machine.Input j f) w h rest zero =
        let m : Made = record { wide = []; word = floor (scaled (value_at g j) f) } in
        (cond_some (list_all (is_word (2 * n)) m.wide && is_word n m.word) m.word w h).0
    by (machine.Input j f) w h rest (suc k) = rest k
    by (machine.State j f v) w h rest k = rest k
    by (Const v f) w h rest k = rest k
    by (Neg a) w h rest k = rest k
    by (Add a b sa sb) w h rest k = rest k
    by (Sub a b sa sb) w h rest k = rest k
    by (Mul r a b t) w h rest k = rest k
    by (Div a b t) w h rest k = rest k
    by (Copy r a t) w h rest k = rest k

-- a row of ends is true of itself
ends_true : (end : Input → Rational) → ((i : Input) → IsInput i → AtMost i.lo (end i) × AtMost (end i) i.hi) →
    (is : List Input) → AreInputs is → IsTrueOf is (map end is) (map end is)
ends_true end within [] h = tt
ends_true end within (i ∷ is) h = (
  record {
    above = (within i h.0).0;
    below = (within i h.0).1;
    not_under = less_below (end i) i.err h.0.error;
    not_over = more_above (end i) i.err h.0.error;
  },
  ends_true end within is h.1,
)

-- so the words of ends are words of the program
ends_fit : StartLaw → StepLaw → (rewrite : Rewrites) (fn : Function) (p : Program) (cert : Certificate) →
    IsCertified rewrite fn p cert → AreInputs fn.inputs →
    (end : Input → Rational) → ((i : Input) → IsInput i → AtMost i.lo (end i) × AtMost (end i) i.hi) →
    end no_input ≡ whole (pos 0) → (k : ℕ) → k < p.inputs →
    IsWord p.width (input_word (end (at no_input fn.inputs k)) (point p k))
ends_fit start step rewrite fn p cert c inputs end within none k lt =
    let g = map end fn.inputs in
    let near = start rewrite fn p cert c in
    let words = (step rewrite fn p cert g g _ _ c (ends_true end within fn.inputs inputs) near).words in
    let value : value_at g k ≡ end (at no_input fn.inputs k) =
    ap (λ (d : Rational). at d g k) (sym none) ∙ get_or-map end fn.inputs k no_input in
    subst (λ (x : Rational). IsWord p.width (input_word x (point p k))) value
    (subst (IsWord p.width) (input_words_are p g k c.program lt)
    (words_fit p.width p.codes g _ [] words.made words.are k))

pub lows_fit : StartLaw → StepLaw → (rewrite : Rewrites) (fn : Function) (p : Program) (cert : Certificate) →
    IsCertified rewrite fn p cert → AreInputs fn.inputs → (k : ℕ) → k < p.inputs →
    IsWord p.width (input_word (at no_input fn.inputs k).lo (point p k))
lows_fit start step rewrite fn p cert c inputs k lt =
    ends_fit start step rewrite fn p cert c inputs (λ i. i.lo) (λ i h. (le_refl i.lo, h.ordered)) refl k lt

pub highs_fit : StartLaw → StepLaw → (rewrite : Rewrites) (fn : Function) (p : Program) (cert : Certificate) →
    IsCertified rewrite fn p cert → AreInputs fn.inputs → (k : ℕ) → k < p.inputs →
    IsWord p.width (input_word (at no_input fn.inputs k).hi (point p k))
highs_fit start step rewrite fn p cert c inputs k lt =
    ends_fit start step rewrite fn p cert c inputs (λ i. i.hi) (λ i h. (h.ordered, le_refl i.hi)) refl k lt
