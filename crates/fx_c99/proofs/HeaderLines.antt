-- Lines that stand in a text of pieces.
use Rattle.std.proofs.Common.{◌≡◌, ℕ, zero, suc, ◌+◌, ◌<◌, ℤ, List, [], ◌∷◌, ◌++◌, refl, sym, ap, subst, ◌∙◌, arith, append_assoc, codes}
use Rattle.std.specs.List.{flat_map}
use Rattle.std.proofs.lemmas.List.{append-nil}
use Rattle.std.proofs.lemmas.List.Concat.{flat_map-append}
use Rattle.fx_model.specs.LineText.{numbered_lines}
use Rattle.fx_c99.specs.CHeader.{number_text, macro_text}
use Rattle.fx_c99.specs.CHeaderMeaning.{IsCNumber, HasLine, Defines}

abbrev pub whole_text : List (List ℕ) → List ℕ
whole_text lines = flat_map (λ l. l ++ codes "\n") lines

whole_append : (ls ms : List (List ℕ)) → whole_text (ls ++ ms) ≡ whole_text ls ++ whole_text ms
whole_append ls ms = flat_map-append (λ l. l ++ codes "\n") ls ms

-- ---- texts of whole_text lines
pub record IsLines (text : List ℕ) : Type 0 where
  pub lines : List (List ℕ)
  pub are : text ≡ whole_text lines

-- that of one line
pub record IsLine (text : List ℕ) : Type 0 where
  pub front : List ℕ
  pub is : text ≡ front ++ codes "\n"

pub line_behind : (a b : List ℕ) → IsLine b → IsLine (a ++ b)
line_behind a b e =
    record { front = a ++ e.front; is = ap (λ t. a ++ t) e.is ∙ sym (append_assoc a e.front (codes "\n")) }

pub one_line : (text : List ℕ) → IsLine text → IsLines text
one_line text e = record { lines = e.front ∷ []; are = e.is ∙ sym (append-nil (e.front ++ codes "\n")) }

pub none : IsLines []
none = record { lines = []; are = refl }

pub both_lines : (a b : List ℕ) → IsLines a → IsLines b → IsLines (a ++ b)
both_lines a b s t =
    record { lines = s.lines ++ t.lines; are = (λ i. s.are i ++ t.are i) ∙ sym (whole_append s.lines t.lines) }

-- ---- a piece that stands in a text line_behind whole_text lines
pub record IsPart (text piece : List ℕ) : Type 0 where
  pub above : List (List ℕ)
  pub below : List ℕ
  pub is : text ≡ whole_text above ++ (piece ++ below)

pub front : (a b : List ℕ) → IsPart (a ++ b) a
front a b = record { above = []; below = b; is = refl }

pub rest : (a b : List ℕ) → IsLines a → IsPart (a ++ b) b
rest a b s = record {
  above = s.lines;
  below = [];
  is = ap (λ t. t ++ b) s.are ∙ ap (λ t. whole_text s.lines ++ t) (sym (append-nil b));
}

-- a piece of a piece
pub within : (text piece part : List ℕ) → IsPart text piece → IsPart piece part → IsPart text part
within text piece part p q =
    let joined : whole_text p.above ++ ((whole_text q.above ++ (part ++ q.below)) ++ p.below)
    ≡ (whole_text p.above ++ whole_text q.above) ++ (part ++ (q.below ++ p.below)) = simp append_assoc in
    record {
      above = p.above ++ q.above;
      below = q.below ++ p.below;
      is = p.is ∙ ap (λ t. whole_text p.above ++ (t ++ p.below)) q.is ∙ joined
          ∙ ap (λ t. t ++ (part ++ (q.below ++ p.below))) (sym (whole_append p.above q.above));
    }

-- ---- pieces of numbers
pub numbered_are : (piece : ℕ → List ℕ) → ((k : ℕ) → IsLines (piece k)) → (n m : ℕ) → IsLines (numbered_lines piece n m)
numbered_are piece each n zero = none
numbered_are piece each n (suc m) =
    both_lines (piece n) (numbered_lines piece (n + 1) m) (each n) (numbered_are piece each (n + 1) m)

parts_from : (piece : ℕ → List ℕ) → ((k : ℕ) → IsLines (piece k)) → (n m k : ℕ) → k < m →
    IsPart (numbered_lines piece n m) (piece (n + k))
parts_from piece each n zero k lt = absurd (omega arith)
parts_from piece each n (suc m) zero lt =
    let e : n ≡ n + 0 = omega arith in
    subst (λ (j : ℕ). IsPart (numbered_lines piece n (suc m)) (piece j)) e
    (front (piece n) (numbered_lines piece (n + 1) m))
parts_from piece each n (suc m) (suc k) lt =
    let e : (n + 1) + k ≡ n + suc k = omega arith in
    let later = parts_from piece each (n + 1) m k (omega arith) in
    subst (λ (j : ℕ). IsPart (numbered_lines piece n (suc m)) (piece j)) e
    (within (piece n ++ numbered_lines piece (n + 1) m) (numbered_lines piece (n + 1) m) (piece ((n + 1) + k))
    (rest (piece n) (numbered_lines piece (n + 1) m) (each n)) later)

pub numbered_part : (piece : ℕ → List ℕ) → ((k : ℕ) → IsLines (piece k)) → (m k : ℕ) → k < m →
    IsPart (numbered_lines piece 0 m) (piece k)
numbered_part piece each m k lt =
    let e : 0 + k ≡ k = omega arith in
    subst (λ (j : ℕ). IsPart (numbered_lines piece 0 m) (piece j)) e (parts_from piece each 0 m k lt)

-- ---- lines
-- a line in front of a text
pub line_of : (line below : List ℕ) → HasLine (line ++ (codes "\n" ++ below)) line
line_of line below = record { above = []; below = below; is = refl }

pub line_in : (text piece line : List ℕ) → IsPart text piece → HasLine piece line → HasLine text line
line_in text piece line p h =
    let q : IsPart piece (line ++ codes "\n") = record {
      above = h.above;
      below = h.below;
      is = h.is ∙ ap (λ t. whole_text h.above ++ t) (sym (append_assoc line (codes "\n") h.below));
    } in
    let all = within text piece (line ++ codes "\n") p q in
    record {
      above = all.above;
      below = all.below;
      is = all.is ∙ ap (λ t. whole_text all.above ++ t) (append_assoc line (codes "\n") all.below);
    }

-- ---- macros
pub macro_is : (title what : List ℕ) (v : ℤ) → IsLines (macro_text title what v)
macro_is title what v =
    let d = number_text v ++ codes "\n" in let c = codes " " ++ d in let b = what ++ c in let a = codes "_" ++ b in
    one_line (macro_text title what v) (line_behind (codes "#define FIXD_") (title ++ a) (line_behind title a (line_behind (codes "_") b
    (line_behind what c (line_behind (codes " ") d record { front = number_text v; is = refl })))))

pub defines : (title what : List ℕ) (v : ℤ) → IsCNumber (number_text v) v → Defines (macro_text title what v) title what v
defines title what v read =
    let line = codes "#define FIXD_" ++ (title ++ (codes "_" ++ (what ++ (codes " " ++ number_text v)))) in
    let e : macro_text title what v ≡ line ++ (codes "\n" ++ []) = simp append_assoc in
    record { number = number_text v; read = read; line = subst (λ t. HasLine t line) (sym e) (line_of line []) }

pub defines_in : (text piece title what : List ℕ) (v : ℤ) → IsPart text piece → Defines piece title what v →
    Defines text title what v
defines_in text piece title what v p h =
    record { number = h.number; read = h.read; line = line_in text piece _ p h.line }
