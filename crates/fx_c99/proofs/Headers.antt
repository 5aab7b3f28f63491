-- A header says what it is said to say.
use Rattle.std.proofs.Common.{ℕ, ◌+◌, ℤ, pos, List, ◌++◌, refl, codes}
use Rattle.std.specs.Fmt.{decimal}
use Rattle.fx_rational.specs.Dyadic.{Dyadic, zero_dyadic}
use Rattle.fx_model.specs.Tree.{at}
use Rattle.fx_model.specs.Function.{Function}
use Rattle.fx_model.specs.LineText.{numbered_lines}
use Rattle.fx_model.specs.Machine.{Program, IsWord}
use Rattle.fx_inequalities.specs.Certificate.{Certificate}
use Rattle.fx_inequalities.specs.NodeConditions.{no_input}
use Rattle.fx_inequalities.specs.Accepted.{no_state, output_code, bound_dyadic}
use Rattle.fx_c99.specs.CHeader.{point, input_word, start_word, macro_text, of_element, element_comment, input_comment, state_comment, output_comment, count_macros, output_macros, input_group, state_group, output_group, opening_text, declarations_text, header_text}
use Rattle.fx_c99.specs.CHeaderMeaning.{Defines, SaysInput, SaysState, SaysOutput}
use Rattle.fx_c99.proofs.HeaderLines.{IsLine, IsLines, IsPart, line_behind, one_line, both_lines, front, rest, within, numbered_are, macro_is, defines, defines_in}
use Rattle.fx_c99.proofs.HeaderNumbers.{number_read}

-- ---- each piece is of whole lines
comment_is : (array : List ℕ) (k : ℕ) (says : List ℕ) → IsLine says → IsLines (element_comment array k says)
comment_is array k says e =
    let c = codes "]" ++ says in let b = decimal k ++ c in let a = codes "[" ++ b in
    one_line (element_comment array k says) (line_behind (codes "\n/* ") (array ++ a) (line_behind array a
    (line_behind (codes "[") b (line_behind (decimal k) c (line_behind (codes "]") says e)))))

named_is : (array : List ℕ) (k : ℕ) (name says : List ℕ) → IsLine says →
    IsLines (element_comment array k (codes ", " ++ (name ++ says)))
named_is array k name says e =
    comment_is array k (codes ", " ++ (name ++ says)) (line_behind (codes ", ") (name ++ says) (line_behind name says e))

input_comment_is : (k : ℕ) (name : List ℕ) → IsLines (input_comment k name)
input_comment_is k name =
    named_is (codes "input") k name (codes ": the words of its range, each a value times 2^POINT, rounded down */\n")
    record { front = codes ": the words of its range, each a value times 2^POINT, rounded down */"; is = refl }

state_comment_is : (k : ℕ) (name : List ℕ) → IsLines (state_comment k name)
state_comment_is k name =
    named_is (codes "state") k name (codes ": the word that the reset writes */\n")
    record { front = codes ": the word that the reset writes */"; is = refl }

output_comment_is : (j : ℕ) → IsLines (output_comment j)
output_comment_is j =
    comment_is (codes "output") j (codes ": for inputs in range at most BOUND / 2^BOUND_POINT from the exact value */\n")
    record { front = codes ": for inputs in range at most BOUND / 2^BOUND_POINT from the exact value */"; is = refl }

opening_is : (title : List ℕ) (n : ℕ) → IsLines (opening_text title n)
opening_is title n =
    let e = codes "_H\n\n#include <stdint.h>\n\n" in let d = title ++ e in let c = codes "_H\n#define FIXD_" ++ d in
    let b = title ++ c in let a = codes " */\n#ifndef FIXD_" ++ b in let w = decimal n ++ a in
    one_line (opening_text title n) (line_behind (codes "/* ") (title ++ (codes ", width " ++ w))
    (line_behind title (codes ", width " ++ w) (line_behind (codes ", width ") w (line_behind (decimal n) a
    (line_behind (codes " */\n#ifndef FIXD_") b (line_behind title c (line_behind (codes "_H\n#define FIXD_") d
    (line_behind title e record { front = codes "_H\n\n#include <stdint.h>\n"; is = refl }))))))))

-- two and three macros
two_are : (title what other : List ℕ) (v w : ℤ) → IsLines (macro_text title what v ++ macro_text title other w)
two_are title what other v w =
    both_lines (macro_text title what v) (macro_text title other w) (macro_is title what v) (macro_is title other w)

three_are : (title what other third : List ℕ) (u v w : ℤ) →
    IsLines (macro_text title what u ++ (macro_text title other v ++ macro_text title third w))
three_are title what other third u v w =
    both_lines (macro_text title what u) (macro_text title other v ++ macro_text title third w) (macro_is title what u)
    (two_are title other third v w)

counts_are : (title : List ℕ) (n inputs states outputs : ℕ) → IsLines (count_macros title n inputs states outputs)
counts_are title n inputs states outputs =
    let comment = codes "/* bits of a word w, which stands for w / 2^POINT, and elements of the arrays */\n" in
    let first : IsLine comment = record {
      front = codes "/* bits of a word w, which stands for w / 2^POINT, and elements of the arrays */";
      is = refl;
    } in
    let rest = macro_text title (codes "INPUTS") (pos inputs) ++ (macro_text title (codes "STATES") (pos states)
    ++ macro_text title (codes "OUTPUTS") (pos outputs)) in
    both_lines comment (macro_text title (codes "WIDTH") (pos n) ++ rest) (one_line comment first)
    (both_lines (macro_text title (codes "WIDTH") (pos n)) rest (macro_is title (codes "WIDTH") (pos n))
    (three_are title (codes "INPUTS") (codes "STATES") (codes "OUTPUTS") (pos inputs) (pos states) (pos outputs)))

pub input_is : (fn : Function) (p : Program) (k : ℕ) → IsLines (input_group fn p k)
input_is fn p k =
    let i = at no_input fn.inputs k in let f = point p k in let name = of_element (codes "INPUT") k in
    let least = input_word i.lo f in let greatest = input_word i.hi f in
    both_lines (input_comment k i.name) (macro_text p.name (name (codes "_POINT")) f
    ++ (macro_text p.name (name (codes "_LEAST")) least ++ macro_text p.name (name (codes "_GREATEST")) greatest))
    (input_comment_is k i.name)
    (three_are p.name (name (codes "_POINT")) (name (codes "_LEAST")) (name (codes "_GREATEST")) f least greatest)

pub state_is : (fn : Function) (p : Program) (k : ℕ) → IsLines (state_group fn p k)
state_is fn p k =
    let name = (at no_state fn.states k).name in let f = point p (p.inputs + k) in
    let what = of_element (codes "STATE") k in
    both_lines (state_comment k name) (macro_text p.name (what (codes "_POINT")) f
    ++ macro_text p.name (what (codes "_START")) (start_word p k)) (state_comment_is k name)
    (two_are p.name (what (codes "_POINT")) (what (codes "_START")) f (start_word p k))

pub output_is : (p : Program) (bounds : List Dyadic) (j : ℕ) → IsLines (output_group p bounds j)
output_is p bounds j =
    let b = at zero_dyadic bounds j in let f = point p (output_code p j) in let name = of_element (codes "OUTPUT") j in
    both_lines (output_comment j) (macro_text p.name (name (codes "_POINT")) f
    ++ (macro_text p.name (name (codes "_BOUND")) b.m ++ macro_text p.name (name (codes "_BOUND_POINT")) (pos b.e)))
    (output_comment_is j)
    (three_are p.name (name (codes "_POINT")) (name (codes "_BOUND")) (name (codes "_BOUND_POINT")) f b.m (pos b.e))

-- ---- what a group says
-- a macro that stands in it
pub macro_in : (text title what : List ℕ) (v : ℤ) → IsPart text (macro_text title what v) → IsWord 64 v → Defines text title what v
macro_in text title what v p fits =
    defines_in text (macro_text title what v) title what v p (defines title what v (number_read v fits))

-- three macros line_behind a comment
record Three (text a b c : List ℕ) : Type 0 where
  first : IsPart text a
  second : IsPart text b
  third : IsPart text c

three_in : (comment a b c : List ℕ) → IsLines comment → IsLines a → IsLines b → Three (comment ++ (a ++ (b ++ c))) a b c
three_in comment a b c is a_is b_is =
    let text = comment ++ (a ++ (b ++ c)) in
    let all = rest comment (a ++ (b ++ c)) is in
    let later = within text (a ++ (b ++ c)) (b ++ c) all (rest a (b ++ c) a_is) in
    record {
      first = within text (a ++ (b ++ c)) a all (front a (b ++ c));
      second = within text (b ++ c) b later (front b c);
      third = within text (b ++ c) c later (rest b c b_is);
    }

pub input_says : (fn : Function) (p : Program) (k : ℕ) → IsWord 64 (point p k) →
    IsWord 64 (input_word (at no_input fn.inputs k).lo (point p k)) →
    IsWord 64 (input_word (at no_input fn.inputs k).hi (point p k))
    → SaysInput fn p (input_group fn p k) k
input_says fn p k place low high =
    let i = at no_input fn.inputs k in let f = point p k in let name = of_element (codes "INPUT") k in
    let least = input_word i.lo f in let greatest = input_word i.hi f in
    let a = macro_text p.name (name (codes "_POINT")) f in let b = macro_text p.name (name (codes "_LEAST")) least in
    let c = macro_text p.name (name (codes "_GREATEST")) greatest in
    let three = three_in (input_comment k i.name) a b c (input_comment_is k i.name)
    (macro_is p.name (name (codes "_POINT")) f) (macro_is p.name (name (codes "_LEAST")) least) in
    let text = input_group fn p k in
    record {
      place = macro_in text p.name (name (codes "_POINT")) f three.first place;
      least = macro_in text p.name (name (codes "_LEAST")) least three.second low;
      greatest = macro_in text p.name (name (codes "_GREATEST")) greatest three.third high;
    }

pub state_says : (fn : Function) (p : Program) (k : ℕ) → IsWord 64 (point p (p.inputs + k)) → IsWord 64 (start_word p k)
    → SaysState p (state_group fn p k) k
state_says fn p k place start =
    let name = (at no_state fn.states k).name in let f = point p (p.inputs + k) in
    let what = of_element (codes "STATE") k in
    let a = macro_text p.name (what (codes "_POINT")) f in
    let b = macro_text p.name (what (codes "_START")) (start_word p k) in
    let text = state_group fn p k in
    let all = rest (state_comment k name) (a ++ b) (state_comment_is k name) in
    let first = within text (a ++ b) a all (front a b) in
    let second = within text (a ++ b) b all (rest a b (macro_is p.name (what (codes "_POINT")) f)) in
    record {
      place = macro_in text p.name (what (codes "_POINT")) f first place;
      start = macro_in text p.name (what (codes "_START")) (start_word p k) second start;
    }

pub output_says : (p : Program) (cert : Certificate) (j : ℕ) → IsWord 64 (point p (output_code p j)) →
    IsWord 64 (bound_dyadic p cert j).m → IsWord 64 (pos (bound_dyadic p cert j).e)
    → SaysOutput p cert (output_macros p.name j (point p (output_code p j)) (bound_dyadic p cert j)) j
output_says p cert j place small few =
    let d = bound_dyadic p cert j in let f = point p (output_code p j) in let name = of_element (codes "OUTPUT") j in
    let a = macro_text p.name (name (codes "_POINT")) f in let b = macro_text p.name (name (codes "_BOUND")) d.m in
    let c = macro_text p.name (name (codes "_BOUND_POINT")) (pos d.e) in
    let three = three_in (output_comment j) a b c (output_comment_is j)
    (macro_is p.name (name (codes "_POINT")) f) (macro_is p.name (name (codes "_BOUND")) d.m) in
    let text = output_macros p.name j f d in
    record {
      place = macro_in text p.name (name (codes "_POINT")) f three.first place;
      bound = macro_in text p.name (name (codes "_BOUND")) d.m three.second small;
      bound_place = macro_in text p.name (name (codes "_BOUND_POINT")) (pos d.e) three.third few;
    }

-- ---- what a part says, the whole says
pub input_in : (fn : Function) (p : Program) (text piece : List ℕ) (k : ℕ) → IsPart text piece → SaysInput fn p piece k →
    SaysInput fn p text k
input_in fn p text piece k part says = record {
  place = defines_in text piece _ _ _ part says.place;
  least = defines_in text piece _ _ _ part says.least;
  greatest = defines_in text piece _ _ _ part says.greatest;
}

pub state_in : (p : Program) (text piece : List ℕ) (k : ℕ) → IsPart text piece → SaysState p piece k → SaysState p text k
state_in p text piece k part says = record {
  place = defines_in text piece _ _ _ part says.place;
  start = defines_in text piece _ _ _ part says.start;
}

pub output_in : (p : Program) (cert : Certificate) (text piece : List ℕ) (j : ℕ) → IsPart text piece →
    SaysOutput p cert piece j → SaysOutput p cert text j
output_in p cert text piece j part says = record {
  place = defines_in text piece _ _ _ part says.place;
  bound = defines_in text piece _ _ _ part says.bound;
  bound_place = defines_in text piece _ _ _ part says.bound_place;
}

-- ---- the pieces of a header
pub record Pieces (text counts inputs states outputs declarations : List ℕ) : Type 0 where
  pub counts_in : IsPart text counts
  pub inputs_in : IsPart text inputs
  pub states_in : IsPart text states
  pub outputs_in : IsPart text outputs
  pub declarations_in : IsPart text declarations

pieces : (o a b c d e : List ℕ) → IsLines o → IsLines a → IsLines b → IsLines c → IsLines d →
    Pieces (o ++ (a ++ (b ++ (c ++ (d ++ e))))) a b c d e
pieces o a b c d e o_is a_is b_is c_is d_is =
    let from_d = d ++ e in let from_c = c ++ from_d in let from_b = b ++ from_c in let from_a = a ++ from_b in
    let text = o ++ from_a in
    let at_a = rest o from_a o_is in
    let at_b = within text from_a from_b at_a (rest a from_b a_is) in
    let at_c = within text from_b from_c at_b (rest b from_c b_is) in
    let at_d = within text from_c from_d at_c (rest c from_d c_is) in
    record {
      counts_in = within text from_a a at_a (front a from_b);
      inputs_in = within text from_b b at_b (front b from_c);
      states_in = within text from_c c at_c (front c from_d);
      outputs_in = within text from_d d at_d (front d e);
      declarations_in = within text from_d e at_d (rest d e d_is);
    }

pub pieces_of : (fn : Function) (p : Program) (bounds : List Dyadic) →
    Pieces (header_text fn p bounds) (count_macros p.name p.width p.inputs p.states p.outputs)
    (numbered_lines (input_group fn p) 0 p.inputs) (numbered_lines (state_group fn p) 0 p.states)
    (numbered_lines (output_group p bounds) 0 p.outputs)
    (declarations_text p.name p.width p.states p.inputs p.outputs)
pieces_of fn p bounds =
    pieces (opening_text p.name p.width) (count_macros p.name p.width p.inputs p.states p.outputs)
    (numbered_lines (input_group fn p) 0 p.inputs) (numbered_lines (state_group fn p) 0 p.states)
    (numbered_lines (output_group p bounds) 0 p.outputs)
    (declarations_text p.name p.width p.states p.inputs p.outputs) (opening_is p.name p.width)
    (counts_are p.name p.width p.inputs p.states p.outputs) (numbered_are (input_group fn p) (input_is fn p) 0 p.inputs)
    (numbered_are (state_group fn p) (state_is fn p) 0 p.states)
    (numbered_are (output_group p bounds) (output_is p bounds) 0 p.outputs)
