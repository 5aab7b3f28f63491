-- A header says what is certified.
use Rattle.std.proofs.Common.{◌≡◌, ℕ, ◌+◌, ◌<◌, ℤ, pos, nat_eq, cond, Bool, true, false, List, [], ◌++◌, refl, sym, subst, arith, append_assoc, codes}
use Rattle.std.proofs.lemmas.List.FromFn.{get_or-map-range_with_len}
use Rattle.fx_rational.specs.Dyadic.{Dyadic, zero_dyadic}
use Rattle.fx_model.specs.Tree.{at}
use Rattle.fx_model.specs.Machine.{Program, IsWord}
use Rattle.fx_model.specs.LawfulProgram.{IsLawfulProgram}
use Rattle.fx_model.proofs.Widths.{width_of}
use Rattle.fx_inequalities.specs.Certificate.{Certificate}
use Rattle.fx_inequalities.specs.Accepted.{output_code, bound_dyadic}
use Rattle.fx_sound.specs.Soundness.{StartLaw, StepLaw}
use Rattle.fx_statements.proofs.Kept.{wider}
use Rattle.fx_c99.specs.CText.{step_head, reset_head}
use Rattle.fx_c99.specs.CHeader.{point, bounds_of, macro_text, count_macros, input_group, state_group, output_macros, output_group, reset_declaration, declarations_text, c_header_of}
use Rattle.fx_c99.specs.CHeaderMeaning.{HasLine, Defines, SaysOutput}
use Rattle.fx_c99.specs.Laws.{HeaderLaw}
use Rattle.fx_c99.proofs.HeaderLines.{IsLine, IsLines, line_behind, one_line, none, front, rest, within, numbered_part, line_of, line_in, macro_is, defines_in}
use Rattle.fx_c99.proofs.HeaderNumbers.{count_fits, point_fits, mantissa_fits}
use Rattle.fx_c99.proofs.HeaderWords.{point_is, start_fits, certified_bound_short, lows_fit, highs_fit}
use Rattle.fx_c99.proofs.Headers.{macro_in, input_says, state_says, output_says, input_in, state_in, output_in, input_is, state_is, output_is, pieces_of}

-- ---- the counts
record SaysCounts (p : Program) (text : List ℕ) : Type 0 where
  width : Defines text p.name (codes "WIDTH") (pos p.width)
  inputs : Defines text p.name (codes "INPUTS") (pos p.inputs)
  states : Defines text p.name (codes "STATES") (pos p.states)
  outputs : Defines text p.name (codes "OUTPUTS") (pos p.outputs)

counts_say : (p : Program) → IsLawfulProgram p →
    SaysCounts p (count_macros p.name p.width p.inputs p.states p.outputs)
counts_say p lawful =
    let comment = codes "/* bits of a word w, which stands for w / 2^POINT, and elements of the arrays */\n" in
    let first : IsLine comment = record {
      front = codes "/* bits of a word w, which stands for w / 2^POINT, and elements of the arrays */";
      is = refl;
    } in
    let a = macro_text p.name (codes "WIDTH") (pos p.width) in
    let b = macro_text p.name (codes "INPUTS") (pos p.inputs) in
    let c = macro_text p.name (codes "STATES") (pos p.states) in
    let d = macro_text p.name (codes "OUTPUTS") (pos p.outputs) in
    let text = count_macros p.name p.width p.inputs p.states p.outputs in
    let from_c = c ++ d in let from_b = b ++ from_c in let from_a = a ++ from_b in
    let at_a = rest comment from_a (one_line comment first) in
    let at_b = within text from_a from_b at_a (rest a from_b (macro_is p.name (codes "WIDTH") (pos p.width))) in
    let at_c = within text from_b from_c at_b (rest b from_c (macro_is p.name (codes "INPUTS") (pos p.inputs))) in
    let at_d = within text from_c d at_c (rest c d (macro_is p.name (codes "STATES") (pos p.states))) in
    let counts = lawful.counts in let width = width_of p.width lawful.width in
    record {
      width = macro_in text p.name (codes "WIDTH") (pos p.width) (within text from_a a at_a (front a from_b))
          (count_fits p.width (omega (arith, width.most)));
      inputs = macro_in text p.name (codes "INPUTS") (pos p.inputs) (within text from_b b at_b (front b from_c))
          (count_fits p.inputs (omega (arith, counts.inputs)));
      states = macro_in text p.name (codes "STATES") (pos p.states) (within text from_c c at_c (front c d))
          (count_fits p.states (omega (arith, counts.states)));
      outputs = macro_in text p.name (codes "OUTPUTS") (pos p.outputs) at_d
          (count_fits p.outputs (omega (arith, counts.outputs)));
    }

-- ---- the declarations
abbrev above : List ℕ
above = codes "\n#ifdef __cplusplus\nextern \"C\" {\n#endif\n\n"

abbrev below : List ℕ
below = codes "\n#ifdef __cplusplus\n}\n#endif\n\n#endif\n"

above_is : IsLines above
above_is = one_line above record { front = codes "\n#ifdef __cplusplus\nextern \"C\" {\n#endif\n"; is = refl }

-- a head and a semicolon
declared : (head below : List ℕ) → HasLine (head ++ (codes ";\n" ++ below)) (head ++ codes ";")
declared head below =
    subst (λ t. HasLine t (head ++ codes ";")) (append_assoc head (codes ";") (codes "\n" ++ below))
    (line_of (head ++ codes ";") below)

reset_is : (title : List ℕ) (n states : ℕ) → IsLines (reset_declaration title n states)
reset_is title n states = by (nat_eq states 0)
  where
    by : (b : Bool) → IsLines (cond b [] (reset_head title n states ++ codes ";\n"))
    by true = none
    by false = one_line (reset_head title n states ++ codes ";\n")
        (line_behind (reset_head title n states) (codes ";\n") record { front = codes ";"; is = refl })

reset_declared : (title : List ℕ) (n states : ℕ) → 0 < states →
    HasLine (reset_declaration title n states) (reset_head title n states ++ codes ";")
reset_declared title n states some = by (nat_eq states 0) refl
  where
    by : (b : Bool) → nat_eq states 0 ≡ b →
        HasLine (cond b [] (reset_head title n states ++ codes ";\n")) (reset_head title n states ++ codes ";")
    by true e = absurd (let none : states ≡ 0 = grind arith in omega arith)
    by false e = declared (reset_head title n states) []

step_declared : (title : List ℕ) (n states inputs outputs : ℕ) →
    HasLine (declarations_text title n states inputs outputs) (step_head title n states inputs outputs ++ codes ";")
step_declared title n states inputs outputs =
    let reset = reset_declaration title n states in let step = step_head title n states inputs outputs in
    let last = step ++ (codes ";\n" ++ below) in
    let text = declarations_text title n states inputs outputs in
    line_in text last (step ++ codes ";") (within text (reset ++ last) last (rest above (reset ++ last) above_is)
    (rest reset last (reset_is title n states))) (declared step below)

reset_in : (title : List ℕ) (n states inputs outputs : ℕ) → 0 < states →
    HasLine (declarations_text title n states inputs outputs) (reset_head title n states ++ codes ";")
reset_in title n states inputs outputs some =
    let reset = reset_declaration title n states in
    let last = step_head title n states inputs outputs ++ (codes ";\n" ++ below) in
    let text = declarations_text title n states inputs outputs in
    line_in text reset (reset_head title n states ++ codes ";")
    (within text (reset ++ last) reset (rest above (reset ++ last) above_is) (front reset last))
    (reset_declared title n states some)

-- ---- all of it
-- a word of the program is one of 64 bits
widened : (p : Program) → IsLawfulProgram p → (v : ℤ) → IsWord p.width v → IsWord 64 v
widened p h v fits = let w = width_of p.width h.width in wider p.width 64 v (omega (arith, w.most)) fits

bounds_are : (p : Program) (cert : Certificate) (j : ℕ) → j < p.outputs →
    at zero_dyadic (bounds_of p cert) j ≡ bound_dyadic p cert j
bounds_are p cert j lt = get_or-map-range_with_len (bound_dyadic p cert) 0 p.outputs j j zero_dyadic lt (omega arith)

output_group_says : (p : Program) (cert : Certificate) (j : ℕ) → j < p.outputs →
    SaysOutput p cert (output_macros p.name j (point p (output_code p j)) (bound_dyadic p cert j)) j
    → SaysOutput p cert (output_group p (bounds_of p cert) j) j
output_group_says p cert j lt says =
    subst (λ (d : Dyadic). SaysOutput p cert (output_macros p.name j (point p (output_code p j)) d) j)
    (sym (bounds_are p cert j lt)) says

pub header_says : StartLaw → StepLaw → HeaderLaw
header_says start step rewrite fn p cert c inputs =
    let lawful = c.program in let text = c_header_of fn p cert in let bounds = bounds_of p cert in
    let parts = pieces_of fn p bounds in let counted = counts_say p lawful in
    let counts_text = count_macros p.name p.width p.inputs p.states p.outputs in
    let declarations = declarations_text p.name p.width p.states p.inputs p.outputs in
    record {
      width = defines_in text counts_text _ _ _ parts.counts_in counted.width;
      inputs = defines_in text counts_text _ _ _ parts.counts_in counted.inputs;
      states = defines_in text counts_text _ _ _ parts.counts_in counted.states;
      outputs = defines_in text counts_text _ _ _ parts.counts_in counted.outputs;
      input = λ k lt. input_in fn p text (input_group fn p k) k
          (within text _ (input_group fn p k) parts.inputs_in
          (numbered_part (input_group fn p) (input_is fn p) p.inputs k lt))
          (input_says fn p k (point_fits (point p k) (point_is p lawful k))
          (widened p lawful _ (lows_fit start step rewrite fn p cert c inputs k lt))
          (widened p lawful _ (highs_fit start step rewrite fn p cert c inputs k lt)));
      state = λ k lt. state_in p text (state_group fn p k) k
          (within text _ (state_group fn p k) parts.states_in
          (numbered_part (state_group fn p) (state_is fn p) p.states k lt))
          (state_says fn p k (point_fits (point p (p.inputs + k)) (point_is p lawful (p.inputs + k)))
          (widened p lawful _ (start_fits p lawful k)));
      output = λ j lt. output_in p cert text (output_group p bounds j) j
          (within text _ (output_group p bounds j) parts.outputs_in
          (numbered_part (output_group p bounds) (output_is p bounds) p.outputs j lt))
          (output_group_says p cert j lt (let short = certified_bound_short p cert c.certificate j in
          output_says p cert j (point_fits (point p (output_code p j)) (point_is p lawful (output_code p j)))
          (mantissa_fits (bound_dyadic p cert j).m short.small)
          (count_fits (bound_dyadic p cert j).e (omega (arith, short.places)))));
      reset = λ some. line_in text declarations _ parts.declarations_in
          (reset_in p.name p.width p.states p.inputs p.outputs some);
      step = line_in text declarations _ parts.declarations_in
          (step_declared p.name p.width p.states p.inputs p.outputs);
    }
