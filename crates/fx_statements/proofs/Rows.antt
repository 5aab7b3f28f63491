-- Whatever does the machine's step at each row gives its run.
use Rattle.std.proofs.Common.{◌≡◌, ℕ, ℤ, List, [], ◌∷◌, length, drop, Option, Some, None, refl, sym, ap, ◌∙◌, arith, length-drop}
use Rattle.std.specs.Option.{option_map, option_and_then}
use Rattle.fx_rational.specs.Rational.{Rational}
use Rattle.fx_model.specs.Function.{Step, step_of, Run, run_of}
use Rattle.fx_model.specs.Machine.{Program, first_copy, words_of, machine_step}
use Rattle.fx_model.specs.LawfulProgram.{IsLawfulProgram}
use Rattle.fx_model.proofs.Options.{some_then}
use Rattle.fx_model.proofs.Words.{words_length}
use Rattle.fx_statements.specs.Widths.{FitWidths, RowsFitWidths}

-- a step has words
words_there : (p : Program) (g : List Rational) (z : List ℤ) (d : Step ℤ) → machine_step p g z ≡ Some d
    → (ws : List ℤ) × (words_of p g z ≡ Some ws) × (step_of p.outputs (drop (first_copy p) ws) ≡ d)
words_there p g z d e = by (words_of p g z) refl e
  where
    by : (o : Option (List ℤ)) → words_of p g z ≡ o →
        option_map (λ ws. step_of p.outputs (drop (first_copy p) ws)) o ≡ Some d
        → (ws : List ℤ) × (words_of p g z ≡ Some ws) × (step_of p.outputs (drop (first_copy p) ws) ≡ d)
    by None h e = absurd cc
    by (Some ws) h e = (ws, h, cc)

-- as many next states as states
next_many : (p : Program) (g : List Rational) (z : List ℤ) (d : Step ℤ) → IsLawfulProgram p →
    machine_step p g z ≡ Some d → length d.next ≡ p.states
next_many p g z d lawful e =
    let s = words_there p g z d e in let ws = s.0 in
    let many = words_length p g z ws s.1 in
    let enough = lawful.counts.enough in
    let same : drop p.outputs (drop (first_copy p) ws) ≡ d.next = ap (λ (t : Step ℤ). t.next) s.2 in
    ap length (sym same) ∙ (let a = length-drop p.outputs (drop (first_copy p) ws) in
    let b = length-drop (first_copy p) ws in omega arith)

-- what does the machine's step wherever that isn't stuck and each word lies in its width
abbrev pub StepsAs : Program → List ℕ → (List Rational → List ℤ → Option (Step ℤ)) → Type 0
StepsAs p ns step =
    (g : List Rational) (z ws : List ℤ) → length z ≡ p.states → words_of p g z ≡ Some ws → FitWidths ns ws
    → step g z ≡ machine_step p g z

-- behind a step, the run over the other rows
run_from : Step ℤ → Run ℤ → Run ℤ
run_from d r = record { outputs = d.outputs ∷ r.outputs; last = r.last }

pub rows_give : (p : Program) (ns : List ℕ) (step : List Rational → List ℤ → Option (Step ℤ)) → StepsAs p ns step →
    (rows : List (List Rational)) (z : List ℤ) (run : Run ℤ) → IsLawfulProgram p
    → length z ≡ p.states → run_of (machine_step p) rows z ≡ Some run → RowsFitWidths p ns rows z
    → run_of step rows z ≡ Some run
unfolding run_from
rows_give p ns step does [] z run lawful states e within = e
rows_give p ns step does (g ∷ rows) z run lawful states e within =
    let s =
    some_then (λ (s : Step ℤ). option_map (run_from s) (run_of (machine_step p) rows s.next))
    (machine_step p g z) run e in
    let d = s.0 in
    let w = words_there p g z d s.1 in
    let here = within w.0 w.1 in
    let tail = λ (r : Run ℤ). λ (h : run_of (machine_step p) rows d.next ≡ Some r).
    rows_give p ns step does rows d.next r lawful (next_many p g z d lawful s.1) h (here.1 d s.1) in
    ap (option_and_then (λ (s : Step ℤ). option_map (run_from s) (run_of step rows s.next)))
    (does g z w.0 states w.1 here.0 ∙ s.1)
    ∙ mapped d (run_of (machine_step p) rows d.next) (run_of step rows d.next) tail s.2
  where
    mapped : (d : Step ℤ) (o q : Option (Run ℤ)) → ((r : Run ℤ) → o ≡ Some r → q ≡ Some r) →
        option_map (run_from d) o ≡ Some run
        → option_map (run_from d) q ≡ Some run
    mapped d None q f e = absurd cc
    mapped d (Some r) q f e = ap (option_map (run_from d)) (f r refl) ∙ e
