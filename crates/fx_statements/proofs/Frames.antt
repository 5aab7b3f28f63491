-- The step of a program in any language: its head is kept, and its ends give what the machine gives, where each name's
-- value is the word of its code.
use Rattle.std.proofs.Common.{◌≡◌, ℕ, ◌+◌, ℤ, Bool, true, cond, nat_eq, List, length, take, drop, Option, Some, None, sym, ap, ◌∙◌, arith, length-drop}
use Rattle.std.specs.Prelude.{◌&&◌}
use Rattle.std.specs.Option.{option_map, option_and_then}
use Rattle.std.specs.List.{range_with_len}
use Rattle.std.proofs.lemmas.List.{drop-drop, take_all}
use Rattle.std.proofs.lemmas.List.FromFn.{length-range_with_len}
use Rattle.fx_rational.specs.Rational.{Rational}
use Rattle.fx_model.specs.Function.{Step, step_of}
use Rattle.fx_model.specs.Machine.{Program, first_copy, words_of, machine_step}
use Rattle.fx_model.specs.LawfulProgram.{IsLawfulProgram}
use Rattle.fx_model.proofs.Words.{words_length}
use Rattle.fx_statements.specs.Statements.{Routine}
use Rattle.fx_statements.specs.Meaning.{Names, stored, values_of, ended, keeps_head}
use Rattle.fx_statements.specs.OfProgram.{stores_of, input_words}
use Rattle.fx_statements.proofs.Inputs.{input_count}
use Rattle.fx_statements.proofs.Ends.{AreWordsOf, outputs_give, states_give}

-- ---- the head
equal : (m n : ℕ) → m ≡ n → nat_eq m n ≡ true
equal m n e = grind arith

pub head_kept : (r : Routine) (s x : List ℤ) → length s ≡ r.states → length x ≡ r.inputs →
    length r.results ≡ r.outputs → keeps_head r s x ≡ true
head_kept r s x states inputs outputs =
    let last = nat_eq (length r.results) r.outputs in
    ap (λ (b : Bool). b && (nat_eq (length x) r.inputs && last)) (equal (length s) r.states states)
    ∙ ap (λ (b : Bool). b && last) (equal (length x) r.inputs inputs) ∙ equal (length r.results) r.outputs outputs

-- ---- all behind the names
-- what a program says of its statements, whatever their values are
pub record IsFrameOf (p : Program) (r : Routine) : Type 0 where
  pub states : r.states ≡ p.states
  pub inputs : r.inputs ≡ p.inputs
  pub outputs : r.outputs ≡ p.outputs
  pub stores : r.stores ≡ stores_of (first_copy p + p.outputs) p.states
  pub results : r.results ≡ range_with_len (first_copy p) p.outputs

-- in three parts
in_parts : (r : Routine) (s x : List ℤ) (names : Option Names) (last : Names) (next outputs : List ℤ)
    (value : Names → ℕ → Option ℤ) → keeps_head r s x ≡ true → names ≡ Some last
    → stored (value last) r.stores s ≡ Some next → values_of (value last) r.results ≡ Some outputs
    → cond (keeps_head r s x) (option_and_then (λ names. ended (value names) r s) names) None
    ≡ Some record { outputs = outputs; next = next }
in_parts r s x names last next outputs value k a b c =
    let put : List ℤ → List ℤ → Step ℤ = λ next outputs. record { outputs = outputs; next = next } in
    ap (λ (t : Bool). cond t (option_and_then (λ names. ended (value names) r s) names) None) k
    ∙ ap (option_and_then (λ names. ended (value names) r s)) a
    ∙ ap (option_and_then (λ next. option_map (put next) (values_of (value last) r.results))) b
    ∙ ap (option_map (put next)) c

-- the words tell the machine's step
pub words_give : (p : Program) (g : List Rational) (z ws : List ℤ) → words_of p g z ≡ Some ws →
    machine_step p g z ≡ Some (step_of p.outputs (drop (first_copy p) ws))
words_give p g z ws e = ap (option_map (λ us. step_of p.outputs (drop (first_copy p) us))) e

pub frame_gives : (p : Program) (r : Routine) (g : List Rational) (z ws : List ℤ) (names : Option Names) (last : Names)
    (value : Names → ℕ → Option ℤ) → IsFrameOf p r → IsLawfulProgram p → length z ≡ p.states → words_of p g z ≡ Some ws
    → names ≡ Some last → AreWordsOf (value last) ws
    → cond (keeps_head r z (input_words p.codes g)) (option_and_then (λ names. ended (value names) r z) names) None
    ≡ Some (step_of p.outputs (drop (first_copy p) ws))
frame_gives p r g z ws names last value frame lawful states e is known =
    let first = first_copy p in
    let enough = lawful.counts.enough in
    let many = words_length p g z ws e in
    let outputs : values_of (value last) r.results ≡ Some (take p.outputs (drop first ws)) =
    ap (values_of (value last)) frame.results ∙ outputs_give (value last) ws known first p.outputs (omega arith) in
    let all : take (length z) (drop (first + p.outputs) ws) ≡ drop p.outputs (drop first ws) =
    take_all (length z) (drop (first + p.outputs) ws) (let l = length-drop (first + p.outputs) ws in omega arith)
    ∙ sym (drop-drop p.outputs first ws) in
    let next : stored (value last) r.stores z ≡ Some (drop p.outputs (drop first ws)) =
    ap (λ ts. stored (value last) ts z) frame.stores
    ∙ ap (λ (k : ℕ). stored (value last) (stores_of (first + p.outputs) k) z) (sym states)
    ∙ states_give (value last) ws known z (first + p.outputs) (omega arith) ∙ ap Some all in
    let head = head_kept r z (input_words p.codes g) (states ∙ sym frame.states)
    (input_count p g lawful ∙ sym frame.inputs)
    (ap length frame.results ∙ length-range_with_len first p.outputs ∙ sym frame.outputs) in
    in_parts r z (input_words p.codes g) names last (drop p.outputs (drop first ws)) (take p.outputs (drop first ws))
    value head is next outputs
