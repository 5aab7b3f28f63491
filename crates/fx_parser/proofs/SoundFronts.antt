-- What stands before a body that is read is lawful, and its names are names.
use Rattle.std.proofs.Common.{◌≡◌, ℕ, ◌+◌, ◌<◌, ◌≤◌, eqb, List, [], ◌∷◌, ◌++◌, length, drop, Ok, subst, length-append, arith, rules, tests}
use Rattle.std.specs.Prelude.{nat_le, nat_lt}
use Rattle.std.specs.List.{All}
use Rattle.std.proofs.lemmas.List.Elements.{All-append, All-nil}
use Rattle.fx_rational.specs.Decimal.{decimal_value}
use Rattle.fx_model.specs.Names.{IsName}
use Rattle.fx_model.specs.Function as model
use Rattle.fx_lexer.specs.Tokens.{Lexeme}
use Rattle.fx_grammar.specs.declared.head.Head.TheVariants as heads
use Rattle.fx_grammar.specs.Heads.{◌==ₕ◌}
use Rattle.fx_grammar.specs.Steps.{Tokens, Text, next_head, next_place, listed, free_at}
use Rattle.fx_grammar.specs.Ranges.{Subjects, new_subject, names_of}
use Rattle.fx_grammar.specs.Fronts.{param_at, Declared, declared_state, states_at, one_real, more_than, type_at}
use Rattle.fx_parser.specs.LawfulTokens.{AreSound}
use Rattle.fx_model.proofs.Steps.{on_ok}
use Rattle.fx_parser.proofs.Reading.{only, on_if, refused, same_ok, sound_drop, want_ok, real_ok, listed_ok}
use Rattle.fx_parser.proofs.SoundSubjects.{IsSubject, is_name, new_ok, signed_ok}

pub free_ok : (limit count : ℕ) (names : List Text) (t : Lexeme) (u : Unit {0}) → count ≤ limit →
    free_at limit count names t ≡ Ok u → count + 1 ≤ limit
unfolding free_at
free_ok limit count names t u le e =
    let r = (refused (eqb count limit) _ _ u e).0 in
    let apart : (count ≡ limit) → ⊥ = search (rules, tests) in omega (arith, le, apart)

abbrev pub Params : Subjects → Type 0
Params ss = (1 ≤ length ss) × (length ss ≤ 64) × All IsSubject ss

param_ok : (end : ℕ) (ss : Subjects) (ts : Tokens) (x : Subjects × Tokens) → length ss ≤ 64 → All IsSubject ss →
    AreSound ts → param_at end ss ts ≡ Ok x → Params x.0 × AreSound x.1
unfolding param_at
param_ok end ss ts x le a s e =
    on_ok _ _ x e (λ t te e. on_ok _ _ x e (λ u ue e. on_ok _ _ x e (λ c ce e. on_ok _ _ x e (λ r re e.
    let w = want_ok end heads.Name ts t s te in
    let v = want_ok end heads.Colon t.1 c w.2 ce in
    let few = free_ok 64 (length ss) (names_of ss) t.0 u le ue in
    let n = length-append ss (new_subject t.0 ∷ []) in
    subst (λ (y : Subjects × Tokens). Params y.0 × AreSound y.1) (same_ok (ss ++ new_subject t.0 ∷ [], r.1) x e) (
      (
        omega (arith, n),
        omega (arith, n, few),
        All-append IsSubject ss (new_subject t.0 ∷ []) a (only IsSubject (new_subject t.0) (new_ok t.0 w.0 w.1)),
      ),
      real_ok end c.1 r v.2 re,
    )))))

pub params_ok : (end : ℕ) (ts : Tokens) (x : Subjects × Tokens) → AreSound ts → listed (param_at end) end [] ts ≡ Ok x →
    Params x.0 × AreSound x.1
params_ok end ts x s e = listed_ok (λ ss. (length ss ≤ 64) × All IsSubject ss) Params (param_at end) end
    (λ ss ts x p s e. param_ok end ss ts x p.0 p.1 s e) (λ ss ts x p s e. param_ok end ss ts x p.1 p.2 s e) [] ts x
    (omega arith, All-nil IsSubject) s e

abbrev pub AreStates : ℕ → Declared → Type 0
AreStates n h = (length h.names ≡ n + length h.states) × (length h.states ≤ 32) × All (λ s. IsName s.name) h.states

state_ok : (n end : ℕ) (h : Declared) (ts : Tokens) (x : Declared × Tokens) → AreStates n h → AreSound ts →
    declared_state end h ts ≡ Ok x → AreStates n x.0 × AreSound x.1
unfolding declared_state
state_ok n end h ts x p s e =
    on_ok _ _ x e (λ t te e. on_ok _ _ x e
    (λ u ue e. on_ok _ _ x e (λ c ce e. on_ok _ _ x e (λ r re e. on_ok _ _ x e (λ q qe e. on_ok _ _ x e (λ d de e.
    let w = want_ok end heads.Name ts t s te in
    let v = want_ok end heads.Colon t.1 c w.2 ce in
    let z = want_ok end heads.Equals r.1 q (real_ok end c.1 r v.2 re) qe in
    let few = free_ok 32 (length h.states) h.names t.0 u p.1 ue in
    let one : model.State = record { name = t.0.text; start = decimal_value d.0 } in
    let more : Declared = record { names = h.names ++ t.0.text ∷ []; states = h.states ++ one ∷ [] } in
    subst (λ (y : Declared × Tokens). AreStates n y.0 × AreSound y.1) (same_ok (more, d.1) x e) (
      (
        omega (arith, length-append h.names (t.0.text ∷ []), length-append h.states (one ∷ []), p.0),
        omega (arith, length-append h.states (one ∷ []), few),
        All-append (λ s. IsName s.name) h.states (one ∷ []) p.2 (only (λ s. IsName s.name) one (is_name t.0 w.0 w.1)),
      ),
      signed_ok end q.1 d z.2 de,
    )))))))

pub states_ok : (end : ℕ) (names : List Text) (ts : Tokens) (x : Declared × Tokens) → AreSound ts →
    states_at end names ts ≡ Ok x → AreStates (length names) x.0 × AreSound x.1
unfolding states_at
states_ok end names ts x s e =
    let none : AreStates (length names) (record { names = names; states = [] }) =
    (omega arith, omega arith, All-nil (λ (s : model.State). IsName s.name)) in
    on_if (next_head ts ==ₕ heads.Open) _ _ x e
    (λ on e. listed_ok (AreStates (length names)) (AreStates (length names)) (declared_state end) end
    (state_ok (length names) end) (state_ok (length names) end) _ (drop 1 ts) x none (sound_drop 1 ts s) e)
    (λ off e. subst (λ (y : Declared × Tokens). AreStates (length names) y.0 ×
    AreSound y.1) (same_ok (_, ts) x e) (none, s))

real_count : (end first states n : ℕ) (ts : Tokens) (x : ℕ × Tokens) → AreSound ts →
    one_real end first states n ts ≡ Ok x → (x.0 ≤ states + 64) × AreSound x.1
unfolding one_real
real_count end first states n ts x s e =
    on_ok _ _ x e (λ r re e. on_if (nat_lt (states + 64) (n + 1)) _ _ x e (λ on e. absurd cc) (λ off e.
    let le : n + 1 ≤ states + 64 = search (rules, tests) in
    subst (λ (y : ℕ × Tokens). (y.0 ≤ states + 64) × AreSound y.1) (same_ok (n + 1, r.1) x e) (
      le,
      real_ok end ts r s re,
    )))

more_count : (first states : ℕ) (y x : ℕ × Tokens) → (y.0 ≤ states + 64) × AreSound y.1 →
    more_than first states y ≡ Ok x → (states < x.0) × (x.0 ≤ states + 64) × AreSound x.1
more_count first states y x p e = on_if (nat_le y.0 states) _ _ x e (λ on e. absurd cc) (λ off e.
    let lt : states < y.0 = search (rules, tests) in
    subst (λ (z : ℕ × Tokens). (states < z.0) × (z.0 ≤ states + 64) × AreSound z.1) (same_ok y x e) (lt, p.0, p.1))

pub type_ok : (end states : ℕ) (ts : Tokens) (x : ℕ × Tokens) → AreSound ts → type_at end states ts ≡ Ok x →
    (states < x.0) × (x.0 ≤ states + 64) × AreSound x.1
unfolding type_at
type_ok end states ts x s e = on_if (next_head ts ==ₕ heads.Open) _ _ x e
    (λ on e. on_ok _ _ x e (λ y ye e. more_count _ states y x
    (listed_ok (λ n. Unit {0}) (λ n. n ≤ states + 64) (one_real end (next_place end ts) states) end
    (λ n ts x p s e. real_count end _ states n ts x s e) (λ n ts x p s e. real_count end _ states n ts x s e) 0
    (drop 1 ts) y (tt {0}) (sound_drop 1 ts s) ye) e))
    (λ off e. on_ok (one_real end (next_place end ts) states 0 ts) (more_than (next_place end ts) states) x e
    (λ y ye e. more_count (next_place end ts) states y x (real_count end (next_place end ts) states 0 ts y s ye) e))
