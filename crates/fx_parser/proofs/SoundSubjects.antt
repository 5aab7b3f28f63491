-- What is said of inputs and outputs.
use Rattle.std.proofs.Common.{◌≡◌, ℕ, suc, ◌<◌, Bool, true, false, cond, eqb, List, [], ◌∷◌, length, map, drop, Option, Some, None, Ok, refl, subst, ◌∙◌}
use Rattle.std.specs.Prelude.{bytes_eq, codes, not, slice_set, IfSome}
use Rattle.std.specs.List.{All}
use Rattle.std.proofs.lemmas.List.{length-set, length-map}
use Rattle.std.proofs.lemmas.List.Elements.{All-set, All-get_or, All-head, All-tail, All-nil, All-cons}
use Rattle.std.proofs.lemmas.List.Quantifiers.{position-Some}
use Rattle.fx_rational.specs.Decimal.{Decimal}
use Rattle.fx_rational.proofs.Tests.{at_most_true}
use Rattle.fx_model.specs.Names.{IsName}
use Rattle.fx_model.specs.Rows.{AreInputs}
use Rattle.fx_model.specs.Function as model
use Rattle.fx_lexer.specs.declared.fault.SourceFault.{SourceFault}
use Rattle.fx_lexer.specs.declared.token.TokenKind.{TokenKind}
use Rattle.fx_lexer.specs.declared.token.TokenKind.TheVariants as kinds
use Rattle.fx_lexer.specs.declared.fault.SourceKind.TheVariants as faults
use Rattle.fx_lexer.specs.Tokens.{Lexeme}
use Rattle.fx_grammar.specs.declared.head.Head.{Head}
use Rattle.fx_grammar.specs.declared.head.Head.TheVariants as heads
use Rattle.fx_grammar.specs.declared.aspect.Aspect.{Aspect}
use Rattle.fx_grammar.specs.declared.aspect.Aspect.TheVariants.{Low, High, Error}
use Rattle.fx_grammar.specs.Heads.{head_of, by_kind, word_head, sign_head, head_number, ◌==ₕ◌}
use Rattle.fx_model.specs.Steps.{◌>>=◌}
use Rattle.fx_grammar.specs.Steps.{fault, Tokens, name_place, next_head, decimal, numeral_at, signed_at}
use Rattle.fx_grammar.specs.Ranges.{Subject, Subjects, new_subject, names_of, aspect_of, with_aspect, is_said, subject_or, said, found_or, subject_at, is_relation, is_upward, is_signed, stated_error, bound_at, name_first, behind_relation, number_first, condition_at, Conditions, are_open, wanted_at, read_at, conditions_step, conditions_at, or_zero, declared_input, is_lacking, is_empty_range, all_pass, inputs_at, require_at}
use Rattle.fx_parser.specs.LawfulTokens.{IsSize, IsSound, IsSoundText, AreSound}
use Rattle.fx_model.proofs.Steps.{on_ok}
use Rattle.fx_parser.proofs.Reading.{fine, on_when, on_if, refused, same_ok, sound_drop, want_ok, repeat_ok}
use Rattle.fx_parser.proofs.SoundTokens.{is_size}

-- ---- tokens

-- a head other than that of this number
record Apart (n : ℕ) (h : Head) : Type 0 where
  apart : eqb (head_number h) n ≡ false

neither : (n : ℕ) (b : Bool) (x y : Head) → Apart n x → Apart n y → Apart n (cond b x y)
neither n true x y e f = e
neither n false x y e f = f

no_name_word : (text : List ℕ) → Apart 1 (word_head text)
no_name_word text =
    neither 1 (bytes_eq text (codes "import")) heads.Import _ (record { apart = refl }) (
    neither 1 (bytes_eq text (codes "object")) heads.Object _ (record { apart = refl }) (
    neither 1 (bytes_eq text (codes "def")) heads.Def _ (record { apart = refl }) (
    neither 1 (bytes_eq text (codes "val")) heads.Val _ (record { apart = refl }) (
    neither 1 (bytes_eq text (codes "require")) heads.Require _ (record { apart = refl }) (
    neither 1 (bytes_eq text (codes "ensuring")) heads.Ensuring _ (record { apart = refl })
    (record { apart = refl }))))))

no_name_sign : (text : List ℕ) → Apart 1 (sign_head text)
no_name_sign text =
    neither 1 (bytes_eq text (codes "+")) heads.Plus _ (record { apart = refl }) (
    neither 1 (bytes_eq text (codes "-")) heads.Minus _ (record { apart = refl }) (
    neither 1 (bytes_eq text (codes "*")) heads.Star _ (record { apart = refl }) (
    neither 1 (bytes_eq text (codes "/")) heads.Slash _ (record { apart = refl }) (
    neither 1 (bytes_eq text (codes "(")) heads.Open _ (record { apart = refl }) (
    neither 1 (bytes_eq text (codes ")")) heads.Close _ (record { apart = refl }) (
    neither 1 (bytes_eq text (codes "{")) heads.OpenBrace _ (record { apart = refl }) (
    neither 1 (bytes_eq text (codes "}")) heads.CloseBrace _ (record { apart = refl }) (
    neither 1 (bytes_eq text (codes ":")) heads.Colon _ (record { apart = refl }) (
    neither 1 (bytes_eq text (codes ",")) heads.Comma _ (record { apart = refl }) (
    neither 1 (bytes_eq text (codes ".")) heads.Dot _ (record { apart = refl }) (
    neither 1 (bytes_eq text (codes ";")) heads.Semicolon _ (record { apart = refl }) (
    neither 1 (bytes_eq text (codes "<")) heads.Below _ (record { apart = refl }) (
    neither 1 (bytes_eq text (codes "<=")) heads.AtMost _ (record { apart = refl }) (
    neither 1 (bytes_eq text (codes ">")) heads.Above _ (record { apart = refl }) (
    neither 1 (bytes_eq text (codes ">=")) heads.AtLeast _ (record { apart = refl }) (
    neither 1 (bytes_eq text (codes "+/-")) heads.PlusMinus _ (record { apart = refl }) (
    neither 1 (bytes_eq text (codes "&&")) heads.And _ (record { apart = refl }) (
    neither 1 (bytes_eq text (codes "=>")) heads.Arrow _ (record { apart = refl }) (
    neither 1 (bytes_eq text (codes "=")) heads.Equals _ (record { apart = refl })
    (record { apart = refl }))))))))))))))))))))

no_number_word : (text : List ℕ) → Apart 2 (word_head text)
no_number_word text =
    neither 2 (bytes_eq text (codes "import")) heads.Import _ (record { apart = refl }) (
    neither 2 (bytes_eq text (codes "object")) heads.Object _ (record { apart = refl }) (
    neither 2 (bytes_eq text (codes "def")) heads.Def _ (record { apart = refl }) (
    neither 2 (bytes_eq text (codes "val")) heads.Val _ (record { apart = refl }) (
    neither 2 (bytes_eq text (codes "require")) heads.Require _ (record { apart = refl }) (
    neither 2 (bytes_eq text (codes "ensuring")) heads.Ensuring _ (record { apart = refl })
    (record { apart = refl }))))))

no_number_sign : (text : List ℕ) → Apart 2 (sign_head text)
no_number_sign text =
    neither 2 (bytes_eq text (codes "+")) heads.Plus _ (record { apart = refl }) (
    neither 2 (bytes_eq text (codes "-")) heads.Minus _ (record { apart = refl }) (
    neither 2 (bytes_eq text (codes "*")) heads.Star _ (record { apart = refl }) (
    neither 2 (bytes_eq text (codes "/")) heads.Slash _ (record { apart = refl }) (
    neither 2 (bytes_eq text (codes "(")) heads.Open _ (record { apart = refl }) (
    neither 2 (bytes_eq text (codes ")")) heads.Close _ (record { apart = refl }) (
    neither 2 (bytes_eq text (codes "{")) heads.OpenBrace _ (record { apart = refl }) (
    neither 2 (bytes_eq text (codes "}")) heads.CloseBrace _ (record { apart = refl }) (
    neither 2 (bytes_eq text (codes ":")) heads.Colon _ (record { apart = refl }) (
    neither 2 (bytes_eq text (codes ",")) heads.Comma _ (record { apart = refl }) (
    neither 2 (bytes_eq text (codes ".")) heads.Dot _ (record { apart = refl }) (
    neither 2 (bytes_eq text (codes ";")) heads.Semicolon _ (record { apart = refl }) (
    neither 2 (bytes_eq text (codes "<")) heads.Below _ (record { apart = refl }) (
    neither 2 (bytes_eq text (codes "<=")) heads.AtMost _ (record { apart = refl }) (
    neither 2 (bytes_eq text (codes ">")) heads.Above _ (record { apart = refl }) (
    neither 2 (bytes_eq text (codes ">=")) heads.AtLeast _ (record { apart = refl }) (
    neither 2 (bytes_eq text (codes "+/-")) heads.PlusMinus _ (record { apart = refl }) (
    neither 2 (bytes_eq text (codes "&&")) heads.And _ (record { apart = refl }) (
    neither 2 (bytes_eq text (codes "=>")) heads.Arrow _ (record { apart = refl }) (
    neither 2 (bytes_eq text (codes "=")) heads.Equals _ (record { apart = refl })
    (record { apart = refl }))))))))))))))))))))

never : {P : Type 0} (b : Bool) → b ≡ false → b ≡ true → P
never true e f = absurd cc
never false e f = absurd cc

pub is_name : (t : Lexeme) → (head_of t ==ₕ heads.Name) ≡ true → IsSound t → IsName t.text
unfolding head_of
is_name t e s = by t.kind e s where
  by : (k : TokenKind) → eqb (head_number (by_kind k t.text)) 1 ≡ true → IsSoundText k t.text → IsName t.text
  by kinds.Name e s = s
  by kinds.Number e s = absurd cc
  by kinds.Word e s = never _ (no_name_word t.text).apart e
  by kinds.Sign e s = never _ (no_name_sign t.text).apart e

is_number : (t : Lexeme) → (head_of t ==ₕ heads.Number) ≡ true → IsSound t → IsSize (decimal t.text)
unfolding head_of
is_number t e s = by t.kind e s where
  by : (k : TokenKind) → eqb (head_number (by_kind k t.text)) 2 ≡ true → IsSoundText k t.text → IsSize (decimal t.text)
  by kinds.Name e s = absurd cc
  by kinds.Number e s = s
  by kinds.Word e s = never _ (no_number_word t.text).apart e
  by kinds.Sign e s = never _ (no_number_sign t.text).apart e

pub number_ok : (end : ℕ) (ts : Tokens) (x : Decimal × Tokens) → AreSound ts → numeral_at end ts ≡ Ok x →
    IsSize x.0 × AreSound x.1
unfolding numeral_at
number_ok end ts x s e = on_ok _ _ x e (λ t te e.
    let w = want_ok end heads.Number ts t s te in
    subst (λ (y : Decimal × Tokens). IsSize y.0 ×
    AreSound y.1) (same_ok (decimal t.0.text, t.1) x e) (is_number t.0 w.0 w.1, w.2))

pub signed_ok : (end : ℕ) (ts : Tokens) (x : Decimal × Tokens) → AreSound ts → signed_at end ts ≡ Ok x → AreSound x.1
unfolding signed_at
signed_ok end ts x s e = on_if (next_head ts ==ₕ heads.Minus) _ _ x e
    (λ on e. on_ok _ _ x e (λ d de e. subst (λ (y : Decimal × Tokens). AreSound y.1) (same_ok (_, d.1) x e)
    (number_ok end (drop 1 ts) d (sound_drop 1 ts s) de).1))
    (λ off e. (number_ok end ts x s e).1)

-- ---- subjects

abbrev pub IsSubject : Subject → Type 0
IsSubject s = IsName s.name × IfSome s.err IsSize

abbrev pub AreSubjects : ℕ → Subjects → Type 0
AreSubjects n ss = (length ss ≡ n) × All IsSubject ss

pub new_ok : (t : Lexeme) → (head_of t ==ₕ heads.Name) ≡ true → IsSound t → IsSubject (new_subject t)
new_ok t e s = (is_name t e s, tt {0})

subject_at_ok : (ss : Subjects) (t : Lexeme) (k : ℕ) → subject_at ss t ≡ Ok k → k < length ss
unfolding subject_at
subject_at_ok ss t k e = by (name_place (names_of ss) t.text) refl e where
  by : (o : Option ℕ) → name_place (names_of ss) t.text ≡ o → found_or t o ≡ Ok k → k < length ss
  by None q e = absurd cc
  by (Some p) q e =
      let l : p < length (names_of ss) = (position-Some (λ name. bytes_eq name t.text) (names_of ss) p [] q).0 in
      let m : p < length ss = simp length-map at l in
      subst (λ (j : ℕ). j < length ss) (same_ok p k e) m

-- an error is a size
abbrev IsSaid : Aspect → Decimal → Type 0
IsSaid Error d = IsSize d
IsSaid _ d = Unit {0}

with_aspect_ok : (aspect : Aspect) (d : Decimal) (s : Subject) → IsSaid aspect d → IsSubject s →
    IsSubject (with_aspect aspect d s)
with_aspect_ok Low d s p q = q
with_aspect_ok High d s p q = q
with_aspect_ok Error d s p q = (q.0, p)

said_ok : (n : ℕ) (aspect : Aspect) (d : Decimal) (t : Lexeme) (ss : Subjects) (k : ℕ) (x : Subjects) → k < length ss →
    IsSaid aspect d → AreSubjects n ss → said aspect d t ss k ≡ Ok x → AreSubjects n x
unfolding said
said_ok n aspect d t ss k x lt p q e =
    let r =
    refused (is_said (aspect_of aspect (subject_or ss k))) _
    (Ok (slice_set ss k (with_aspect aspect d (subject_or ss k)))) x e in
    let all =
    All-set IsSubject ss k (with_aspect aspect d (subject_or ss k))
    (with_aspect_ok aspect d (subject_or ss k) p (All-get_or IsSubject ss k _ lt q.1)) q.1 in
    subst (λ (y : Subjects). AreSubjects n y) (same_ok _ x r.1) (
      length-set ss k (with_aspect aspect d (subject_or ss k))
          ∙ q.0,
      all,
    )

error_ok : (n end : ℕ) (ss : Subjects) (t : Lexeme) (k : ℕ) (ts : Tokens) (x : Subjects × Tokens) → k < length ss →
    AreSubjects n ss → AreSound ts → stated_error end ss t k ts ≡ Ok x → AreSubjects n x.0 × AreSound x.1
unfolding stated_error
error_ok n end ss t k ts x lt q s e = on_ok _ _ x e (λ d de e. on_ok _ _ x e (λ y ye e.
    let w = number_ok end ts d s de in
    subst (λ (z : Subjects × Tokens). AreSubjects n z.0 ×
    AreSound z.1) (same_ok (y, d.1) x e) (said_ok n Error d.0 t ss k y lt w.0 q ye, w.1)))

bound_ok : (n end : ℕ) (ss : Subjects) (t : Lexeme) (k : ℕ) (aspect : Aspect) (ts : Tokens) (x : Subjects × Tokens) →
    ((d : Decimal) → IsSaid aspect d) → k < length ss → AreSubjects n ss → AreSound ts →
    bound_at end ss t k aspect ts ≡ Ok x → AreSubjects n x.0 × AreSound x.1
unfolding bound_at
bound_ok n end ss t k aspect ts x free lt q s e =
    on_if (next_head ts ==ₕ heads.Name) _ _ x e (λ on e. absurd cc) (λ off e.
    on_ok _ _ x e (λ d de e. on_ok _ _ x e (λ y ye e.
    subst (λ (z : Subjects × Tokens). AreSubjects n z.0 ×
    AreSound z.1) (same_ok (y, d.1) x e) (
      said_ok n aspect d.0 t ss k y lt (free d.0) q ye,
      signed_ok end ts d s de,
    ))))

either_end : (b : Bool) (d : Decimal) → IsSaid (cond b High Low) d
either_end true d = tt {0}
either_end false d = tt {0}

other_end : (b : Bool) (d : Decimal) → IsSaid (cond b Low High) d
other_end true d = tt {0}
other_end false d = tt {0}

name_first_ok : (n end : ℕ) (ss : Subjects) (ts : Tokens) (x : Subjects × Tokens) → AreSubjects n ss → AreSound ts →
    name_first end ss ts ≡ Ok x → AreSubjects n x.0 × AreSound x.1
unfolding name_first
name_first_ok n end ss ts x q s e = on_ok _ _ x e (λ t te e. on_ok _ _ x e (λ k ke e.
    let w = want_ok end heads.Name ts t s te in
    let lt = subject_at_ok ss t.0 k ke in
    on_if (next_head t.1 ==ₕ heads.PlusMinus) _ _ x e
    (λ on e. error_ok n end ss t.0 k (drop 1 t.1) x lt q (sound_drop 1 t.1 w.2) e)
    (λ off e. on_if (is_relation (next_head t.1)) _ _ x e
    (λ on e. bound_ok n end ss t.0 k _ (drop 1 t.1) x (either_end (is_upward (next_head t.1))) lt q
    (sound_drop 1 t.1 w.2) e)
    (λ off e. absurd cc))))

behind_relation_ok : (n end first : ℕ) (ss : Subjects) (d : Decimal) (aspect : Aspect) (ts : Tokens) (x : Subjects ×
    Tokens) → IsSaid aspect d → AreSubjects n ss → AreSound ts → behind_relation end first ss d aspect ts ≡ Ok x →
    AreSubjects n x.0 × AreSound x.1
unfolding behind_relation
behind_relation_ok n end first ss d aspect ts x free q s e = on_if (is_signed ts) _ _ x e (λ on e. absurd cc) (λ off e.
    on_ok _ _ x e (λ t te e. on_ok _ _ x e (λ k ke e. on_ok _ _ x e (λ y ye e.
    let w = want_ok end heads.Name ts t s te in
    subst (λ (z : Subjects × Tokens). AreSubjects n z.0 ×
    AreSound z.1) (same_ok (y, t.1) x e) (
      said_ok n aspect d t.0 ss k y (subject_at_ok ss t.0 k ke) free q ye,
      w.2,
    )))))

number_first_ok : (n end : ℕ) (ss : Subjects) (ts : Tokens) (x : Subjects × Tokens) → AreSubjects n ss → AreSound ts →
    number_first end ss ts ≡ Ok x → AreSubjects n x.0 × AreSound x.1
unfolding number_first
number_first_ok n end ss ts x q s e = on_ok _ _ x e (λ d de e.
    let w = signed_ok end ts d s de in
    on_if (is_relation (next_head d.1)) _ _ x e
    (λ on e. behind_relation_ok n end _ ss d.0 _ (drop 1 d.1) x (other_end (is_upward (next_head d.1)) d.0) q
    (sound_drop 1 d.1 w) e)
    (λ off e. absurd cc))

pub condition_ok : (n end : ℕ) (ss : Subjects) (ts : Tokens) (x : Subjects × Tokens) → AreSubjects n ss → AreSound ts →
    condition_at end ss ts ≡ Ok x → AreSubjects n x.0 × AreSound x.1
unfolding condition_at
condition_ok n end ss ts x q s e =
    on_if (next_head ts ==ₕ heads.Name) _ _ x e (λ on e. name_first_ok n end ss ts x q s e)
    (λ off e. number_first_ok n end ss ts x q s e)

abbrev AreConditions : ℕ → Conditions → Type 0
AreConditions n c = AreSubjects n c.subjects

kept_conditions : (n : ℕ) (c : Conditions) (ts : Tokens) (x : Conditions × Tokens) → fine (c, ts) ≡ Ok x →
    AreConditions n c → AreSound ts → AreConditions n x.0 × AreSound x.1
kept_conditions n c ts x e q s =
    subst (λ (z : Conditions × Tokens). AreConditions n z.0 × AreSound z.1) (same_ok (c, ts) x e) (q, s)

wanted_ok : (n end : ℕ) (c : Conditions) (ts : Tokens) (x : Conditions × Tokens) → AreConditions n c → AreSound ts →
    wanted_at end c ts ≡ Ok x → AreConditions n x.0 × AreSound x.1
wanted_ok n end c [] x q s e = absurd cc
wanted_ok n end c (t ∷ ts) x q s e = on_if (head_of t ==ₕ heads.Open) _ _ x e
    (λ on e. kept_conditions n _ ts x e q (All-tail IsSound t ts s))
    (λ off e. on_ok _ _ x e (λ y ye e. let w = condition_ok n end c.subjects (t ∷ ts) y q s ye in
    kept_conditions n _ y.1 x e w.0 w.1))

read_ok : (n end : ℕ) (c : Conditions) (ts : Tokens) (x : Conditions × Tokens) → AreConditions n c → AreSound ts →
    read_at end c ts ≡ Ok x → AreConditions n x.0 × AreSound x.1
read_ok n end c [] x q s e = absurd cc
read_ok n end c (t ∷ ts) x q s e = on_if (head_of t ==ₕ heads.Close) _ _ x e
    (λ on e. kept_conditions n _ ts x e q (All-tail IsSound t ts s))
    (λ off e. on_if (head_of t ==ₕ heads.And) _ _ x e (λ on e. kept_conditions n _ ts x e q (All-tail IsSound t ts s))
    (λ off e. absurd cc))

step_ok : (n end : ℕ) (c : Conditions) (ts : Tokens) (x : Conditions × Tokens) → AreConditions n c → AreSound ts →
    conditions_step end c ts ≡ Ok x → AreConditions n x.0 × AreSound x.1
unfolding conditions_step
step_ok n end c ts x q s e =
    on_if c.wants _ _ x e (λ on e. wanted_ok n end c ts x q s e) (λ off e. read_ok n end c ts x q s e)

conditions_ok : (n end : ℕ) (c : Conditions) (ts : Tokens) (x : Conditions × Tokens) → AreConditions n c → AreSound ts →
    conditions_at end c ts ≡ Ok x → AreConditions n x.0 × AreSound x.1
unfolding conditions_at
conditions_ok n end c ts x q s e = on_ok _ _ x e (λ y ye e.
    let w = step_ok n end c ts y q s ye in
    repeat_ok (AreConditions n) are_open (conditions_step end) (step_ok n end) (suc (length y.1)) y.0 y.1 x w.0 w.1 e)

-- ---- inputs

pub all_pass_ok : (fails : Subject → Bool) (faulty : ℕ → SourceFault) (ss : Subjects) (u : Unit {0}) →
    all_pass fails faulty ss ≡ Ok u → All (λ s. fails s ≡ false) ss
unfolding all_pass
all_pass_ok fails faulty [] u e = All-nil (λ s. fails s ≡ false)
all_pass_ok fails faulty (s ∷ ss) u e =
    on_when (fails s) _ _ u e (λ on e. absurd cc)
    (λ off e. All-cons (λ s. fails s ≡ false) s ss off (all_pass_ok fails faulty ss u e))

abbrev pub AreNamedInputs : List model.Input → Type 0
AreNamedInputs is = AreInputs is × All (λ i. IsName i.name) is

size_or_zero : (o : Option Decimal) → IfSome o IsSize → IsSize (or_zero o)
size_or_zero None p = is_size 0 0
size_or_zero (Some d) p = p

pub not_false : (b : Bool) → not b ≡ false → b ≡ true
not_false true e = refl
not_false false e = absurd cc

inputs_of : (ss : Subjects) → All IsSubject ss → All (λ s. is_empty_range s ≡ false) ss →
    AreNamedInputs (map declared_input ss)
inputs_of [] p q = (tt {0}, All-nil (λ (i : model.Input). IsName i.name))
inputs_of (s ∷ ss) p q =
    let more = inputs_of ss (All-tail IsSubject s ss p) (All-tail (λ s. is_empty_range s ≡ false) s ss q) in
    let first = All-head IsSubject s ss p in
    let order = All-head (λ s. is_empty_range s ≡ false) s ss q in (
      (record { ordered = at_most_true _ _ (not_false _ order); error = size_or_zero s.err first.1 }, more.0),
      All-cons (λ (i : model.Input). IsName i.name) (declared_input s) (map declared_input ss) first.0 more.1,
    )

inputs_ok : (n : ℕ) (ss : Subjects) (x : List model.Input) → AreSubjects n ss → inputs_at ss ≡ Ok x →
    (length x ≡ n) × AreNamedInputs x
unfolding inputs_at
inputs_ok n ss x q e =
    on_ok (all_pass is_lacking (λ at. fault at faults.NoRange) ss)
    (λ u. all_pass is_empty_range (λ at. fault at faults.EmptyRange) ss >>= λ v. Ok (map declared_input ss)) x e
    (λ u ue e.
    on_ok (all_pass is_empty_range (λ at. fault at faults.EmptyRange) ss) (λ v. Ok (map declared_input ss)) x e
    (λ v ve e.
    let count : length (map declared_input ss) ≡ n = simp length-map q.0 in
    subst (λ (y : List model.Input). (length y ≡ n) × AreNamedInputs y) (same_ok (map declared_input ss) x e) (
      count,
      inputs_of ss q.1 (all_pass_ok is_empty_range (λ at. fault at faults.EmptyRange) ss v ve),
    )))

pub require_ok : (n end : ℕ) (ss : Subjects) (ts : Tokens) (x : List model.Input × Tokens) → AreSubjects n ss →
    AreSound ts → require_at end ss ts ≡ Ok x → ((length x.0 ≡ n) × AreNamedInputs x.0) × AreSound x.1
unfolding require_at
require_ok n end ss ts x q s e = on_ok _ _ x e (λ o oe e. on_ok _ _ x e (λ y ye e. on_ok _ _ x e (λ i ie e.
    let w = conditions_ok n end _ o.1 y q (want_ok end heads.Open ts o s oe).2 ye in
    subst (λ (z : List model.Input × Tokens). ((length z.0 ≡ n) × AreNamedInputs z.0) ×
    AreSound z.1) (same_ok (i, y.1) x e) (inputs_ok n y.0.subjects i w.0 ie, w.1))))
