-- What a reading that succeeds tells of its parts.
use Rattle.std.proofs.Common.{◌≡◌, ℕ, zero, suc, Bool, true, false, cond, [], ◌∷◌, length, drop, Result, Ok, Err, refl, subst}
use Rattle.std.specs.List.{All}
use Rattle.std.proofs.lemmas.List.Elements.{All-drop, All-head, All-tail, All-nil, All-cons}
use Rattle.fx_lexer.specs.declared.fault.SourceFault.{SourceFault}
use Rattle.fx_lexer.specs.Tokens.{Lexeme}
use Rattle.fx_grammar.specs.declared.head.Head.{Head}
use Rattle.fx_grammar.specs.declared.head.Head.TheVariants as heads
use Rattle.fx_grammar.specs.Heads.{head_of, ◌==ₕ◌}
use Rattle.fx_grammar.specs.Steps.{when, Tokens, Parsed, want, wrong, real_at, past_semicolon, next_head, repeat, separated, listed, stands_next, behind}
use Rattle.fx_model.proofs.Steps.{on_ok}
use Rattle.fx_parser.specs.LawfulTokens.{IsSound, AreSound}

pub on_if : {A E P : Type 0} (b : Bool) (r s : Result A E) (y : A) → cond b r s ≡ Ok y → (b ≡ true → r ≡ Ok y → P) →
    (b ≡ false → s ≡ Ok y → P) → P
on_if true r s y e f g = f refl e
on_if false r s y e f g = g refl e

pub on_when : {A E P : Type 0} (b : Bool) (r s : Unit {0} → Result A E) (y : A) → when b r s ≡ Ok y →
    (b ≡ true → r (tt {0}) ≡ Ok y → P) → (b ≡ false → s (tt {0}) ≡ Ok y → P) → P
on_when true r s y e f g = f refl e
on_when false r s y e f g = g refl e

-- a choice of an Ok and a fault
passed : {A E : Type 0} (b : Bool) (x y : A) (f : E) → cond b (Ok x) (Err f) ≡ Ok y → (b ≡ true) × (x ≡ y)
passed true x y f e = (refl, cc)
passed false x y f e = absurd cc

pub refused : {A E : Type 0} (b : Bool) (f : E) (r : Result A E) (y : A) → cond b (Err f) r ≡ Ok y →
    (b ≡ false) × (r ≡ Ok y)
refused true f r y e = absurd cc
refused false f r y e = (refl, e)

abbrev pub fine : {A : Type 0} → A → Result A SourceFault
fine x = Ok x

pub same_ok : {A : Type 0} (x y : A) → fine x ≡ Ok y → x ≡ y
same_ok x y e = cc

pub only : {X : Type 0} (P : X → Type 0) (x : X) → P x → All P (x ∷ [])
only P x p = All-cons P x [] p (All-nil P)

pub sound_drop : (n : ℕ) (ts : Tokens) → AreSound ts → AreSound (drop n ts)
sound_drop n ts s = All-drop IsSound n ts s

pub sound_semicolon : (ts : Tokens) → AreSound ts → AreSound (past_semicolon ts)
sound_semicolon ts s = by (next_head ts ==ₕ heads.Semicolon) where
  by : (b : Bool) → AreSound (cond b (drop 1 ts) ts)
  by true = sound_drop 1 ts s
  by false = s

-- a token that was wanted, and the rest
pub want_ok : (end : ℕ) (h : Head) (ts : Tokens) (x : Lexeme × Tokens) → AreSound ts → want end h ts ≡ Ok x →
    ((head_of x.0 ==ₕ h) ≡ true) × IsSound x.0 × AreSound x.1
unfolding want
want_ok end h [] x s e = absurd cc
want_ok end h (t ∷ ts) x s e =
    let p = passed (head_of t ==ₕ h) (t, ts) x (wrong end (t ∷ ts)) e in
    subst (λ (y : Lexeme × Tokens). ((head_of y.0 ==ₕ h) ≡ true) × IsSound y.0 ×
    AreSound y.1) p.1 (p.0, All-head IsSound t ts s, All-tail IsSound t ts s)

pub real_ok : (end : ℕ) (ts : Tokens) (x : Lexeme × Tokens) → AreSound ts → real_at end ts ≡ Ok x → AreSound x.1
unfolding real_at
real_ok end ts x s e = on_ok _ _ x e (λ t te e.
    let w = want_ok end heads.Name ts t s te in
    subst (λ (y : Lexeme × Tokens). AreSound y.1) (passed _ t x _ e).1 w.2)

-- ---- repetitions

pub repeat_ok : {S : Type 0} (P : S → Type 0) (goes_on : S → Tokens → Bool) (step : S → Tokens → Parsed S)
    → ((s : S) (ts : Tokens) (x : S × Tokens) → P s → AreSound ts → step s ts ≡ Ok x → P x.0 × AreSound x.1)
    → (turns : ℕ) (s : S) (ts : Tokens) (x : S × Tokens) → P s → AreSound ts → repeat goes_on step turns s ts ≡ Ok x →
    P x.0 × AreSound x.1
unfolding repeat
repeat_ok {S} P goes_on step k zero s ts x p o e =
    subst (λ (y : S × Tokens). P y.0 × AreSound y.1) (same_ok (s, ts) x e) (p, o)
repeat_ok {S} P goes_on step k (suc turns) s ts x p o e =
    on_when (goes_on s ts) _ _ x e
    (λ on e. on_ok _ _ x e (λ y ye e. let q = k s ts y p o ye in repeat_ok P goes_on step k turns y.0 y.1 x q.0 q.1 e))
    (λ off e. subst (λ (y : S × Tokens). P y.0 × AreSound y.1) (same_ok (s, ts) x e) (p, o))

-- P holds before the first item and Q behind it
pub separated_ok : {S : Type 0} (P Q : S → Type 0) (sign : Head) (item : S → Tokens → Parsed S)
    → ((s : S) (ts : Tokens) (x : S × Tokens) → P s → AreSound ts → item s ts ≡ Ok x → Q x.0 × AreSound x.1)
    → ((s : S) (ts : Tokens) (x : S × Tokens) → Q s → AreSound ts → item s ts ≡ Ok x → Q x.0 × AreSound x.1)
    → (s : S) (ts : Tokens) (x : S × Tokens) → P s → AreSound ts → separated sign item s ts ≡ Ok x →
    Q x.0 × AreSound x.1
unfolding separated
separated_ok P Q sign item j k s ts x p o e = on_ok _ _ x e (λ y ye e.
    let q = j s ts y p o ye in
    repeat_ok Q (stands_next sign) (behind item) (λ s ts x p o e. k s (drop 1 ts) x p (sound_drop 1 ts o) e)
    (suc (length y.1)) y.0 y.1 x q.0 q.1 e)

pub listed_ok : {S : Type 0} (P Q : S → Type 0) (item : S → Tokens → Parsed S) (end : ℕ)
    → ((s : S) (ts : Tokens) (x : S × Tokens) → P s → AreSound ts → item s ts ≡ Ok x → Q x.0 × AreSound x.1)
    → ((s : S) (ts : Tokens) (x : S × Tokens) → Q s → AreSound ts → item s ts ≡ Ok x → Q x.0 × AreSound x.1)
    → (s : S) (ts : Tokens) (x : S × Tokens) → P s → AreSound ts → listed item end s ts ≡ Ok x → Q x.0 × AreSound x.1
unfolding listed
listed_ok {S} P Q item end j k s ts x p o e = on_ok _ _ x e (λ y ye e. on_ok _ _ x e (λ c ce e.
    let q = separated_ok P Q heads.Comma item j k s ts y p o ye in
    let w = want_ok end heads.Close y.1 c q.1 ce in
    subst (λ (z : S × Tokens). Q z.0 × AreSound z.1) (same_ok (y.0, c.1) x e) (q.0, w.2)))
