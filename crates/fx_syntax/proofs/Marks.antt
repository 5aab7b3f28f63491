-- Single tokens, read and spelled.
use Rattle.std.proofs.Common.{◌≡◌, ℕ, Bool, true, false, cond, eqb, List, [], ◌∷◌, length, ◌<◌, drop, Ok, refl, sym, ap, subst, ◌∙◌, arith, rules, tests}
use Rattle.std.proofs.lemmas.Bool.{eqb-true}
use Rattle.std.proofs.lemmas.Slice.Eq.{bytes_eq-Decides}
use Rattle.std.specs.Prelude.{codes, bytes_eq}
use Rattle.fx_rational.specs.Decimal.{Decimal}
use Rattle.fx_lexer.specs.Tokens.{Lexeme}
use Rattle.fx_grammar.specs.declared.head.Head.{Head}
use Rattle.fx_grammar.specs.declared.head.Head.TheVariants as heads
use Rattle.fx_grammar.specs.Heads.{head_of, head_number, ◌==ₕ◌}
use Rattle.fx_grammar.specs.Steps.{Tokens, next_head, want, real_at, numeral_at, signed_at, past_semicolon}
use Rattle.fx_syntax.specs.Leaves.{IsNext, IsMark, IsReal, IsNumber, IsSigned, plain, negative, IsMaybeSemicolon, left_out, written}
use Rattle.fx_syntax.proofs.Outcomes.{OnOk, done, failed, and_then, choose, weaken, steps, on_true, on_false}

-- the head of a number
decode : ℕ → Head
decode n =
    cond (eqb n 0) heads.End
    (cond (eqb n 1) heads.Name
    (cond (eqb n 2) heads.Number
    (cond (eqb n 3) heads.Plus
    (cond (eqb n 4) heads.Minus
    (cond (eqb n 5) heads.Star
    (cond (eqb n 6) heads.Slash
    (cond (eqb n 7) heads.Open
    (cond (eqb n 8) heads.Close
    (cond (eqb n 9) heads.OpenBrace
    (cond (eqb n 10) heads.CloseBrace
    (cond (eqb n 11) heads.Colon
    (cond (eqb n 12) heads.Comma
    (cond (eqb n 13) heads.Dot
    (cond (eqb n 14) heads.Semicolon
    (cond (eqb n 15) heads.Equals
    (cond (eqb n 16) heads.Arrow
    (cond (eqb n 17) heads.PlusMinus
    (cond (eqb n 18) heads.And
    (cond (eqb n 19) heads.Below
    (cond (eqb n 20) heads.AtMost
    (cond (eqb n 21) heads.Above
    (cond (eqb n 22) heads.AtLeast
    (cond (eqb n 23) heads.Import
    (cond (eqb n 24) heads.Object
    (cond (eqb n 25) heads.Def
    (cond (eqb n 26) heads.Val
    (cond (eqb n 27) heads.Require (cond (eqb n 28) heads.Ensuring heads.Unsupported))))))))))))))))))))))))))))

back : (h : Head) → decode (head_number h) ≡ h
unfolding decode
back heads.End = refl
back heads.Name = refl
back heads.Number = refl
back heads.Plus = refl
back heads.Minus = refl
back heads.Star = refl
back heads.Slash = refl
back heads.Open = refl
back heads.Close = refl
back heads.OpenBrace = refl
back heads.CloseBrace = refl
back heads.Colon = refl
back heads.Comma = refl
back heads.Dot = refl
back heads.Semicolon = refl
back heads.Equals = refl
back heads.Arrow = refl
back heads.PlusMinus = refl
back heads.And = refl
back heads.Below = refl
back heads.AtMost = refl
back heads.Above = refl
back heads.AtLeast = refl
back heads.Import = refl
back heads.Object = refl
back heads.Def = refl
back heads.Val = refl
back heads.Require = refl
back heads.Ensuring = refl
back heads.Unsupported = refl

pub same_head : (a b : Head) → (a ==ₕ b) ≡ true → a ≡ b
same_head a b e = sym (back a) ∙ ap decode (eqb-true (head_number a) (head_number b) e) ∙ back b

-- ---- the next token

-- a head stands next that isn't the end's
pub next_is : (ts : Tokens) (h : Head) → next_head ts ≡ h → (h ==ₕ heads.End) ≡ false →
    (t : Lexeme) × IsNext h ts t (drop 1 ts)
next_is [] h e some = absurd (let f : (h ==ₕ heads.End) ≡ true = subst (λ g. (g ==ₕ heads.End) ≡ true) e refl in cc)
next_is (t ∷ ts) h e some = (t, record { tokens = refl; is = e })

pub next_head_is : {h : Head} {ts : Tokens} {t : Lexeme} {us : Tokens} → IsNext h ts t us → next_head ts ≡ h
next_head_is n = ap next_head n.tokens ∙ n.is

pub behind_is : {h : Head} {ts : Tokens} {t : Lexeme} {us : Tokens} → IsNext h ts t us → drop 1 ts ≡ us
behind_is n = ap (drop 1) n.tokens

-- a sign or a word, whose token nobody looks at
pub mark : {h : Head} {ts : Tokens} {t : Lexeme} {us : Tokens} → IsNext h ts t us → IsMark h ts us
mark {t = t} n = record { token = t; next = n }

pub want_spells : (end : ℕ) (h : Head) (ts : Tokens) → OnOk (λ x. IsNext h ts x.0 x.1) (want end h ts)
unfolding want
want_spells end h [] = failed
want_spells end h (t ∷ ts) =
    choose (head_of t ==ₕ h) (λ e. done (record { tokens = refl; is = same_head (head_of t) h e })) (λ e. failed)

same_true : (h : Head) → (h ==ₕ h) ≡ true
same_true h = search (rules, tests)

pub want_reads : (end : ℕ) {h : Head} {ts : Tokens} {t : Lexeme} {us : Tokens} → IsNext h ts t us →
    want end h ts ≡ Ok (t, us)
unfolding want
want_reads end {h} {t = t} {us = us} n =
    ap (want end h) n.tokens ∙ on_true _ (subst (λ g. (g ==ₕ h) ≡ true) (sym n.is) (same_true h)) refl

pub not_next : {h : Head} {ts : Tokens} {t : Lexeme} {us : Tokens} → IsNext h ts t us → (g : Head) → (h ==ₕ g) ≡ false →
    (next_head ts ==ₕ g) ≡ false
not_next n g e = subst (λ k. (k ==ₕ g) ≡ false) (sym (next_head_is n)) e

pub next_shorter : {h : Head} {ts : Tokens} {t : Lexeme} {us : Tokens} → IsNext h ts t us → length us < length ts
next_shorter n = let e = ap length n.tokens in omega arith

pub is_next : {h : Head} {ts : Tokens} {t : Lexeme} {us : Tokens} → IsNext h ts t us → (next_head ts ==ₕ h) ≡ true
is_next {h} n = subst (λ k. (k ==ₕ h) ≡ true) (sym (next_head_is n)) (same_true h)

-- ---- Real, numbers, the semicolon

text_same : (a b : List ℕ) → bytes_eq a b ≡ true → a ≡ b
text_same a b e = (bytes_eq-Decides a b).0 e

same_text : (a b : List ℕ) → a ≡ b → bytes_eq a b ≡ true
same_text a b e = (bytes_eq-Decides a b).1 e

pub real_spells : (end : ℕ) (ts : Tokens) → OnOk (λ x. IsReal ts x.1) (real_at end ts)
unfolding real_at
real_spells end ts =
    and_then (want_spells end heads.Name ts) (λ t n.
    choose (bytes_eq t.0.text (codes "Real")) (λ e. done (record { token = t.0; next = n; text = text_same _ _ e }))
    (λ e. failed))

pub real_reads : (end : ℕ) {ts us : Tokens} (i : IsReal ts us) → real_at end ts ≡ Ok (i.token, us)
unfolding real_at
real_reads end n = steps _ (want_reads end n.next) (on_true _ (same_text _ _ n.text) refl)

pub number_spells : (end : ℕ) (ts : Tokens) → OnOk (λ x. IsNumber ts x.0 x.1) (numeral_at end ts)
unfolding numeral_at
number_spells end ts =
    and_then (want_spells end heads.Number ts) (λ t n. done (record { number = t.0; next = n; value = refl }))

pub number_reads : (end : ℕ) {ts : Tokens} {d : Decimal} {us : Tokens} → IsNumber ts d us →
    numeral_at end ts ≡ Ok (d, us)
unfolding numeral_at
number_reads end {us = us} n = steps _ (want_reads end n.next) (ap (λ (d : Decimal). Ok (d, us)) (sym n.value))

pub signed_spells : (end : ℕ) (ts : Tokens) → OnOk (λ x. IsSigned ts x.0 x.1) (signed_at end ts)
unfolding signed_at
signed_spells end ts =
    choose (next_head ts ==ₕ heads.Minus)
    (λ e. let t = next_is ts heads.Minus (same_head _ _ e) refl in
    and_then (number_spells end (drop 1 ts)) (λ d n. done (negative (mark t.1) n)))
    (λ e. weaken (λ x n. plain n) (number_spells end ts))

pub signed_reads : (end : ℕ) {ts : Tokens} {d : Decimal} {us : Tokens} → IsSigned ts d us →
    signed_at end ts ≡ Ok (d, us)
unfolding signed_at
signed_reads end (plain n) = on_false _ (not_next n.next heads.Minus refl) (number_reads end n)
signed_reads end (negative s n) =
    on_true _ (is_next s.next) (steps _ (ap (numeral_at end) (behind_is s.next) ∙ number_reads end n) refl)

pub semicolon_spells : (ts : Tokens) → IsMaybeSemicolon ts (past_semicolon ts)
semicolon_spells ts = by (next_head ts ==ₕ heads.Semicolon) refl
  where
    by : (b : Bool) → (next_head ts ==ₕ heads.Semicolon) ≡ b → IsMaybeSemicolon ts (cond b (drop 1 ts) ts)
    by true e = let t = next_is ts heads.Semicolon (same_head _ _ e) refl in written (mark t.1)
    by false e = left_out

pub semicolon_reads : {ts rest : Tokens} → IsMaybeSemicolon ts rest → (next_head rest ==ₕ heads.Semicolon) ≡ false →
    past_semicolon ts ≡ rest
semicolon_reads left_out stop = on_false _ stop refl
semicolon_reads (written n) stop = on_true _ (is_next n.next) (behind_is n.next)

pub real_shorter : {ts us : Tokens} → IsReal ts us → length us < length ts
real_shorter n = next_shorter n.next

pub signed_shorter : {ts : Tokens} {d : Decimal} {us : Tokens} → IsSigned ts d us → length us < length ts
signed_shorter (plain n) = next_shorter n.next
signed_shorter (negative s n) = let a = next_shorter s.next in let b = next_shorter n.next in omega arith
