-- A path has one spelling.
use Rattle.std.proofs.Common.{◌≡◌, ℕ, ◌+◌, ◌-◌, ◌<◌, ◌≤◌, Bool, true, false, List, [], ◌∷◌, length, map, Ok, Err, refl, sym, ap, subst, ◌∙◌, inl, inr, arith, rules, tests, codes}
use Rattle.std.specs.Prelude.{All, nat_le, ◌||◌, ◌==◌}
use Rattle.std.specs.Str.{bytes_eq}
use Rattle.std.specs.List.{AllByRecursion}
use Rattle.std.proofs.lemmas.Bool.Decides.{nat_tests}
use Rattle.std.proofs.lemmas.List.{length-map}
use Rattle.std.proofs.lemmas.List.Elements.{All-from_recursion, recursion_from_All, All-nil}
use Rattle.std.proofs.lemmas.Slice.Eq.{bytes_eq-Decides}
use Rattle.std.proofs.lemmas.Bool.{and_parts}
use Rattle.fx_model.specs.Limits.{height_limit}
use Rattle.fx_inequalities.specs.CertificateText.{path_field}
use Rattle.fx_text.specs.declared.fault.TextKind.TheVariants.{BadLine, OutOfRange}
use Rattle.fx_text.specs.Cutting.{Line}
use Rattle.fx_text.specs.Spelling.{IsField, IsOneSpelling, Lacks}
use Rattle.fx_model.proofs.Steps.{on_ok}
use Rattle.fx_text.proofs.Choices.{passed, chosen}
use Rattle.fx_text.proofs.FieldLaws.{field_is}
use Rattle.fx_cert_text.specs.FieldReading.{are_turns, known_turns, known_path, path_at}

-- of first and second operands, and no longer than a tree is high
pub record IsPath (path : List ℕ) : Type 0 where
  pub short : length path ≤ height_limit
  pub turns : All (λ d. d < 2) path

-- ---- turns and their digits
abbrev digits : List ℕ → List ℕ
digits turns = map (λ k. 48 + k) turns

abbrev turns_of : List ℕ → List ℕ
turns_of text = map (λ d. d - 48) text

is_turn : (c : ℕ) → (c == 48 || c == 49) ≡ true → (48 ≤ c) × (c < 50)
is_turn c e = (grind (arith, tests), grind (arith, tests))

turns_take : (text : List ℕ) → are_turns text ≡ true →
    (digits (turns_of text) ≡ text) × AllByRecursion (λ d. d < 2) (turns_of text)
turns_take [] e = (refl, tt)
turns_take (c ∷ cs) e =
    let t = and_parts (c == 48 || c == 49) (are_turns cs) e in let k = is_turn c t.0 in let rest = turns_take cs t.1 in
    let same : 48 + (c - 48) ≡ c = omega (arith, k.0) in
    (ap (λ x. x ∷ digits (turns_of cs)) same ∙ ap (λ xs. c ∷ xs) rest.0, (omega (arith, k.1), rest.1))

turns_again : (turns : List ℕ) → AllByRecursion (λ d. d < 2) turns →
    (are_turns (digits turns) ≡ true) × (turns_of (digits turns) ≡ turns)
turns_again [] h = (refl, refl)
turns_again (d ∷ ds) (h, hs) =
    let rest = turns_again ds hs in
    let one : (48 + d == 48 || 48 + d == 49) ≡ true = grind (arith, tests, h) in
    let same : 48 + d - 48 ≡ d = omega arith in
    (rw one rest.0, ap (λ x. x ∷ turns_of (digits ds)) same ∙ ap (λ xs. d ∷ xs) rest.1)

-- ---- a path
known_takes : (text path : List ℕ) → known_path text ≡ Ok path → (text ≡ path_field path) × IsPath path
unfolding known_path known_turns
known_takes text path e =
    elim (chosen (bytes_eq text (codes "-")) (Ok []) (known_turns text) (Ok path) e) [
      | inl h ↦ let made : [] ≡ path = cc in
          subst (λ path. (text ≡ path_field path) × IsPath path) made (
            (bytes_eq-Decides text (codes "-")).0 h.0,
            record { short = omega arith; turns = All-nil (λ d. d < 2) },
          )
      | inr h ↦ by text h.1
    ]
  where
    by : (text : List ℕ) → known_turns text ≡ Ok path → (text ≡ path_field path) × IsPath path
    by [] e = absurd cc
    by (c ∷ cs) e =
        elim (chosen (are_turns (c ∷ cs)) _ (Err BadLine) (Ok path) e) [
          | inl h ↦
              let t = passed (nat_le (length (c ∷ cs)) height_limit) OutOfRange (turns_of (c ∷ cs)) path h.1 in
              let le : length (c ∷ cs) ≤ height_limit = grind (arith, nat_tests, t.0) in
              let k = turns_take (c ∷ cs) h.0 in
              let count : length (turns_of (c ∷ cs)) ≡ length (c ∷ cs) = length-map (c ∷ cs) (λ d. d - 48) in
              subst (λ path. (c ∷ cs ≡ path_field path) × IsPath path) t.1 (
                sym k.0,
                record {
                  short = omega (arith, le, count);
                  turns = All-from_recursion (λ d. d < 2) (turns_of (c ∷ cs)) k.1;
                },
              )
          | inr h ↦ absurd cc
        ]

-- a digit is no minus
not_minus : (d : ℕ) (ds : List ℕ) → bytes_eq ((48 + d) ∷ ds) (codes "-") ≡ false
not_minus d ds = by (bytes_eq ((48 + d) ∷ ds) (codes "-")) refl
  where
    first : List ℕ → ℕ
    first [] = 0
    first (x ∷ xs) = x

    by : (b : Bool) → bytes_eq ((48 + d) ∷ ds) (codes "-") ≡ b → b ≡ false
    by false e = refl
    by true e =
        let is : 48 + d ≡ 45 = ap first ((bytes_eq-Decides ((48 + d) ∷ ds) (codes "-")).0 e) in
        absurd (omega (arith, is))

known_again : (path : List ℕ) → IsPath path → known_path (path_field path) ≡ Ok path
unfolding known_path known_turns
known_again [] h = refl
known_again (d ∷ ds) h =
    let k = turns_again (d ∷ ds) (recursion_from_All (λ d. d < 2) (d ∷ ds) h.turns) in
    let count : length (digits (d ∷ ds)) ≡ length (d ∷ ds) = length-map (d ∷ ds) (λ k. 48 + k) in
    let le : nat_le (length (digits (d ∷ ds))) height_limit ≡ true = grind (arith, nat_tests, h.short, count) in
    rw (not_minus d (digits ds), k.0, le) (ap (λ path. Ok path) k.1)

pub path_law : IsOneSpelling path_at (λ path. path_field path ∷ []) IsPath
unfolding path_at
path_law = record { takes = takes; again = again }
  where
    takes : (line : Line) (x : List ℕ × Line) → path_at line ≡ Ok x → (line ≡ path_field x.0 ∷ x.1) × IsPath x.0
    takes line x e =
        on_ok _ _ x e (λ f hf e.
        on_ok _ _ x e (λ path hp e.
        let t = known_takes f.0 path hp in
        let made : (path, f.1) ≡ x = cc in
        subst (λ (y : List ℕ × Line). (line ≡ path_field y.0 ∷ y.1) × IsPath y.0) made (
          field_is line f hf
              ∙ ap (λ g. g ∷ f.1) t.0,
          t.1,
        )))

    again : (path : List ℕ) (rest : Line) → IsPath path → path_at (path_field path ∷ rest) ≡ Ok (path, rest)
    again path rest h = rw (known_again path h) refl

-- its text is a field
digits_lack : (c : ℕ) (turns : List ℕ) → c < 48 → Lacks c (digits turns)
digits_lack c [] lt = tt
digits_lack c (d ∷ ds) lt = (other, digits_lack c ds lt)
  where
    other : (48 + d == c) ≡ false
    other = grind (arith, tests)

pub clean_path : (path : List ℕ) → IsField (path_field path)
clean_path [] = record { spaces = search rules; line_feeds = search rules }
clean_path (d ∷ ds) =
    record { spaces = digits_lack 32 (d ∷ ds) (omega arith); line_feeds = digits_lack 10 (d ∷ ds) (omega arith) }
