-- The place of a name.
use Rattle.std.proofs.Common.{◌≡◌, ℕ, ◌<◌, ◌≤◌, Bool, true, false, ltb, List, [], length, get_or, map, Some, None, refl, sym, ap, ◌∙◌, arith, rules, tests}
use Rattle.fx_requirements.specs.declared.subject.Subject.{Subject}
use Rattle.fx_requirements.specs.Views.{subject_of}
use Rattle.std.proofs.Common.{Result, Ok, Err}
use Rattle.std.proofs.Math.ListN.{set}
use Rattle.std.proofs.lemmas.List.{map-set}
use Rattle.fx_rational.specs.Decimal.{Decimal}
use Rattle.fx_lexer.specs.declared.fault.SourceFault.{SourceFault}
use Rattle.fx_lexer.specs.declared.fault.SourceKind.TheVariants.{NamedTwice}
use Rattle.fx_lexer.specs.Tokens.{Lexeme}
use Rattle.fx_grammar.specs.declared.aspect.Aspect.{Aspect}
use Rattle.fx_grammar.specs.Ranges.{names_of, Subjects, subject_or, said, said_at, aspect_of, with_aspect, is_said}
use Rattle.std.specs.Prelude.{bytes_eq}
use Rattle.std.proofs.lemmas.Bool.{le-ltb}
use Rattle.std.proofs.lemmas.List.{length-map, get_or-map}
use Rattle.std.proofs.lemmas.List.Sums.{position_or_len_is}
use Rattle.fx_grammar.specs.Steps.{Text, name_place, fault}

module _ (names : List Text) (text : Text) where
  abbrev is_it : Text → Bool
  is_it name = bytes_eq name text

  pub is_here : (i : ℕ) → i < length names → ((k : ℕ) → k < i → is_it (get_or names k []) ≡ false) →
      is_it (get_or names i []) ≡ true → Some i ≡ name_place names text
  is_here i lt before here =
      let p = position_or_len_is is_it names i [] (omega arith) before (λ _. here) in
      let t : ltb i (length names) ≡ true = search (rules, tests) in
      rw (p, t) refl

  pub is_nowhere : (i : ℕ) → length names ≤ i → ((k : ℕ) → k < i → is_it (get_or names k []) ≡ false) →
      None ≡ name_place names text
  is_nowhere i le before =
      let p =
      position_or_len_is is_it names (length names) [] (omega arith) (λ k lt. before k (omega arith))
      (λ lt. absurd (omega arith)) in
      rw (p, le-ltb (length names) (length names) (omega arith)) refl

pub subject_name_at : (subjects : List Subject) (i : ℕ) (d : Subject) (text : Text) (b : Bool) → i < length subjects →
    bytes_eq (get_or subjects i d).name.now text ≡ b →
    bytes_eq (get_or (names_of (map subject_of subjects)) i []) text ≡ b
subject_name_at subjects i d text b lt e =
    let le : i < length (map subject_of subjects) = simp length-map lt in
    rw (
      get_or-map (λ s. s.name) (map subject_of subjects) i (subject_of d) [] le,
      get_or-map subject_of subjects i d (subject_of d) lt,
    ) e

seated : (xs : List Subject) (k : ℕ) (s : Subject) → k < length xs → s ≡ get_or xs k s →
    subject_or (map subject_of xs) k ≡ subject_of s
seated xs k s lt e = get_or-map subject_of xs k s _ lt ∙ ap subject_of (sym e)

pub said_twice : (aspect : Aspect) (d : Decimal) (t : Lexeme) (xs : List Subject) (k : ℕ) (s : Subject) →
    k < length xs → s ≡ get_or xs k s → is_said (aspect_of aspect (subject_of s)) ≡ true →
    said aspect d t (map subject_of xs) k ≡ Err (fault t.at NamedTwice)
unfolding said
said_twice aspect d t xs k s lt e given =
    let g : said_at aspect d t (map subject_of xs) k (subject_of s) ≡ Err (fault t.at NamedTwice) = rw given refl in
    ap (said_at aspect d t (map subject_of xs) k) (seated xs k s lt e) ∙ g

made : Subjects → Result Subjects SourceFault
made subjects = Ok subjects

pub said_once : (aspect : Aspect) (d : Decimal) (t : Lexeme) (xs : List Subject) (k : ℕ) (s s' : Subject) →
    k < length xs → s ≡ get_or xs k s → is_said (aspect_of aspect (subject_of s)) ≡ false →
    subject_of s' ≡ with_aspect aspect d (subject_of s) →
    said aspect d t (map subject_of xs) k ≡ Ok (map subject_of (set xs k s'))
unfolding said made
said_once aspect d t xs k s s' lt e given w =
    let g : said_at aspect d t (map subject_of xs) k (subject_of s)
    ≡ made (set (map subject_of xs) k (with_aspect aspect d (subject_of s))) = rw given refl in
    ap (said_at aspect d t (map subject_of xs) k) (seated xs k s lt e) ∙ g
    ∙ ap (λ v. made (set (map subject_of xs) k v)) (sym w) ∙ ap made (sym (map-set subject_of xs k s'))
