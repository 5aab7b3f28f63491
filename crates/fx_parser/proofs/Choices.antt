-- The wanted function stands at the place of its name.
use Rattle.std.proofs.Common.{◌≡◌, ℕ, suc, ◌+◌, ◌<◌, Bool, true, false, cond, ltb, List, [], ◌∷◌, length, get_or, Option, Some, None, Ok, Err, refl, sym, ap, ◌∙◌, arith}
use Rattle.std.specs.Prelude.{bytes_eq}
use Rattle.std.specs.List.{position_or_len, find}
use Rattle.std.proofs.lemmas.List.{length-map}
use Rattle.fx_model.specs.Function.{Function}
use Rattle.fx_lexer.specs.declared.fault.SourceKind.TheVariants.{NoSuchFunction, WhichFunction}
use Rattle.fx_grammar.specs.Steps.{Text, name_place, fault}
use Rattle.fx_grammar.specs.Sources.{function_names, called, chosen}
use Rattle.std.proofs.Common.{subst}
use Rattle.std.specs.List.{All}
use Rattle.std.proofs.lemmas.List.Elements.{All-head, All-tail}
use Rattle.fx_grammar.specs.Sources.{functions_of}
use Rattle.fx_parser.specs.LawfulNames.{IsLawfulAndNamed}
use Rattle.fx_parser.proofs.Reading.{fine, same_ok}
use Rattle.fx_parser.proofs.SoundFunctions.{functions_ok}
use Rattle.fx_cursor.proofs.Keys.{shift, some}

module _ (text : Text) where
  first : List Function → ℕ
  first fs = position_or_len (λ n. bytes_eq n text) (function_names fs)

  found : (fs : List Function) (d : Function) →
      find (λ f. bytes_eq f.name text) fs ≡ cond (ltb (first fs) (length fs)) (Some (get_or fs (first fs) d)) None
  unfolding first
  found [] d = refl
  found (f ∷ fs) d = by (bytes_eq f.name text) refl (found fs d) where
    by : (b : Bool) → bytes_eq f.name text ≡ b
        → find (λ f. bytes_eq f.name text) fs ≡ cond (ltb (first fs) (length fs)) (Some (get_or fs (first fs) d)) None
        → find (λ f. bytes_eq f.name text) (f ∷ fs)
        ≡ cond (ltb (first (f ∷ fs)) (length (f ∷ fs))) (Some (get_or (f ∷ fs) (first (f ∷ fs)) d)) None
    by true e more = rw (e, sym (some (length fs))) refl
    by false e more =
        let at : first (f ∷ fs) ≡ suc (first fs) = rw e (omega arith) in
        let one : 1 + first fs ≡ suc (first fs) = omega arith in
        let test : ltb (suc (first fs)) (length (f ∷ fs)) ≡ ltb (first fs) (length fs) =
        sym (shift (first fs) (length fs) ∙ ap (λ n. ltb n (suc (length fs))) one) in
        let here : find (λ f. bytes_eq f.name text) (f ∷ fs) ≡ find (λ f. bytes_eq f.name text) fs = rw e refl in
        here ∙ more ∙ rw (at, test) refl

  place_is_first : (fs : List Function) (o : Option ℕ) → name_place (function_names fs) text ≡ o →
      cond (ltb (first fs) (length fs)) (Some (first fs)) None ≡ o
  unfolding first
  place_is_first fs o q =
      let n : length (function_names fs) ≡ length fs = simp length-map refl in
      ap (λ (m : ℕ). cond (ltb (first fs) m) (Some (first fs)) None) (sym n) ∙ q

  pub of_name : (fs : List Function) (k : ℕ) (d : Function) → name_place (function_names fs) text ≡ Some k →
      chosen (Some text) fs ≡ Ok (get_or fs k d)
  unfolding chosen
  of_name fs k d q = ap called (found fs d) ∙ by (ltb (first fs) (length fs)) (place_is_first fs (Some k) q) where
    by : (b : Bool) → cond b (Some (first fs)) None ≡ Some k →
        called (cond b (Some (get_or fs (first fs) d)) None) ≡ Ok (get_or fs k d)
    by true e = let p : first fs ≡ k = cc in ap (λ (i : ℕ). called (Some (get_or fs i d))) p
    by false e = absurd cc

  pub no_name : (fs : List Function) → name_place (function_names fs) text ≡ None →
      chosen (Some text) fs ≡ Err (fault 0 NoSuchFunction)
  unfolding chosen
  no_name [] q = refl
  no_name (f ∷ fs) q =
      ap called (found (f ∷ fs) f) ∙ by (ltb (first (f ∷ fs)) (length (f ∷ fs))) (place_is_first (f ∷ fs) None q) where
        by : (b : Bool) → cond b (Some (first (f ∷ fs))) None ≡ None →
            called (cond b (Some (get_or (f ∷ fs) (first (f ∷ fs)) f)) None) ≡ Err (fault 0 NoSuchFunction)
        by true e = absurd cc
        by false e = refl

pub none_there : (fs : List Function) → length fs ≡ 0 → chosen None fs ≡ Err (fault 0 NoSuchFunction)
unfolding chosen
none_there [] e = refl
none_there (f ∷ fs) e = absurd (omega arith)

pub only_one : (fs : List Function) (d : Function) → length fs ≡ 1 → chosen None fs ≡ Ok (get_or fs 0 d)
unfolding chosen
only_one [] d e = absurd (omega arith)
only_one (f ∷ []) d e = refl
only_one (f ∷ g ∷ fs) d e = absurd (omega arith)

pub several : (fs : List Function) → 1 < length fs → chosen None fs ≡ Err (fault 0 WhichFunction)
unfolding chosen
several [] e = absurd (omega arith)
several (f ∷ []) e = absurd (omega arith)
several (f ∷ g ∷ fs) e = refl

-- ---- what is wanted is whole

found_whole : (p : Function → Bool) (fs : List Function) (f : Function) → All IsLawfulAndNamed fs →
    called (find p fs) ≡ Ok f → IsLawfulAndNamed f
found_whole p [] f a e = absurd cc
found_whole p (g ∷ fs) f a e = by (p g) refl (found_whole p fs f (All-tail IsLawfulAndNamed g fs a)) where
  by : (b : Bool) → p g ≡ b → (called (find p fs) ≡ Ok f → IsLawfulAndNamed f) → IsLawfulAndNamed f
  by true q more =
      let w : called (find p (g ∷ fs)) ≡ fine g = rw q refl in
      subst IsLawfulAndNamed (same_ok g f (sym w ∙ e)) (All-head IsLawfulAndNamed g fs a)
  by false q more = let w : called (find p (g ∷ fs)) ≡ called (find p fs) = rw q refl in more (sym w ∙ e)

chosen_whole : (name : Option Text) (fs : List Function) (f : Function) → All IsLawfulAndNamed fs →
    chosen name fs ≡ Ok f → IsLawfulAndNamed f
unfolding chosen
chosen_whole None [] f a e = absurd cc
chosen_whole None (g ∷ []) f a e = subst IsLawfulAndNamed (same_ok g f e) (All-head IsLawfulAndNamed g [] a)
chosen_whole None (g ∷ h ∷ fs) f a e = absurd cc
chosen_whole (Some name) fs f a e = found_whole (λ g. bytes_eq g.name name) fs f a e

pub is_whole : (text : List ℕ) (name : Option Text) (fs : List Function) (f : Function) → functions_of text ≡ Ok fs →
    chosen name fs ≡ Ok f → IsLawfulAndNamed f
is_whole text name fs f e q = chosen_whole name fs f (functions_ok text fs e) q
