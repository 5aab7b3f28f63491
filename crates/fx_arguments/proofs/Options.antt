-- The rules of options and FILE are those of a command that takes entries.
use Rattle.std.proofs.Common.{◌≡◌, ℕ, Bool, true, false, ◌||◌, List, [], ◌∷◌, map, Some, None, codes, refl, ap, ◌∙◌, subst}
use Rattle.std.specs.Prelude.{if◌then◌else◌}
use Rattle.std.specs.Str.{bytes_eq}
use Rattle.std.proofs.lemmas.Slice.Eq.{bytes_eq-Decides}
use Rattle.clap.specs.Walk.{Rule, arg_by_id, arg_by_index, arg_by_long, arg_by_short}
use Rattle.fx_arguments.specs.Grammar.{Bytes, is_among}
use Rattle.fx_arguments.proofs.Pending.{HasNoDefaults, file_id, text_rule}
use Rattle.fx_arguments.proofs.OneWord.{IsLeaf, IsOption, same-bytes}

-- these options, of which some are required, and FILE, as building leaves them
abbrev pub options_rules : List (Bytes × Bool) → List Rule
options_rules [] = text_rule file_id None (Some 1) true ∷ []
options_rules (o ∷ os) = text_rule o.0 (Some o.0) None o.1 ∷ options_rules os

abbrev pub option_names : List (Bytes × Bool) → List Bytes
option_names os = map (λ o. o.0) os

-- none is named as FILE
abbrev pub AreApart : List (Bytes × Bool) → Type 0
AreApart [] = Unit {0}
AreApart (o ∷ os) = (bytes_eq o.0 file_id ≡ false) × AreApart os

-- the options of `node` and of `synth`, and whether they are required
abbrev pub node_takes : List (Bytes × Bool)
node_takes = (codes "units", true) ∷ []

abbrev pub synth_takes : List (Bytes × Bool)
synth_takes =
    (codes "width", true) ∷ (codes "function", false) ∷ (codes "seed", false) ∷ (codes "tries", false)
    ∷ (codes "round", false) ∷ []

no-defaults : (os : List (Bytes × Bool)) → HasNoDefaults (options_rules os)
no-defaults [] = refl
no-defaults (o ∷ os) = no-defaults os

no-short-name : (os : List (Bytes × Bool)) (x : ℕ) → arg_by_short (options_rules os) x ≡ None
no-short-name [] x = refl
no-short-name (o ∷ os) x = no-short-name os x

file-is-first : (os : List (Bytes × Bool)) →
    arg_by_index (options_rules os) 1 ≡ Some (text_rule file_id None (Some 1) true)
file-is-first [] = refl
file-is-first (o ∷ os) = file-is-first os

nothing-is-second : (os : List (Bytes × Bool)) → arg_by_index (options_rules os) 2 ≡ None
nothing-is-second [] = refl
nothing-is-second (o ∷ os) = nothing-is-second os

file-by-id : (os : List (Bytes × Bool)) → AreApart os →
    arg_by_id (options_rules os) file_id ≡ Some (text_rule file_id None (Some 1) true)
file-by-id [] apart = refl
file-by-id (o ∷ os) apart =
    ap (λ (b : Bool). if b then Some (text_rule o.0 (Some o.0) None o.1)
    else arg_by_id (options_rules os) file_id) apart.0 ∙ file-by-id os apart.1

other-is-missing : (os : List (Bytes × Bool)) (name : Bytes) → is_among name (option_names os) ≡ false →
    arg_by_long (options_rules os) name ≡ None
other-is-missing [] name e = refl
other-is-missing (o ∷ os) name e = first (bytes_eq o.0 name) e (other-is-missing os name) where
  first : (b : Bool) → (b || is_among name (option_names os)) ≡ false →
      (is_among name (option_names os) ≡ false → arg_by_long (options_rules os) name ≡ None)
      → (if b || false then Some (text_rule o.0 (Some o.0) None o.1) else arg_by_long (options_rules os) name) ≡ None
  first true e h = absurd (cc)
  first false e h = h e

first-is-there : (o : Bytes × Bool) (os : List (Bytes × Bool)) → bytes_eq o.0 file_id ≡ false →
    IsOption (options_rules (o ∷ os)) o.0
first-is-there o os apart = record {
  required = o.1;
  by_long =
      ap (λ (b : Bool). if b || false then Some (text_rule o.0 (Some o.0) None o.1)
      else arg_by_long (options_rules os) o.0) (same-bytes o.0);
  by_id =
      ap (λ (b : Bool). if b then Some (text_rule o.0 (Some o.0) None o.1)
      else arg_by_id (options_rules os) o.0) (same-bytes o.0);
  apart = apart;
}

later-is-there : (o : Bytes × Bool) (os : List (Bytes × Bool)) (name : Bytes) → bytes_eq o.0 name ≡ false →
    IsOption (options_rules os) name → IsOption (options_rules (o ∷ os)) name
later-is-there o os name other O = record {
  required = O.required;
  by_long =
      ap (λ (b : Bool). if b || false then Some (text_rule o.0 (Some o.0) None o.1)
      else arg_by_long (options_rules os) name) other ∙ O.by_long;
  by_id =
      ap (λ (b : Bool). if b then Some (text_rule o.0 (Some o.0) None o.1) else arg_by_id (options_rules os) name) other
      ∙ O.by_id;
  apart = O.apart;
}

option-is-there : (os : List (Bytes × Bool)) → AreApart os → (name : Bytes) → is_among name (option_names os) ≡ true →
    IsOption (options_rules os) name
option-is-there [] apart name e = absurd (cc)
option-is-there (o ∷ os) apart name e = first (bytes_eq o.0 name) refl e (option-is-there os apart.1 name) where
  first : (b : Bool) → bytes_eq o.0 name ≡ b → (b || is_among name (option_names os)) ≡ true →
      (is_among name (option_names os) ≡ true → IsOption (options_rules os) name) →
      IsOption (options_rules (o ∷ os)) name
  first true is e h =
      let P : Bytes → Type 0 = IsOption (options_rules (o ∷ os)) in
      subst P ((bytes_eq-Decides o.0 name).0 is) (first-is-there o os apart.0)
  first false is e h = later-is-there o os name is (h e)

pub options-are-taken : (os : List (Bytes × Bool)) → AreApart os → IsLeaf (option_names os) (options_rules os)
options-are-taken os apart = record {
  no_defaults = no-defaults os;
  option_there = option-is-there os apart;
  option_missing = other-is-missing os;
  no_short = no-short-name os;
  file_required = true;
  file_first = file-is-first os;
  file_by_id = file-by-id os apart;
  no_second = nothing-is-second os;
}
