-- What is pending between two words, and the end of the words.
use Rattle.std.proofs.Common.{◌≡◌, ℕ, Bool, true, false, not, ◌&&◌, ◌||◌, List, [], ◌∷◌, ◌++◌, map, length, suc, Option, Some, None, codes, refl, ap, ap₂, ◌∙◌, sym, arith, rules}
use Rattle.std.specs.Prelude.{if◌then◌else◌, fold, find}
use Rattle.std.specs.List.{list_any, list_all}
use Rattle.std.specs.Option.{option_map_or}
use Rattle.std.specs.Str.{bytes_eq}
use Rattle.std.proofs.lemmas.List.{append-nil}
use Rattle.std.proofs.lemmas.Bool.{and_parts, not-true}
use Rattle.clap.specs.Values.{reading_of}
use Rattle.clap.specs.Walk.{Held, Row, Rule, Waiting, idle, option, Walk, arg_by_id, has_row, more_values, used_by_id, default_rows, reading_by, is_empty, settled, walked, with_default, with_values, without}
use Rattle.clap.specs.Simple.{Shape, new_rule, new_shape}
use Rattle.clap.specs.Takes.{is_given}
use Rattle.clap.specs.Facts.{explicit_source}
use Rattle.clap.specs.Kinds.{Kinds, or_else}
use Rattle.clap.specs.Faults.{check_fault, given_default_fault, defaults_fault, settle_fault, turn_fault, use_fault, walk_fault}
use Rattle.clap.specs.declared.builder.action.ArgAction.TheVariants.{Set}
use Rattle.clap.specs.declared.builder.value_parser.ValueParser.TheVariants as vp
use Rattle.clap.specs.declared.error.kind.ErrorKind.TheVariants as kind
use Rattle.clap.specs.declared.parser.matches.ValueSource.TheVariants.{CommandLine}
use Rattle.fx_arguments.specs.Grammar.{Bytes, Entry, has_entry}
use Rattle.fx_arguments.proofs.Booleans.{guarded}

-- ---- tests

abbrev pub is_nil : Kinds → Bool
is_nil [] = true
is_nil (k ∷ ks) = false

pub nil-or_else : (a b : Kinds) → is_nil (or_else a b) ≡ (is_nil a && is_nil b)
nil-or_else [] b = refl
nil-or_else (k ∷ ks) b = refl

pub nil-join : (a b e : Kinds) → is_nil (or_else (or_else a b) e) ≡ (is_nil a && is_nil (or_else b e))
nil-join [] b e = refl
nil-join (k ∷ ks) b e = refl

-- ---- the rules

-- an option or FILE, as building leaves it
abbrev pub text_rule : Bytes → Option Bytes → Option ℕ → Bool → Rule
text_rule id long index required = record (new_rule id) {
  long = long;
  index = index;
  action = Some Set;
  range = Some (record { start_inclusive = 1; end_inclusive = 1 });
  parser = Some vp.String;
  required = required;
}

-- the argument of this id is one of these
pub record IsKnown (R : List Rule) (id : Bytes) : Type 0 where
  pub long : Option Bytes
  pub index : Option ℕ
  pub required : Bool
  pub by_id : arg_by_id R id ≡ Some (text_rule id long index required)

abbrev pub file_id : Bytes
file_id = codes "file"

-- ---- what is held_rows

abbrev pub row_for : Entry → Row
row_for p =
    record { id = p.0; values = p.1 ∷ []; count = None; source = Some CommandLine; reading = reading_of vp.String }

-- nothing is pending, an argument has its value, or an option waits for it
pub data Now : Type 0 where
  settled_now : Now
  with_value : Bytes → Bytes → Now
  without_value : Bytes → Now

abbrev pub pending_now : Now → Option (Bytes × List Bytes)
pending_now settled_now = None
pending_now (with_value id v) = Some (id, v ∷ [])
pending_now (without_value id) = Some (id, [])

abbrev pub waiting_now : Now → Waiting
waiting_now settled_now = idle
waiting_now (with_value id v) = idle
waiting_now (without_value id) = option id

abbrev pub held_rows : List Entry → Now → Held
held_rows seen now = record { rows = map row_for seen; pending = pending_now now; skip = 0 }

abbrev pub walk_at : List Entry → Now → ℕ → Bool → Walk
walk_at seen now position later = record {
  held = held_rows seen now;
  waiting = waiting_now now;
  position = position;
  is_trailing = later;
  stopped = None;
}

abbrev pub entry_now : Now → List Entry
entry_now settled_now = []
entry_now (with_value id v) = (id, v) ∷ []
entry_now (without_value id) = []

-- what is pending can be settled
abbrev pub can_settle : List Entry → Now → Bool
can_settle seen settled_now = true
can_settle seen (with_value id v) = not (has_entry id seen)
can_settle seen (without_value id) = false

abbrev pub IsKnownNow : List Rule → Now → Type 0
IsKnownNow R settled_now = Unit {0}
IsKnownNow R (with_value id v) = IsKnown R id
IsKnownNow R (without_value id) = IsKnown R id × (bytes_eq id file_id ≡ false)

-- ---- settling

pub rows-has : (id : Bytes) (ps : List Entry) → has_row id (map row_for ps) ≡ has_entry id ps
rows-has id [] = refl
rows-has id (p ∷ ps) = ap (λ b. bytes_eq p.0 id || b) (rows-has id ps)

pub given-has : (id : Bytes) (ps : List Entry) → is_given id (map row_for ps) ≡ has_entry id ps
given-has id [] = refl
given-has id (p ∷ ps) = first (bytes_eq p.0 id) (given-has id ps) where
  first : (b : Bool) → is_given id (map row_for ps) ≡ has_entry id ps →
      option_map_or (λ (r : Row). explicit_source r.source) (if b then Some (row_for p)
      else find (λ r. bytes_eq r.id id) (map row_for ps)) false ≡ (b || has_entry id ps)
  first true h = refl
  first false h = h

-- a use with one value fails only where the argument was used before
pub use-once : (id v : Bytes) (long : Option Bytes) (index : Option ℕ) (required : Bool) (seen : List Entry)
    → is_nil (use_fault false (text_rule id long index required) (v ∷ []) (map row_for seen)) ≡ not (has_entry id seen)
use-once id v long index required seen =
    cases (has_row id (map row_for seen)) (has_entry id seen) (rows-has id seen) where
      cases : (b d : Bool) → b ≡ d →
          is_nil (or_else (if b && not false then kind.ArgumentConflict ∷ [] else []) []) ≡ not d
      cases true true e = refl
      cases false false e = refl
      cases true false e = absurd (cc)
      cases false true e = absurd (cc)

-- a row at the end, where no row has its id
pub new-row : (id v : Bytes) (seen : List Entry) → has_entry id seen ≡ false
    → with_values id (reading_of vp.String) CommandLine (v ∷ []) (without id (map row_for seen))
    ≡ map row_for (seen ++ (id, v) ∷ [])
new-row id v seen none = ap (λ rows. with_values id (reading_of vp.String) CommandLine (v ∷ []) rows) (kept seen none)
    ∙ added seen none where
      kept : (ps : List Entry) → has_entry id ps ≡ false → without id (map row_for ps) ≡ map row_for ps
      kept [] h = refl
      kept (p ∷ ps) h =
          skip (bytes_eq p.0 id) (without id (map row_for ps)) refl
          (ap (λ l. row_for p ∷ l) (kept ps (rest (bytes_eq p.0 id) (has_entry id ps) h))) where
            rest : (a b : Bool) → (a || b) ≡ false → b ≡ false
            rest true b e = absurd (cc)
            rest false b e = e

            skip : (b : Bool) (l : List Row) → b ≡ bytes_eq p.0 id → row_for p ∷ l ≡ map row_for (p ∷ ps) →
                (if b then [] ++ map row_for ps else row_for p ∷ l) ≡ map row_for (p ∷ ps)
            skip true l e g = absurd (clash (bytes_eq p.0 id) (has_entry id ps) h (sym e)) where
              clash : (a b : Bool) → (a || b) ≡ false → a ≡ true → ⊥
              clash true b x y = cc
              clash false b x y = cc
            skip false l e g = g

      added : (ps : List Entry) → has_entry id ps ≡ false →
          with_values id (reading_of vp.String) CommandLine (v ∷ []) (map row_for ps) ≡ map row_for (ps ++ (id, v) ∷ [])
      added [] h = refl
      added (p ∷ ps) h =
          skip (bytes_eq p.0 id) refl
          (ap (λ l. row_for p ∷ l) (added ps (rest (bytes_eq p.0 id) (has_entry id ps) h))) where
            rest : (a b : Bool) → (a || b) ≡ false → b ≡ false
            rest true b e = absurd (cc)
            rest false b e = e

            skip : (b : Bool) → b ≡ bytes_eq p.0 id
                → row_for p ∷ with_values id (reading_of vp.String) CommandLine (v ∷ []) (map row_for ps) ≡ row_for p
                ∷ map row_for (ps ++ (id, v) ∷ [])
                → (if b then more_values CommandLine (v ∷ []) (row_for p) ++ map row_for ps
                else row_for p ∷ with_values id (reading_of vp.String) CommandLine (v ∷ []) (map row_for ps))
                ≡ row_for p ∷ map row_for (ps ++ (id, v) ∷ [])
            skip true e g = absurd (clash (bytes_eq p.0 id) (has_entry id ps) h (sym e)) where
              clash : (a b : Bool) → (a || b) ≡ false → a ≡ true → ⊥
              clash true b x y = cc
              clash false b x y = cc
            skip false e g = g

-- what is pending fails to settle exactly where the test says
pub settle-test : (R : List Rule) (seen : List Entry) (now : Now) → IsKnownNow R now →
    is_nil (settle_fault R false (held_rows seen now)) ≡ can_settle seen now
settle-test R seen settled_now k = refl
settle-test R seen (with_value id v) k =
    ap (λ o. is_nil (option_map_or (λ a. use_fault false a (v ∷ []) (map row_for seen)) o [])) k.by_id
    ∙ use-once id v k.long k.index k.required seen
settle-test R seen (without_value id) k =
    ap (λ o. is_nil (option_map_or (λ a. use_fault false a [] (map row_for seen)) o [])) k.0.by_id

pub settle-gives : (R : List Rule) (seen : List Entry) (now : Now) → IsKnownNow R now → can_settle seen now ≡ true →
    settled R (held_rows seen now) ≡ held_rows (seen ++ entry_now now) settled_now
settle-gives R seen settled_now k t = ap (λ l. held_rows l settled_now) (sym (append-nil seen))
settle-gives R seen (with_value id v) k t =
    ap (λ o. record { rows = used_by_id o (v ∷ []) (map row_for seen); pending = None; skip = 0 }) k.by_id
    ∙ ap (λ rows. record { rows = rows; pending = None; skip = 0 }) (new-row id v seen (not-true (has_entry id seen) t))
settle-gives R seen (without_value id) k t = absurd (cc)

-- ---- the end of the words

pub empty-list : (l : List Bytes) → is_empty l ≡ true → l ≡ []
empty-list [] e = refl
empty-list (x ∷ xs) e = let z : suc (length xs) ≡ 0 = search rules in absurd (omega arith)

abbrev pub HasNoDefaults : List Rule → Type 0
HasNoDefaults R = list_all (λ a. is_empty a.defaults) R ≡ true

pub same-rows : (R : List Rule) (rows : List Row) → HasNoDefaults R → fold with_default rows R ≡ rows
same-rows [] rows h = refl
same-rows (a ∷ R) rows h =
    let parts = and_parts (is_empty a.defaults) (list_all (λ a. is_empty a.defaults) R) h in
    ap (λ l. fold with_default l R) (stays (has_row a.id rows) ∙ refl) ∙ same-rows R rows parts.1 where
      stays : (b : Bool) → (if b then rows else default_rows a.id (reading_by a) a.defaults rows) ≡ rows
      stays true = refl
      stays false =
          ap (λ d. default_rows a.id (reading_by a) d rows)
          (empty-list a.defaults (and_parts (is_empty a.defaults) (list_all (λ a. is_empty a.defaults) R) h).0)

pub no-default-fault : (R : List Rule) (rows : List Row) → HasNoDefaults R → defaults_fault rows R ≡ []
unfolding defaults_fault
no-default-fault [] rows h = refl
no-default-fault (a ∷ R) rows h =
    let parts = and_parts (is_empty a.defaults) (list_all (λ a. is_empty a.defaults) R) h in
    let same = same-rows (a ∷ []) rows (ap (λ b. b && true) parts.0) in
    ap₂ or_else (none (has_row a.id rows) (is_empty a.defaults) parts.0) (ap (λ l. defaults_fault l R) same
    ∙ no-default-fault R rows parts.1) where
      none : (b e : Bool) → e ≡ true → (if b || e then [] else given_default_fault a a.defaults) ≡ []
      none true e h = refl
      none false true h = refl
      none false false h = absurd (cc)

-- a command with these arguments and no subcommand, as building leaves it below the top
abbrev pub leaf_shape : Bytes → List Rule → Shape
leaf_shape name R = record (new_shape name) {
  rules = R;
  no_binary_name = true;
  disable_help_flag = true;
  disable_help_subcommand = true;
  disable_version_flag = true;
  is_built = true;
}

-- the faults from a place between two words on
abbrev pub faults_from : Bytes → List Rule → Walk → List Bytes → Kinds
faults_from name R w words =
    or_else (walk_fault (leaf_shape name R) [] w words)
    (or_else (settle_fault R false (fold (walked R []) w words).held)
    (or_else (defaults_fault (settled R (fold (walked R []) w words).held).rows R)
    (check_fault (leaf_shape name R) (fold with_default (settled R (fold (walked R []) w words).held).rows R) false)))

-- each required argument is among the entries_in
abbrev pub has_required : List Rule → List Entry → Bool
has_required R ps = not (list_any (λ a. a.required && not (has_entry a.id ps)) R)

pub check-test : (name : Bytes) (R : List Rule) (ps : List Entry) →
    is_nil (check_fault (leaf_shape name R) (map row_for ps) false) ≡ has_required R ps
check-test name R ps =
    wanted (list_any (λ a. a.required && not (is_given a.id (map row_for ps))) R) ∙ ap (λ b. not b) (any-same R) where
      wanted : (b : Bool) → is_nil (if b then kind.MissingRequiredArgument ∷ [] else []) ≡ not b
      wanted true = refl
      wanted false = refl

      any-same : (R : List Rule) →
          list_any (λ a. a.required && not (is_given a.id (map row_for ps))) R ≡ list_any (λ a. a.required &&
          not (has_entry a.id ps)) R
      any-same [] = refl
      any-same (a ∷ R) = ap₂ (λ b c. (a.required && not b) || c) (given-has a.id ps) (any-same R)

pub rest-test : (name : Bytes) (R : List Rule) (ps : List Entry) (x : Held) → HasNoDefaults R →
    x ≡ held_rows ps settled_now
    → is_nil (or_else (defaults_fault x.rows R) (check_fault (leaf_shape name R) (fold with_default x.rows R) false))
    ≡ has_required R ps
rest-test name R ps x none e =
    ap (λ (y : Held). is_nil
    (or_else (defaults_fault y.rows R) (check_fault (leaf_shape name R) (fold with_default y.rows R) false))) e
    ∙ ap₂ (λ f rows. is_nil (or_else f (check_fault (leaf_shape name R) rows false)))
    (no-default-fault R (map row_for ps) none) (same-rows R (map row_for ps) none)
    ∙ check-test name R ps

pub end-test : (name : Bytes) (R : List Rule) (seen : List Entry) (now : Now) (position : ℕ) (later : Bool) →
    HasNoDefaults R → IsKnownNow R now
    → is_nil (faults_from name R (walk_at seen now position later) []) ≡ (can_settle seen now &&
    has_required R (seen ++ entry_now now))
unfolding walk_fault
end-test name R seen now position later none known =
    nil-or_else (settle_fault R false (held_rows seen now)) _
    ∙ ap (λ b. b && is_nil (or_else (defaults_fault (settled R (held_rows seen now)).rows R)
    (check_fault (leaf_shape name R) (fold with_default (settled R (held_rows seen now)).rows R) false)))
    (settle-test R seen now known)
    ∙ guarded (can_settle seen now) _ _
    (λ t. rest-test name R (seen ++ entry_now now) (settled R (held_rows seen now)) none
    (settle-gives R seen now known t))

-- one word, and then the others
pub tail-more : (name : Bytes) (R : List Rule) (w : Walk) (word : Bytes) (rest : List Bytes)
    → is_nil (faults_from name R w (word ∷ rest)) ≡ (is_nil (turn_fault (leaf_shape name R) [] w word) &&
    is_nil (faults_from name R (walked R [] w word) rest))
unfolding walk_fault
tail-more name R w word rest =
    nil-join (turn_fault (leaf_shape name R) [] w word) (walk_fault (leaf_shape name R) [] (walked R [] w word) rest) _
