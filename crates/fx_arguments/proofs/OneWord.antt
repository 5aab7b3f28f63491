-- What one word does.
use Rattle.std.proofs.Common.{zero, ◌≡◌, ℕ, Bool, true, false, not, ◌&&◌, List, [], ◌∷◌, ◌++◌, length, drop, suc, Option, Some, None, refl, ap, ap₂, ◌∙◌}
use Rattle.std.specs.Prelude.{◌==◌, if◌then◌else◌, slice_get}
use Rattle.std.specs.Option.{option_map_or}
use Rattle.std.specs.Str.{bytes_eq, chars}
use Rattle.std.specs.Prelude.{option_and_then, ◌≢◌, encode_utf8, nat_lt}
use Rattle.std.proofs.lemmas.Slice.Eq.{bytes_eq-Decides}
use Rattle.clap.specs.Lexer.{long_of, long_of_rest, short_of, short_of_rest, strip_byte}
use Rattle.clap.specs.Values.{reading_of}
use Rattle.clap.specs.Walk.{after_flag, long_met, short_or_plain, option_word, next, after_step, subcommand_met, word_met, subcommand_or_other, long_or_other, trailing, is_pending, pushed, to_positional, value, Held, Rule, idle, option, arg_by_id, arg_by_index, arg_by_long, arg_by_short, settled, walked, with_values, without}
use Rattle.clap.specs.Kinds.{Kinds, or_else}
use Rattle.clap.specs.Faults.{other_fault, flag_word_fault, bundle_fault, bundle_step_fault, short_fault, long_fault, positional_fault, stray_fault, flags_fault, react_fault, settle_fault, turn_fault, use_fault, word_fault, step_fault}
use Rattle.clap.specs.declared.builder.value_parser.ValueParser.TheVariants as vp
use Rattle.clap.specs.declared.parser.matches.ValueSource.TheVariants.{CommandLine}
use Rattle.fx_arguments.specs.Grammar.{Bytes, Entry, has_entry, is_among, is_dashed, ends_options, option_parts, name_and_value}
use Rattle.fx_arguments.proofs.Booleans.{and-true, guarded, never-both, or-false}
use Rattle.fx_arguments.proofs.Pending.{HasNoDefaults, IsKnownNow, Now, can_settle, entry_now, file_id, held_rows, is_nil, leaf_shape, new-row, nil-or_else, pending_now, settle-gives, settle-test, settled_now, text_rule, use-once, waiting_now, walk_at, with_value, without_value}

-- ---- one word

-- what the command's own rules are
pub record IsOption (R : List Rule) (name : Bytes) : Type 0 where
  pub required : Bool
  pub by_long : arg_by_long R name ≡ Some (text_rule name (Some name) None required)
  pub by_id : arg_by_id R name ≡ Some (text_rule name (Some name) None required)
  pub apart : bytes_eq name file_id ≡ false

pub record IsLeaf (names : List Bytes) (R : List Rule) : Type 0 where
  pub no_defaults : HasNoDefaults R
  pub option_there : (name : Bytes) → is_among name names ≡ true → IsOption R name
  pub option_missing : (name : Bytes) → is_among name names ≡ false → arg_by_long R name ≡ None
  pub no_short : (x : ℕ) → arg_by_short R x ≡ None
  pub file_required : Bool
  pub file_first : arg_by_index R 1 ≡ Some (text_rule file_id None (Some 1) file_required)
  pub file_by_id : arg_by_id R file_id ≡ Some (text_rule file_id None (Some 1) file_required)
  pub no_second : arg_by_index R 2 ≡ None

-- a word that is not dashed is no flag
pub plain-met : (word : Bytes) → is_dashed word ≡ false →
    (long_of word ≡ None) × (short_of word ≡ None) × (ends_options word ≡ false)
plain-met [] e = (refl, refl, refl)
plain-met (c ∷ []) e = cases (c == 45) where
  cases : (b : Bool) → (option_and_then long_of_rest (option_and_then (strip_byte 45) (if b then Some [] else None))
      ≡ None)
      × (option_and_then short_of_rest (if b then Some [] else None) ≡ None) × ((b && false) ≡ false)
  cases true = (refl, refl, refl)
  cases false = (refl, refl, refl)
plain-met (c ∷ d ∷ rest) e = cases (c == 45) e where
  cases : (b : Bool) → b ≡ false →
      (option_and_then long_of_rest (option_and_then (strip_byte 45) (if b then Some (d ∷ rest) else None)) ≡ None)
      × (option_and_then short_of_rest (if b then Some (d ∷ rest) else None) ≡ None) ×
      ((b && bytes_eq (d ∷ rest) (45 ∷ [])) ≡ false)
  cases true h = absurd (cc)
  cases false h = (refl, refl, refl)

-- the parts of a word are what `clap` makes of them
pub parts-same : (word : Bytes) → long_of word ≡ option_parts word
parts-same [] = refl
parts-same (a ∷ []) = one (a == 45) where
  one : (s : Bool) → option_and_then long_of_rest (option_and_then (strip_byte 45) (if s then Some [] else None)) ≡ None
  one true = refl
  one false = refl
parts-same (a ∷ b ∷ []) = outer (a == 45) ∙ two (a == 45) (b == 45) where
  outer : (s : Bool) → option_and_then long_of_rest
      (option_and_then (strip_byte 45) (if s then Some (b ∷ []) else None))
      ≡ option_and_then long_of_rest (if s then (if b == 45 then Some [] else None) else None)
  outer true = refl
  outer false = refl

  two : (s t : Bool) → option_and_then long_of_rest (if s then (if t then Some [] else None) else None) ≡ None
  two true true = refl
  two true false = refl
  two false t = refl
parts-same (a ∷ b ∷ c ∷ rest) = outer (a == 45) ∙ more (a == 45) (b == 45) where
  outer : (s : Bool) → option_and_then long_of_rest
      (option_and_then (strip_byte 45) (if s then Some (b ∷ c ∷ rest) else None))
      ≡ option_and_then long_of_rest (if s then (if b == 45 then Some (c ∷ rest) else None) else None)
  outer true = refl
  outer false = refl

  more : (s t : Bool) → option_and_then long_of_rest (if s then (if t then Some (c ∷ rest) else None) else None)
      ≡ (if s && t then Some (name_and_value (c ∷ rest)) else None)
  more true true = refl
  more true false = refl
  more false t = refl

-- a word that starts as a flag and is no `--name` is a bundle of short flags
pub short-met : (word : Bytes) → is_dashed word ≡ true → ends_options word ≡ false → long_of word ≡ None →
    short_of word ≡ Some (drop 1 word)
short-met [] e f g = absurd (cc)
short-met (c ∷ []) e f g = absurd (cc)
short-met (c ∷ d ∷ rest) e f g = outer (c == 45) e f g where
  inner : (t : Bool) (rest : Bytes) → (t && bytes_eq rest []) ≡ false →
      option_and_then long_of_rest (if t then Some rest else None) ≡ None
      → (if t then None else Some (d ∷ rest)) ≡ Some (d ∷ rest)
  inner true [] f g = absurd (cc)
  inner true (x ∷ xs) f g = absurd (cc)
  inner false rest f g = refl

  outer : (b : Bool) → b ≡ true → (b && ((d == 45) && bytes_eq rest [])) ≡ false
      → option_and_then long_of_rest (option_and_then (strip_byte 45) (if b then Some (d ∷ rest) else None)) ≡ None
      → option_and_then short_of_rest (if b then Some (d ∷ rest) else None) ≡ Some (d ∷ rest)
  outer true e f g = inner (d == 45) rest f g
  outer false e f g = absurd (cc)

-- the flags of the word begin with a character
abbrev pub HasFirstFlag : Bytes → Type 0
HasFirstFlag word =
    is_dashed word ≡ true → (x : ℕ) × (slice_get (chars (drop 1 word)) 0 ≡ Some x) × (length (drop 1 word) ≢ 0)

abbrev pub AllHaveFirstFlag : List Bytes → Type 0
AllHaveFirstFlag [] = Unit {0}
AllHaveFirstFlag (word ∷ rest) = HasFirstFlag word × AllHaveFirstFlag rest

pub no-nil : (a b : Kinds) → is_nil a ≡ false → is_nil (or_else a b) ≡ false
no-nil [] b e = absurd (cc)
no-nil (k ∷ ks) b e = refl

pub nil-first : (a b : Kinds) → a ≡ [] → is_nil (or_else a b) ≡ is_nil b
nil-first [] b e = refl
nil-first (k ∷ ks) b e = absurd (cc)

module _ (name : Bytes) (names : List Bytes) (R : List Rule) (L : IsLeaf names R) (seen : List Entry) (now : Now)
    (known : IsKnownNow R now) where
  pub positional-test : is_nil (step_fault (leaf_shape name R) 1 (held_rows seen now) value) ≡ can_settle seen now
  positional-test =
      ap (λ o. is_nil (option_map_or (λ a. positional_fault R false a (held_rows seen now)) o
      (stray_fault (leaf_shape name R)))) L.file_first
      ∙ ap is_nil (never-both (is_pending (text_rule file_id None (Some 1) L.file_required) (pending_now now)) []
      (settle_fault R false (held_rows seen now)))
      ∙ settle-test R seen now known

  pub stray-test : is_nil (step_fault (leaf_shape name R) 2 (held_rows seen now) value) ≡ false
  stray-test =
      ap (λ o. is_nil (option_map_or (λ a. positional_fault R false a (held_rows seen now)) o
      (stray_fault (leaf_shape name R)))) L.no_second

  pub after-file : (word : Bytes) (later : Bool) → can_settle seen now ≡ true
      → to_positional R (arg_by_index R 1) word (walk_at seen now 1 later) (held_rows seen now)
      ≡ walk_at (seen ++ entry_now now) (with_value file_id word) 2 later
  after-file word later t =
      ap (λ o. to_positional R o word (walk_at seen now 1 later) (held_rows seen now)) L.file_first
      ∙ ap₂ (λ (x : Held) b. record {
        held = pushed file_id word x;
        waiting = idle;
        position = 2;
        is_trailing = b;
        stopped = None;
      })
      (never-both (is_pending (text_rule file_id None (Some 1) L.file_required) (pending_now now)) (held_rows seen now)
      (settled R (held_rows seen now)) ∙ settle-gives R seen now known t)
      (or-false later)

  -- a word at the position of FILE, or past it, where it is no flag
  module _ (word : Bytes) (later : Bool) (plain : (position : ℕ) →
      word_met R [] later (waiting_now now) position word (held_rows seen now) ≡ (held_rows seen now, value))
      (no_flag : word_fault (leaf_shape name R) [] later (waiting_now now) word (held_rows seen now) ≡ []) where
    pub file-turn : is_nil (turn_fault (leaf_shape name R) [] (walk_at seen now 1 later) word) ≡ can_settle seen now
    file-turn =
        nil-first _ _ no_flag ∙ ap (λ m. is_nil (step_fault (leaf_shape name R) 1 m.0 m.1)) (plain 1) ∙ positional-test

    pub stray-turn : is_nil (turn_fault (leaf_shape name R) [] (walk_at seen now 2 later) word) ≡ false
    stray-turn =
        nil-first _ _ no_flag ∙ ap (λ m. is_nil (step_fault (leaf_shape name R) 2 m.0 m.1)) (plain 2) ∙ stray-test

    pub file-walked : can_settle seen now ≡ true →
        walked R [] (walk_at seen now 1 later) word ≡ walk_at (seen ++ entry_now now) (with_value file_id word) 2 later
    unfolding walked
    file-walked t = ap (λ m. after_step R word (walk_at seen now 1 later) m.0 m.1) (plain 1) ∙ after-file word later t

  -- no subcommand is there
  pub no-subcommand : (word : Bytes) → subcommand_met [] (waiting_now now) word ≡ None
  no-subcommand word = by_now now where
    by_now : (n : Now) → subcommand_met [] (waiting_now n) word ≡ None
    by_now settled_now = refl
    by_now (with_value id v) = refl
    by_now (without_value id) = refl

  pub met-is : (position : ℕ) (word : Bytes) → word_met R [] false (waiting_now now) position word (held_rows seen now)
      ≡ (if ends_options word then (held_rows seen now, trailing position)
      else long_or_other R (waiting_now now) word (long_of word) (held_rows seen now))
  met-is position word =
      ap (λ o. subcommand_or_other R o (waiting_now now) position word (held_rows seen now)) (no-subcommand word)

  pub fault-is : (word : Bytes) → word_fault (leaf_shape name R) [] false (waiting_now now) word (held_rows seen now)
      ≡ (if ends_options word then [] else flag_word_fault R false (long_of word) word (held_rows seen now))
  fault-is word = ap (λ o. other_fault (leaf_shape name R) o word (held_rows seen now)) (no-subcommand word)

  -- `--`
  pub ends-turn : (position : ℕ) (word : Bytes) → ends_options word ≡ true →
      is_nil (turn_fault (leaf_shape name R) [] (walk_at seen now position false) word) ≡ true
  ends-turn position word e =
      nil-first _ _ (fault-is word
      ∙ ap (λ (b : Bool). if b then [] else flag_word_fault R false (long_of word) word (held_rows seen now)) e)
      ∙ ap (λ m. is_nil (step_fault (leaf_shape name R) position m.0 m.1)) (met-is position word
      ∙ ap (λ (b : Bool). if b then (held_rows seen now, trailing position)
      else long_or_other R (waiting_now now) word (long_of word) (held_rows seen now)) e)

  pub ends-walked : (position : ℕ) (word : Bytes) → ends_options word ≡ true →
      walked R [] (walk_at seen now position false) word ≡ walk_at seen now position true
  unfolding walked
  ends-walked position word e =
      ap (λ m. after_step R word (walk_at seen now position false) m.0 m.1) (met-is position word
      ∙ ap (λ (b : Bool). if b then (held_rows seen now, trailing position)
      else long_or_other R (waiting_now now) word (long_of word) (held_rows seen now)) e)

  module _ (position : ℕ) (word : Bytes) (goes_on : ends_options word ≡ false) where
    pub met : word_met R [] false (waiting_now now) position word (held_rows seen now)
        ≡ long_or_other R (waiting_now now) word (long_of word) (held_rows seen now)
    met = met-is position word
        ∙ ap (λ (b : Bool). if b then (held_rows seen now, trailing position)
        else long_or_other R (waiting_now now) word (long_of word) (held_rows seen now)) goes_on

    pub fault : word_fault (leaf_shape name R) [] false (waiting_now now) word (held_rows seen now)
        ≡ flag_word_fault R false (long_of word) word (held_rows seen now)
    fault =
        fault-is word ∙ ap (λ (b : Bool). if b then []
        else flag_word_fault R false (long_of word) word (held_rows seen now)) goes_on

    -- short flags are unknown
    pub short-turn : is_dashed word ≡ true → long_of word ≡ None → HasFirstFlag word →
        is_nil (turn_fault (leaf_shape name R) [] (walk_at seen now position false) word) ≡ false
    unfolding flags_fault
    short-turn dashed no_long flagged =
        no-nil _ _ (ap is_nil (fault ∙ ap (λ o. flag_word_fault R false o word (held_rows seen now)) no_long
        ∙ ap (λ o. option_map_or (λ flags. bundle_fault R false flags (held_rows seen now)) o [])
        (short-met word dashed goes_on no_long))
        ∙ first (drop 1 word) (length (drop 1 word)) (flagged dashed).0 (flagged dashed).1 (flagged dashed).2) where
          first : (flags : Bytes) (k : ℕ) (x : ℕ) → slice_get (chars flags) 0 ≡ Some x → k ≢ 0 →
              is_nil (flags_fault R false k flags 0 (record (held_rows seen now) { skip = 0 })) ≡ false
          first flags zero x e n = absurd (n refl)
          first flags (suc k) x e n =
              ap (λ o. is_nil (bundle_step_fault R false o flags 0 (record (held_rows seen now) { skip = 0 })
              (flags_fault R false k))) e
              ∙ ap (λ o. is_nil (short_fault R false o (drop (length (encode_utf8 x)) flags)
              (record (held_rows seen now) { skip = 0 })
              (flags_fault R false k (drop (length (encode_utf8 x)) flags) 0))) (L.no_short x)

    -- an option that is not there
    pub unknown-turn : (p : Bytes × Option Bytes) → long_of word ≡ Some p → is_among p.0 names ≡ false →
        is_nil (turn_fault (leaf_shape name R) [] (walk_at seen now position false) word) ≡ false
    unknown-turn p e absent =
        no-nil _ _ (ap is_nil (fault ∙ ap (λ o. flag_word_fault R false o word (held_rows seen now)) e)
        ∙ ap (λ o. is_nil (long_fault R false o p.1 (held_rows seen now))) (L.option_missing p.0 absent))

    -- `--id=v`
    pub joined-turn : (id v : Bytes) → long_of word ≡ Some (id, Some v) → IsOption R id
        → is_nil (turn_fault (leaf_shape name R) [] (walk_at seen now position false) word) ≡ (can_settle seen now &&
        not (has_entry id (seen ++ entry_now now)))
    joined-turn id v is_long O =
        let rule = text_rule id (Some id) None O.required in
        let gives : (x : Held) → x ≡ held_rows (seen ++ entry_now now) settled_now →
        is_nil (use_fault false rule (v ∷ []) x.rows) ≡ not (has_entry id (seen ++ entry_now now)) =
        λ x e. ap (λ (y : Held). is_nil (use_fault false rule (v ∷ []) y.rows)) e
        ∙ use-once id v (Some id) None O.required (seen ++ entry_now now) in
        ap₂ (λ wf m. is_nil (or_else wf (step_fault (leaf_shape name R) position m.0 m.1)))
        (fault ∙ ap (λ o. flag_word_fault R false o word (held_rows seen now)) is_long
        ∙ ap (λ o. long_fault R false o (Some v) (held_rows seen now)) O.by_long)
        (met ∙ ap (λ o. long_or_other R (waiting_now now) word o (held_rows seen now)) is_long
        ∙ ap (λ o. after_flag R (waiting_now now) word (long_met R o (Some v) (held_rows seen now)).0
        (long_met R o (Some v) (held_rows seen now)).1) O.by_long)
        ∙ nil-or_else (react_fault R false rule (v ∷ []) (held_rows seen now)) [] ∙ and-true _
        ∙ nil-or_else (settle_fault R false (held_rows seen now)) _
        ∙ ap (λ b. b && is_nil (use_fault false rule (v ∷ []) (settled R (held_rows seen now)).rows))
        (settle-test R seen now known)
        ∙ guarded (can_settle seen now) _ _
        (λ t. gives (settled R (held_rows seen now)) (settle-gives R seen now known t))

    pub joined-walked : (id v : Bytes) → long_of word ≡ Some (id, Some v) → IsOption R id → can_settle seen now ≡ true →
        has_entry id (seen ++ entry_now now) ≡ false
        → walked R [] (walk_at seen now position false) word
        ≡ walk_at ((seen ++ entry_now now) ++ (id, v) ∷ []) settled_now position false
    unfolding walked
    joined-walked id v is_long O t fresh =
        ap (λ m. after_step R word (walk_at seen now position false) m.0 m.1)
        (met ∙ ap (λ o. long_or_other R (waiting_now now) word o (held_rows seen now)) is_long
        ∙ ap (λ o. after_flag R (waiting_now now) word (long_met R o (Some v) (held_rows seen now)).0
        (long_met R o (Some v) (held_rows seen now)).1) O.by_long)
        ∙ ap (λ (x : Held). record {
          held = record {
            rows = with_values id (reading_of vp.String) CommandLine (v ∷ [])
                (without id x.rows);
            pending = None;
            skip = 0;
          };
          waiting = idle;
          position = position;
          is_trailing = false;
          stopped = None;
        })
        (settle-gives R seen now known t)
        ∙ ap (λ rows. record {
          held = record { rows = rows; pending = None; skip = 0 };
          waiting = idle;
          position = position;
          is_trailing = false;
          stopped = None;
        }) (new-row id v (seen ++ entry_now now) fresh)

    -- `--id`
    pub apart-turn : (id : Bytes) → long_of word ≡ Some (id, None) → IsOption R id
        → is_nil (turn_fault (leaf_shape name R) [] (walk_at seen now position false) word) ≡ can_settle seen now
    apart-turn id is_long O =
        ap₂ (λ wf m. is_nil (or_else wf (step_fault (leaf_shape name R) position m.0 m.1)))
        (fault ∙ ap (λ o. flag_word_fault R false o word (held_rows seen now)) is_long
        ∙ ap (λ o. long_fault R false o None (held_rows seen now)) O.by_long)
        (met ∙ ap (λ o. long_or_other R (waiting_now now) word o (held_rows seen now)) is_long
        ∙ ap (λ o. after_flag R (waiting_now now) word (long_met R o None (held_rows seen now)).0
        (long_met R o None (held_rows seen now)).1) O.by_long)
        ∙ nil-or_else (settle_fault R false (held_rows seen now)) [] ∙ and-true _ ∙ settle-test R seen now known

    pub apart-walked : (id : Bytes) → long_of word ≡ Some (id, None) → IsOption R id → can_settle seen now ≡ true
        → walked R [] (walk_at seen now position false) word
        ≡ walk_at (seen ++ entry_now now) (without_value id) position false
    unfolding walked
    apart-walked id is_long O t =
        ap (λ m. after_step R word (walk_at seen now position false) m.0 m.1)
        (met ∙ ap (λ o. long_or_other R (waiting_now now) word o (held_rows seen now)) is_long
        ∙ ap (λ o. after_flag R (waiting_now now) word (long_met R o None (held_rows seen now)).0
        (long_met R o None (held_rows seen now)).1) O.by_long)
        ∙ ap (λ (x : Held). record {
          held = record x { pending = Some (id, []) };
          waiting = option id;
          position = position;
          is_trailing = false;
          stopped = None;
        })
        (settle-gives R seen now known t)

pub same-bytes : (xs : Bytes) → bytes_eq xs xs ≡ true
same-bytes xs = (bytes_eq-Decides xs xs).1 refl

-- the value of an option in a word of its own
module _ (name : Bytes) (names : List Bytes) (R : List Rule) (L : IsLeaf names R) (seen : List Entry) (id : Bytes)
    (known : IsKnownNow R (without_value id)) (position : ℕ) (word : Bytes)
    (plain : is_dashed word ≡ false) where
  pub value-met : word_met R [] false (option id) position word (held_rows seen (without_value id))
      ≡ (held_rows seen (with_value id word), next idle)
  value-met =
      met name names R L seen (without_value id) known position word (plain-met word plain).2
      ∙ ap (λ l. long_or_other R (option id) word l (held_rows seen (without_value id))) (plain-met word plain).0
      ∙ ap (λ o. short_or_plain R (option id) word o (held_rows seen (without_value id))) (plain-met word plain).1
      ∙ ap (λ o. (
        (option_word o id word (held_rows seen (without_value id))).0,
        next (option_word o id word (held_rows seen (without_value id))).1,
      )) known.0.by_id
      ∙ ap (λ b. (
        held_rows seen (with_value id word),
        next (if nat_lt (if b then 1 else 0) 1 then option id else idle),
      )) (same-bytes id)

  pub value-turn : is_nil (turn_fault (leaf_shape name R) [] (walk_at seen (without_value id) position false) word)
      ≡ true
  value-turn =
      nil-first _ _ (fault name names R L seen (without_value id) known position word (plain-met word plain).2
      ∙ ap (λ l. flag_word_fault R false l word (held_rows seen (without_value id))) (plain-met word plain).0
      ∙ ap (λ o. option_map_or (λ flags. bundle_fault R false flags (held_rows seen (without_value id))) o [])
      (plain-met word plain).1)
      ∙ ap (λ m. is_nil (step_fault (leaf_shape name R) position m.0 m.1)) value-met

  pub value-walked : walked R [] (walk_at seen (without_value id) position false) word
      ≡ walk_at seen (with_value id word) position false
  unfolding walked
  value-walked = ap (λ m. after_step R word (walk_at seen (without_value id) position false) m.0 m.1) value-met
