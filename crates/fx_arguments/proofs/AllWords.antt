-- A command takes the words behind its name exactly where they are entries.
use Rattle.std.proofs.Common.{◌≡◌, ℕ, Bool, true, false, not, ◌&&◌, ◌||◌, List, [], ◌∷◌, ◌++◌, map, Option, Some, None, refl, ap, ap₂, ◌∙◌, sym, append_assoc}
use Rattle.std.specs.Prelude.{if◌then◌else◌}
use Rattle.std.specs.Option.{option_map_or}
use Rattle.std.specs.Str.{bytes_eq}
use Rattle.std.proofs.lemmas.List.{append-nil}
use Rattle.std.proofs.lemmas.Bool.{not-true}
use Rattle.clap.specs.Lexer.{long_of}
use Rattle.clap.specs.Walk.{plain_word, short_or_plain, word_met, long_or_other, value, Rule, idle, walked}
use Rattle.clap.specs.Faults.{flag_word_fault, bundle_fault, turn_fault, word_fault}
use Rattle.fx_arguments.specs.Grammar.{Bytes, Entry, file_entry, has_entry, is_among, is_dashed, ends_options, stand_once, entries_in, with_entry, after_word, after_option, option_value, option_parts}
use Rattle.fx_arguments.proofs.Booleans.{and-assoc, and-false, and-true, guarded, or-false, or-true}
use Rattle.fx_arguments.proofs.Pending.{IsKnown, IsKnownNow, Now, can_settle, end-test, entry_now, faults_from, file_id, has_required, held_rows, is_nil, leaf_shape, settled_now, tail-more, waiting_now, walk_at, with_value, without_value}
use Rattle.fx_arguments.proofs.OneWord.{AllHaveFirstFlag, HasFirstFlag, IsLeaf, IsOption, apart-turn, apart-walked, ends-turn, ends-walked, fault, file-turn, file-walked, joined-turn, joined-walked, met, parts-same, plain-met, short-turn, stray-turn, unknown-turn, value-turn, value-walked}

-- ---- all the words

-- the entries_in that the words still give
abbrev pub entries_left : List Bytes → List Bytes → Now → Bool → Option (List Entry)
entries_left names words settled_now true = Some (map file_entry words)
entries_left names words (with_value id v) true = Some (map file_entry words)
entries_left names words (without_value id) true = None
entries_left names words settled_now false = entries_in names words None
entries_left names words (with_value id v) false = entries_in names words None
entries_left names words (without_value id) false = entries_in names words (Some id)

-- the entries_in are there, no name stands twice, and what is required is among them
abbrev pub words_pass : List Rule → List Entry → Now → Option (List Entry) → Bool
words_pass R seen now None = false
words_pass R seen now (Some ps) = stand_once seen (entry_now now ++ ps) && has_required R (seen ++ (entry_now now ++ ps))

abbrev pub is_waiting : Now → Bool
is_waiting settled_now = false
is_waiting (with_value id v) = false
is_waiting (without_value id) = true

pub passes-settle : (R : List Rule) (seen : List Entry) (now : Now) (r : Option (List Entry)) → is_waiting now ≡ false →
    words_pass R seen now r ≡ (can_settle seen now && words_pass R (seen ++ entry_now now) settled_now r)
unfolding stand_once
passes-settle R seen now None e = sym (and-false (can_settle seen now))
passes-settle R seen settled_now (Some ps) e =
    ap (λ l. stand_once l ps && has_required R (l ++ ps)) (sym (append-nil seen))
passes-settle R seen (with_value id v) (Some ps) e =
    and-assoc (not (has_entry id seen)) (stand_once (seen ++ (id, v) ∷ []) ps) _
    ∙ ap (λ l. not (has_entry id seen) &&
    (stand_once (seen ++ (id, v) ∷ []) ps && has_required R l)) (sym (append_assoc seen ((id, v) ∷ []) ps))
passes-settle R seen (without_value id) (Some ps) e = absurd (cc)

pub passes-entry : (R : List Rule) (seen : List Entry) (p : Entry) (r : Option (List Entry)) →
    words_pass R seen (with_value p.0 p.1) r ≡ words_pass R seen settled_now (with_entry p r)
passes-entry R seen p None = refl
passes-entry R seen p (Some ps) = refl

pub passes-waiting : (R : List Rule) (seen : List Entry) (id : Bytes) (r : Option (List Entry)) →
    words_pass R seen (without_value id) r ≡ words_pass R seen settled_now r
passes-waiting R seen id None = refl
passes-waiting R seen id (Some ps) = refl

pub passes-twice : (R : List Rule) (seen : List Entry) (p : Entry) (r : Option (List Entry)) →
    has_entry p.0 seen ≡ true → words_pass R seen settled_now (with_entry p r) ≡ false
unfolding stand_once
passes-twice R seen p None e = refl
passes-twice R seen p (Some ps) e =
    ap (λ b. (not b && stand_once (seen ++ p ∷ []) ps) && has_required R (seen ++ p ∷ ps)) e

pub has-append : (id : Bytes) (xs ys : List Entry) → has_entry id (xs ++ ys) ≡ (has_entry id xs || has_entry id ys)
has-append id [] ys = refl
has-append id (p ∷ xs) ys = step (bytes_eq p.0 id) _ _ _ (has-append id xs ys) where
  step : (b c d e : Bool) → c ≡ (d || e) → (b || c) ≡ ((b || d) || e)
  step true c d e h = refl
  step false c d e h = h

abbrev pub position_of : Bool → ℕ
position_of true = 2
position_of false = 1

module _ (name : Bytes) (names : List Bytes) (R : List Rule) (L : IsLeaf names R) where
  abbrev Claim : List Bytes → Type 0
  Claim words = (seen : List Entry) (now : Now) (b later : Bool) → IsKnownNow R now →
      b ≡ has_entry file_id (seen ++ entry_now now)
      → is_nil (faults_from name R (walk_at seen now (position_of b) later) words)
      ≡ words_pass R seen now (entries_left names words now later)

  pub claim-end : Claim []
  unfolding entries_in stand_once
  claim-end seen now b later known b_is =
      end-test name R seen now (position_of b) later L.no_defaults known ∙ by_now now later where
        by_now : (n : Now) (t : Bool) →
            (can_settle seen n && has_required R (seen ++ entry_now n)) ≡ words_pass R seen n (entries_left names [] n t)
        by_now settled_now true = refl
        by_now settled_now false = refl
        by_now (with_value id v) true =
            ap (λ c. c && has_required R (seen ++ (id, v) ∷ [])) (sym (and-true (not (has_entry id seen))))
        by_now (with_value id v) false =
            ap (λ c. c && has_required R (seen ++ (id, v) ∷ [])) (sym (and-true (not (has_entry id seen))))
        by_now (without_value id) true = refl
        by_now (without_value id) false = refl

  pub file-known : IsKnown R file_id
  file-known = record { long = None; index = Some 1; required = L.file_required; by_id = L.file_by_id }

  -- a FILE, where it is the first, and no further one
  pub file-claim : (word : Bytes) (rest : List Bytes) (ih : Claim rest) (seen : List Entry) (now : Now) (b later : Bool)
      (known : IsKnownNow R now) → b ≡ has_entry file_id (seen ++ entry_now now)
      → ((position : ℕ) → word_met R [] later (waiting_now now) position word (held_rows seen now)
      ≡ (held_rows seen now, value))
      → word_fault (leaf_shape name R) [] later (waiting_now now) word (held_rows seen now) ≡ []
      → is_nil (faults_from name R (walk_at seen now (position_of b) later) (word ∷ rest))
      ≡ (can_settle seen now &&
      words_pass R (seen ++ entry_now now) settled_now
      (with_entry (file_entry word) (entries_left names rest (with_value file_id word) later)))
  file-claim word rest ih seen now true later known b_is plain no_flag =
      tail-more name R (walk_at seen now 2 later) word rest
      ∙ ap (λ b. b && is_nil (faults_from name R (walked R [] (walk_at seen now 2 later) word) rest))
      (stray-turn name names R L seen now known word later plain no_flag)
      ∙ sym (and-false (can_settle seen now))
      ∙ ap (λ b. can_settle seen now &&
      b) (sym (passes-twice R (seen ++ entry_now now) (file_entry word)
      (entries_left names rest (with_value file_id word) later) (sym b_is)))
  file-claim word rest ih seen now false later known b_is plain no_flag =
      tail-more name R (walk_at seen now 1 later) word rest
      ∙ ap (λ b. b && is_nil (faults_from name R (walked R [] (walk_at seen now 1 later) word) rest))
      (file-turn name names R L seen now known word later plain no_flag)
      ∙ guarded (can_settle seen now) _ _ (λ t.
      ap (λ w. is_nil (faults_from name R w rest))
      (file-walked name names R L seen now known word later plain no_flag t)
      ∙ ih (seen ++ entry_now now) (with_value file_id word) true later file-known
      (sym (has-append file_id (seen ++ entry_now now) ((file_id, word) ∷ [])
      ∙ or-true (has_entry file_id (seen ++ entry_now now))))
      ∙ passes-entry R (seen ++ entry_now now) (file_entry word)
      (entries_left names rest (with_value file_id word) later))

  -- after `--`
  pub later-word : (word : Bytes) (rest : List Bytes) → Claim rest → (seen : List Entry) (now : Now) (b : Bool) →
      IsKnownNow R now → b ≡ has_entry file_id (seen ++ entry_now now)
      → is_nil (faults_from name R (walk_at seen now (position_of b) true) (word ∷ rest))
      ≡ words_pass R seen now (entries_left names (word ∷ rest) now true)
  later-word word rest ih seen settled_now b known b_is =
      file-claim word rest ih seen settled_now b true known b_is (λ position. refl) refl
      ∙ sym (passes-settle R seen settled_now (Some (map file_entry (word ∷ rest))) refl)
  later-word word rest ih seen (with_value id v) b known b_is =
      file-claim word rest ih seen (with_value id v) b true known b_is (λ position. refl) refl
      ∙ sym (passes-settle R seen (with_value id v) (Some (map file_entry (word ∷ rest))) refl)
  later-word word rest ih seen (without_value id) b known b_is =
      file-claim word rest ih seen (without_value id) b true known b_is (λ position. refl) refl

  -- `--` itself
  pub ends-claim : (word : Bytes) (rest : List Bytes) → Claim rest → (seen : List Entry) (now : Now) (b : Bool) →
      IsKnownNow R now → b ≡ has_entry file_id (seen ++ entry_now now)
      → ends_options word ≡ true →
      is_nil (faults_from name R (walk_at seen now (position_of b) false) (word ∷ rest))
      ≡ words_pass R seen now (entries_left names rest now true)
  ends-claim word rest ih seen now b known b_is e =
      tail-more name R (walk_at seen now (position_of b) false) word rest
      ∙ ap₂ (λ (t : Bool) w. t && is_nil (faults_from name R w rest))
      (ends-turn name names R L seen now known (position_of b) word e)
      (ends-walked name names R L seen now known (position_of b) word e)
      ∙ ih seen now b true known b_is

  -- a turn that fails
  pub dead : (word : Bytes) (rest : List Bytes) (seen : List Entry) (now : Now) (b : Bool) →
      is_nil (turn_fault (leaf_shape name R) [] (walk_at seen now (position_of b) false) word) ≡ false
      → is_nil (faults_from name R (walk_at seen now (position_of b) false) (word ∷ rest)) ≡ false
  dead word rest seen now b e = tail-more name R (walk_at seen now (position_of b) false) word rest
      ∙ ap (λ t. t && is_nil (faults_from name R (walked R [] (walk_at seen now (position_of b) false) word) rest)) e

  pub still : (b : Bool) (id v : Bytes) (xs : List Entry) → bytes_eq id file_id ≡ false → b ≡ has_entry file_id xs →
      b ≡ has_entry file_id (xs ++ (id, v) ∷ [])
  still b id v xs apart e = e
      ∙ sym (has-append file_id xs ((id, v) ∷ []) ∙ ap (λ t. has_entry file_id xs || (t || false)) apart
      ∙ or-false (has_entry file_id xs))

  -- `--id=v`, where no option waits
  pub joined-claim : (word : Bytes) (rest : List Bytes) → Claim rest → (seen : List Entry) (now : Now) (b : Bool) →
      IsKnownNow R now → b ≡ has_entry file_id (seen ++ entry_now now) → is_waiting now ≡ false
      → ends_options word ≡ false → (id v : Bytes) → long_of word ≡ Some (id, Some v) → IsOption R id
      → is_nil (faults_from name R (walk_at seen now (position_of b) false) (word ∷ rest))
      ≡ words_pass R seen now (with_entry (id, v) (entries_in names rest None))
  joined-claim word rest ih seen now b known b_is calm goes_on id v is_long O =
      let S = seen ++ entry_now now in
      tail-more name R (walk_at seen now (position_of b) false) word rest
      ∙ ap (λ t. t && is_nil (faults_from name R (walked R [] (walk_at seen now (position_of b) false) word) rest))
      (joined-turn name names R L seen now known (position_of b) word goes_on id v is_long O)
      ∙ and-assoc (can_settle seen now) (not (has_entry id S)) _
      ∙ guarded (can_settle seen now) _ _ (λ t. guarded (not (has_entry id S)) _ _ (λ f.
      ap (λ w. is_nil (faults_from name R w rest))
      (joined-walked name names R L seen now known (position_of b) word goes_on id v is_long O t
      (not-true (has_entry id S) f))
      ∙ ih (S ++ (id, v) ∷ []) settled_now b false tt (still b id v S O.apart b_is
      ∙ ap (has_entry file_id) (sym (append-nil (S ++ (id, v) ∷ []))))))
      ∙ ap (λ p. can_settle seen now &&
      p) (sym (sym (passes-entry R S (id, v) (entries_in names rest None))
      ∙ passes-settle R S (with_value id v) (entries_in names rest None) refl))
      ∙ sym (passes-settle R seen now (with_entry (id, v) (entries_in names rest None)) calm)

  -- `--id`, where no option waits
  pub apart-claim : (word : Bytes) (rest : List Bytes) → Claim rest → (seen : List Entry) (now : Now) (b : Bool) →
      IsKnownNow R now → b ≡ has_entry file_id (seen ++ entry_now now) → is_waiting now ≡ false
      → ends_options word ≡ false → (id : Bytes) → long_of word ≡ Some (id, None) → IsOption R id
      → is_nil (faults_from name R (walk_at seen now (position_of b) false) (word ∷ rest))
      ≡ words_pass R seen now (entries_in names rest (Some id))
  apart-claim word rest ih seen now b known b_is calm goes_on id is_long O =
      let S = seen ++ entry_now now in
      let O_known : IsKnown R id = record { long = Some id; index = None; required = O.required; by_id = O.by_id } in
      tail-more name R (walk_at seen now (position_of b) false) word rest
      ∙ ap (λ t. t && is_nil (faults_from name R (walked R [] (walk_at seen now (position_of b) false) word) rest))
      (apart-turn name names R L seen now known (position_of b) word goes_on id is_long O)
      ∙ guarded (can_settle seen now) _ _ (λ t.
      ap (λ w. is_nil (faults_from name R w rest))
      (apart-walked name names R L seen now known (position_of b) word goes_on id is_long O t)
      ∙ ih S (without_value id) b false (O_known, O.apart) (b_is ∙ ap (has_entry file_id) (sym (append-nil S)))
      ∙ passes-waiting R S id (entries_in names rest (Some id)))
      ∙ sym (passes-settle R seen now (entries_in names rest (Some id)) calm)

  -- the value of an option that waits
  pub value-claim : (word : Bytes) (rest : List Bytes) → Claim rest → (seen : List Entry) (id : Bytes) (b : Bool) →
      IsKnownNow R (without_value id) → b ≡ has_entry file_id (seen ++ entry_now (without_value id))
      → is_dashed word ≡ false →
      is_nil (faults_from name R (walk_at seen (without_value id) (position_of b) false) (word ∷ rest))
      ≡ words_pass R seen (without_value id) (with_entry (id, word) (entries_in names rest None))
  value-claim word rest ih seen id b known b_is plain =
      tail-more name R (walk_at seen (without_value id) (position_of b) false) word rest
      ∙ ap₂ (λ (t : Bool) w. t && is_nil (faults_from name R w rest))
      (value-turn name names R L seen id known (position_of b) word plain)
      (value-walked name names R L seen id known (position_of b) word plain)
      ∙ ih seen (with_value id word) b false known.0
      (still b id word seen known.1 (b_is ∙ ap (has_entry file_id) (append-nil seen)))
      ∙ passes-entry R seen (id, word) (entries_in names rest None)
      ∙ sym (passes-waiting R seen id (with_entry (id, word) (entries_in names rest None)))

  -- a flag, where no option waits
  pub flag-claim : (word : Bytes) (rest : List Bytes) → HasFirstFlag word → Claim rest →
      (seen : List Entry) (now : Now) (b : Bool) → IsKnownNow R now → b ≡ has_entry file_id (seen ++ entry_now now) →
      is_waiting now ≡ false
      → ends_options word ≡ false → is_dashed word ≡ true
      → is_nil (faults_from name R (walk_at seen now (position_of b) false) (word ∷ rest))
      ≡ words_pass R seen now (after_option names (option_parts word) (entries_in names rest))
  flag-claim word rest flagged ih seen now b known b_is calm goes_on dashed = by_long (long_of word) refl
      ∙ ap (λ l. words_pass R seen now (after_option names l (entries_in names rest))) (parts-same word) where
        by_long : (l : Option (Bytes × Option Bytes)) → long_of word ≡ l →
            is_nil (faults_from name R (walk_at seen now (position_of b) false) (word ∷ rest))
            ≡ words_pass R seen now (after_option names l (entries_in names rest))
        by_long None e =
            dead word rest seen now b
            (short-turn name names R L seen now known (position_of b) word goes_on dashed e flagged)
        by_long (Some (id, value_named)) e = by_name (is_among id names) refl value_named e where
          by_name : (t : Bool) → is_among id names ≡ t → (o : Option Bytes) → long_of word ≡ Some (id, o)
              → is_nil (faults_from name R (walk_at seen now (position_of b) false) (word ∷ rest))
              ≡ words_pass R seen now (if t then option_value id o (entries_in names rest) else None)
          by_name false g o e =
              dead word rest seen now b
              (unknown-turn name names R L seen now known (position_of b) word goes_on (id, o) e g)
          by_name true g (Some v) e =
              joined-claim word rest ih seen now b known b_is calm goes_on id v e (L.option_there id g)
          by_name true g None e = apart-claim word rest ih seen now b known b_is calm goes_on id e (L.option_there id g)

  -- a flag, where an option waits
  pub flag-dead : (word : Bytes) (rest : List Bytes) → HasFirstFlag word →
      (seen : List Entry) (wanted : Bytes) (b : Bool) → IsKnownNow R (without_value wanted)
      → ends_options word ≡ false → is_dashed word ≡ true →
      is_nil (faults_from name R (walk_at seen (without_value wanted) (position_of b) false) (word ∷ rest)) ≡ false
  flag-dead word rest flagged seen wanted b known goes_on dashed = by_long (long_of word) refl where
    by_long : (l : Option (Bytes × Option Bytes)) → long_of word ≡ l →
        is_nil (faults_from name R (walk_at seen (without_value wanted) (position_of b) false) (word ∷ rest)) ≡ false
    by_long None e =
        dead word rest seen (without_value wanted) b
        (short-turn name names R L seen (without_value wanted) known (position_of b) word goes_on dashed e flagged)
    by_long (Some (id, value_named)) e = by_name (is_among id names) refl value_named e where
      by_name : (t : Bool) → is_among id names ≡ t → (o : Option Bytes) → long_of word ≡ Some (id, o) →
          is_nil (faults_from name R (walk_at seen (without_value wanted) (position_of b) false) (word ∷ rest)) ≡ false
      by_name false g o e =
          dead word rest seen (without_value wanted) b
          (unknown-turn name names R L seen (without_value wanted) known (position_of b) word goes_on (id, o) e g)
      by_name true g (Some v) e =
          dead word rest seen (without_value wanted) b
          (joined-turn name names R L seen (without_value wanted) known (position_of b) word goes_on id v e
          (L.option_there id g))
      by_name true g None e =
          dead word rest seen (without_value wanted) b
          (apart-turn name names R L seen (without_value wanted) known (position_of b) word goes_on id e
          (L.option_there id g))

  -- a word, where no option waits
  pub calm-word : (word : Bytes) (rest : List Bytes) → HasFirstFlag word → Claim rest →
      (seen : List Entry) (now : Now) (b : Bool) → IsKnownNow R now → b ≡ has_entry file_id (seen ++ entry_now now) →
      is_waiting now ≡ false
      → waiting_now now ≡ idle → entries_left names rest now true ≡ Some (map file_entry rest)
      → is_nil (faults_from name R (walk_at seen now (position_of b) false) (word ∷ rest))
      ≡ words_pass R seen now (after_word names word rest (entries_in names rest) None)
  calm-word word rest flagged ih seen now b known b_is calm no_wait all_files =
      by_ends (ends_options word) refl (is_dashed word) refl where
        by_ends : (t : Bool) → ends_options word ≡ t → (d : Bool) → is_dashed word ≡ d
            → is_nil (faults_from name R (walk_at seen now (position_of b) false) (word ∷ rest))
            ≡ words_pass R seen now (if t then Some (map file_entry rest) else if d
            then after_option names (option_parts word) (entries_in names rest)
            else with_entry (file_entry word) (entries_in names rest None))
        by_ends true e d f = ends-claim word rest ih seen now b known b_is e ∙ ap (words_pass R seen now) all_files
        by_ends false e true f = flag-claim word rest flagged ih seen now b known b_is calm e f
        by_ends false e false f =
            file-claim word rest ih seen now b false known b_is
            (λ position. met name names R L seen now known position word e
            ∙ ap (λ l. long_or_other R (waiting_now now) word l (held_rows seen now)) (plain-met word f).0
            ∙ ap (λ o. short_or_plain R (waiting_now now) word o (held_rows seen now)) (plain-met word f).1
            ∙ ap (λ w. plain_word R w word (held_rows seen now)) no_wait)
            (fault name names R L seen now known 1 word e
            ∙ ap (λ l. flag_word_fault R false l word (held_rows seen now)) (plain-met word f).0
            ∙ ap (λ o. option_map_or (λ flags. bundle_fault R false flags (held_rows seen now)) o [])
            (plain-met word f).1)
            ∙ sym (passes-settle R seen now (with_entry (file_entry word) (entries_in names rest None)) calm)

  -- a word, where an option waits
  pub waiting-word : (word : Bytes) (rest : List Bytes) → HasFirstFlag word → Claim rest →
      (seen : List Entry) (id : Bytes) (b : Bool) → IsKnownNow R (without_value id) →
      b ≡ has_entry file_id (seen ++ entry_now (without_value id))
      → is_nil (faults_from name R (walk_at seen (without_value id) (position_of b) false) (word ∷ rest))
      ≡ words_pass R seen (without_value id) (after_word names word rest (entries_in names rest) (Some id))
  waiting-word word rest flagged ih seen id b known b_is = by_dash (is_dashed word) refl (ends_options word) refl where
    by_dash : (d : Bool) → is_dashed word ≡ d → (t : Bool) → ends_options word ≡ t
        → is_nil (faults_from name R (walk_at seen (without_value id) (position_of b) false) (word ∷ rest))
        ≡ words_pass R seen (without_value id) (if d then None else with_entry (id, word) (entries_in names rest None))
    by_dash false f t e = value-claim word rest ih seen id b known b_is f
    by_dash true f true e = ends-claim word rest ih seen (without_value id) b known b_is e
    by_dash true f false e = flag-dead word rest flagged seen id b known e f

  pub claim-more : (word : Bytes) (rest : List Bytes) → HasFirstFlag word → Claim rest → Claim (word ∷ rest)
  unfolding entries_in
  claim-more word rest flagged ih seen now b true known b_is = later-word word rest ih seen now b known b_is
  claim-more word rest flagged ih seen settled_now b false known b_is =
      calm-word word rest flagged ih seen settled_now b known b_is refl refl refl
  claim-more word rest flagged ih seen (with_value id v) b false known b_is =
      calm-word word rest flagged ih seen (with_value id v) b known b_is refl refl refl
  claim-more word rest flagged ih seen (without_value id) b false known b_is =
      waiting-word word rest flagged ih seen id b known b_is

  pub claim : (words : List Bytes) → AllHaveFirstFlag words → Claim words
  claim [] flagged = claim-end
  claim (word ∷ rest) flagged = claim-more word rest flagged.0 (claim rest flagged.1)

  -- the command takes the words exactly where they are such a list with no name twice and all that is required
  pub leaf-takes : (words : List Bytes) → AllHaveFirstFlag words
      → is_nil (faults_from name R (walk_at [] settled_now 1 false) words)
      ≡ words_pass R [] settled_now (entries_in names words None)
  leaf-takes words flagged = claim words flagged [] settled_now false false tt refl
