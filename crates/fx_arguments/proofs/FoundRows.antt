-- What a command has found behind the words.
use Rattle.std.proofs.Common.{◌≡◌, ℕ, Bool, true, false, not, List, [], ◌∷◌, ◌++◌, map, Option, Some, None, option_map, refl, ap, ◌∙◌, sym, append_assoc}
use Rattle.std.specs.Prelude.{option_and_then, slice_get, if◌then◌else◌, fold, find}
use Rattle.std.specs.Option.{option_map_or}
use Rattle.std.specs.Str.{bytes_eq}
use Rattle.std.proofs.lemmas.List.{append-nil}
use Rattle.std.proofs.lemmas.Bool.{and_parts, not-true}
use Rattle.clap.specs.Lexer.{long_of}
use Rattle.clap.specs.Walk.{with_default, Held, Row, Rule, idle, value, walked, word_met, settled, rows_after, first_of, long_or_other, short_or_plain, plain_word}
use Rattle.clap.specs.Faults.{word_fault, flag_word_fault, bundle_fault}
use Rattle.fx_arguments.specs.Grammar.{Bytes, Entry, file_entry, has_entry, is_among, is_dashed, ends_options, stand_once, entries_in, with_entry, after_word, after_option, option_value, option_parts, value_named}
use Rattle.fx_arguments.proofs.Booleans.{or-true}
use Rattle.fx_arguments.proofs.Pending.{IsKnown, IsKnownNow, Now, can_settle, entry_now, file_id, held_rows, leaf_shape, row_for, same-rows, settle-gives, settled_now, waiting_now, walk_at, with_value, without_value}
use Rattle.fx_arguments.proofs.OneWord.{IsLeaf, IsOption, apart-walked, ends-walked, fault, file-walked, joined-walked, met, parts-same, plain-met, value-walked}
use Rattle.fx_arguments.proofs.AllWords.{entries_left, file-known, has-append, is_waiting, position_of, still}

entry-there : (p : Entry) (r : Option (List Entry)) (ps : List Entry) → with_entry p r ≡ Some ps →
    (qs : List Entry) × (r ≡ Some qs) × (ps ≡ p ∷ qs)
entry-there p None ps e = absurd (cc)
entry-there p (Some qs) ps e = (qs, refl, cc)

-- nothing that is pending stands twice, nor what comes after it
fresh-now : (seen : List Entry) (now : Now) (ps : List Entry) → is_waiting now ≡ false →
    stand_once seen (entry_now now ++ ps) ≡ true →
    (can_settle seen now ≡ true) × (stand_once (seen ++ entry_now now) ps ≡ true)
unfolding stand_once
fresh-now seen settled_now ps calm f = (refl, ap (λ l. stand_once l ps) (append-nil seen) ∙ f)
fresh-now seen (with_value id v) ps calm f =
    and_parts (not (has_entry id seen)) (stand_once (seen ++ (id, v) ∷ []) ps) f
fresh-now seen (without_value id) ps calm f = absurd (cc)

fresh-first : (seen : List Entry) (p : Entry) (ps : List Entry) → stand_once seen (p ∷ ps) ≡ true →
    (not (has_entry p.0 seen) ≡ true) × (stand_once (seen ++ p ∷ []) ps ≡ true)
unfolding stand_once
fresh-first seen p ps f = and_parts (not (has_entry p.0 seen)) (stand_once (seen ++ p ∷ []) ps) f

module _ (name : Bytes) (names : List Bytes) (R : List Rule) (L : IsLeaf names R) where
  abbrev Ends : List Bytes → List Entry → Now → Bool → Bool → List Entry → Type 0
  Ends words seen now b later ps =
      settled R (fold (walked R []) (walk_at seen now (position_of b) later) words).held
      ≡ held_rows (seen ++ (entry_now now ++ ps)) settled_now

  abbrev Claim : List Bytes → Type 0
  Claim words = (seen : List Entry) (now : Now) (b later : Bool) → IsKnownNow R now →
      b ≡ has_entry file_id (seen ++ entry_now now)
      → (ps : List Entry) → entries_left names words now later ≡ Some ps →
      stand_once seen (entry_now now ++ ps) ≡ true → Ends words seen now b later ps

  claim-end : Claim []
  unfolding entries_in stand_once
  claim-end seen settled_now b later known b_is ps e f =
      settle-gives R seen settled_now known refl ∙ ap (λ l. held_rows (seen ++ l) settled_now) (none later ps e) where
        none : (t : Bool) (ps : List Entry) → entries_left names [] settled_now t ≡ Some ps → [] ≡ [] ++ ps
        none true ps e = cc
        none false ps e = cc
  claim-end seen (with_value id v) b later known b_is ps e f =
      settle-gives R seen (with_value id v) known (fresh-now seen (with_value id v) ps refl f).0
      ∙ ap (λ l. held_rows (seen ++ l) settled_now) (none later ps e) where
        none : (t : Bool) (ps : List Entry) → entries_left names [] (with_value id v) t ≡ Some ps →
            (id, v) ∷ [] ≡ (id, v) ∷ ps
        none true ps e = ap (λ l. (id, v) ∷ l) (cc)
        none false ps e = ap (λ l. (id, v) ∷ l) (cc)
  claim-end seen (without_value id) b true known b_is ps e f = absurd (cc)
  claim-end seen (without_value id) b false known b_is ps e f = absurd (cc)

  file-rows : (word : Bytes) (rest : List Bytes) (ih : Claim rest) (seen : List Entry) (now : Now) (b later : Bool)
      (known : IsKnownNow R now) → b ≡ has_entry file_id (seen ++ entry_now now) → is_waiting now ≡ false
      → ((position : ℕ) → word_met R [] later (waiting_now now) position word (held_rows seen now)
      ≡ (held_rows seen now, value))
      → word_fault (leaf_shape name R) [] later (waiting_now now) word (held_rows seen now) ≡ []
      → (ps qs : List Entry) → entries_left names rest (with_value file_id word) later ≡ Some qs →
      ps ≡ file_entry word ∷ qs → stand_once seen (entry_now now ++ ps) ≡ true →
      Ends (word ∷ rest) seen now b later ps
  file-rows word rest ih seen now b later known b_is calm plain no_flag ps qs e is f =
      let S = seen ++ entry_now now in
      let parts =
      fresh-now seen now (file_entry word ∷ qs) calm (ap (λ l. stand_once seen (entry_now now ++ l)) (sym is)
      ∙ f) in
      let first = fresh-first S (file_entry word) qs parts.1 in
      at_first b (b_is ∙ not-true (has_entry file_id S) first.0) parts.0 parts.1 where
        at_first : (b : Bool) → b ≡ false → can_settle seen now ≡ true →
            stand_once (seen ++ entry_now now) (file_entry word ∷ qs) ≡ true → Ends (word ∷ rest) seen now b later ps
        at_first true g t k = absurd (cc)
        at_first false g t k =
            ap (λ w. settled R (fold (walked R []) w rest).held)
            (file-walked name names R L seen now known word later plain no_flag t)
            ∙ ih (seen ++ entry_now now) (with_value file_id word) true later (file-known name names R L)
            (sym (has-append file_id (seen ++ entry_now now) ((file_id, word) ∷ [])
            ∙ or-true (has_entry file_id (seen ++ entry_now now)))) qs e k
            ∙ ap (λ l. held_rows l settled_now) (append_assoc seen (entry_now now) (file_entry word ∷ qs)
            ∙ ap (λ l. seen ++ (entry_now now ++ l)) (sym is))

  later-rows : (word : Bytes) (rest : List Bytes) → Claim rest → (seen : List Entry) (now : Now) (b : Bool) →
      IsKnownNow R now → b ≡ has_entry file_id (seen ++ entry_now now)
      → (ps : List Entry) → entries_left names (word ∷ rest) now true ≡ Some ps →
      stand_once seen (entry_now now ++ ps) ≡ true → Ends (word ∷ rest) seen now b true ps
  later-rows word rest ih seen settled_now b known b_is ps e f =
      file-rows word rest ih seen settled_now b true known b_is refl (λ position. refl) refl ps
      (map file_entry rest) refl (cc) f
  later-rows word rest ih seen (with_value id v) b known b_is ps e f =
      file-rows word rest ih seen (with_value id v) b true known b_is refl (λ position. refl) refl ps
      (map file_entry rest) refl (cc) f
  later-rows word rest ih seen (without_value id) b known b_is ps e f = absurd (cc)

  ends-rows : (word : Bytes) (rest : List Bytes) → Claim rest → (seen : List Entry) (now : Now) (b : Bool) →
      IsKnownNow R now → b ≡ has_entry file_id (seen ++ entry_now now) → ends_options word ≡ true
      → (ps : List Entry) → entries_left names rest now true ≡ Some ps → stand_once seen (entry_now now ++ ps) ≡ true →
      Ends (word ∷ rest) seen now b false ps
  ends-rows word rest ih seen now b known b_is t ps e f =
      ap (λ w. settled R (fold (walked R []) w rest).held)
      (ends-walked name names R L seen now known (position_of b) word t) ∙ ih seen now b true known b_is ps e f

  joined-rows : (word : Bytes) (rest : List Bytes) → Claim rest → (seen : List Entry) (now : Now) (b : Bool) →
      IsKnownNow R now → b ≡ has_entry file_id (seen ++ entry_now now) → is_waiting now ≡ false
      → ends_options word ≡ false → (id v : Bytes) → long_of word ≡ Some (id, Some v) → IsOption R id
      → (ps : List Entry) → with_entry (id, v) (entries_in names rest None) ≡ Some ps →
      stand_once seen (entry_now now ++ ps) ≡ true → Ends (word ∷ rest) seen now b false ps
  joined-rows word rest ih seen now b known b_is calm goes_on id v is_long O ps e f =
      let S = seen ++ entry_now now in
      let inner = entry-there (id, v) (entries_in names rest None) ps e in
      let parts =
      fresh-now seen now ((id, v) ∷ inner.0) calm (ap (λ l. stand_once seen (entry_now now ++ l)) (sym inner.2)
      ∙ f) in
      let first = fresh-first S (id, v) inner.0 parts.1 in
      ap (λ w. settled R (fold (walked R []) w rest).held)
      (joined-walked name names R L seen now known (position_of b) word goes_on id v is_long O parts.0
      (not-true (has_entry id S) first.0))
      ∙ ih (S ++ (id, v) ∷ []) settled_now b false tt (still name names R L b id v S O.apart b_is
      ∙ ap (has_entry file_id) (sym (append-nil (S ++ (id, v) ∷ [])))) inner.0 inner.1 first.1
      ∙ ap (λ l. held_rows l settled_now) (append_assoc S ((id, v) ∷ []) inner.0
      ∙ append_assoc seen (entry_now now) ((id, v) ∷ inner.0)
      ∙ ap (λ l. seen ++ (entry_now now ++ l)) (sym inner.2))

  apart-rows : (word : Bytes) (rest : List Bytes) → Claim rest → (seen : List Entry) (now : Now) (b : Bool) →
      IsKnownNow R now → b ≡ has_entry file_id (seen ++ entry_now now) → is_waiting now ≡ false
      → ends_options word ≡ false → (id : Bytes) → long_of word ≡ Some (id, None) → IsOption R id
      → (ps : List Entry) → entries_in names rest (Some id) ≡ Some ps → stand_once seen (entry_now now ++ ps) ≡ true →
      Ends (word ∷ rest) seen now b false ps
  apart-rows word rest ih seen now b known b_is calm goes_on id is_long O ps e f =
      let S = seen ++ entry_now now in
      let O_known : IsKnown R id = record { long = Some id; index = None; required = O.required; by_id = O.by_id } in
      let parts = fresh-now seen now ps calm f in
      ap (λ w. settled R (fold (walked R []) w rest).held)
      (apart-walked name names R L seen now known (position_of b) word goes_on id is_long O parts.0)
      ∙ ih S (without_value id) b false (O_known, O.apart) (b_is
      ∙ ap (has_entry file_id) (sym (append-nil S))) ps e parts.1
      ∙ ap (λ l. held_rows l settled_now) (append_assoc seen (entry_now now) ps)

  value-rows : (word : Bytes) (rest : List Bytes) → Claim rest → (seen : List Entry) (id : Bytes) (b : Bool) →
      IsKnownNow R (without_value id) → b ≡ has_entry file_id (seen ++ entry_now (without_value id)) →
      is_dashed word ≡ false
      → (ps : List Entry) → with_entry (id, word) (entries_in names rest None) ≡ Some ps → stand_once seen ps ≡ true →
      Ends (word ∷ rest) seen (without_value id) b false ps
  value-rows word rest ih seen id b known b_is plain ps e f =
      let inner = entry-there (id, word) (entries_in names rest None) ps e in
      ap (λ w. settled R (fold (walked R []) w rest).held)
      (value-walked name names R L seen id known (position_of b) word plain)
      ∙ ih seen (with_value id word) b false known.0
      (still name names R L b id word seen known.1 (b_is
      ∙ ap (has_entry file_id) (append-nil seen))) inner.0 inner.1 (ap (λ l. stand_once seen l) (sym inner.2) ∙ f)
      ∙ ap (λ l. held_rows (seen ++ l) settled_now) (sym inner.2)

  flag-rows : (word : Bytes) (rest : List Bytes) → Claim rest → (seen : List Entry) (now : Now) (b : Bool) →
      IsKnownNow R now → b ≡ has_entry file_id (seen ++ entry_now now) → is_waiting now ≡ false →
      ends_options word ≡ false
      → (ps : List Entry) → after_option names (option_parts word) (entries_in names rest) ≡ Some ps →
      stand_once seen (entry_now now ++ ps) ≡ true → Ends (word ∷ rest) seen now b false ps
  flag-rows word rest ih seen now b known b_is calm goes_on ps e f =
      by_long (long_of word) refl (ap (λ l. after_option names l (entries_in names rest)) (parts-same word) ∙ e) where
        by_long : (l : Option (Bytes × Option Bytes)) → long_of word ≡ l →
            after_option names l (entries_in names rest) ≡ Some ps → Ends (word ∷ rest) seen now b false ps
        by_long None e g = absurd (cc)
        by_long (Some (id, value_named)) e g = by_name (is_among id names) refl value_named e g where
          by_name : (t : Bool) → is_among id names ≡ t → (o : Option Bytes) → long_of word ≡ Some (id, o)
              → (if t then option_value id o (entries_in names rest) else None) ≡ Some ps →
              Ends (word ∷ rest) seen now b false ps
          by_name false k o e g = absurd (cc)
          by_name true k (Some v) e g =
              joined-rows word rest ih seen now b known b_is calm goes_on id v e (L.option_there id k) ps g f
          by_name true k None e g =
              apart-rows word rest ih seen now b known b_is calm goes_on id e (L.option_there id k) ps g f

  calm-rows : (word : Bytes) (rest : List Bytes) → Claim rest → (seen : List Entry) (now : Now) (b : Bool) →
      IsKnownNow R now → b ≡ has_entry file_id (seen ++ entry_now now) → is_waiting now ≡ false
      → waiting_now now ≡ idle → entries_left names rest now true ≡ Some (map file_entry rest)
      → (ps : List Entry) → after_word names word rest (entries_in names rest) None ≡ Some ps →
      stand_once seen (entry_now now ++ ps) ≡ true → Ends (word ∷ rest) seen now b false ps
  calm-rows word rest ih seen now b known b_is calm no_wait all_files ps e f =
      by_ends (ends_options word) refl (is_dashed word) refl e where
        by_ends : (t : Bool) → ends_options word ≡ t → (d : Bool) → is_dashed word ≡ d
            → (if t then Some (map file_entry rest) else if d
            then after_option names (option_parts word) (entries_in names rest)
            else with_entry (file_entry word) (entries_in names rest None)) ≡ Some ps
            → Ends (word ∷ rest) seen now b false ps
        by_ends true k d g e = ends-rows word rest ih seen now b known b_is k ps (all_files ∙ e) f
        by_ends false k true g e = flag-rows word rest ih seen now b known b_is calm k ps e f
        by_ends false k false g e =
            let inner = entry-there (file_entry word) (entries_in names rest None) ps e in
            file-rows word rest ih seen now b false known b_is calm
            (λ position. met name names R L seen now known position word k
            ∙ ap (λ l. long_or_other R (waiting_now now) word l (held_rows seen now)) (plain-met word g).0
            ∙ ap (λ o. short_or_plain R (waiting_now now) word o (held_rows seen now)) (plain-met word g).1
            ∙ ap (λ w. plain_word R w word (held_rows seen now)) no_wait)
            (fault name names R L seen now known 1 word k
            ∙ ap (λ l. flag_word_fault R false l word (held_rows seen now)) (plain-met word g).0
            ∙ ap (λ o. option_map_or (λ flags. bundle_fault R false flags (held_rows seen now)) o [])
            (plain-met word g).1)
            ps inner.0 inner.1 inner.2 f

  waiting-rows : (word : Bytes) (rest : List Bytes) → Claim rest → (seen : List Entry) (id : Bytes) (b : Bool) →
      IsKnownNow R (without_value id) → b ≡ has_entry file_id (seen ++ entry_now (without_value id))
      → (ps : List Entry) → after_word names word rest (entries_in names rest) (Some id) ≡ Some ps →
      stand_once seen ps ≡ true → Ends (word ∷ rest) seen (without_value id) b false ps
  waiting-rows word rest ih seen id b known b_is ps e f = by_dash (is_dashed word) refl e where
    by_dash : (d : Bool) → is_dashed word ≡ d →
        (if d then None else with_entry (id, word) (entries_in names rest None)) ≡ Some ps →
        Ends (word ∷ rest) seen (without_value id) b false ps
    by_dash true k e = absurd (cc)
    by_dash false k e = value-rows word rest ih seen id b known b_is k ps e f

  claim-more : (word : Bytes) (rest : List Bytes) → Claim rest → Claim (word ∷ rest)
  unfolding entries_in
  claim-more word rest ih seen now b true known b_is ps e f = later-rows word rest ih seen now b known b_is ps e f
  claim-more word rest ih seen settled_now b false known b_is ps e f =
      calm-rows word rest ih seen settled_now b known b_is refl refl refl ps e f
  claim-more word rest ih seen (with_value id v) b false known b_is ps e f =
      calm-rows word rest ih seen (with_value id v) b known b_is refl refl refl ps e f
  claim-more word rest ih seen (without_value id) b false known b_is ps e f =
      waiting-rows word rest ih seen id b known b_is ps e f

  claim : (words : List Bytes) → Claim words
  claim [] = claim-end
  claim (word ∷ rest) = claim-more word rest (claim rest)

  -- the matches are the entries_in
  pub leaf-rows : (words : List Bytes) (ps : List Entry) → entries_in names words None ≡ Some ps →
      stand_once [] ps ≡ true → rows_after R [] words ≡ map row_for ps
  leaf-rows words ps e f =
      ap (λ (x : Held). fold with_default x.rows R) (claim words [] settled_now false false tt refl ps e f)
      ∙ same-rows R (map row_for ps) L.no_defaults

-- what is found under a name is its value
pub first-value : (id : Bytes) (ps : List Entry) → first_of id (map row_for ps) ≡ value_named ps id
first-value id [] = refl
first-value id (p ∷ ps) = first (bytes_eq p.0 id) (first-value id ps) where
  first : (b : Bool) → first_of id (map row_for ps) ≡ value_named ps id
      → option_and_then (λ (r : Row). slice_get r.values 0) (if b then Some (row_for p)
      else find (λ r. bytes_eq r.id id) (map row_for ps))
      ≡ option_map (λ (q : Entry). q.1) (if b then Some p else find (λ q. bytes_eq q.0 id) ps)
  first true h = refl
  first false h = h
