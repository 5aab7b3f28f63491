-- A text without quotes and line ends is read by `csv` as what stands between its commas.
use Rattle.std.proofs.Common.{◌≡◌, not, ℕ, List, [], ◌∷◌, ◌++◌, Option, Some, None, Bool, true, false, refl, ap, ◌∙◌, sym, append_assoc, append-nil, cond, drop}
use Rattle.std.specs.Prelude.{◌==◌, ◌||◌, ◌&&◌, if◌then◌else◌, option_map}
use Rattle.std.specs.List.{list_any, onto_first}
use Rattle.std.proofs.lemmas.Bool.{or_parts, not-false}
use Rattle.csv.specs.Machine.{Read, next_record, step, is_end, ends_at_end, fields_after, field_after, in_field, ends_with, after_end}
use Rattle.csv.specs.Reading.{default_config, strip_bom, is_bom}
use Rattle.csv.specs.declared.parser.Terminator.TheVariants as term
use Rattle.csv.specs.declared.parser.State.{State}
use Rattle.csv.specs.declared.parser.State.TheVariants as st
use Rattle.csv.specs.declared.parser.Action.{Action}
use Rattle.csv.specs.declared.parser.Action.TheVariants as act
use Rattle.fx_rows.specs.Line.{line_fields, is_special, is_quote, is_return, is_feed, pieces, plain_fields, has_mark}

-- a field's bytes before the first of these pieces
abbrev pub onto : List ℕ → List (List ℕ) → List (List ℕ)
onto field [] = field ∷ []
onto field (p ∷ ps) = (field ++ p) ∷ ps

onto-none : (x : ℕ) (ps : List (List ℕ)) (field : List ℕ) → onto (field ++ x ∷ []) ps ≡ onto field (onto_first x ps)
onto-none x [] field = refl
onto-none x (p ∷ ps) field = ap (λ q. q ∷ ps) (append_assoc field (x ∷ []) p)

-- the answer that is wanted of a front of fields, the bytes of the field at hand and what is left
abbrev pub GivesFields : State → List (List ℕ) → List ℕ → List ℕ → Type 0
GivesFields s fields field xs =
    next_record default_config s fields field xs ≡ Some (fields ++ onto field (pieces xs), st.StartRecord, [])

after_comma : (fields : List (List ℕ)) (field : List ℕ) (ps : List (List ℕ)) →
    (fields ++ field ∷ []) ++ onto [] ps ≡ fields ++ onto field ([] ∷ onto [] ps)
after_comma fields field ps =
    append_assoc fields (field ∷ []) (onto [] ps) ∙ ap (λ f. fields ++ f ∷ onto [] ps) (sym (append-nil field))

no_field_yet : (xs : List ℕ) → onto [] (pieces xs) ≡ pieces xs
no_field_yet [] = refl
no_field_yet (x ∷ xs) = by (x == 44) where
  first : (ps : List (List ℕ)) → onto [] (onto_first x ps) ≡ onto_first x ps
  first [] = refl
  first (p ∷ ps) = refl

  by : (t : Bool) → onto [] (cond t ([] ∷ pieces xs) (onto_first x (pieces xs)))
      ≡ cond t ([] ∷ pieces xs) (onto_first x (pieces xs))
  by true = refl
  by false = first (pieces xs)

-- the byte goes on as in a field
one_byte : (s : State) (fields : List (List ℕ)) (field : List ℕ) (c : ℕ) (rest : List ℕ) →
    step default_config s c ≡ in_field default_config c
    → (c == 13) || (c == 10) ≡ false → GivesFields st.StartField (fields ++ field ∷ []) [] rest →
    GivesFields st.InField fields (field ++ c ∷ []) rest → GivesFields s fields field (c ∷ rest)
unfolding next_record
one_byte s fields field c rest like ends comma other = ap moved like ∙ by (c == 44) where
  moved : State × Action → Option Read
  moved p = if is_end p.1 then Some (fields_after p.1 fields field, p.0, rest)
      else next_record default_config p.0 (fields_after p.1 fields field) (field_after p.1 c field) rest

  ended : (e : Bool) → e ≡ false →
      moved (if e then (after_end term.CRLF c, act.EndRecord) else (st.InField, act.Copy))
      ≡ next_record default_config st.InField fields (field ++ c ∷ []) rest
  ended true h = absurd (cc)
  ended false h = refl

  by : (t : Bool) → moved (if t then (st.StartField, act.EndField)
      else (if ends_with term.CRLF c then (after_end term.CRLF c, act.EndRecord) else (st.InField, act.Copy)))
      ≡ Some (fields ++ onto field (cond t ([] ∷ pieces rest) (onto_first c (pieces rest))), st.StartRecord, [])
  by true = comma ∙ ap (λ f. Some (f, st.StartRecord, [])) (after_comma fields field (pieces rest)
      ∙ ap (λ p. fields ++ onto field ([] ∷ p)) (no_field_yet rest))
  by false = ended ((c == 13) || (c == 10)) ends ∙ other
      ∙ ap (λ f. Some (fields ++ f, st.StartRecord, [])) (onto-none c (pieces rest) field)

-- a state from which a byte that isn't special goes on as in a field
abbrev pub Open : State → Type 0
Open s =
    (c : ℕ) → (c == 34) ≡ false → (c == 13) || (c == 10) ≡ false → step default_config s c ≡ in_field default_config c

choice : {A : Type 0} (b : Bool) (p q : A) → b ≡ false → (if b then p else q) ≡ q
choice true p q h = absurd (cc)
choice false p q h = refl

start_field_open : Open st.StartField
start_field_open c quote ends = choice (c == 34) _ _ quote

in_field_open : Open st.InField
in_field_open c quote ends = refl

start_record_open : Open st.StartRecord
start_record_open c quote ends = choice ((c == 13) || (c == 10)) _ _ ends ∙ choice (c == 34) _ _ quote

-- so many bytes, from inside a record
inside : (s : State) → ends_at_end s ≡ true → Open s → (fields : List (List ℕ)) (field xs : List ℕ) →
    list_any is_special xs ≡ false → GivesFields s fields field xs
unfolding next_record
inside s ends open_ fields field [] plain =
    ap (λ b. if b then Some (fields ++ (field ∷ []), st.StartRecord, []) else None) ends
    ∙ ap (λ f. Some (fields ++ f ∷ [], st.StartRecord, [])) (sym (append-nil field))
inside s ends open_ fields field (c ∷ rest) plain =
    let parts = or_parts (is_special c) (list_any is_special rest) plain in
    let here = or_parts (c == 34) ((c == 13) || (c == 10)) parts.0 in
    one_byte s fields field c rest (open_ c here.0 here.1) here.1
    (inside st.StartField refl start_field_open (fields ++ field ∷ []) [] rest parts.1)
    (inside st.InField refl in_field_open fields (field ++ c ∷ []) rest parts.1)

-- a text that isn't empty
pub plain_record : (c : ℕ) (rest : List ℕ) → list_any is_special (c ∷ rest) ≡ false →
    next_record default_config st.StartRecord [] [] (c ∷ rest) ≡ Some (pieces (c ∷ rest), st.StartRecord, [])
plain_record c rest plain =
    let parts = or_parts (is_special c) (list_any is_special rest) plain in
    let here = or_parts (c == 34) ((c == 13) || (c == 10)) parts.0 in
    one_byte st.StartRecord [] [] c rest (start_record_open c here.0 here.1) here.1
    (inside st.StartField refl start_field_open ([] ∷ []) [] rest parts.1)
    (inside st.InField refl in_field_open [] (c ∷ []) rest parts.1)
    ∙ ap (λ f. Some (f, st.StartRecord, [])) (no_field_yet (c ∷ rest))

strip_keeps : (p : ℕ → Bool) (xs : List ℕ) → list_any p xs ≡ false → list_any p (strip_bom xs) ≡ false
unfolding strip_bom
strip_keeps p [] e = e
strip_keeps p (a ∷ []) e = e
strip_keeps p (a ∷ b ∷ []) e = e
strip_keeps p (a ∷ b ∷ c ∷ rest) e = either (is_bom a b c) where
  either : (t : Bool) → list_any p (if t then rest else a ∷ b ∷ c ∷ rest) ≡ false
  either true = (or_parts _ _ (or_parts _ _ (or_parts (p a) _ e).1).1).1
  either false = e

stripped_fields : (xs : List ℕ) → list_any is_special xs ≡ false →
    option_map (λ (p : Read). p.0) (next_record default_config st.StartRecord [] [] xs) ≡ plain_fields xs
unfolding next_record
stripped_fields [] plain = refl
stripped_fields (c ∷ rest) plain = ap (option_map (λ (p : Read). p.0)) (plain_record c rest plain)

plain_line : (line : List ℕ) → list_any is_special (strip_bom line) ≡ false →
    line_fields line ≡ plain_fields (strip_bom line)
plain_line line plain = stripped_fields (strip_bom line) plain

pub whole_plain_line : (line : List ℕ) → list_any is_special line ≡ false →
    line_fields line ≡ plain_fields (strip_bom line)
whole_plain_line line plain = plain_line line (strip_keeps is_special line plain)

-- ---- the byte order mark
pub no-mark : (line : List ℕ) → has_mark line ≡ false → strip_bom line ≡ line
unfolding strip_bom
no-mark [] e = refl
no-mark (a ∷ []) e = refl
no-mark (a ∷ b ∷ []) e = refl
no-mark (a ∷ b ∷ c ∷ rest) e = by (a == 0xEF) (b == 0xBB) (c == 0xBF) e where
  by : (p q r : Bool) → (p && (q && (r && true))) ≡ false →
      (if (p && q) && r then rest else a ∷ b ∷ c ∷ rest) ≡ a ∷ b ∷ c ∷ rest
  by true true true h = absurd (cc)
  by true true false h = refl
  by true false r h = refl
  by false q r h = refl

pub unmarked_plain_line : (line : List ℕ) → list_any is_special line ≡ false → has_mark line ≡ false →
    line_fields line ≡ plain_fields line
unmarked_plain_line line plain unmarked = whole_plain_line line plain ∙ ap plain_fields (no-mark line unmarked)

-- ---- byte by byte
none_of_three : (xs : List ℕ) → list_any is_quote xs ≡ false → list_any is_return xs ≡ false →
    list_any is_feed xs ≡ false → list_any is_special xs ≡ false
none_of_three [] q r f = refl
none_of_three (x ∷ xs) q r f =
    let a = or_parts (is_quote x) (list_any is_quote xs) q in
    let b = or_parts (is_return x) (list_any is_return xs) r in
    let c = or_parts (is_feed x) (list_any is_feed xs) f in
    by (is_quote x) (is_return x) (is_feed x) (list_any is_special xs) a.0 b.0 c.0 (none_of_three xs a.1 b.1 c.1) where
      by : (p q r t : Bool) → p ≡ false → q ≡ false → r ≡ false → t ≡ false → ((p || (q || r)) || t) ≡ false
      by true q r t e f g h = absurd (cc)
      by false true r t e f g h = absurd (cc)
      by false false true t e f g h = absurd (cc)
      by false false false t e f g h = h

pub marked : (line rest : List ℕ) → has_mark line ≡ true → rest ≡ drop 3 line → rest ≡ strip_bom line
unfolding strip_bom
marked [] rest e r = absurd (cc)
marked (a ∷ []) rest e r = absurd (by (a == 0xEF) e) where
  by : (p : Bool) → (p && false) ≡ true → ⊥
  by true h = absurd (cc)
  by false h = absurd (cc)
marked (a ∷ b ∷ []) rest e r = absurd (by (a == 0xEF) (b == 0xBB) e) where
  by : (p q : Bool) → (p && (q && false)) ≡ true → ⊥
  by true true h = absurd (cc)
  by true false h = absurd (cc)
  by false q h = absurd (cc)
marked (a ∷ b ∷ c ∷ more) rest e r = r ∙ by (a == 0xEF) (b == 0xBB) (c == 0xBF) e where
  by : (p q s : Bool) → (p && (q && (s && true))) ≡ true → more ≡ (if (p && q) && s then more else a ∷ b ∷ c ∷ more)
  by true true true h = refl
  by true true false h = absurd (cc)
  by true false s h = absurd (cc)
  by false q s h = absurd (cc)

neither : (a b : Bool) → not (a || b) ≡ true → (a ≡ false) × (b ≡ false)
neither true b e = absurd (cc)
neither false true e = absurd (cc)
neither false false e = (refl, refl)

pub plain_text_line : (line text : List ℕ) → text ≡ strip_bom line → list_any is_return line ≡ false →
    not (list_any is_quote text || list_any is_feed text) ≡ true
    → line_fields line ≡ plain_fields text
plain_text_line line text e returns plain =
    let no_return = ap (list_any is_return) e ∙ strip_keeps is_return line returns in
    let none = neither (list_any is_quote text) (list_any is_feed text) plain in
    plain_line line (ap (list_any is_special) (sym e) ∙ none_of_three text none.0 no_return none.1)
    ∙ ap plain_fields (sym e)

-- a quote or a line feed behind the mark is one of the line
one_of_them : (xs : List ℕ) → (list_any is_quote xs || list_any is_feed xs) ≡ true → list_any is_special xs ≡ true
one_of_them [] e = e
one_of_them (x ∷ xs) e =
    by (is_quote x) (is_return x) (is_feed x) (list_any is_quote xs) (list_any is_feed xs) (one_of_them xs) e where
      by : (p q r t u : Bool) → ((t || u) ≡ true → list_any is_special xs ≡ true) → ((p || t) || (r || u)) ≡ true →
          ((p || (q || r)) || list_any is_special xs) ≡ true
      by true q r t u h e = refl
      by false true r t u h e = refl
      by false false true t u h e = refl
      by false false false t u h e = h e

strip_has : (p : ℕ → Bool) (xs : List ℕ) → list_any p (strip_bom xs) ≡ true → list_any p xs ≡ true
unfolding strip_bom
strip_has p [] e = e
strip_has p (a ∷ []) e = e
strip_has p (a ∷ b ∷ []) e = e
strip_has p (a ∷ b ∷ c ∷ rest) e = either (is_bom a b c) e where
  before : (t u : Bool) → u ≡ true → (t || u) ≡ true
  before true u h = refl
  before false u h = h

  either : (t : Bool) → list_any p (if t then rest else a ∷ b ∷ c ∷ rest) ≡ true → list_any p (a ∷ b ∷ c ∷ rest) ≡ true
  either true h = before (p a) _ (before (p b) _ (before (p c) _ h))
  either false h = h

pub special_line : (line text : List ℕ) → text ≡ strip_bom line →
    not (list_any is_quote text || list_any is_feed text) ≡ false → list_any is_special line ≡ true
special_line line text e special =
    strip_has is_special line (ap (list_any is_special) (sym e)
    ∙ one_of_them text (not-false (list_any is_quote text || list_any is_feed text) special))
