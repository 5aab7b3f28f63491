-- A text is cut into its lines and fields in one way.
use Rattle.std.proofs.Common.{◌≡◌, ℕ, suc, ◌+◌, ◌<◌, ◌^◌, Bool, true, false, cond, eqb, List, [], ◌∷◌, ◌++◌, length, drop, Option, Some, None, Result, Ok, Err, refl, sym, ap, subst, ◌∙◌, inl, inr, ◌⊎◌, append_assoc, arith, rules, tests, length-append}
use Rattle.std.specs.Fmt.{decimal}
use Rattle.std.specs.Str.Parse.{AllDigits}
use Rattle.std.specs.List.{AllByRecursion, flat_map, position_or_len, before_first, onto_first, join_with_byte}
use Rattle.std.proofs.lemmas.Bool.{eqb-true}
use Rattle.std.proofs.lemmas.List.{append-nil, take_at}
use Rattle.std.proofs.lemmas.List.Concat.{flat_map-cons}
use Rattle.std.proofs.lemmas.List.Elements.{All-from_recursion}
use Rattle.std.proofs.lemmas.List.Sums.{split_at_first, passes_at_first}
use Rattle.std.proofs.lemmas.List.Splits.{slice_split_none, slice_split_at, join_with_byte-slice_split}
use Rattle.std.proofs.lemmas.Str.Parse.{digit_from_value}
use Rattle.std.proofs.lemmas.Fmt.{digits_decimal}
use Rattle.fx_model.proofs.Digits.{digits_model}
use Rattle.fx_text.specs.declared.fault.TextKind.{TextKind}
use Rattle.fx_text.specs.Cutting.{Line, cut_at, fields_of, line_at}
use Rattle.fx_text.specs.Lines.{fields_in, fields_at, line_by, on_line, text_ended_at}
use Rattle.fx_model.specs.LineText.{line_text}
use Rattle.fx_text.specs.Spelling.{AreFields, IsField, IsOneSpelling, Lacks}
use Rattle.fx_model.proofs.Steps.{on_ok}
use Rattle.fx_text.proofs.Cuts.{cut_at-parts, cut_at-found}

-- two texts without such a byte
pub Lacks-append : (c : ℕ) (xs ys : List ℕ) → Lacks c xs → Lacks c ys → Lacks c (xs ++ ys)
Lacks-append c [] ys h k = k
Lacks-append c (x ∷ xs) ys (h, hs) k = (h, Lacks-append c xs ys hs k)

-- a byte is itself
same : (c : ℕ) → eqb c c ≡ true
same c = search (rules, tests)

-- the first such byte stands behind a text that lacks it
position-append : (c : ℕ) (xs rest : List ℕ) → Lacks c xs → position_or_len (λ b. eqb b c) (xs ++ c ∷ rest) ≡ length xs
position-append c [] rest h = rw (same c) refl
position-append c (x ∷ xs) rest (h, hs) = rw (h, position-append c xs rest hs) (omega arith)

-- ---- a cut

-- a text without such a byte is cut off where one follows
pub cut_at-again : (c : ℕ) (xs rest : List ℕ) → Lacks c xs → cut_at c (xs ++ c ∷ rest) ≡ Some (xs, rest)
cut_at-again c xs rest h =
    let lt : length xs < length (xs ++ c ∷ rest) = search (rules, length-append {A = ℕ}) in
    cut_at-found c (xs ++ c ∷ rest) (length xs) (position-append c xs rest h) lt
    ∙ rw (take_at xs (c ∷ rest) (length xs) refl) (ap (λ (r : List ℕ). Some (xs, r)) (drop_one xs))
  where
    drop_one : (xs : List ℕ) → drop (length xs + 1) (xs ++ c ∷ rest) ≡ rest
    drop_one [] = refl
    drop_one (x ∷ xs) = let e : length (x ∷ xs) + 1 ≡ suc (length xs + 1) = omega arith in rw e (drop_one xs)

-- what stands before the first such byte lacks it
before_first-lacks : (c : ℕ) (xs : List ℕ) → Lacks c (before_first (λ b. eqb b c) xs)
before_first-lacks c [] = tt
before_first-lacks c (x ∷ xs) = by (eqb x c) refl (before_first-lacks c xs)
  where
    by : (b : Bool) → eqb x c ≡ b → Lacks c (before_first (λ b. eqb b c) xs) →
        Lacks c (before_first (λ b. eqb b c) (x ∷ xs))
    by true e k = rw e tt
    by false e k =
        let one : 1 + position_or_len (λ b. eqb b c) xs ≡ suc (position_or_len (λ b. eqb b c) xs) = omega arith in
        rw (e, one) (e, k)

-- what was cut
pub cut_at-takes : (c : ℕ) (text xs rest : List ℕ) → cut_at c text ≡ Some (xs, rest) →
    (text ≡ xs ++ c ∷ rest) × Lacks c xs
cut_at-takes c text xs rest e =
    let h = cut_at-parts c text xs rest e in
    let at = eqb-true _ _ (passes_at_first (λ b. eqb b c) text 0 h.0) in
    (split_at_first (λ b. eqb b c) text 0 h.0 ∙ rw (at, h.1, h.2) refl, subst (Lacks c) h.1 (before_first-lacks c text))

-- ---- fields

-- fields joined by spaces have no line feed
pub join-lacks : (fs : Line) → AllByRecursion IsField fs → Lacks 10 (join_with_byte 32 fs)
join-lacks [] h = tt
join-lacks (f ∷ []) (h, hs) = h.line_feeds
join-lacks (f ∷ g ∷ fs) (h, hs) =
    Lacks-append 10 f (32 ∷ join_with_byte 32 (g ∷ fs)) h.line_feeds (refl, join-lacks (g ∷ fs) hs)

-- a line's text, field by field
pub line_text-cons : (f : List ℕ) (fs : Line) → line_text (f ∷ fs) ≡ f ++ flat_map (λ g. 32 ∷ g) fs ++ 10 ∷ []
line_text-cons f fs = ap (λ t. t ++ 10 ∷ []) (by f fs)
  where
    by : (f : List ℕ) (fs : Line) → join_with_byte 32 (f ∷ fs) ≡ f ++ flat_map (λ g. 32 ∷ g) fs
    by f [] = sym (append-nil f)
    by f (g ∷ fs) = ap (λ t. f ++ 32 ∷ t) (by g fs) ∙ ap (λ t. f ++ t) (sym (flat_map-cons (λ g. 32 ∷ g) g fs))

-- joined fields are cut again
pub fields_of-join : (f : List ℕ) (fs : Line) → AreFields (f ∷ fs) → fields_of (join_with_byte 32 (f ∷ fs)) ≡ f ∷ fs
fields_of-join f [] (h, hs) = slice_split_none (λ b. eqb b 32) f (All-from_recursion (λ b. eqb b 32 ≡ false) f h.spaces)
fields_of-join f (g ∷ fs) (h, hs) =
    slice_split_at (λ b. eqb b 32) f 32 (join_with_byte 32 (g ∷ fs))
    (All-from_recursion (λ b. eqb b 32 ≡ false) f h.spaces) refl ∙ ap (λ r. f ∷ r) (fields_of-join g fs hs)

-- one more byte on the first field
AreFields-onto_first : (x : ℕ) (fs : Line) → eqb x 32 ≡ false → eqb x 10 ≡ false → AreFields fs →
    AreFields (onto_first x fs)
AreFields-onto_first x [] s l h = absurd h
AreFields-onto_first x (f ∷ fs) s l (h, hs) = (record { spaces = (s, h.spaces); line_feeds = (l, h.line_feeds) }, hs)

-- one more empty field
AreFields-cons : (fs : Line) → AreFields fs → AreFields ([] ∷ fs)
AreFields-cons [] h = absurd h
AreFields-cons (f ∷ fs) h = (record { spaces = tt; line_feeds = tt }, h)

-- what stands between the spaces of a line is fields
AreFields-fields_of : (line : List ℕ) → Lacks 10 line → AreFields (fields_of line)
AreFields-fields_of [] h = (record { spaces = tt; line_feeds = tt }, tt)
AreFields-fields_of (x ∷ xs) (h, hs) = by (eqb x 32) refl (AreFields-fields_of xs hs)
  where
    by : (b : Bool) → eqb x 32 ≡ b → AreFields (fields_of xs) →
        AreFields (cond b ([] ∷ fields_of xs) (onto_first x (fields_of xs)))
    by true e k = AreFields-cons (fields_of xs) k
    by false e k = AreFields-onto_first x (fields_of xs) e h k

-- ---- lines

-- a line's fields are read from its text, and what is read is its text
pub fields_at-again : (n : ℕ) (line : Line) (rest : List ℕ) → AreFields line →
    fields_at n (line_text line ++ rest) ≡ Ok (line, rest)
unfolding fields_at
fields_at-again n [] rest h = absurd h
fields_at-again n (f ∷ fs) rest h =
    let joined = join_with_byte 32 (f ∷ fs) in
    ap (λ t. fields_in n (line_at t)) (append_assoc joined (10 ∷ []) rest)
    ∙ ap (fields_in n) (cut_at-again 10 joined rest (join-lacks (f ∷ fs) h))
    ∙ ap (λ fs. Ok (fs, rest)) (fields_of-join f fs h)

pub fields_at-takes : (n : ℕ) (text : List ℕ) (x : Line × List ℕ) → fields_at n text ≡ Ok x →
    (text ≡ line_text x.0 ++ x.1) × AreFields x.0
unfolding fields_at
fields_at-takes n text x e = by (line_at text) refl e
  where
    by : (o : Option (List ℕ × List ℕ)) → line_at text ≡ o → fields_in n o ≡ Ok x →
        (text ≡ line_text x.0 ++ x.1) × AreFields x.0
    by None h e = absurd cc
    by (Some (line, rest)) h e =
        let made : (fields_of line, rest) ≡ x = cc in
        let cut = cut_at-takes 10 text line rest h in
        subst (λ (y : Line × List ℕ). (text ≡ line_text y.0 ++ y.1) × AreFields y.0) made (
          cut.0 ∙ sym (append_assoc line (10 ∷ []) rest)
              ∙ ap (λ l. (l ++ 10 ∷ []) ++ rest) (sym (join_with_byte-slice_split 32 line)),
          AreFields-fields_of line cut.1,
        )

-- what was read of a line, without its number
pub on_line-is : {A : Type 0} (n : ℕ) (r : Result A TextKind) (x : A) → on_line n r ≡ Ok x → r ≡ Ok x
on_line-is n (Ok y) x e = cc
on_line-is n (Err k) x e = absurd cc

-- a reader of all fields of a line, of which each value has one spelling
pub record IsLineOf {A : Type 0} (read : Line → Result A TextKind) (fields : A → Line) (Is : A → Type 0) : Type 0 where
  pub takes : (line : Line) (x : A) → read line ≡ Ok x → (line ≡ fields x) × Is x
  pub again : (x : A) → Is x → read (fields x) ≡ Ok x
  pub clean : (x : A) → Is x → AreFields (fields x)

-- then a line has one spelling too, whatever its number
pub line_spelling : {A : Type 0} (read : Line → Result A TextKind) (fields : A → Line) (Is : A → Type 0) →
    IsLineOf read fields Is → (n : ℕ) → IsOneSpelling (line_by read n) (λ x. line_text (fields x)) Is
unfolding line_by
line_spelling {A} read fields Is law n = record {
  takes = λ text x e.
      on_ok _ _ x e (λ line hl e.
      on_ok _ _ x e (λ value hv e.
      let t = law.takes line.0 value (on_line-is n (read line.0) value hv) in
      let made : (value, line.1) ≡ x = cc in
      subst (λ (y : A × List ℕ). (text ≡ line_text (fields y.0) ++ y.1) ×
      Is y.0) made ((fields_at-takes n text line hl).0 ∙ ap (λ fs. line_text fs ++ line.1) t.0, t.1)));
  again = λ x rest is. rw (fields_at-again n (fields x) rest (law.clean x is), law.again x is) refl;
}

-- a text that is over
pub text_ended-is : (n : ℕ) (text rest : List ℕ) → text_ended_at n text ≡ Ok rest → text ≡ []
unfolding text_ended_at
text_ended-is n [] rest e = refl
text_ended-is n (b ∷ text) rest e = absurd cc

-- ---- which texts are fields

-- digits have no byte that is no digit
digits_lack : (c : ℕ) (ds : List ℕ) → (c < 48) ⊎ (57 < c) → AllDigits 10 ds → Lacks c ds
digits_lack c [] out h = tt
digits_lack c (d ∷ ds) (inl lt) (h, hs) =
    let r = digit_from_value d h in (search (rules, tests), digits_lack c ds (inl lt) hs)
digits_lack c (d ∷ ds) (inr lt) (h, hs) =
    let r = digit_from_value d h in (search (rules, tests), digits_lack c ds (inr lt) hs)

pub decimal-lacks : (c n : ℕ) → (c < 48) ⊎ (57 < c) → n < 2 ^ 64 → Lacks c (decimal n)
decimal-lacks c n out lt =
    digits_lack c (decimal n) out (digits_model.to (decimal n) (digits_decimal digits_model n lt))

-- a number can stand in a line
pub IsField-decimal : (n : ℕ) → n < 2 ^ 64 → IsField (decimal n)
IsField-decimal n lt = record {
  spaces = decimal-lacks 32 n (inl (omega arith)) lt;
  line_feeds = decimal-lacks 10 n (inl (omega arith)) lt;
}
