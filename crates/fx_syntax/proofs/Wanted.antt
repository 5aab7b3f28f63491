-- The wanted function of a source: names of functions differ, so that there is one.
use Rattle.std.proofs.Common.{◌≡◌, ℕ, Bool, true, false, cond, List, [], ◌∷◌, ◌++◌, length, Option, Some, None, Ok, refl, sym, ap, subst, ◌∙◌}
use Rattle.std.specs.Prelude.{bytes_eq, ◌||◌, nat_lt, not}
use Rattle.std.specs.List.{find}
use Rattle.std.specs.Str.{is_utf8}
use Rattle.std.proofs.lemmas.List.{map-append}
use Rattle.std.proofs.lemmas.Slice.Eq.{bytes_eq-Decides}
use Rattle.fx_model.specs.Function.{Function}
use Rattle.fx_grammar.specs.Steps.{Text, Tokens, name_place, is_found, has_name}
use Rattle.fx_grammar.specs.Sources.{functions_of, called, chosen, parsed, function_names}
use Rattle.fx_syntax.specs.Runs.{IsRun, over, more}
use Rattle.fx_syntax.specs.Sources.{IsNewDef, IsSource, object, functions}
use Rattle.fx_syntax.specs.Laws.{IsChosen, only, named, IsWanted, WantedLaw}
use Rattle.fx_syntax.proofs.Outcomes.{OnOk, done, failed, and_then, choose, weaken, answered, steps, on_true}
use Rattle.fx_syntax.proofs.Names.{behind_place, place-append}
use Rattle.fx_syntax.proofs.Sources.{text_law}

-- ---- names among names

has-append : (xs ys : List Text) (name : Text) → has_name (xs ++ ys) name ≡ (has_name xs name || has_name ys name)
has-append xs ys name = ap is_found (place-append xs ys name) ∙ by (name_place xs name) (name_place ys name)
  where
    by : (p q : Option ℕ) → is_found (behind_place (length xs) p q) ≡ (is_found p || is_found q)
    by (Some i) q = refl
    by None (Some i) = refl
    by None None = refl

has-one : (x name : Text) → has_name (x ∷ []) name ≡ bytes_eq x name
has-one x name = by (bytes_eq x name)
  where
    by : (b : Bool) → is_found (cond (nat_lt (cond (not b) 1 0) 1) (Some (cond (not b) 1 0)) None) ≡ b
    by true = refl
    by false = refl

has-cons : (x : Text) (xs : List Text) (name : Text) → has_name (x ∷ xs) name ≡ (bytes_eq x name || has_name xs name)
has-cons x xs name = has-append (x ∷ []) xs name ∙ ap (λ b. b || has_name xs name) (has-one x name)

same_text : (a b : Text) → a ≡ b → bytes_eq a b ≡ true
same_text a b e = (bytes_eq-Decides a b).1 e

turned : (a b : Text) → bytes_eq a b ≡ false → bytes_eq b a ≡ false
turned a b e = by (bytes_eq b a) refl
  where
    by : (c : Bool) → bytes_eq b a ≡ c → c ≡ false
    by true f = absurd (let g = same_text a b (sym ((bytes_eq-Decides b a).0 f)) in cc)
    by false f = refl

both_false : (p q : Bool) → (p || q) ≡ false → (p ≡ false) × (q ≡ false)
both_false true q e = absurd cc
both_false false q e = (refl, e)

-- ---- names that differ

-- no function has the name of one behind it
Differ : List Function → Type 0
Differ [] = Unit {0}
Differ (f ∷ fs) = (has_name (function_names fs) f.name ≡ false) × Differ fs

differ-snoc : (fs : List Function) (g : Function) → Differ fs → has_name (function_names fs) g.name ≡ false →
    Differ (fs ++ g ∷ [])
unfolding Differ
differ-snoc [] g d e = (refl, tt {0})
differ-snoc (f ∷ fs) g d e =
    let parts = both_false _ _ (sym (has-cons f.name (function_names fs) g.name) ∙ e) in (
      ap (λ ns. has_name ns f.name) (map-append (λ f. f.name) fs (g ∷ []))
          ∙ has-append (function_names fs) (g.name ∷ []) f.name
          ∙ ap (λ b. b || has_name (g.name ∷ []) f.name) d.0 ∙ has-one g.name f.name ∙ turned f.name g.name parts.0,
      differ-snoc fs g d.1 parts.1,
    )

defs_differ : {fs : List Function} {ts : Tokens} {gs : List Function} {us : Tokens} → IsRun IsNewDef fs ts gs us →
    Differ fs → Differ gs
defs_differ over d = d
defs_differ (more {a = fs} i others) d =
    defs_differ others (subst Differ (sym i.value) (differ-snoc fs i.function d (front_fresh i)))
  where
    front_fresh : {ts : Tokens} {gs : List Function} {us : Tokens} → (i : IsNewDef fs ts gs us) →
        has_name (function_names fs) i.function.name ≡ false
    front_fresh i =
        subst (λ n. has_name (function_names fs) n ≡ false)
        (sym (i.def_is.body_is.name ∙ i.def_is.front_is.named)) i.def_is.front_is.fresh

functions_differ : {ts : Tokens} {fs : List Function} → IsSource ts fs → Differ fs
unfolding Differ
functions_differ (object imports o) = defs_differ o.defs_are (tt {0})
functions_differ (functions imports d) = defs_differ d (tt {0})

-- ---- the wanted function

-- the first that passes a test stands between those before it and those behind
record IsAmong (name : Text) (fs : List Function) (f : Function) : Type 0 where
  before : List Function
  after : List Function
  parts : fs ≡ before ++ f ∷ after
  named : f.name ≡ name

split : (name : Text) (fs : List Function) (f : Function) → find (λ g. bytes_eq g.name name) fs ≡ Some f →
    IsAmong name fs f
split name [] f e = absurd cc
split name (g ∷ fs) f e = by (bytes_eq g.name name) refl (λ e. split name fs f e) e
  where
    by : (b : Bool) → bytes_eq g.name name ≡ b → (find (λ g. bytes_eq g.name name) fs ≡ Some f → IsAmong name fs f) →
        cond b (Some g) (find (λ g. bytes_eq g.name name) fs) ≡ Some f → IsAmong name (g ∷ fs) f
    by true p k e =
        let same : g ≡ f = cc in
        record {
          before = [];
          after = fs;
          parts = ap (λ h. h ∷ fs) same;
          named = sym (ap (λ h. h.name) same) ∙ (bytes_eq-Decides g.name name).0 p;
        }
    by false p k e =
        let a = k e in
        record { before = g ∷ a.before; after = a.after; parts = ap (λ hs. g ∷ hs) a.parts; named = a.named }

chosen_spells : (name : Option Text) (fs : List Function) → OnOk (IsChosen name fs) (chosen name fs)
unfolding chosen
chosen_spells None [] = failed
chosen_spells None (f ∷ []) = done only
chosen_spells None (f ∷ g ∷ fs) = failed
chosen_spells (Some name) fs = by (find (λ g. bytes_eq g.name name) fs) refl
  where
    by : (o : Option Function) → find (λ g. bytes_eq g.name name) fs ≡ o → OnOk (IsChosen (Some name) fs) (called o)
    by None e = failed
    by (Some f) e =
        let a = split name fs f e in
        done (subst (λ gs. IsChosen (Some name) gs f) (sym a.parts) (named a.before a.after a.named))

has_it : (before after : List Function) (f : Function) → has_name (function_names (before ++ f ∷ after)) f.name ≡ true
has_it [] after f = has-cons f.name (function_names after) f.name
    ∙ ap (λ b. b || has_name (function_names after) f.name) (same_text f.name f.name refl)
has_it (g ∷ before) after f = has-cons g.name (function_names (before ++ f ∷ after)) f.name
    ∙ ap (λ b. bytes_eq g.name f.name || b) (has_it before after f) ∙ by (bytes_eq g.name f.name)
  where
    by : (b : Bool) → (b || true) ≡ true
    by true = refl
    by false = refl

found : (name : Text) (before after : List Function) (f : Function) → f.name ≡ name → Differ (before ++ f ∷ after) →
    find (λ g. bytes_eq g.name name) (before ++ f ∷ after) ≡ Some f
unfolding Differ
found name [] after f e d = ap (λ b. cond b (Some f) (find (λ g. bytes_eq g.name name) after)) (same_text f.name name e)
found name (g ∷ before) after f e d =
    ap (λ b. cond b (Some g) (find (λ g. bytes_eq g.name name) (before ++ f ∷ after))) (by (bytes_eq g.name name) refl)
    ∙ found name before after f e d.1
  where
    by : (b : Bool) → bytes_eq g.name name ≡ b → b ≡ false
    by true p =
        let same : g.name ≡ f.name = (bytes_eq-Decides g.name name).0 p ∙ sym e in
        let a = has_it before after f in
        let b = ap (has_name (function_names (before ++ f ∷ after))) same in
        absurd (let x = d.0 in cc)
    by false p = refl

chosen_reads : {name : Option Text} {fs : List Function} {f : Function} → IsChosen name fs f → Differ fs →
    chosen name fs ≡ Ok f
unfolding chosen
chosen_reads only d = refl
chosen_reads {f = f} (named {name = name} before after e) d = ap called (found name before after f e d)

pub wanted_law : WantedLaw
unfolding parsed
wanted_law bytes name f = (λ e. (spells.at f e), reads)
  where
    spells : OnOk (IsWanted bytes name) (parsed bytes name)
    spells = choose (is_utf8 bytes)
        (λ u. and_then (answered (functions_of bytes))
        (λ fs e. weaken (λ f c. record { functions = fs; utf8 = u; text = (text_law bytes fs).0 e; chosen = c })
        (chosen_spells name fs)))
        (λ u. failed)

    reads : IsWanted bytes name f → parsed bytes name ≡ Ok f
    reads i =
        on_true _ i.utf8 (steps _ ((text_law bytes i.functions).1 i.text)
        (chosen_reads i.chosen (functions_differ i.text.source)))
