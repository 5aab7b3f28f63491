-- Whole sources, read and spelled.
use Rattle.std.proofs.Common.{◌≡◌, ℕ, suc, true, false, List, [], ◌∷◌, length, drop, Result, Ok, refl, sym, ap, subst, ◌∙◌, arith}
use Rattle.fx_model.specs.Function.{Function}
use Rattle.fx_lexer.specs.declared.fault.SourceFault.{SourceFault}
use Rattle.fx_lexer.specs.Tokens.{tokens_of}
use Rattle.fx_lexer.proofs.Layouts.{layout}
use Rattle.fx_grammar.specs.declared.head.Head.{Head}
use Rattle.fx_grammar.specs.declared.head.Head.TheVariants as heads
use Rattle.fx_grammar.specs.Heads.{◌==ₕ◌}
use Rattle.fx_grammar.specs.Steps.{Tokens, next_head, next_place, stands_next}
use Rattle.fx_grammar.specs.Sources.{dot_at, import_at, imports_at, function_names, one_def, defs_at, ended, object_at, source_of, functions_of}
use Rattle.fx_grammar.specs.Functions.{def_at}
use Rattle.fx_syntax.specs.Runs.{IsRun, over, more, IsSeparated}
use Rattle.fx_syntax.specs.Sources.{IsPart, AreImports, IsNewDef, AreDefs, IsObject, IsSource, object, functions}
use Rattle.fx_syntax.specs.Laws.{ReadIsSpelled, SpelledIsRead, OneMeaning, IsSourceText, TextLaw}
use Rattle.fx_model.proofs.Steps.{on_ok}
use Rattle.fx_syntax.proofs.Outcomes.{OnOk, done, failed, and_then, choose, weaken, steps, on_true, on_false}
use Rattle.fx_syntax.proofs.Marks.{mark, same_head, next_is, is_next, not_next, behind_is, next_shorter, want_spells, want_reads}
use Rattle.fx_syntax.proofs.Repeats.{Seen, itself, as_seen, from_seen, Any, keeps_any, SpellsEach, Takes, repeat_spells, repeat_reads, many_spells, many_reads, separated_spells, separated_reads, separated_shorter}
use Rattle.fx_syntax.proofs.Functions.{def_spells, def_reads, def_shorter}

-- ---- imports

dot_spells : (end : ℕ) → SpellsEach itself Any IsPart (dot_at end)
unfolding dot_at
dot_spells end u any ts =
    as_seen (and_then (want_spells end heads.Name ts) (λ n next. done (record { name = n.0; next = next })))

dot_reads : (end : ℕ) (u : Unit {0}) (ts : Tokens) (v : Unit {0}) (us : Tokens) → IsPart u ts v us →
    dot_at end u ts ≡ Ok (v, us)
unfolding dot_at
dot_reads end u ts v us i = steps _ (want_reads end i.next) refl

import_spells : (end : ℕ) → SpellsEach itself Any (IsSeparated heads.Dot IsPart) (import_at end)
unfolding import_at
import_spells end u any ts =
    separated_spells itself Any IsPart (dot_at end) (dot_spells end) (keeps_any IsPart) heads.Dot refl u any ts

-- no import goes on here
abbrev EndsImport : Tokens → Type 0
EndsImport ts = (next_head ts ==ₕ heads.Dot) ≡ false

import_reads : (end : ℕ) (u : Unit {0}) (ts : Tokens) (v : Unit {0}) (us : Tokens) →
    IsSeparated heads.Dot IsPart u ts v us → EndsImport us → import_at end u ts ≡ Ok (v, us)
unfolding import_at
import_reads end u ts v us i off =
    separated_reads itself IsPart (dot_at end) (λ ts. Unit {0}) (λ u ts v us i fits. dot_reads end u ts v us i)
    (λ u ts v us i. next_shorter i.next) heads.Dot (λ ts t us n. tt {0}) i (tt {0}) off

imports_spell : (end : ℕ) (ts : Tokens) → OnOk (λ x. AreImports ts x.1) (imports_at end ts)
unfolding imports_at
imports_spell end ts = weaken (λ x i. i)
    (from_seen (many_spells itself Any (IsSeparated heads.Dot IsPart) (import_at end) (import_spells end)
    (keeps_any (IsSeparated heads.Dot IsPart)) heads.Import refl (tt {0}) (tt {0}) ts))

imports_read : (end : ℕ) {ts us : Tokens} → AreImports ts us → EndsImport us → (next_head us ==ₕ heads.Import) ≡ false →
    imports_at end ts ≡ Ok (tt, us)
unfolding imports_at
imports_read end i dot off =
    many_reads itself (IsSeparated heads.Dot IsPart) (import_at end) EndsImport (import_reads end)
    (λ u ts v us i. separated_shorter heads.Dot IsPart (λ u ts v us i. next_shorter i.next) i) heads.Import
    (λ ts t us n. not_next n heads.Dot refl) i dot off

-- ---- functions

one_spells : (end : ℕ) (fs : List Function) → Any fs → (ts : Tokens) → stands_next heads.Def (itself fs) ts ≡ true →
    OnOk (Seen itself (IsNewDef fs ts)) (one_def end fs ts)
unfolding one_def
one_spells end fs any ts e =
    let t = next_is ts heads.Def (same_head _ _ e) refl in
    as_seen (and_then (def_spells end (next_place end ts) (function_names fs) (drop 1 ts)) (λ f def.
    done (record { function = f.0; behind = drop 1 ts; word = mark t.1; def_is = def; value = refl })))

defs_spell : (end : ℕ) (ts : Tokens) → OnOk (λ x. AreDefs ts x.0 x.1) (defs_at end ts)
unfolding defs_at
defs_spell end ts =
    from_seen (repeat_spells itself Any IsNewDef (stands_next heads.Def) (one_def end) (one_spells end)
    (keeps_any IsNewDef) (suc (length ts)) [] (tt {0}) ts)

-- no demands stand here
abbrev EndsDef : Tokens → Type 0
EndsDef ts = (next_head ts ==ₕ heads.Ensuring) ≡ false

one_reads : (end : ℕ) (fs : List Function) (ts : Tokens) (gs : List Function) (us : Tokens) → IsNewDef fs ts gs us →
    EndsDef us → one_def end fs ts ≡ Ok (gs, us)
unfolding one_def
one_reads end fs ts gs us i off =
    steps _ (ap (def_at end (next_place end ts) (function_names fs)) (behind_is i.word.next)
    ∙ def_reads end (next_place end ts) (function_names fs) i.behind i.function us i.def_is off)
    (ap (λ (gs : List Function). Ok (gs, us)) (sym i.value))

def_takes : (end : ℕ) → Takes itself IsNewDef (stands_next heads.Def) (one_def end) EndsDef
def_takes end = record {
  one = one_reads end;
  on = λ fs ts gs us i. is_next i.word.next;
  fits = λ fs ts gs us i. not_next i.word.next heads.Ensuring refl;
  shorter = λ fs ts gs us i. let a = next_shorter i.word.next in
      let b = def_shorter (function_names fs) i.behind i.function us i.def_is in omega arith;
}

defs_read : (end : ℕ) {ts : Tokens} {fs : List Function} {us : Tokens} → AreDefs ts fs us → EndsDef us →
    (next_head us ==ₕ heads.Def) ≡ false → defs_at end ts ≡ Ok (fs, us)
unfolding defs_at
defs_read end {ts} i off over' =
    repeat_reads itself IsNewDef (stands_next heads.Def) (one_def end) EndsDef (def_takes end) i off over'
    (suc (length ts)) (omega arith)

-- where functions begin no other head stands: either "def", or what stands behind them
defs_begin : {fs : List Function} {ts : Tokens} {gs : List Function} {us : Tokens} → IsRun IsNewDef fs ts gs us →
    (h : Head) → (heads.Def ==ₕ h) ≡ false → (next_head us ==ₕ h) ≡ false → (next_head ts ==ₕ h) ≡ false
defs_begin over h e off = off
defs_begin (more i others) h e off = not_next i.word.next h e

-- ---- objects and sources

object_spells : (end : ℕ) (ts : Tokens) → (next_head ts ==ₕ heads.Object) ≡ true →
    OnOk (λ x. IsObject ts x.0 x.1) (object_at end (drop 1 ts))
unfolding object_at
object_spells end ts e =
    let w = next_is ts heads.Object (same_head _ _ e) refl in
    and_then (want_spells end heads.Name (drop 1 ts)) (λ t n.
    and_then (want_spells end heads.OpenBrace t.1) (λ o opening.
    and_then (imports_spell end o.1) (λ i imports.
    and_then (defs_spell end i.1) (λ fs defs.
    and_then (want_spells end heads.CloseBrace fs.1) (λ c close.
    done (record {
      name = t.0;
      names = drop 1 ts;
      opens = t.1;
      imports = o.1;
      defs = i.1;
      closes = fs.1;
      word = mark w.1;
      name_next = n;
      opening = mark opening;
      imports_are = imports;
      defs_are = defs;
      close = mark close;
    }))))))

object_reads : (end : ℕ) (ts : Tokens) (fs : List Function) (rest : Tokens) (i : IsObject ts fs rest) →
    object_at end i.names ≡ Ok (fs, rest)
unfolding object_at
object_reads end ts fs rest i =
    steps _ (want_reads end i.name_next) (
    steps _ (want_reads end i.opening.next) (
    steps _ (imports_read end i.imports_are
    (defs_begin i.defs_are heads.Dot refl (not_next i.close.next heads.Dot refl))
    (defs_begin i.defs_are heads.Import refl (not_next i.close.next heads.Import refl))) (
    steps _ (defs_read end i.defs_are (not_next i.close.next heads.Ensuring refl)
    (not_next i.close.next heads.Def refl)) (
    steps _ (want_reads end i.close.next) refl))))

ended_spells : (end : ℕ) (fs : List Function) (ts : Tokens) → OnOk (λ gs. (gs ≡ fs) × (ts ≡ [])) (ended end fs ts)
ended_spells end fs [] = done (refl, refl)
ended_spells end fs (t ∷ ts) = failed

source_spells : (end : ℕ) (ts : Tokens) → OnOk (IsSource ts) (source_of end ts)
unfolding source_of
source_spells end ts =
    and_then (imports_spell end ts) (λ i imports.
    and_then {P = λ x. x.1 ≡ [] → IsSource ts x.0} (choose (next_head i.1 ==ₕ heads.Object)
    (λ e. weaken (λ x o e. object imports (subst (IsObject i.1 x.0) e o)) (object_spells end i.1 e))
    (λ e. weaken (λ x d e. functions imports (subst (AreDefs i.1 x.0) e d)) (defs_spell end i.1)))
    (λ fs k. weaken (λ gs e. subst (IsSource ts) (sym e.0) (k e.1)) (ended_spells end fs.0 fs.1)))

pub read_is_spelled : ReadIsSpelled
read_is_spelled end ts fs e = (source_spells end ts).at fs e

pub spelled_is_read : SpelledIsRead
unfolding source_of
spelled_is_read end ts fs (object {us = us} imports o) =
    steps _ (imports_read end imports (not_next o.word.next heads.Dot refl) (not_next o.word.next heads.Import refl)) (
    steps _ (on_true _ (is_next o.word.next) (ap (object_at end) (behind_is o.word.next)
    ∙ object_reads end us fs [] o)) refl)
spelled_is_read end ts fs (functions {us = us} imports d) =
    steps _ (imports_read end imports (defs_begin d heads.Dot refl refl) (defs_begin d heads.Import refl refl)) (
    steps _ (on_false _ (defs_begin d heads.Object refl refl) (defs_read end d refl refl)) refl)

pub one_meaning : OneMeaning
one_meaning ts fs gs i j =
    let a = spelled_is_read 0 ts fs i in let b = spelled_is_read 0 ts gs j in same fs gs (sym a ∙ b)
  where
    same : (fs gs : List Function) → ◌≡◌ {A = Result (List Function) SourceFault} (Ok fs) (Ok gs) → fs ≡ gs
    same fs gs e = cc

-- ---- texts

pub text_law : TextLaw
text_law text fs = (spells, reads)
  where
    spells : functions_of text ≡ Ok fs → IsSourceText text fs
    spells e =
        on_ok (tokens_of text) (λ ts. source_of (length text) ts) fs e
        (λ ts t s. record {
          tokens = ts;
          layout = (layout text ts).0 t;
          source = read_is_spelled (length text) ts fs s;
        })

    reads : IsSourceText text fs → functions_of text ≡ Ok fs
    reads i = steps _ ((layout text i.tokens).1 i.layout) (spelled_is_read (length text) i.tokens fs i.source)
