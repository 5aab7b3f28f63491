-- A function that is read is lawful, and its names are names.
use Rattle.std.proofs.Common.{◌≡◌, ℕ, suc, ◌+◌, ◌-◌, ◌<◌, ◌≤◌, List, [], ◌∷◌, ◌++◌, length, drop, Ok, refl, sym, subst, ◌∙◌, arith, rules, tests}
use Rattle.std.specs.Prelude.{nat_lt}
use Rattle.std.specs.List.{All}
use Rattle.std.proofs.lemmas.List.{length-map}
use Rattle.std.proofs.lemmas.List.Elements.{All-append, All-nil}
use Rattle.fx_model.specs.Names.{IsName}
use Rattle.fx_model.specs.Function as model
use Rattle.fx_model.specs.Valid.{AllReferBelow, ReferBack}
use Rattle.fx_expr.specs.LawfulFunction.{IsLow}
use Rattle.fx_grammar.specs.declared.head.Head.TheVariants as heads
use Rattle.fx_grammar.specs.Heads.{◌==ₕ◌}
use Rattle.fx_grammar.specs.Steps.{Tokens, Text, next_head, next_place, past_semicolon, stands_next, behind}
use Rattle.fx_grammar.specs.Ranges.{Subjects, names_of}
use Rattle.fx_grammar.specs.Bodies.{count_of}
use Rattle.fx_grammar.specs.Functions.{require_word_at, new_name, Front, front_at, body_of, within_nodes, ending_at, body_at, def_at}
use Rattle.fx_grammar.specs.Sources.{dot_at, import_at, imports_at, function_names, one_def, defs_at, ended, object_at, source_of, functions_of}
use Rattle.fx_parser.specs.LawfulTokens.{AreSound}
use Rattle.fx_parser.specs.LawfulNames.{IsLawfulAndNamed}
use Rattle.fx_model.proofs.Steps.{on_ok}
use Rattle.fx_parser.proofs.Reading.{only, on_if, same_ok, sound_drop, sound_semicolon, want_ok, repeat_ok, separated_ok}
use Rattle.fx_parser.proofs.NodeCounts.{all_nodes}
use Rattle.fx_parser.proofs.SoundTokens.{tokens_sound}
use Rattle.fx_parser.proofs.SoundSubjects.{is_name, require_ok}
use Rattle.fx_parser.proofs.SoundFronts.{Params, params_ok, AreStates, states_ok, type_ok}
use Rattle.fx_parser.proofs.SoundBodies.{IsSoundBody, vals_ok, result_ok}
use Rattle.fx_parser.proofs.SoundDemands.{AreDemands, demands_ok, maybe_ok}

-- ---- functions

record IsFront (f : Front) : Type 0 where
  name : IsName f.name
  subjects : Params f.subjects
  declared : AreStates (length f.subjects) f.declared
  more : length f.declared.states < f.reals
  few : f.reals ≤ length f.declared.states + 64

front_ok : (end : ℕ) (functions : List Text) (ts : Tokens) (x : Front × Tokens) → AreSound ts →
    front_at end functions ts ≡ Ok x → IsFront x.0 × AreSound x.1
unfolding front_at
front_ok end functions ts x s e =
    on_ok _ _ x e (λ t te e. on_ok {A = Unit {0}} (new_name functions t.0) _ x e
    (λ u ue e. on_ok _ _ x e
    (λ o oe e. on_ok _ _ x e
    (λ ss se e. on_ok _ _ x e
    (λ h he e. on_ok _ _ x e (λ c ce e. on_ok _ _ x e (λ r re e. on_ok _ _ x e (λ q qe e. on_ok _ _ x e (λ b be e.
    let w = want_ok end heads.Name ts t s te in
    let p = params_ok end o.1 ss (want_ok end heads.Open t.1 o w.2 oe).2 se in
    let n : length (names_of ss.0) ≡ length ss.0 = simp length-map refl in
    let d = states_ok end (names_of ss.0) ss.1 h p.1 he in
    let y = type_ok end (length h.0.states) c.1 r (want_ok end heads.Colon h.1 c d.1 ce).2 re in
    let z = want_ok end heads.OpenBrace q.1 b (want_ok end heads.Equals r.1 q y.2 qe).2 be in
    subst (λ (v : Front × Tokens). IsFront v.0 × AreSound v.1) (same_ok (_, b.1) x e) (
      record {
        name = is_name t.0 w.0 w.1;
        subjects = p.0;
        declared = subst (λ m. AreStates m h.0) n d.0;
        more = y.0;
        few = y.1;
      },
      z.2,
    ))))))))))

require_word_ok : (end : ℕ) (ss : Subjects) (ts us : Tokens) → AreSound ts → require_word_at end ss ts ≡ Ok us →
    AreSound us
unfolding require_word_at
require_word_ok end ss ts us s e = on_if (next_head ts ==ₕ heads.Require) _ _ us e
    (λ on e. subst AreSound (same_ok (drop 1 ts) us e) (sound_drop 1 ts s))
    (λ off e. on_if (next_head ts ==ₕ heads.Unsupported) _ _ us e (λ on e. absurd cc) (λ off e. absurd cc))

within_ok : (word nodes : ℕ) (u : Unit {0}) → within_nodes word nodes ≡ Ok u → nodes ≤ 4000
within_ok word nodes u e = on_if (nat_lt 4000 nodes) _ _ u e (λ on e. absurd cc) (λ off e. search (rules, tests))

ending_ok : (end word nodes n : ℕ) (ts : Tokens) (x : List model.Demand × Tokens) → AreSound ts →
    ending_at end word nodes n ts ≡ Ok x → (nodes ≤ 4000) × (AreDemands n x.0 × AreSound x.1)
unfolding ending_at
ending_ok end word nodes n ts x s e =
    on_ok _ _ x e (λ c ce e. on_ok _ _ x e (λ y ye e. on_ok {A = Unit {0}} _ _ x e (λ u ue e. on_ok _ _ x e (λ d de e.
    let w = want_ok end heads.CloseBrace (past_semicolon ts) c (sound_semicolon ts s) ce in
    let a = maybe_ok end n c.1 y w.2 ye in
    let k = demands_ok n y.0 d a.0 de in (
      within_ok word nodes u ue,
      subst (λ (v : List model.Demand × Tokens). AreDemands n v.0 ×
          AreSound v.1) (same_ok (d, y.1) x e) (k, a.1),
    )))))

body_ok : (end word : ℕ) (f : Front) (ts : Tokens) (x : model.Function × Tokens) → IsFront f → AreSound ts →
    body_at end word f ts ≡ Ok x → IsLawfulAndNamed x.0 × AreSound x.1
unfolding body_at
body_ok end word f ts x p s e =
    on_ok _ _ x e (λ r re e. on_ok _ _ x e
    (λ i ie e. on_ok _ _ x e (λ b be e. on_ok _ _ x e (λ y ye e. on_ok _ _ x e (λ d de e.
    let states = length f.declared.states in
    let q =
    require_ok (length f.subjects) end f.subjects r i (
      refl,
      p.subjects.2,
    ) (require_word_ok end f.subjects ts r s re) ie in
    let start : IsSoundBody (body_of f) = record {
      names = omega (arith, p.declared.0);
      temps = omega arith;
      back = tt {0};
      low = All-nil (λ (t : model.Temp). IsLow t.tree);
      named = All-nil (λ (t : model.Temp). IsName t.name);
      nodes = refl;
    } in
    let v = vals_ok end (body_of f) (past_semicolon i.1) b start (sound_semicolon i.1 q.1) be in
    let o = result_ok end word f.reals b.0 b.1 y (omega (arith, p.more)) v.0.0 v.1 ye in
    let g =
    ending_ok end word (count_of b.0 (length y.0.trees) y.0.nodes) (f.reals - states) y.1 d o.1 de in
    let a = g.1 in
    let le : b.0.inputs + b.0.states + length y.0.trees + y.0.nodes ≤ 4000 = g.0 in
    let fn : model.Function = record {
      name = f.name;
      inputs = i.0;
      states = f.declared.states;
      temps = b.0.temps;
      results = y.0.trees;
      demands = d.0;
    } in
    let below = subst (λ n. AllReferBelow n b.0.states (length b.0.temps) y.0.trees) (v.0.1.0
    ∙ sym q.0.0) o.0.1.below in
    let back = subst (λ n. ReferBack n b.0.states 0 b.0.temps) (v.0.1.0 ∙ sym q.0.0) v.0.0.back in
    subst (λ (z : model.Function × Tokens). IsLawfulAndNamed z.0 × AreSound z.1) (same_ok (fn, d.1) x e) (
      (
        record {
          valid = record {
            all_results = omega (arith, o.0.0, a.0.0, p.more);
            temps = subst (λ n. ReferBack (length i.0) n 0 b.0.temps) v.0.1.1 back;
            results = subst (λ n. AllReferBelow (length i.0) n (length b.0.temps) y.0.trees) v.0.1.1 below;
          };
          name = p.name;
          sizes = record {
            some_input = omega (arith, q.0.0, p.subjects.0);
            inputs = omega (arith, q.0.0, p.subjects.1);
            states = p.declared.1;
            some_output = omega (arith, a.0.0, p.more);
            outputs = omega (arith, a.0.0, p.few);
            temps = v.0.0.temps;
            nodes = omega (arith, all_nodes fn, le, o.0.1.nodes, q.0.0, v.0.1.0, v.0.1.1);
          };
          inputs = q.0.1.0;
          demands = a.0.1;
          low_temps = v.0.0.low;
          low_results = o.0.1.low;
        },
        record { inputs = q.0.1.1; states = p.declared.2; temps = v.0.0.named },
      ),
      a.1,
    ))))))

def_ok : (end word : ℕ) (functions : List Text) (ts : Tokens) (x : model.Function × Tokens) → AreSound ts →
    def_at end word functions ts ≡ Ok x → IsLawfulAndNamed x.0 × AreSound x.1
unfolding def_at
def_ok end word functions ts x s e =
    on_ok _ _ x e (λ f fe e. let p = front_ok end functions ts f s fe in body_ok end word f.0 f.1 x p.0 p.1 e)

one_def_ok : (end : ℕ) (fs : List model.Function) (ts : Tokens) (x : List model.Function × Tokens) →
    All IsLawfulAndNamed fs → AreSound ts → one_def end fs ts ≡ Ok x → All IsLawfulAndNamed x.0 × AreSound x.1
unfolding one_def
one_def_ok end fs ts x a s e = on_ok _ _ x e (λ f fe e.
    let p = def_ok end (next_place end ts) (function_names fs) (drop 1 ts) f (sound_drop 1 ts s) fe in
    subst (λ (z : List model.Function × Tokens). All IsLawfulAndNamed z.0 ×
    AreSound z.1) (same_ok (
      fs ++ f.0 ∷ [],
      f.1,
    ) x e) (All-append IsLawfulAndNamed fs (f.0 ∷ []) a (only IsLawfulAndNamed f.0 p.0), p.1))

defs_ok : (end : ℕ) (ts : Tokens) (x : List model.Function × Tokens) → AreSound ts → defs_at end ts ≡ Ok x →
    All IsLawfulAndNamed x.0 × AreSound x.1
unfolding defs_at
defs_ok end ts x s e =
    repeat_ok (All IsLawfulAndNamed) (stands_next heads.Def) (one_def end) (one_def_ok end) (suc (length ts)) [] ts x
    (All-nil IsLawfulAndNamed) s e

-- ---- sources

abbrev Nothing : Unit {0} → Type 0
Nothing u = Unit {0}

dot_ok : (end : ℕ) (u : Unit {0}) (ts : Tokens) (x : Unit {0} × Tokens) → Nothing u → AreSound ts →
    dot_at end u ts ≡ Ok x → Nothing x.0 × AreSound x.1
unfolding dot_at
dot_ok end u ts x p s e =
    on_ok _ _ x e (λ n ne e. subst (λ (z : Unit {0} × Tokens). Nothing z.0 ×
    AreSound z.1) (same_ok (tt {0}, n.1) x e) (tt {0}, (want_ok end heads.Name ts n s ne).2))

import_ok : (end : ℕ) (u : Unit {0}) (ts : Tokens) (x : Unit {0} × Tokens) → Nothing u → AreSound ts →
    import_at end u ts ≡ Ok x → Nothing x.0 × AreSound x.1
unfolding import_at
import_ok end u ts x p s e =
    separated_ok Nothing Nothing heads.Dot (dot_at end) (dot_ok end) (dot_ok end) (tt {0}) ts x (tt {0}) s e

imports_ok : (end : ℕ) (ts : Tokens) (x : Unit {0} × Tokens) → AreSound ts → imports_at end ts ≡ Ok x → AreSound x.1
unfolding imports_at
imports_ok end ts x s e =
    (repeat_ok Nothing (stands_next heads.Import) (behind (import_at end))
    (λ u ts x p s e. import_ok end u (drop 1 ts) x p (sound_drop 1 ts s) e) (suc (length ts)) (tt {0}) ts x
    (tt {0}) s e).1

object_ok : (end : ℕ) (ts : Tokens) (x : List model.Function × Tokens) → AreSound ts → object_at end ts ≡ Ok x →
    All IsLawfulAndNamed x.0 × AreSound x.1
unfolding object_at
object_ok end ts x s e =
    on_ok _ _ x e (λ t te e. on_ok _ _ x e
    (λ o oe e. on_ok _ _ x e (λ i ie e. on_ok _ _ x e (λ fs fe e. on_ok _ _ x e (λ c ce e.
    let w = want_ok end heads.OpenBrace t.1 o (want_ok end heads.Name ts t s te).2 oe in
    let p = defs_ok end i.1 fs (imports_ok end o.1 i w.2 ie) fe in
    subst (λ (z : List model.Function × Tokens). All IsLawfulAndNamed z.0 ×
    AreSound z.1) (same_ok (fs.0, c.1) x e) (p.0, (want_ok end heads.CloseBrace fs.1 c p.1 ce).2))))))

ended_ok : (end : ℕ) (fs : List model.Function) (ts : Tokens) (x : List model.Function) → All IsLawfulAndNamed fs →
    ended end fs ts ≡ Ok x → All IsLawfulAndNamed x
ended_ok end fs [] x a e = subst (All IsLawfulAndNamed) (same_ok fs x e) a
ended_ok end fs (t ∷ ts) x a e = absurd cc

source_ok : (end : ℕ) (ts : Tokens) (x : List model.Function) → AreSound ts → source_of end ts ≡ Ok x →
    All IsLawfulAndNamed x
unfolding source_of
source_ok end ts x s e = on_ok _ _ x e (λ i ie e. on_ok _ _ x e (λ fs fe e.
    let t = imports_ok end ts i s ie in
    let p : All IsLawfulAndNamed fs.0 ×
    AreSound fs.1 =
    on_if (next_head i.1 ==ₕ heads.Object) _ _ fs fe (λ on e. object_ok end (drop 1 i.1) fs (sound_drop 1 i.1 t) e)
    (λ off e. defs_ok end i.1 fs t e) in
    ended_ok end fs.0 fs.1 x p.0 e))

-- each function of a text is whole
pub functions_ok : (text : List ℕ) (fs : List model.Function) → functions_of text ≡ Ok fs → All IsLawfulAndNamed fs
functions_ok text fs e = on_ok _ _ fs e (λ ts te e. source_ok (length text) ts fs (tokens_sound text ts te) e)
