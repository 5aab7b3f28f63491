-- Testing codes one after the other, as a loop does: all of them are in order where those from code n on are.
use Rattle.std.proofs.Common.{◌≡◌, ℕ, ◌+◌, ◌<◌, ◌≤◌, List, [], ◌∷◌, ◌++◌, length, drop, map, get_or, ℤ, refl, sym, ap, subst, ◌∙◌, arith, length-append}
use Rattle.std.specs.Prelude.{All}
use Rattle.std.proofs.lemmas.List.Elements.{All-push, All-nil}
use Rattle.std.proofs.Math.ListN.{drop_of_length-le}
use Rattle.fx_model.specs.LawfulProgram.{IsPoint}
use Rattle.fx_model.specs.Machine.{Code, point_of, points_after, points_of}
use Rattle.fx_text.specs.Many.{AreEach}
use Rattle.fx_program.specs.CodeView.{code_of}
use Rattle.fx_program.specs.ProgramReading.{with_point}
use Rattle.fx_program.specs.declared.code.Code as code
use Rattle.fx_flat.proofs.Growth.{seen_in_front}
use Rattle.fx_lowering.specs.InOrder.{MayFollow}
use Rattle.fx_lowering.specs.declared.lawful.Frame.{Frame}

-- codes each of which may follow those with the points ps and the codes before it
abbrev pub InOrder : Frame → List ℤ → List Code → Type 0
InOrder h ps cs = AreEach (MayFollow h) with_point ps cs

-- the first n codes have the points ps and may stand as they do
pub record FollowSoFar (h : Frame) (cs : List Code) (n : ℕ) (ps : List ℤ) : Type 0 where
  pub count : length ps ≡ n
  pub points : All IsPoint ps
  pub rest : points_after (drop n cs) ps ≡ points_of cs
  pub goes_on : InOrder h [] cs → InOrder h ps (drop n cs)
  pub comes_from : InOrder h ps (drop n cs) → InOrder h [] cs

begins : (h : Frame) (cs : List Code) → FollowSoFar h cs 0 []
begins h cs = record {
  count = refl;
  points = All-nil IsPoint;
  rest = refl;
  goes_on = λ all. all;
  comes_from = λ all. all;
}

-- one more code, c, of the point f
goes_on : {h : Frame} {cs : List Code} {n : ℕ} {ps : List ℤ} (c : Code) (f : ℤ) → FollowSoFar h cs n ps →
    drop n cs ≡ c ∷ drop (n + 1) cs → MayFollow h ps c → f ≡ point_of c ps → FollowSoFar h cs (n + 1) (ps ++ f ∷ [])
goes_on {h} {cs} {n} {ps} c f s front follows is =
    let same : with_point ps c ≡ ps ++ f ∷ [] = ap (λ (f : ℤ). ps ++ f ∷ []) (sym is) in
    record {
      count = omega (arith, length-append ps (f ∷ []), s.count);
      points = All-push IsPoint ps f s.points (subst IsPoint (sym is) follows.point);
      rest = ap (points_after (drop (n + 1) cs)) (sym same)
          ∙ ap (λ (rest : List Code). points_after rest ps) (sym front) ∙ s.rest;
      goes_on = λ all. subst (λ (ps : List ℤ). InOrder h ps (drop (n + 1) cs)) same
          (subst (InOrder h ps) front (s.goes_on all)).1;
      comes_from = λ rest. s.comes_from (subst (InOrder h ps) (sym front)
          (follows, subst (λ (ps : List ℤ). InOrder h ps (drop (n + 1) cs)) (sym same) rest));
    }

-- a code that may not follow
ends : {h : Frame} {cs : List Code} {n : ℕ} {ps : List ℤ} (c : Code) → FollowSoFar h cs n ps →
    drop n cs ≡ c ∷ drop (n + 1) cs → ¬ MayFollow h ps c → ¬ InOrder h [] cs
ends {h} {cs} {n} {ps} c s front not all = not (subst (InOrder h ps) front (s.goes_on all)).0

-- ---- the same of codes in memory, where qs are the points as they are handed on
pub goes_on_behind : (h : Frame) (codes : List code.Code) (i : ℕ) (d : code.Code) (f : ℤ) (ps qs all : List ℤ) →
    FollowSoFar h (map code_of codes) i ps → i < length codes → qs ≡ ps → all ≡ ps ++ f ∷ [] →
    (MayFollow h qs (code_of (get_or codes i d)) × (f ≡ point_of (code_of (get_or codes i d)) qs)) →
    FollowSoFar h (map code_of codes) (i + 1) all
goes_on_behind h codes i d f ps qs all s lt same pushed next =
    let follows = subst (λ (qs : List ℤ). MayFollow h qs (code_of (get_or codes i d))) same next.0 in
    let is = next.1 ∙ ap (point_of (code_of (get_or codes i d))) same in
    subst (FollowSoFar h (map code_of codes) (i + 1)) (sym pushed)
    (goes_on (code_of (get_or codes i d)) f s (seen_in_front code_of codes i d lt) follows is)

pub ends_behind : (h : Frame) (codes : List code.Code) (i : ℕ) (d : code.Code) (ps qs : List ℤ) →
    FollowSoFar h (map code_of codes) i ps → i < length codes → qs ≡ ps →
    ¬ MayFollow h qs (code_of (get_or codes i d)) → ¬ InOrder h [] (map code_of codes)
ends_behind h codes i d ps qs s lt same not =
    ends (code_of (get_or codes i d)) s (seen_in_front code_of codes i d lt)
    (subst (λ (qs : List ℤ). ¬ MayFollow h qs (code_of (get_or codes i d))) same not)

-- no code is left: all may stand as they do, and these are their points
is_done : {h : Frame} {cs : List Code} {n : ℕ} {ps : List ℤ} → FollowSoFar h cs n ps → length cs ≤ n →
    InOrder h [] cs × (ps ≡ points_of cs)
is_done {h} {cs} {n} {ps} s le =
    let none = drop_of_length-le cs le in (
      s.comes_from (subst (InOrder h ps) (sym none) tt),
      sym (ap (λ (rest : List Code). points_after rest ps) none) ∙ s.rest,
    )
