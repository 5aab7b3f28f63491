-- Demanded errors and ends that are read are lawful.
use Rattle.std.proofs.Common.{◌≡◌, ℕ, zero, suc, Bool, false, eqb, List, [], ◌∷◌, ◌++◌, length, map, drop, replicate, Option, Some, None, Ok, refl, ap, subst, rules, tests}
use Rattle.std.specs.Prelude.{pos, not, ◌&&◌, IfSome}
use Rattle.std.specs.Option.{option_map}
use Rattle.std.specs.List.{All}
use Rattle.std.proofs.lemmas.List.{length-map}
use Rattle.std.proofs.lemmas.List.Elements.{All-append, All-nil, All-cons, All-head, All-tail}
use Rattle.fx_rational.specs.Rational.{whole, AtMost, is_at_most}
use Rattle.fx_rational.specs.Decimal.{Decimal, decimal_value}
use Rattle.fx_rational.proofs.Tests.{at_most_true}
use Rattle.fx_model.specs.Function as model
use Rattle.fx_expr.specs.LawfulFunction.{IsDemand}
use Rattle.fx_lexer.specs.declared.fault.SourceKind.TheVariants as faults
use Rattle.fx_grammar.specs.declared.head.Head.TheVariants as heads
use Rattle.fx_grammar.specs.Heads.{◌==ₕ◌}
use Rattle.fx_grammar.specs.Steps.{Tokens, next_head, has_name, fault}
use Rattle.fx_grammar.specs.Ranges.{Subject, Subjects, new_subject, names_of, is_said, or_zero, all_pass, condition_at}
use Rattle.fx_grammar.specs.Ensuring.{output_at, of_arity, outputs_at, declared_demand, is_empty_demand, demands_at, ensuring_at, unsaid, maybe_ensuring_at}
use Rattle.fx_parser.specs.LawfulTokens.{IsSize, AreSound}
use Rattle.fx_model.proofs.Steps.{on_ok}
use Rattle.fx_parser.proofs.Reading.{only, on_if, refused, same_ok, sound_drop, want_ok, separated_ok, listed_ok}
use Rattle.fx_parser.proofs.SoundSubjects.{IsSubject, AreSubjects, new_ok, condition_ok, all_pass_ok, not_false}

output_ok : (end : ℕ) (ss : Subjects) (ts : Tokens) (x : Subjects × Tokens) → All IsSubject ss → AreSound ts →
    output_at end ss ts ≡ Ok x → All IsSubject x.0 × AreSound x.1
unfolding output_at
output_ok end ss ts x a s e = on_ok _ _ x e (λ t te e.
    let w = want_ok end heads.Name ts t s te in
    let r = refused (has_name (names_of ss) t.0.text) _ (Ok (ss ++ new_subject t.0 ∷ [], t.1)) x e in
    subst (λ (y : Subjects × Tokens). All IsSubject y.0 ×
    AreSound y.1) (same_ok _ x r.1) (
      All-append IsSubject ss (new_subject t.0 ∷ []) a
          (only IsSubject (new_subject t.0) (new_ok t.0 w.0 w.1)),
      w.2,
    ))

counted_ok : (n : ℕ) (y x : Subjects × Tokens) → All IsSubject y.0 × AreSound y.1 → of_arity n y ≡ Ok x →
    AreSubjects n x.0 × AreSound x.1
counted_ok n y x p e = on_if (eqb (length y.0) n) _ _ x e
    (λ on e. let m : length y.0 ≡ n = search (rules, tests) in
    subst (λ (z : Subjects × Tokens). AreSubjects n z.0 × AreSound z.1) (same_ok y x e) ((m, p.0), p.1))
    (λ off e. absurd cc)

outputs_ok : (end n : ℕ) (ts : Tokens) (x : Subjects × Tokens) → AreSound ts → outputs_at end n ts ≡ Ok x →
    AreSubjects n x.0 × AreSound x.1
unfolding outputs_at
outputs_ok end n ts x s e = on_if (next_head ts ==ₕ heads.Open) _ _ x e
    (λ on e. on_ok _ _ x e (λ y ye e. counted_ok n y x
    (listed_ok (All IsSubject) (All IsSubject) (output_at end) end (output_ok end) (output_ok end) [] (drop 1 ts) y
    (All-nil IsSubject) (sound_drop 1 ts s) ye) e))
    (λ off e. on_ok _ _ x e (λ y ye e. counted_ok n y x (output_ok end [] ts y (All-nil IsSubject) s ye) e))

abbrev pub AreDemands : ℕ → List model.Demand → Type 0
AreDemands n ds = (length ds ≡ n) × All IsDemand ds

-- an error that is demanded is a size
err_of : (err : Option Decimal) → IfSome err IsSize →
    IfSome (option_map decimal_value err) (λ e. AtMost (whole (pos 0)) e)
err_of None p = tt {0}
err_of (Some d) p = p

-- both ends are said, and the lower one is above the upper one
abbrev are_empty : Option Decimal → Option Decimal → Bool
are_empty lo hi =
    is_said lo && (is_said hi && not (is_at_most (decimal_value (or_zero lo)) (decimal_value (or_zero hi))))

ends_of : (lo hi : Option Decimal) → are_empty lo hi ≡ false →
    IfSome (option_map decimal_value lo) (λ l. IfSome (option_map decimal_value hi) (λ h. AtMost l h))
ends_of None hi e = tt {0}
ends_of (Some l) None e = tt {0}
ends_of (Some l) (Some h) e = at_most_true _ _ (not_false _ e)

-- the error is one that may be written
abbrev HasSize : Subject → Type 0
HasSize s = IfSome s.err IsSize

-- so many outputs, whether they are named or not
abbrev AreOutputs : ℕ → Subjects → Type 0
AreOutputs n ss = (length ss ≡ n) × All HasSize ss

have_size : (ss : Subjects) → All IsSubject ss → All HasSize ss
have_size [] a = All-nil HasSize
have_size (s ∷ ss) a = let one = All-head IsSubject s ss a in
    All-cons HasSize s ss one.1 (have_size ss (All-tail IsSubject s ss a))

demand_of : (s : Subject) → HasSize s → is_empty_demand s ≡ false → IsDemand (declared_demand s)
demand_of s p e = record { err = err_of s.err p; ends = ends_of s.lo s.hi e }

demands_of : (ss : Subjects) → All HasSize ss → All (λ s. is_empty_demand s ≡ false) ss →
    All IsDemand (map declared_demand ss)
demands_of [] a o = All-nil IsDemand
demands_of (s ∷ ss) a o =
    let one = demand_of s (All-head HasSize s ss a) (All-head (λ s. is_empty_demand s ≡ false) s ss o) in
    All-cons IsDemand (declared_demand s) (map declared_demand ss) one
    (demands_of ss (All-tail HasSize s ss a) (All-tail (λ s. is_empty_demand s ≡ false) s ss o))

pub demands_ok : (n : ℕ) (ss : Subjects) (x : List model.Demand) → AreOutputs n ss → demands_at ss ≡ Ok x → AreDemands n x
unfolding demands_at
demands_ok n ss x q e =
    on_ok (all_pass is_empty_demand (λ at. fault at faults.EmptyRange) ss) (λ u. Ok (map declared_demand ss)) x e
    (λ u ue e.
    let count : length (map declared_demand ss) ≡ n = simp length-map q.0 in
    subst (λ (y : List model.Demand). AreDemands n y) (same_ok (map declared_demand ss) x e) (
      count,
      demands_of ss q.1 (all_pass_ok is_empty_demand (λ at. fault at faults.EmptyRange) ss u ue),
    ))

ensuring_ok : (end n : ℕ) (ts : Tokens) (x : Subjects × Tokens) → AreSound ts → ensuring_at end n ts ≡ Ok x →
    AreOutputs n x.0 × AreSound x.1
unfolding ensuring_at
ensuring_ok end n ts x s e =
    on_ok _ _ x e (λ o oe e. on_ok _ _ x e
    (λ y ye e. on_ok _ _ x e (λ a ae e. on_ok _ _ x e (λ z ze e. on_ok _ _ x e (λ c ce e.
    let p = outputs_ok end n o.1 y (want_ok end heads.Open ts o s oe).2 ye in
    let q =
    separated_ok (AreSubjects n) (AreSubjects n) heads.And (condition_at end) (condition_ok n end)
    (condition_ok n end) y.0 a.1 z p.0 (want_ok end heads.Arrow y.1 a p.1 ae).2 ze in
    subst (λ (y : Subjects × Tokens). AreOutputs n y.0 × AreSound y.1) (same_ok (z.0, c.1) x e)
    ((q.0.0, have_size z.0 q.0.1), (want_ok end heads.Close z.1 c q.1 ce).2))))))

none_said : (n : ℕ) → AreOutputs n (replicate n unsaid)
none_said zero = (refl, All-nil HasSize)
none_said (suc n) =
    let p = none_said n in (ap suc p.0, All-cons HasSize unsaid (replicate n unsaid) (tt {0}) p.1)

pub maybe_ok : (end n : ℕ) (ts : Tokens) (x : Subjects × Tokens) → AreSound ts → maybe_ensuring_at end n ts ≡ Ok x →
    AreOutputs n x.0 × AreSound x.1
unfolding maybe_ensuring_at
maybe_ok end n ts x s e = on_if (next_head ts ==ₕ heads.Ensuring) _ _ x e
    (λ on e. ensuring_ok end n (drop 1 ts) x (sound_drop 1 ts s) e)
    (λ off e. subst (λ (y : Subjects × Tokens). AreOutputs n y.0 ×
    AreSound y.1) (same_ok (_, ts) x e) (none_said n, s))
