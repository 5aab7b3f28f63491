-- Subjects that pass a test, one by one.
use Rattle.std.proofs.Common.{◌≡◌, ℕ, ◌+◌, ◌<◌, ◌≤◌, Bool, true, false, List, [], ◌∷◌, length, get_or, drop, map, Result, Ok, Err, refl, sym, ap, ◌∙◌, add-one}
use Rattle.std.proofs.Math.Seq.{drop-cons}
use Rattle.std.proofs.lemmas.List.{drop_all}
use Rattle.fx_lexer.specs.declared.fault.SourceFault.{SourceFault}
use Rattle.fx_requirements.specs.declared.subject.Subject.{Subject}
use Rattle.fx_requirements.specs.Views.{subject_of}
use Rattle.fx_grammar.specs.Ranges as ranges
use Rattle.fx_grammar.specs.Ranges.{all_pass}

abbrev pub PassOutcome : Type 0
PassOutcome = Result (Unit {0}) SourceFault

module _ (bad : ranges.Subject → Bool) (faulty : ℕ →
    SourceFault) (xs : List Subject) (i : ℕ) (d : Subject) (whole : PassOutcome) (lt : i
    < length xs) (same : all_pass bad faulty (map subject_of (drop i xs)) ≡ whole) where
  front : all_pass bad faulty (subject_of (get_or xs i d) ∷ map subject_of (drop (i + 1) xs)) ≡ whole
  front = (let e : drop i xs ≡ get_or xs i d ∷ drop (i + 1) xs = rw add-one (drop-cons xs i d lt) in
      ap (λ l. all_pass bad faulty (map subject_of l)) (sym e) ∙ same)

  pub stops : bad (subject_of (get_or xs i d)) ≡ true → whole ≡ Err (faulty (get_or xs i d).at)
  unfolding all_pass
  stops p = sym front ∙ rw p refl

  pub passes : bad (subject_of (get_or xs i d)) ≡ false → all_pass bad faulty (map subject_of (drop (i + 1) xs)) ≡ whole
  unfolding all_pass
  passes p =
      sym (let e : all_pass bad faulty (subject_of (get_or xs i d) ∷ map subject_of (drop (i + 1) xs))
      ≡ all_pass bad faulty (map subject_of (drop (i + 1) xs)) = rw p refl in sym front ∙ e)

pub all_passed : (bad : ranges.Subject → Bool) (faulty : ℕ →
    SourceFault) (xs : List Subject) (i : ℕ) (whole : PassOutcome) → length xs ≤ i →
    all_pass bad faulty (map subject_of (drop i xs)) ≡ whole → whole ≡ Ok tt
unfolding all_pass
all_passed bad faulty xs i whole le same =
    sym (let e : all_pass bad faulty (map subject_of (drop i xs))
    ≡ all_pass bad faulty (map subject_of []) = ap (λ l. all_pass bad faulty (map subject_of l)) (drop_all i xs le) in
    sym e ∙ same)
