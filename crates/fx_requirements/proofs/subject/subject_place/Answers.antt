use Rattle.std.proofs.Common.{◌≡◌, [], true, false, get_or, map, sym, ◌∙◌}
use borrow.Author.Count.{below_more}
use Rattle.std.specs.Prelude.{bytes_eq}
use Rattle.std.proofs.lemmas.List.{length-map}
use Rattle.fx_requirements.specs.Views.{subject_of}
use Rattle.fx_grammar.specs.Ranges.{names_of}
use Rattle.fx_requirements.proofs.Places.{is_here, is_nowhere, subject_name_at}
use Rattle.fx_requirements.proofs.subject.subject_place.Goals as goal

pub returns-then-eq-clause-value : goal.returns-then-eq-clause-value
returns-then-eq-clause-value c =
    is_here (names_of (map subject_of c.args.subjects.now)) c.args.text.now c.loop-i.i
    (simp length-map c.loop-i-test.true) c.loop-i.invariant
    (subject_name_at c.args.subjects.now c.loop-i.i _ c.args.text.now true c.loop-i-test.true (sym c.eq.ensures ∙ c.if-eq.true))

pub loop-i-preserved : goal.loop-i-preserved
loop-i-preserved c =
    below_more (λ k. bytes_eq (get_or (names_of (map subject_of c.args.subjects.now)) k []) c.args.text.now
    ≡ false) c.loop-i.i c.loop-i.invariant
    (subject_name_at c.args.subjects.now c.loop-i.i _ c.args.text.now false c.loop-i-test.true (sym c.eq.ensures
    ∙ c.if-eq.false))

pub returns-clause-value : goal.returns-clause-value
returns-clause-value c =
    is_nowhere (names_of (map subject_of c.args.subjects.now)) c.args.text.now c.loop-i.i
    (simp length-map c.loop-i-test.false) c.loop-i.invariant
