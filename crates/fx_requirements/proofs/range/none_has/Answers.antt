use Rattle.std.proofs.Common.{map, inl, sym, ◌∙◌}
use Rattle.fx_grammar.specs.Steps.{fault}
use Rattle.fx_grammar.specs.Ranges.{all_pass}
use Rattle.fx_requirements.specs.Views.{subject_of}
use Rattle.fx_requirements.specs.Flaws.{has, kind_of}
use Rattle.fx_requirements.proofs.Passes.{stops, passes, all_passed}
use Rattle.fx_requirements.proofs.range.none_has.Goals as goal

pub returns-then-is_in : goal.returns-then-is_in
returns-then-is_in c =
    rw (c.at.ensures, c.kind.ensures)
    (inl (stops (has c.args.flaw)
    (λ at. fault at (kind_of c.args.flaw)) c.args.subjects.now c.loop-subject.subject-index _
    (all_pass (has c.args.flaw) (λ at. fault at (kind_of c.args.flaw))
    (map subject_of c.args.subjects.now)) c.loop-subject-test.true c.loop-subject.invariant (sym c.is_in.ensures
    ∙ c.if-is_in.true)))

pub loop-subject-preserved : goal.loop-subject-preserved
loop-subject-preserved c =
    passes (has c.args.flaw) (λ at. fault at (kind_of c.args.flaw)) c.args.subjects.now c.loop-subject.subject-index _
    (all_pass (has c.args.flaw) (λ at. fault at (kind_of c.args.flaw))
    (map subject_of c.args.subjects.now)) c.loop-subject-test.true c.loop-subject.invariant (sym c.is_in.ensures
    ∙ c.if-is_in.false)

pub returns : goal.returns
returns c =
    all_passed (has c.args.flaw) (λ at. fault at (kind_of c.args.flaw)) c.args.subjects.now c.loop-subject.subject-index
    (all_pass (has c.args.flaw) (λ at. fault at (kind_of c.args.flaw))
    (map subject_of c.args.subjects.now)) c.loop-subject-test.false c.loop-subject.invariant
