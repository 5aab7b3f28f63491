use Rattle.std.proofs.Common.{◌∙◌, arith, refl, rules, subst, sym}
use Rattle.std.proofs.lemmas.Grind.{common_steps}
use Rattle.fx_base.specs.Shelf.{IsMissing}
use Rattle.fx_base.proofs.Parts.{front-more}
use Rattle.fx_base.proofs.Requested.{none_asked, asked_at, asked_last}
use Rattle.fx_base.proofs.whole.read_file.Goals as goal

pub reads-init : goal.reads-init
reads-init g c = record {
  within = grind (arith, common_steps, c.new-bytes.ensures.len);
  front = search rules;
  asked = none_asked _ _ _;
  same = refl;
  later = omega arith;
  missing = λ gone. refl;
}

pub reads-preserved : goal.reads-preserved
reads-preserved g c = record {
  within = grind (arith, common_steps, c.in_ok-part.ensures.bound, c.in_ok-extend_from_slice.ensures.len);
  front =
      front-more _ _ _ c.reads.bytes.items c.read_at.new.buf _ c.len.result c.in_ok-part.part c.reads.invariant.same
      (omega (arith, c.reads.bytes.ok.0)) c.reads.invariant.front c.in_ok-part.ensures.part c.in_ok-part.ensures.bound.0
      c.in_ok-extend_from_slice.ensures.items;
  asked =
      asked_at _ _ _ _ _ _ _ (omega (arith, c.reads.bytes.ok.0))
      (grind (
        arith,
        common_steps,
        c.if-part-eq0.false,
        c.in_ok-part.ensures.bound,
        c.in_ok-extend_from_slice.ensures.len,
      )) c.in_ok-part.ensures.request c.reads.invariant.asked;
  same = c.in_ok-part.ensures.same ∙ c.reads.invariant.same;
  later = omega (arith, c.in_ok-part.ensures.cause.later);
  missing =
      λ gone. c.in_ok-part.ensures.cause.missing
      (subst (λ papers. IsMissing papers c.args.name.now) (sym c.reads.invariant.same) gone)
      ∙ c.reads.invariant.missing gone;
}

pub returns-in_err-part-clause-asked : goal.returns-in_err-part-clause-asked
returns-in_err-part-clause-asked g c =
    asked_last _ _ _ _ _ _ (omega (arith, c.reads.bytes.ok.0)) c.in_err-part.ensures.request c.reads.invariant.asked

pub returns-then-part-eq0-clause-asked : goal.returns-then-part-eq0-clause-asked
returns-then-part-eq0-clause-asked g c =
    asked_last _ _ _ _ _ _ (omega (arith, c.reads.bytes.ok.0)) c.in_ok-part.ensures.request c.reads.invariant.asked

pub returns-then-part-limit-clause-asked : goal.returns-then-part-limit-clause-asked
returns-then-part-limit-clause-asked g c =
    asked_last _ _ _ _ _ _ (omega (arith, c.reads.bytes.ok.0)) c.in_ok-part.ensures.request c.reads.invariant.asked

pub returns-in_err-extend_from_slice-clause-asked : goal.returns-in_err-extend_from_slice-clause-asked
returns-in_err-extend_from_slice-clause-asked g c =
    asked_last _ _ _ _ _ _ (omega (arith, c.reads.bytes.ok.0)) c.in_ok-part.ensures.request c.reads.invariant.asked
