use Rattle.std.specs.Prelude.{All}
use Rattle.fx_calm.specs.SumOf.{IsNarrowSummand}
use Rattle.fx_calm.proofs.Counted.{narrow_both}
use Rattle.fx_calm.proofs.terms.+put_terms.Goals as goal

pub returns-in_ok-put_terms-in-Add-clause-narrow : goal.returns-in_ok-put_terms-in-Add-clause-narrow
returns-in_ok-put_terms-in-Add-clause-narrow t c =
    narrow_both (All IsNarrowSummand c.args.summands.now.items)
    (All IsNarrowSummand c.put_terms-in-Add.new.summands.items)
    (All IsNarrowSummand c.put_terms-in-Add-2.new.summands.items) c.put_terms-in-Add-2.result
    c.in_ok-put_terms-in-Add.ensures.narrow c.put_terms-in-Add-2.ensures.narrow

pub returns-in_ok-put_terms-in-Sub-clause-narrow : goal.returns-in_ok-put_terms-in-Sub-clause-narrow
returns-in_ok-put_terms-in-Sub-clause-narrow t c =
    narrow_both (All IsNarrowSummand c.args.summands.now.items)
    (All IsNarrowSummand c.put_terms-in-Sub.new.summands.items)
    (All IsNarrowSummand c.put_terms-in-Sub-2.new.summands.items) c.put_terms-in-Sub-2.result
    c.in_ok-put_terms-in-Sub.ensures.narrow c.put_terms-in-Sub-2.ensures.narrow
