use Rattle.std.proofs.Common.{◌++◌, ap, ◌∙◌, append_assoc, arith, rules}
use Rattle.std.proofs.KnownBytes.{Consumes-trans}
use Rattle.std.proofs.lemmas.List.{length-append}
use Rattle.fx_base.proofs.Noting.{sought_once}
use Rattle.fx_base.proofs.fetch.fetch.Goals as goal

pub returns-in_err-count-clause-sought : goal.returns-in_err-count-clause-sought
returns-in_err-count-clause-sought g c =
    let i = c.reads.invariant in
    sought_once _ _ i.more.0 _ _ _ _ _ _ i.more.1 i.more.2 i.no_line c.read_more.ensures.moment i.sought

pub returns-then-taken-limit-clause-sought : goal.returns-then-taken-limit-clause-sought
returns-then-taken-limit-clause-sought g c =
    let i = c.reads.invariant in
    sought_once _ _ i.more.0 _ _ _ _ _ _ i.more.1 i.more.2 i.no_line c.read_more.ensures.moment i.sought

pub returns-then-count-eq0-clause-sought : goal.returns-then-count-eq0-clause-sought
returns-then-count-eq0-clause-sought g c =
    let i = c.reads.invariant in
    sought_once _ _ i.more.0 _ _ _ _ _ _ i.more.1 i.more.2 i.no_line c.read_more.ensures.moment i.sought

pub returns-in-Some-line_end_from-clause-sought : goal.returns-in-Some-line_end_from-clause-sought
returns-in-Some-line_end_from-clause-sought g c =
    let i = c.reads.invariant in
    sought_once _ _ i.more.0 _ _ _ _ _ _ i.more.1 i.more.2 i.no_line c.read_more.ensures.moment i.sought

pub reads-preserved : goal.reads-preserved
reads-preserved g c =
    let i = c.reads.invariant in let m = c.in_ok-count.ensures.more in record {
      more = (
        i.more.0 ++ m.0,
        Consumes-trans _ _ _ i.more.0 m.0 i.more.1 m.1,
        m.2 ∙ ap (λ t. t ++ m.0) i.more.2 ∙ append_assoc c.args.held.now i.more.0 m.0,
        omega (arith, c.saturating_add.ensures, length-append i.more.0 m.0, m.3, i.more.3, c.requires.limit),
      );
      no_line = search rules;
      within = search rules;
      room = search rules;
      sought = sought_once _ _ i.more.0 _ _ _ _ _ _ i.more.1 i.more.2 i.no_line c.read_more.ensures.moment i.sought;
      later = search rules;
    }
