use Rattle.std.proofs.Common.{◌+◌, ◌-◌, ◌^◌, ◌++◌, length, min, refl, sym, ap, subst, ◌∙◌}
use Rattle.fx_base.specs.Fetches.{HasFound}
use Rattle.fx_base.specs.LineSteps.{LinesState}
use Rattle.fx_base.specs.Moments.{HoldsEachTime, IsSought}
use Rattle.fx_base.proofs.Noting.{sought_behind}
use Rattle.fx_base.proofs.Answering.{HasMore, taken-cut}
use Rattle.fx_base.proofs.lines.Lines.next_line.Given.{Over}
use Rattle.fx_base.proofs.lines.Lines.next_line.Goals.{After-fetch}
use Rattle.fx_base.proofs.lines.Lines.next_line.Goals as goal

-- what was fetched behind what was held
fetched : (g : Over) (c : After-fetch g) →
    HasMore c.args.self.now (g.S.Source.seen c.args.source.now).left (g.S.Source.seen c.fetch.new.source).left
    c.self.inside.number c.fetch.new.taken c.fetch.new.held c.fetch.ensures.more.0
fetched g c =
    let m = c.fetch.ensures.more in
    record {
      took = m.1;
      whole = m.2 ∙ ap (λ t. t ++ m.0) (c.drop_front.ensures ∙ ap (λ (r : LinesState). r.held) c.self.view_is);
      sum = m.3 ∙ ap (λ (r : LinesState). min (r.taken + length m.0) (2 ^ 64 - 1)) c.self.view_is;
      few = c.fetch.ensures.few;
      count = ap (λ (r : LinesState). r.number) c.self.view_is;
    }

pub first_cut-requires : goal.first_cut-requires
first_cut-requires g c =
    subst (λ b. HasFound b c.in_ok-fetched.fetched) (sym c.bytes-bytes.ensures.all) c.in_ok-fetched.ensures.fetched.0

pub returns-clause-taken : goal.returns-clause-taken
returns-clause-taken g c =
    taken-cut _ (fetched g (goal.at.returns-clause-taken g c).After-fetch) refl refl
    (rw c.bytes-bytes.ensures.all at c.in-Some.ensures.cut)
    (record { line = refl; held = refl; ready = refl; ended = refl })

-- the source was asked behind what was held
sought : (g : Over) (c : After-fetch g) →
    HoldsEachTime
    (IsSought c.args.self.now.held (g.S.Source.seen c.args.source.now).left (g.K.Sink.seen c.args.shown.now).taken)
    (g.S.Source.seen c.args.source.now).asked (g.S.Source.seen c.fetch.new.source).asked
sought g c =
    sought_behind _ _ _ _ _ _ (c.drop_front.ensures ∙ ap (λ (r : LinesState). r.held) c.self.view_is)
    c.fetch.ensures.sought

pub returns-in_err-fetched-clause-sought : goal.returns-in_err-fetched-clause-sought
returns-in_err-fetched-clause-sought g c = sought g (goal.at.returns-in_err-fetched-clause-sought g c).After-fetch

pub returns-in_default-clause-sought : goal.returns-in_default-clause-sought
returns-in_default-clause-sought g c = sought g (goal.at.returns-in_default-clause-sought g c).After-fetch

pub returns-clause-sought : goal.returns-clause-sought
returns-clause-sought g c = sought g (goal.at.returns-clause-sought g c).After-fetch
