use Rattle.std.proofs.Common.{◌≡◌, ◌+◌, ◌++◌, [], length, drop, take, arith, refl, sym, ap, ◌∙◌, append-nil}
use Rattle.std.proofs.lemmas.Bool.Decides.{nat_tests}
use Rattle.fx_run.specs.Blocks.{first_rows}
use Rattle.fx_run.proofs.Blocks.{put_back, row_held, rows_are}
use Rattle.fx_run.proofs.held.HeldStepRowStep.put_row.Goals as goal

pub returns-then-self-lt15-clause-put : goal.returns-then-self-lt15-clause-put
returns-then-self-lt15-clause-put g c =
    let s = c.args.self.now in let p = s.certified.now.program in let n = p.inputs in let xs = s.rows.items in
    let ys = c.put_behind.new.rows in
    let stood : take s.rows.len (ys ++ drop (length ys) xs) ≡ ys =
    put_back s.rows.len xs ys (c.put_behind.ensures.same
    ∙ ap length c.deref_mut.ensures.value) (omega (arith, s.rows.ok.0)) in
    let same =
    rows_are n (length c.args.row.now) s.held (s.held + 1) xs c.deref_mut.result.now ys
    (take s.rows.len (ys ++ drop (length ys) xs)) c.args.row.now
    c.row_counts.ensures.value c.deref_mut.ensures.value stood refl c.put_behind.ensures.rows in (
      [],
      sym (append-nil c.args.page.now),
      row_held p (first_rows n s.held xs)
          (first_rows n (s.held + 1) (take s.rows.len (ys ++ drop (length ys) xs))) c.args.row.now same,
    )

pub returns-else-self-lt15-clause-put : goal.returns-else-self-lt15-clause-put
returns-else-self-lt15-clause-put g c =
    let s = c.args.self.now in let p = s.certified.now.program in let n = p.inputs in let xs = s.rows.items in
    let ys = c.put_behind.new.rows in
    let stood : take s.rows.len (ys ++ drop (length ys) xs) ≡ ys =
    put_back s.rows.len xs ys (c.put_behind.ensures.same
    ∙ ap length c.deref_mut.ensures.value) (omega (arith, s.rows.ok.0)) in
    let full : 16 ≡ s.held + 1 = grind (arith, nat_tests, c.if-self-lt15.false, c.requires.can.holds.few) in
    let same =
    rows_are n (length c.args.row.now) s.held 16 xs c.deref_mut.result.now ys c.deref.result.now c.args.row.now
    c.row_counts.ensures.value c.deref_mut.ensures.value (c.deref.ensures.value
    ∙ stood) full c.put_behind.ensures.rows in
    let put = c.put_side_by_side.ensures.put in (
      put.0,
      put.1,
      λ rest. row_held p (first_rows n s.held xs)
          (first_rows n 16 c.deref.result.now) c.args.row.now same rest ∙ put.2 rest,
    )
