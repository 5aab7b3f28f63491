use Rattle.std.proofs.Common.{◌≡◌, ◌∙◌, ap, ◌∷◌, ◌++◌, to_z, of_z}
use Rattle.std.specs.Int.{w32}
use Rattle.std.specs.Fmt.{decimal, signed_decimal}
use Rattle.std.proofs.lemmas.Int.{to_z-of_z}
use Rattle.fx_bundle_commands.specs.commands.Show.{value_text}
use Rattle.fx_bundle_commands.proofs.Shown.{line_written}
use Rattle.fx_bundle_commands.proofs.table.put_line.Goals as goal

pub returns : goal.returns
returns c =
    let line = c.args.line.now in let old = c.args.out.now.items in
    let point : to_z w32 (of_z w32 c.args.point) ≡ c.args.point = to_z-of_z w32 c.args.point c.ranges.point in
    let front = c.in_ok-put_front.ensures
    ∙ ap (λ f. ((old ++ decimal c.args.number) ++ 32 ∷ c.args.name.now) ++ 32 ∷ signed_decimal f) point in
    line_written old c.put_front.new.out.items c.put_ends.new.out.items c.put_ends-2.new.out.items
    c.end_line.new.out.items (decimal c.args.number) c.args.name.now (signed_decimal c.args.point)
    (value_text line.range.lo) (value_text line.range.hi) (value_text line.error.lo) (value_text line.error.hi)
    front c.in_ok-put_ends.ensures c.in_ok-put_ends-2.ensures c.in_ok-end_line.ensures
