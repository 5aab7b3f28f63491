use Rattle.std.proofs.Common.{◌≡◌, ◌+◌, ◌-◌, take, drop, length, arith, sym, ap, ◌∙◌}
use Rattle.std.specs.Prelude.{position, Some, None}
use Rattle.std.proofs.lemmas.List.{take-append-drop, take_all, length-drop, length-take-le}
use Rattle.fx_base.proofs.Cutting.{is_feed, position-behind, nowhere-behind}
use Rattle.fx_base.proofs.cuts.line_end_from.Goals as goal

pub returns-in-Some : goal.returns-in-Some
returns-in-Some c =
    let bytes = c.args.bytes.now in
    let seen = c.args.seen in
    let end = c.in-Some.end in
    let part : take (length bytes - seen) (drop seen bytes) ≡ drop seen bytes =
    take_all (length bytes - seen) (drop seen bytes) (omega (arith, length-drop seen bytes)) in
    let found : position is_feed (drop seen bytes) ≡ Some end = ap (position is_feed) (sym part)
    ∙ sym c.line_end.ensures ∙ c.in-Some.is in
    ap Some (ap (λ n. n + end) (sym (length-take-le seen bytes c.requires.within)))
    ∙ sym (position-behind (take seen bytes) (drop seen bytes) end c.requires.before found)
    ∙ ap (position is_feed) (take-append-drop seen bytes)

pub returns-in-None : goal.returns-in-None
returns-in-None c =
    let bytes = c.args.bytes.now in
    let seen = c.args.seen in
    let part : take (length bytes - seen) (drop seen bytes) ≡ drop seen bytes =
    take_all (length bytes - seen) (drop seen bytes) (omega (arith, length-drop seen bytes)) in
    let none : position is_feed (drop seen bytes) ≡ None = ap (position is_feed) (sym part) ∙ sym c.line_end.ensures
    ∙ c.in-None.is in
    sym (nowhere-behind (take seen bytes) (drop seen bytes) c.requires.before none)
    ∙ ap (position is_feed) (take-append-drop seen bytes)
