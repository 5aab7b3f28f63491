use Rattle.std.proofs.Common.{◌-◌, ◌^◌, ◌≤◌, ◌∙◌, refl, sym, arith}
use Rattle.std.proofs.lemmas.Int.{ints}
use Rattle.fx_mixed.proofs.Complements.{sign_again, turned}
use Rattle.fx_mixed.proofs.word.signed.Goals as goal

pub returns-else-u-most : goal.returns-else-u-most
returns-else-u-most c =
    let big : 2 ^ (c.args.width - 1) ≤ c.args.u =
    omega (arith, ints, c.ends_at-most.ensures.greatest, c.if-u-most.false) in
    turned c.greatest.result c.args.u
    (2 ^ c.args.width - 1 - c.args.u) c.args.width c.requires.known c.greatest.ensures big c.requires.short refl
    ∙ sym (sign_again c.wrapped_law.ensures c.args.width c.args.u c.requires.known big c.requires.short)
