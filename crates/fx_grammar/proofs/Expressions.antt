-- An expression with so much room.
use Rattle.std.proofs.Common.{◌≡◌, ℕ, zero, suc, Bool, refl}
use Rattle.fx_grammar.specs.Expressions.{Known, expr_at, inner_at, sum_from}

pub expr_is : (known : Known) (outside : Bool) (room : ℕ) →
    expr_at known outside room ≡ sum_from known outside (inner_at known room)
unfolding expr_at inner_at
expr_is known outside zero = refl
expr_is known outside (suc room) = refl
