-- What stands in a parenthesis, by how many may still be opened.
use Rattle.std.proofs.Common.{◌≡◌, ℕ, zero, suc, ◌-◌, ◌<◌, false, Err, refl, ap, arith}
use Rattle.fx_lexer.specs.declared.fault.SourceKind.TheVariants.{TooDeep}
use Rattle.fx_lexer.specs.Tokens.{Lexeme}
use Rattle.fx_model.specs.Steps.{◌>>=◌}
use Rattle.fx_grammar.specs.Steps.{Tokens, fault}
use Rattle.fx_grammar.specs.Expressions.{Known, Reader, closed, opened, sum_from, inner_at}
use Rattle.fx_grammar.proofs.Expressions.{expr_is}

pub opened_zero : (known : Known) (room : ℕ) (t : Lexeme) (ts : Tokens) → room ≡ 0 →
    opened known (inner_at known room) t ts ≡ Err (fault t.at TooDeep)
unfolding opened inner_at
opened_zero known zero t ts e = refl
opened_zero known (suc room) t ts e = absurd (omega arith)

pub opened_more : (known : Known) (room : ℕ) (t : Lexeme) (ts : Tokens) → 0 < room →
    opened known (inner_at known room) t ts
    ≡ (sum_from known false (inner_at known (room - 1)) ts >>= λ x. closed known x.0 x.1)
unfolding opened inner_at
opened_more known zero t ts lt = absurd (omega arith)
opened_more known (suc room) t ts lt =
    let e : suc room - 1 ≡ room = omega arith in
    rw e (ap (λ (read : Reader). read ts >>= λ x. closed known x.0 x.1) (expr_is known false room))
