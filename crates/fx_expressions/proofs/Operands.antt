-- One more operand of a loop.
use Rattle.std.proofs.Common.{◌≡◌, ◌<◌, Bool, true, false, drop, length, Ok, Err, ◌⊎◌, inl, inr, refl, subst, sym}
use Rattle.fx_lexer.specs.declared.fault.SourceFault.{SourceFault}
use Rattle.fx_lexer.specs.Faults.{source_memory}
use Rattle.fx_grammar.specs.Operands.{Operand, combined_operand}
use Rattle.fx_grammar.specs.Expressions.{Reader, one_more}
use Rattle.fx_grammar.specs.Steps.{Parsed, Tokens, next_head}
use Rattle.fx_cursor.proofs.Turns.{IsOn, fails, goes_further, is_over}

operand_read : (operand : Reader) (left : Operand) (ts : Tokens) (x : Operand × Tokens) →
    operand (drop 1 ts) ≡ Ok x → one_more operand left ts ≡ Ok (combined_operand (next_head ts) left x.0, x.1)
operand_read operand left ts x e = rw e refl

operand_fails : (operand : Reader) (left : Operand) (ts : Tokens) (f : SourceFault) →
    (operand (drop 1 ts) ≡ Err f) ⊎ f ≡ source_memory → (one_more operand left ts ≡ Err f) ⊎ f ≡ source_memory
operand_fails operand left ts f (inl e) = inl (rw e refl)
operand_fails operand left ts f (inr m) = inr m

module _ (operand : Reader) {goes_on : Operand → Tokens → Bool} {left : Operand} {ts : Tokens}
    {whole : Parsed Operand} (on : IsOn goes_on (one_more operand) left ts whole) where
  -- where the next operand can't be read the whole can't
  pub breaks : {f : SourceFault} → goes_on left ts ≡ true → (operand (drop 1 ts) ≡ Err f) ⊎ f ≡ source_memory →
      (whole ≡ Err f) ⊎ f ≡ source_memory
  breaks {f} more refused =
      fails goes_on (one_more operand) left ts whole f more (operand_fails operand left ts f refused) on

  -- the next operand is combined with those before it
  pub combines : {made right : Operand} {behind : Tokens} → goes_on left ts ≡ true →
      operand (drop 1 ts) ≡ Ok (right, behind) → length behind < length ts →
      made ≡ combined_operand (next_head ts) left right → IsOn goes_on (one_more operand) made behind whole
  combines {made} {right} {behind} more read shorter is =
      subst (λ m. IsOn goes_on (one_more operand) m behind whole) (sym is)
      (goes_further goes_on (one_more operand) left ts whole (combined_operand (next_head ts) left right, behind) more
      (operand_read operand left ts (right, behind) read) shorter on)

  -- where no operand follows the whole is what was read
  pub ends : goes_on left ts ≡ false → whole ≡ Ok (left, ts)
  ends none = is_over goes_on (one_more operand) left ts whole none on
