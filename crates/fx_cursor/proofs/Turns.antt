-- Steps one after the other, as a loop takes them.
use Rattle.std.proofs.Common.{◌≡◌, ℕ, zero, suc, ◌<◌, Bool, true, false, List, length, Ok, Err, ◌⊎◌, inl, inr, refl, sym, ◌∙◌, arith}
use Rattle.fx_lexer.specs.declared.fault.SourceFault.{SourceFault}
use Rattle.fx_lexer.specs.Faults.{source_memory}
use Rattle.std.proofs.lemmas.List.{length-map}
use Rattle.fx_lexer.specs.declared.token.Token.{Token}
use Rattle.fx_cursor.specs.Views.{lexemes}
use Rattle.fx_grammar.specs.Steps.{Tokens, Parsed, repeat, repeated}

-- The loop has this value and these tokens, and what the steps make of them is the whole.
pub record IsOn {S : Type 0} (goes_on : S → Tokens → Bool) (step : S → Tokens →
    Parsed S) (s : S) (ts : Tokens) (whole : Parsed S) : Type 0 where
  pub turns : ℕ
  pub enough : length ts < turns
  pub same : repeat goes_on step turns s ts ≡ whole

pub starts : {S : Type 0} (goes_on : S → Tokens → Bool) (step : S → Tokens → Parsed S) (s : S) (ts : Tokens) →
    IsOn goes_on step s ts (repeated goes_on step s ts)
starts goes_on step s ts = record { turns = suc (length ts); enough = omega arith; same = refl }

module _ {S : Type 0} (goes_on : S → Tokens → Bool) (step : S → Tokens →
    Parsed S) (s : S) (ts : Tokens) (whole : Parsed S) where
  pub goes_further : (x : S × Tokens) → goes_on s ts ≡ true → step s ts ≡ Ok x → length x.1 < length ts →
      IsOn goes_on step s ts whole → IsOn goes_on step x.0 x.1 whole
  unfolding repeat
  goes_further x on taken shorter h = go h.turns h.enough h.same
    where
      go : (turns : ℕ) → length ts < turns → repeat goes_on step turns s ts ≡ whole → IsOn goes_on step x.0 x.1 whole
      go zero enough same = absurd (omega arith)
      go (suc turns) enough same = record {
        turns = turns;
        enough = omega arith;
        same =
            sym (let e : repeat goes_on step (suc turns) s ts ≡ repeat goes_on step turns x.0 x.1 = rw (
              on,
              taken,
            ) refl in sym same ∙ e);
      }

  pub fails : (e : SourceFault) → goes_on s ts ≡ true → (step s ts ≡ Err e) ⊎ e ≡ source_memory →
      IsOn goes_on step s ts whole → (whole ≡ Err e) ⊎ e ≡ source_memory
  unfolding repeat
  fails e on (inr m) h = inr m
  fails e on (inl taken) h = inl (go h.turns h.enough h.same)
    where
      go : (turns : ℕ) → length ts < turns → repeat goes_on step turns s ts ≡ whole → whole ≡ Err e
      go zero enough same = absurd (omega arith)
      go (suc turns) enough same = sym same ∙ rw (on, taken) refl

  pub is_over : goes_on s ts ≡ false → IsOn goes_on step s ts whole → whole ≡ Ok (s, ts)
  unfolding repeat
  is_over off h = go h.turns h.enough h.same
    where
      go : (turns : ℕ) → length ts < turns → repeat goes_on step turns s ts ≡ whole → whole ≡ Ok (s, ts)
      go zero enough same = absurd (omega arith)
      go (suc turns) enough same = sym same ∙ rw off refl

-- fewer tokens are fewer lexemes
pub lengths : (ts us : List Token) → length ts < length us → length (lexemes ts) < length (lexemes us)
lengths ts us lt = simp length-map lt
