-- A body of which every part was read.
use Rattle.std.proofs.Common.{◌≡◌, ℕ, ◌-◌, List, length, Ok, Err, ◌⊎◌, inl, inr, refl}
use Rattle.fx_model.specs.Function as model
use Rattle.fx_lexer.specs.declared.fault.SourceFault.{SourceFault}
use Rattle.fx_lexer.specs.Faults.{source_memory}
use Rattle.fx_grammar.specs.Steps.{Parsed, Tokens, past_semicolon}
use Rattle.fx_grammar.specs.Ranges.{require_at}
use Rattle.fx_grammar.specs.Bodies.{Body, vals_at, Results, result_at, count_of}
use Rattle.fx_grammar.specs.Functions.{require_word_at, Front, body_of, ending_at, body_at}

-- the parts before the brace that closes a body were read
pub record AreBodyParts (end word : ℕ) (f : Front) (ts : Tokens) (i : List model.Input × Tokens) (b : Body × Tokens)
    (y : Results × Tokens) : Type 0 where
  pub rest : Tokens
  pub requires : require_word_at end f.subjects ts ≡ Ok rest
  pub inputs : require_at end f.subjects rest ≡ Ok i
  pub vals : vals_at end (body_of f) (past_semicolon i.1) ≡ Ok b
  pub results : result_at end word f.reals b.0 b.1 ≡ Ok y

module _ {end word : ℕ} {f : Front} {ts : Tokens} {i : List model.Input × Tokens} {b : Body × Tokens}
    {y : Results × Tokens} (inside : AreBodyParts end word f ts i b y) where
  -- the brace and the demands behind these parts
  abbrev pub its_ending : Parsed (List model.Demand)
  its_ending = ending_at end word (count_of b.0 (length y.0.trees) y.0.nodes) (f.reals - length f.declared.states) y.1

  -- the brace and the demands were read too
  pub body_is : (d : List model.Demand × Tokens) → its_ending ≡ Ok d →
      body_at end word f ts ≡ Ok (
        record {
          name = f.name;
          inputs = i.0;
          states = f.declared.states;
          temps = b.0.temps;
          results = y.0.trees;
          demands = d.0;
        },
        d.1,
      )
  unfolding body_at
  body_is d ending = rw (inside.requires, inside.inputs, inside.vals, inside.results, ending) refl

  -- they weren't
  pub body_wrong : (x : SourceFault) → (its_ending ≡ Err x) ⊎ (x ≡ source_memory) →
      (body_at end word f ts ≡ Err x) ⊎ (x ≡ source_memory)
  unfolding body_at
  body_wrong x (inr memory) = inr memory
  body_wrong x (inl ending) = inl (rw (inside.requires, inside.inputs, inside.vals, inside.results, ending) refl)
