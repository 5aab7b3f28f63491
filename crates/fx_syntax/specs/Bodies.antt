-- The body of a function: its temps and its results.
use Rattle.std.specs.Prelude.{◌≡◌, ℕ, ◌<◌, ◌≤◌, true, false, not, ◌&&◌, List, [], ◌∷◌, ◌++◌, length, map}
use Rattle.fx_model.specs.Limits.{temp_limit, height_limit}
use Rattle.fx_model.specs.Tree.{Tree}
use Rattle.fx_model.specs.Function.{Temp}
use Rattle.fx_expr.specs.LawfulFunction.{IsLow}
use Rattle.fx_lexer.specs.Tokens.{Lexeme}
use Rattle.fx_grammar.specs.declared.head.Head.TheVariants as heads
use Rattle.fx_grammar.specs.Heads.{◌==ₕ◌}
use Rattle.fx_grammar.specs.Steps.{Tokens, next_head, is_fresh, has_name}
use Rattle.fx_syntax.specs.Leaves.{IsNext, IsMark, IsReal, IsMaybeSemicolon}
use Rattle.fx_syntax.specs.Runs.{IsListed}
use Rattle.fx_syntax.specs.Expressions.{Scope, all_names, IsExpr}

-- where these temps are defined, besides inputs and states
abbrev pub with_temps : Scope → List Temp → Scope
with_temps scope temps = record scope { temps = map (λ t. t.name) temps }

-- An expression outside parentheses, not too high. A minus behind it would go on with it, unless it begins its line.
pub record IsWholeExpr (scope : Scope) (ts : Tokens) (x : Tree) (rest : Tokens) : Type 0 where
  pub expression : IsExpr scope true height_limit ts x rest
  pub low : IsLow x
  pub ends : ((next_head rest ==ₕ heads.Minus) && not (is_fresh rest)) ≡ false

-- [ ":" "Real" ]
pub data IsMaybeTyped : Tokens → Tokens → Type 0 where
  left_out : {ts : Tokens} → IsMaybeTyped ts ts
  written : {ts us rest : Tokens} → IsMark heads.Colon ts us → IsReal us rest → IsMaybeTyped ts rest

-- val = "val" name [ ":" "Real" ] "=" expr [ ";" ], behind the word; the temp isn't seen in its own expression
pub record IsVal (scope : Scope) (before : List Temp) (ts : Tokens) (after : List Temp) (rest : Tokens) : Type 0 where
  pub name : Lexeme
  pub tree : Tree
  pub types : Tokens
  pub signs : Tokens
  pub expressions : Tokens
  pub ends : Tokens
  pub name_next : IsNext heads.Name ts name types
  pub typed : IsMaybeTyped types signs
  pub equals : IsMark heads.Equals signs expressions
  pub tree_is : IsWholeExpr (with_temps scope before) expressions tree ends
  pub semicolon : IsMaybeSemicolon ends rest
  pub few : length before < temp_limit
  pub fresh : has_name (all_names (with_temps scope before)) name.text ≡ false
  pub value : after ≡ before ++ record { name = name.text; tree = tree } ∷ []

-- one more result of a tuple
pub record IsElement (scope : Scope) (before : List Tree) (ts : Tokens) (after : List Tree)
    (rest : Tokens) : Type 0 where
  pub tree : Tree
  pub expression : IsExpr scope false height_limit ts tree rest
  pub low : IsLow tree
  pub value : after ≡ before ++ tree ∷ []

-- result = expr | "(" expr "," expr { "," expr } ")": an expression for one Real, a tuple for several
pub data IsResult (scope : Scope) (reals : ℕ) : Tokens → List Tree → Tokens → Type 0 where
  single : {ts rest : Tokens} {x : Tree} → reals ≡ 1 → IsWholeExpr scope ts x rest →
      IsResult scope reals ts (x ∷ []) rest
  tuple : {ts us rest : Tokens} {xs : List Tree}
      → 2 ≤ reals → IsMark heads.Open ts us → IsListed (IsElement scope) [] us xs rest → length xs ≡ reals →
      IsResult scope reals ts xs rest
