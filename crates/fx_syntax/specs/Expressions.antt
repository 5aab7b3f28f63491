-- Expressions: which trees the tokens from a place on spell, and the tokens behind them.
use Rattle.std.specs.Prelude.{◌≡◌, ℕ, suc, Bool, false, ◌&&◌, List, ◌++◌, Some, None}
use Rattle.fx_rational.specs.Decimal.{Decimal, decimal_value}
use Rattle.fx_rational.specs.Rational.{lowest}
use Rattle.fx_model.specs.Tree.{Tree, Literal, Input, State, Temp, Negation, Sum, Difference, Product, Quotient}
use Rattle.fx_lexer.specs.Tokens.{Lexeme}
use Rattle.fx_grammar.specs.declared.head.Head.TheVariants as heads
use Rattle.fx_grammar.specs.Heads.{◌==ₕ◌}
use Rattle.fx_grammar.specs.Steps.{Text, Tokens, negative_decimal, name_place, next_head, is_fresh}
use Rattle.fx_grammar.specs.Expressions.{is_call}
use Rattle.fx_syntax.specs.Leaves.{IsNext, IsMark, IsNumber}

-- the names that an expression may use
pub record Scope : Type 0 where
  pub inputs : List Text
  pub states : List Text
  pub temps : List Text

-- inputs, states and temps
abbrev pub all_names : Scope → List Text
all_names scope = scope.inputs ++ scope.states ++ scope.temps

-- what a name stands for: its place among the inputs, else among the states, else among the temps
pub data IsMeant (scope : Scope) (name : Text) : Tree → Type 0 where
  input : (k : ℕ) → name_place scope.inputs name ≡ Some k → IsMeant scope name (Input k)
  state : (k : ℕ) → name_place scope.inputs name ≡ None → name_place scope.states name ≡ Some k →
      IsMeant scope name (State k)
  temp : (k : ℕ) → name_place scope.inputs name ≡ None → name_place scope.states name ≡ None →
      name_place scope.temps name ≡ Some k → IsMeant scope name (Temp k)

-- a literal is its decimal in lowest terms
abbrev pub literal_tree : Decimal → Tree
literal_tree d = Literal (lowest (decimal_value d))

-- An expression outside all parentheses or inside one, in which so many more parentheses may be open at a time.
mutual
  -- expr = term { ( "+" | "-" ) term }; outside, a minus that begins its line doesn't go on
  pub data IsExpr (scope : Scope) : Bool → ℕ → Tokens → Tree → Tokens → Type 0 where
    one_term : {outside : Bool} {room : ℕ} {ts rest : Tokens} {x : Tree} → IsTerm scope room ts x rest →
        IsExpr scope outside room ts x rest
    sum : {outside : Bool} {room : ℕ} {ts us vs rest : Tokens} {x y : Tree}
        → IsExpr scope outside room ts x us → IsMark heads.Plus us vs → IsTerm scope room vs y rest →
        IsExpr scope outside room ts (Sum x y) rest
    difference : {outside : Bool} {room : ℕ} {ts us vs rest : Tokens} {x y : Tree}
        → IsExpr scope outside room ts x us → IsMark heads.Minus us vs → (outside && is_fresh us) ≡ false →
        IsTerm scope room vs y rest → IsExpr scope outside room ts (Difference x y) rest

  -- term = factor { ( "*" | "/" ) factor }
  pub data IsTerm (scope : Scope) : ℕ → Tokens → Tree → Tokens → Type 0 where
    one_factor : {room : ℕ} {ts rest : Tokens} {x : Tree} → IsFactor scope room ts x rest → IsTerm scope room ts x rest
    product : {room : ℕ} {ts us vs rest : Tokens} {x y : Tree}
        → IsTerm scope room ts x us → IsMark heads.Star us vs → IsFactor scope room vs y rest →
        IsTerm scope room ts (Product x y) rest
    quotient : {room : ℕ} {ts us vs rest : Tokens} {x y : Tree}
        → IsTerm scope room ts x us → IsMark heads.Slash us vs → IsFactor scope room vs y rest →
        IsTerm scope room ts (Quotient x y) rest

  -- factor = [ "-" ] atom; directly before a number the minus belongs to the literal
  pub data IsFactor (scope : Scope) : ℕ → Tokens → Tree → Tokens → Type 0 where
    one_atom : {room : ℕ} {ts rest : Tokens} {x : Tree} → IsAtom scope room ts x rest → IsFactor scope room ts x rest
    negative : {room : ℕ} {ts us rest : Tokens} {d : Decimal} → IsMark heads.Minus ts us → IsNumber us d rest →
        IsFactor scope room ts (literal_tree (negative_decimal d)) rest
    negation : {room : ℕ} {ts us rest : Tokens} {x : Tree}
        → IsMark heads.Minus ts us → (next_head us ==ₕ heads.Number) ≡ false → IsAtom scope room us x rest →
        IsFactor scope room ts (Negation x) rest

  -- atom = number | name | "(" expr ")"; a name with a parenthesis behind it on its line would be a call
  pub data IsAtom (scope : Scope) : ℕ → Tokens → Tree → Tokens → Type 0 where
    number : {room : ℕ} {ts rest : Tokens} {d : Decimal} → IsNumber ts d rest →
        IsAtom scope room ts (literal_tree d) rest
    name : {room : ℕ} {ts rest : Tokens} {used : Lexeme} {x : Tree} → IsNext heads.Name ts used rest →
        is_call rest ≡ false → IsMeant scope used.text x → IsAtom scope room ts x rest
    parens : {room : ℕ} {ts us vs rest : Tokens} {x : Tree}
        → IsMark heads.Open ts us → IsExpr scope false room us x vs → IsMark heads.Close vs rest →
        IsAtom scope (suc room) ts x rest
