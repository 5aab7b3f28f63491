-- Expressions, rule by rule.
use Rattle.std.specs.Prelude.{◌+◌, ◌-◌, ℕ, zero, suc, Bool, false, not, ◌&&◌, ◌||◌, List, [], ◌∷◌, drop, Option, Some, None, Ok, Err, nat_lt, if◌then◌else◌}
use Rattle.fx_lexer.specs.declared.fault.SourceKind.TheVariants as kinds
use Rattle.fx_lexer.specs.Tokens.{Lexeme}
use Rattle.fx_grammar.specs.declared.head.Head.{Head}
use Rattle.fx_grammar.specs.declared.head.Head.TheVariants as heads
use Rattle.fx_grammar.specs.Heads.{head_of, ◌==ₕ◌}
use Rattle.fx_model.specs.Tree.{Tree, Literal, Input, State, Temp}
use Rattle.fx_rational.specs.Rational.{lowest}
use Rattle.fx_rational.specs.Decimal.{Decimal, decimal_value}
use Rattle.fx_grammar.specs.Operands.{Operand, leaf, negation, combined_operand}
use Rattle.fx_model.specs.Steps.{◌>>=◌}
use Rattle.fx_grammar.specs.Steps.{when, Text, Tokens, Parsed, repeated, name_place, fault, next_head, is_fresh, wrong, want, decimal, negative_decimal}

-- the names of inputs, states and temps in a row, and where the text ends
pub record Known : Type 0 where
  pub names : List Text
  pub inputs : ℕ
  pub states : ℕ
  pub end : ℕ

-- a literal, the fraction in lowest terms
abbrev pub literal : Decimal → Operand
literal d = leaf (Literal (lowest (decimal_value d))) 1

-- what reads an operand from the tokens that are left
abbrev pub Reader : Type 0
Reader = Tokens → Parsed Operand

-- what the name at a place stands for
abbrev pub meant : Known → ℕ → Tree
meant known p = if nat_lt p known.inputs then Input p else (
    if nat_lt p (known.inputs + known.states) then State (p - known.inputs) else Temp (p - known.inputs - known.states))

-- a name with a parenthesis behind it on its line is a call
abbrev pub is_call : Tokens → Bool
is_call ts = (next_head ts ==ₕ heads.Open) && not (is_fresh ts)

-- a use of the name at this place, or the fault that nothing has the name
abbrev pub found_name : Known → Lexeme → Option ℕ → Reader
found_name known t None ts = Err (fault t.at kinds.UnknownName)
found_name known t (Some p) ts = Ok (leaf (meant known p) 0, ts)

-- a name, which is no call
abbrev pub named : Known → Lexeme → Reader
named known t ts =
    if is_call ts then Err (fault t.at kinds.Unsupported) else found_name known t (name_place known.names t.text) ts

-- the parenthesis that closes
unfoldable pub closed : Known → Operand → Reader
closed known x ts = do
  c ← want known.end heads.Close ts
  Ok (x, c.1)

-- behind an open parenthesis, where one more may be open
unfoldable pub opened : Known → Option Reader → Lexeme → Reader
opened known None t ts = Err (fault t.at kinds.TooDeep)
opened known (Some expr) t ts = do
  x ← expr ts
  closed known x.0 x.1

-- an atom that begins with t, by what t is
abbrev pub atom_by : Known → Option Reader → Lexeme → Tokens → Head → Parsed Operand
atom_by known inner t ts heads.Number = Ok (literal (decimal t.text), ts)
atom_by known inner t ts heads.Name = named known t ts
atom_by known inner t ts heads.Open = opened known inner t ts
atom_by known inner t ts _ = Err (wrong known.end (t ∷ ts))

-- atom = number | name | "(" expr ")"
unfoldable pub atom_of : Known → Option Reader → Reader
atom_of known inner [] = Err (fault known.end kinds.EndOfText)
atom_of known inner (t ∷ ts) = atom_by known inner t ts (head_of t)

-- behind a minus: a number makes a literal, another atom is negated
unfoldable pub behind_minus : Known → Option Reader → Reader
behind_minus known inner ts = when (next_head ts ==ₕ heads.Number)
    (λ _. want known.end heads.Number ts >>= λ t. Ok (literal (negative_decimal (decimal t.0.text)), t.1))
    (λ _. atom_of known inner ts >>= λ x. Ok (negation x.0, x.1))

-- factor = [ "-" ] atom
unfoldable pub factor_of : Known → Option Reader → Reader
factor_of known inner ts =
    when (next_head ts ==ₕ heads.Minus) (λ _. behind_minus known inner (drop 1 ts)) (λ _. atom_of known inner ts)

-- one more operand to the right of a tree; they group to the left
abbrev pub one_more : Reader → Operand → Reader
one_more operand left ts = operand (drop 1 ts) >>= λ x. Ok (combined_operand (next_head ts) left x.0, x.1)

-- a product or a quotient goes on
abbrev pub goes_on_product : Operand → Tokens → Bool
goes_on_product left ts = (next_head ts ==ₕ heads.Star) || (next_head ts ==ₕ heads.Slash)

-- outside parentheses a minus that begins its line doesn't go on
abbrev pub goes_on_sum : Bool → Operand → Tokens → Bool
goes_on_sum outside left ts =
    (next_head ts ==ₕ heads.Plus) || ((next_head ts ==ₕ heads.Minus) && not (outside && is_fresh ts))

-- term = factor { ( "*" | "/" ) factor }
unfoldable pub term_of : Known → Option Reader → Reader
term_of known inner ts = do
  x ← factor_of known inner ts
  repeated goes_on_product (one_more (factor_of known inner)) x.0 x.1

-- expr = term { ( "+" | "-" ) term }
unfoldable pub sum_from : Known → Bool → Option Reader → Reader
sum_from known outside inner ts = do
  x ← term_of known inner ts
  repeated (goes_on_sum outside) (one_more (term_of known inner)) x.0 x.1

-- so many parentheses may still be opened
unfoldable pub expr_at : Known → Bool → ℕ → Reader
expr_at known outside zero = sum_from known outside None
expr_at known outside (suc room) = sum_from known outside (Some (expr_at known false room))

-- what stands in a parenthesis
unfoldable pub inner_at : Known → ℕ → Option Reader
inner_at known zero = None
inner_at known (suc room) = Some (expr_at known false room)
