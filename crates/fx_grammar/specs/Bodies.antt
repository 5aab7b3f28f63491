-- The body of a function: its temps and its results.
use Rattle.std.specs.Prelude.{◌==◌, ◌+◌, ℕ, true, false, not, ◌&&◌, List, [], ◌∷◌, ◌++◌, length, drop, Result, Ok, Err, nat_lt, if◌then◌else◌}
use Rattle.fx_lexer.specs.declared.fault.SourceFault.{SourceFault}
use Rattle.fx_lexer.specs.declared.fault.SourceKind.TheVariants as kinds
use Rattle.fx_grammar.specs.declared.head.Head.TheVariants as heads
use Rattle.fx_grammar.specs.Heads.{◌==ₕ◌}
use Rattle.fx_model.specs.Limits.{temp_limit, node_limit, height_limit}
use Rattle.fx_model.specs.Tree.{Tree}
use Rattle.fx_model.specs.Function.{Temp}
use Rattle.fx_model.specs.Steps.{◌>>=◌}
use Rattle.fx_grammar.specs.Steps.{Text, Tokens, Parsed, fault, next_head, next_place, wrong, want, real_at, past_semicolon, repeated, stands_next, behind, listed, free_at}
use Rattle.fx_grammar.specs.Operands.{Operand, is_high, tree_or, counted_nodes}
use Rattle.fx_grammar.specs.Expressions.{Known, expr_at}

-- what is known behind the require, and what the vals add
pub record Body : Type 0 where
  pub names : List Text
  pub inputs : ℕ
  pub states : ℕ
  pub temps : List Temp
  pub nodes : ℕ

-- what an expression of this body may use
abbrev pub known_of : ℕ → Body → Known
known_of end b = record { names = b.names; inputs = b.inputs; states = b.states; end = end }

-- the fault of a tree that is too high, found at the token behind it
abbrev pub too_high : ℕ → ℕ → Tokens → SourceFault
too_high end first ts = if next_head ts ==ₕ heads.Unsupported then wrong end ts else fault first kinds.TooDeep

-- a whole expression, that isn't too high
unfoldable pub whole_at : ℕ → Body → Tokens → Parsed Operand
whole_at end b ts = expr_at (known_of end b) true height_limit ts >>= λ x.
    if is_high x.0 then Err (too_high end (next_place end ts) x.1) else Ok x

-- [ ":" "Real" ]
unfoldable pub typed_at : ℕ → Tokens → Result Tokens SourceFault
typed_at end ts = if next_head ts ==ₕ heads.Colon then (real_at end (drop 1 ts) >>= λ r. Ok r.1) else Ok ts

-- the body with one more temp of this name, for the vals behind it
abbrev pub with_temp : Body → Text → Operand → Body
with_temp b name x = record b {
  names = b.names ++ name ∷ [];
  temps = b.temps ++ record { name = name; tree = tree_or x.tree } ∷ [];
  nodes = counted_nodes (b.nodes + x.nodes);
}

-- val = "val" name [ ":" "Real" ] "=" expr [ ";" ], behind the word
unfoldable pub val_at : ℕ → Body → Tokens → Parsed Body
val_at end b ts = do
  t ← want end heads.Name ts
  _ ← free_at temp_limit (length b.temps) b.names t.0
  c ← typed_at end t.1
  e ← want end heads.Equals c
  x ← whole_at end b e.1
  Ok (with_temp b t.0.text x.0, past_semicolon x.1)

-- { val }
unfoldable pub vals_at : ℕ → Body → Tokens → Parsed Body
vals_at end b ts = repeated (stands_next heads.Val) (behind (val_at end)) b ts

-- the results, and the nodes with them
pub record Results : Type 0 where
  pub trees : List Tree
  pub nodes : ℕ

-- the nodes of a function with this body, this result and so many more nodes
abbrev pub count_of : Body → ℕ → ℕ → ℕ
count_of b results nodes = b.inputs + b.states + results + nodes

-- the fault of one result that is too high: it loses to too many nodes, where the function ends right behind it
abbrev pub single_high : ℕ → ℕ → ℕ → Body → ℕ → Tokens → SourceFault
single_high end word first b nodes ts = if (next_head ts ==ₕ heads.CloseBrace) &&
    (not (next_head (drop 1 ts) ==ₕ heads.Ensuring) &&
    nat_lt node_limit (count_of b 1 (counted_nodes (b.nodes + nodes))))
    then fault word kinds.TooMany
    else too_high end first ts

-- the one result of a type of one Real
unfoldable pub single_at : ℕ → ℕ → Body → Tokens → Parsed Results
single_at end word b ts = expr_at (known_of end b) true height_limit ts >>= λ x.
    if is_high x.0
    then Err (single_high end word (next_place end ts) b x.0.nodes x.1)
    else Ok (record { trees = tree_or x.0.tree ∷ []; nodes = counted_nodes (b.nodes + x.0.nodes) }, x.1)

-- one more result of a tuple that began at first and wants so many
unfoldable pub element_at : ℕ → ℕ → ℕ → Body → Results → Tokens → Parsed Results
element_at end first reals b r ts = expr_at (known_of end b) false height_limit ts >>= λ x.
    if is_high x.0
    then Err (if (next_head x.1 ==ₕ heads.Close) && not (length r.trees + 1 == reals) then fault first kinds.WrongArity
    else too_high end (next_place end ts) x.1)
    else Ok (record { trees = r.trees ++ tree_or x.0.tree ∷ []; nodes = counted_nodes (r.nodes + x.0.nodes) }, x.1)

-- "(" expr { "," expr } ")", as many as the type has Real
unfoldable pub tuple_at : ℕ → ℕ → Body → Tokens → Parsed Results
tuple_at end reals b ts = do
  o ← want end heads.Open ts
  r ← listed (element_at end o.0.at reals b) end (record { trees = []; nodes = b.nodes }) o.1
  if length r.0.trees == reals then Ok r else Err (fault o.0.at kinds.WrongArity)

-- result = expr | "(" expr "," expr { "," expr } ")", as the type asks
unfoldable pub result_at : ℕ → ℕ → ℕ → Body → Tokens → Parsed Results
result_at end word reals b ts = if nat_lt reals 2 then single_at end word b ts else tuple_at end reals b ts
