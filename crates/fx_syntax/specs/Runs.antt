-- Items one behind the other: each may depend on what those before it gave.
use Rattle.fx_grammar.specs.declared.head.Head.{Head}
use Rattle.fx_grammar.specs.declared.head.Head.TheVariants as heads
use Rattle.fx_grammar.specs.Steps.{Tokens}
use Rattle.fx_syntax.specs.Leaves.{IsMark}

-- an item takes what was given before it, and the tokens from a place on, to what is given with it, and those behind
abbrev pub GrammarRule : Type 0 → Type 1
GrammarRule A = A → Tokens → A → Tokens → Type 0

-- { item }
pub data IsRun {A : Type 0} (Item : GrammarRule A) : A → Tokens → A → Tokens → Type 0 where
  over : {a : A} {ts : Tokens} → IsRun Item a ts a ts
  more : {a b c : A} {ts us rest : Tokens} → Item a ts b us → IsRun Item b us c rest → IsRun Item a ts c rest

-- sign item
pub record IsBehind {A : Type 0} (head : Head) (Item : GrammarRule A) (a : A) (ts : Tokens) (b : A)
    (rest : Tokens) : Type 0 where
  pub behind : Tokens
  pub sign : IsMark head ts behind
  pub item : Item a behind b rest

-- item { sign item }
pub record IsSeparated {A : Type 0} (head : Head) (Item : GrammarRule A) (a : A) (ts : Tokens) (c : A)
    (rest : Tokens) : Type 0 where
  pub between : A
  pub behind : Tokens
  pub first : Item a ts between behind
  pub others : IsRun (IsBehind head Item) between behind c rest

-- item { "," item } ")"
pub record IsListed {A : Type 0} (Item : GrammarRule A) (a : A) (ts : Tokens) (c : A) (rest : Tokens) : Type 0 where
  pub behind : Tokens
  pub items : IsSeparated heads.Comma Item a ts c behind
  pub close : IsMark heads.Close behind rest
