-- Worked examples: texts that are sources, with their functions, and texts that are none. A wrong line here is refused.
use Rattle.std.specs.Prelude.{◌≡◌, pos, negsuc, List, [], ◌∷◌, Some, None, Result, Ok, Err, codes, refl, ◌++◌}
use Rattle.std.proofs.Common.{sym, ◌∙◌}
use Rattle.fx_rational.specs.Gcd.{gcd}
use Rattle.fx_rational.specs.Rational.{Rational, over, whole, is_at_most, lowest}
use Rattle.fx_rational.specs.Decimal.{decimal_value}
use Rattle.fx_fraction.specs.Numeral.{numeral_of}
use Rattle.fx_fraction.specs.DecimalOf.{trimmed, decimal_of}
use Rattle.fx_model.specs.Tree.{Tree, Literal, Input, State, Temp, Negation, Sum, Difference, Product, Quotient}
use Rattle.fx_model.specs.Function as function
use Rattle.fx_model.specs.Function.{Function, free}
use Rattle.fx_lexer.specs.declared.fault.SourceFault.{SourceFault}
use Rattle.fx_lexer.specs.declared.fault.SourceKind.TheVariants as kinds
use Rattle.fx_lexer.specs.Numbers.{digits_at, part_len, mark_len, power_len, number_len}
use Rattle.fx_lexer.specs.Comments.{comment_end}
use Rattle.fx_lexer.specs.declared.token.TokenKind.{TokenKind}
use Rattle.fx_lexer.specs.declared.token.TokenKind.TheVariants as token_kinds
use Rattle.fx_lexer.specs.Tokens.{Lexeme, first_item, tokens_from, tokens_of}
use Rattle.fx_grammar.specs.Heads.{head_of}
use Rattle.fx_grammar.specs.Steps.{Text, Tokens, fault, want, real_at, decimal, numeral_at, signed_at, repeat, separated, listed, free_at}
use Rattle.fx_grammar.specs.Ranges.{said, subject_at, stated_error, bound_at, name_first, behind_relation, number_first, condition_at, conditions_step, conditions_at, all_pass, inputs_at, require_at}
use Rattle.fx_grammar.specs.Expressions.{closed, opened, atom_of, behind_minus, factor_of, term_of, sum_from, expr_at, inner_at}
use Rattle.fx_grammar.specs.Fronts.{param_at, declared_state, states_at, one_real, type_at}
use Rattle.fx_grammar.specs.Bodies.{whole_at, typed_at, val_at, vals_at, single_at, element_at, tuple_at, result_at}
use Rattle.fx_grammar.specs.Ensuring.{output_at, outputs_at, demands_at, ensuring_at, maybe_ensuring_at}
use Rattle.fx_grammar.specs.Functions.{require_word_at, front_at, ending_at, body_at, def_at}
use Rattle.fx_grammar.specs.Sources.{dot_at, import_at, imports_at, one_def, defs_at, object_at, source_of, functions_of}
use Rattle.fx_syntax.specs.Expressions.{Scope, literal_tree, IsExpr, one_term, difference, one_factor, product, one_atom, IsAtom, number}
use Rattle.fx_syntax.specs.Laws.{IsSourceText}
use Rattle.std.specs.Prelude.{true, false}
use Rattle.fx_syntax.proofs.Sources.{text_law}

-- what is read of a text, with every definition opened
unfoldable pub read : Text → Result (List Function) SourceFault
unfolding gcd over is_at_most lowest decimal_value numeral_of trimmed decimal_of digits_at part_len mark_len power_len
    number_len comment_end first_item tokens_from tokens_of head_of want real_at decimal numeral_at signed_at repeat
    separated listed free_at said subject_at stated_error bound_at name_first behind_relation number_first condition_at
    conditions_step conditions_at all_pass inputs_at require_at closed opened atom_of behind_minus factor_of term_of
    sum_from expr_at inner_at param_at declared_state states_at one_real type_at whole_at typed_at val_at vals_at
    single_at element_at tuple_at result_at output_at outputs_at demands_at ensuring_at maybe_ensuring_at
    require_word_at front_at ending_at body_at def_at dot_at import_at imports_at one_def defs_at object_at source_of
read text = functions_of text

-- ---- expressions: the body of a function of x and y

body : Text → Text
body rest =
    codes "def f(x: Real, y: Real): Real = {require(0 <= x && x <= 1 && 0 <= y && y <= 1)\n" ++ rest ++ codes "}"

unit : Text → function.Input
unit name = record { name = name; lo = whole (pos 0); hi = whole (pos 1); err = whole (pos 0) }

f_of : List function.Temp → Tree → Function
f_of temps result = record {
  name = codes "f";
  inputs = unit (codes "x") ∷ unit (codes "y") ∷ [];
  states = [];
  temps = temps;
  results = result ∷ [];
  demands = free ∷ [];
}

abbrev x : Tree
x = Input 0

abbrev y : Tree
y = Input 1

abbrev t : Tree
t = Temp 0

abbrev one : Tree
one = Literal (whole (pos 1))

-- the body's text spells these temps and this result
Spells : Text → List function.Temp → Tree → Type 0
Spells text temps result = IsSourceText (body text) (f_of temps result ∷ [])

spells : (text : Text) (temps : List function.Temp) (result : Tree) → read (body text) ≡ Ok (f_of temps result ∷ []) →
    Spells text temps result
unfolding Spells read
spells text temps result e = (text_law (body text) (f_of temps result ∷ [])).0 e

abbrev temp_of : Tree → List function.Temp
temp_of tree = record { name = codes "t"; tree = tree } ∷ []

left_group : Spells (codes "x - y - 1") [] (Difference (Difference x y) one)
unfolding Spells body f_of unit read
left_group = spells (codes "x - y - 1") [] (Difference (Difference x y) one) refl

left_quotients : Spells (codes "x / y * 1") [] (Product (Quotient x y) one)
unfolding Spells body f_of unit read
left_quotients = spells (codes "x / y * 1") [] (Product (Quotient x y) one) refl

products_bind : Spells (codes "x + y * 1") [] (Sum x (Product y one))
unfolding Spells body f_of unit read
products_bind = spells (codes "x + y * 1") [] (Sum x (Product y one)) refl

parentheses : Spells (codes "(x + y) * 1") [] (Product (Sum x y) one)
unfolding Spells body f_of unit read
parentheses = spells (codes "(x + y) * 1") [] (Product (Sum x y) one) refl

minus_binds : Spells (codes "-x * y") [] (Product (Negation x) y)
unfolding Spells body f_of unit read
minus_binds = spells (codes "-x * y") [] (Product (Negation x) y) refl

negative_literal : Spells (codes "x * - 1.50") [] (Product x (Literal (over (negsuc 2) 2)))
unfolding Spells body f_of unit read
negative_literal = spells (codes "x * - 1.50") [] (Product x (Literal (over (negsuc 2) 2))) refl

-- a minus that begins its line begins a statement, but for one in a parenthesis; a plus goes on
fresh_minus : Spells (codes "val t = x\n-y") (temp_of x) (Negation y)
unfolding Spells body f_of unit read
fresh_minus = spells (codes "val t = x\n-y") (temp_of x) (Negation y) refl

fresh_minus_inside : Spells (codes "val t = (x\n-y)\nt") (temp_of (Difference x y)) t
unfolding Spells body f_of unit read
fresh_minus_inside = spells (codes "val t = (x\n-y)\nt") (temp_of (Difference x y)) t refl

fresh_plus : Spells (codes "val t = x\n+ y; t") (temp_of (Sum x y)) t
unfolding Spells body f_of unit read
fresh_plus = spells (codes "val t = x\n+ y; t") (temp_of (Sum x y)) t refl

behind_semicolon : Spells (codes "val t: Real = x; -y") (temp_of x) (Negation y)
unfolding Spells body f_of unit read
behind_semicolon = spells (codes "val t: Real = x; -y") (temp_of x) (Negation y) refl

-- a parenthesis behind a number makes no call
behind_number : Spells (codes "val t = 1 (t)") (temp_of one) t
unfolding Spells body f_of unit read
behind_number = spells (codes "val t = 1 (t)") (temp_of one) t refl

-- ---- a derivation by hand: 1 - 2 * 3

token : TokenKind → Text → Lexeme
token kind text = record { kind = kind; text = text; at = 0; fresh = false }

abbrev numeral : Text → Lexeme
numeral text = token token_kinds.Number text

abbrev sign : Text → Lexeme
sign text = token token_kinds.Sign text

abbrev scope : Scope
scope = record { inputs = []; states = []; temps = [] }

number_atom : (text : Text) (rest : Tokens) → IsAtom scope 200 (numeral text ∷ rest) (literal_tree (decimal text)) rest
unfolding token head_of
number_atom text rest =
    number (record { number = numeral text; next = record { tokens = refl; is = refl }; value = refl })

by_hand : IsExpr scope true 200
    (numeral (codes "1") ∷ sign (codes "-") ∷ numeral (codes "2") ∷ sign (codes "*") ∷ numeral (codes "3") ∷ [])
    (Difference (literal_tree (decimal (codes "1")))
    (Product (literal_tree (decimal (codes "2"))) (literal_tree (decimal (codes "3"))))) []
unfolding token head_of
by_hand =
    difference (one_term (one_factor
    (one_atom (number_atom (codes "1")
    (sign (codes "-") ∷ numeral (codes "2") ∷ sign (codes "*") ∷ numeral (codes "3") ∷ [])))))
    (record { token = sign (codes "-"); next = record { tokens = refl; is = refl } }) refl
    (product (one_factor (one_atom (number_atom (codes "2") (sign (codes "*") ∷ numeral (codes "3") ∷ []))))
    (record { token = sign (codes "*"); next = record { tokens = refl; is = refl } })
    (one_atom (number_atom (codes "3") [])))

-- ---- whole functions

averager_text : Text
averager_text =
    codes "def g(u: Real)(x: Real = 0.0): (Real, Real) = {\n  require((-1 <= u) && ((u < 1) && u +/- 0.5))\n" ++
    codes "  val y = 0.5 * x + 0.5 * u\n  (y, y)\n} ensuring (out => out +/- 1e-2)"

abbrev a_half : Rational
a_half = over (pos 1) 2

averager : Function
averager = record {
  name = codes "g";
  inputs = record { name = codes "u"; lo = whole (negsuc 0); hi = whole (pos 1); err = over (pos 5) 10 } ∷ [];
  states = record { name = codes "x"; start = whole (pos 0) } ∷ [];
  temps = record {
    name = codes "y";
    tree = Sum (Product (Literal a_half) (State 0)) (Product (Literal a_half) (Input 0));
  } ∷ [];
  results = Temp 0 ∷ Temp 0 ∷ [];
  demands = record { err = Some (over (pos 1) 100); lo = None; hi = None } ∷ [];
}

averager_is : IsSourceText averager_text (averager ∷ [])
unfolding averager_text averager read
averager_is = (text_law averager_text (averager ∷ [])).0 refl

-- an output that has both ends and an error
clamped_text : Text
clamped_text =
    codes "def f(x: Real): Real = {require(0 <= x && x <= 1) x + 0.5} " ++
    codes "ensuring(res => 0.5 <= res && res <= 1.5 && res +/- 0.1)"

clamped : Function
clamped = record {
  name = codes "f";
  inputs = unit (codes "x") ∷ [];
  states = [];
  temps = [];
  results = Sum x (Literal a_half) ∷ [];
  demands = record { err = Some (over (pos 1) 10); lo = Some (over (pos 5) 10); hi = Some (over (pos 15) 10) } ∷ [];
}

clamped_is : IsSourceText clamped_text (clamped ∷ [])
unfolding clamped_text clamped unit read
clamped_is = (text_law clamped_text (clamped ∷ [])).0 refl

nothing_is : IsSourceText [] []
unfolding read
nothing_is = (text_law [] []).0 refl

object_text : Text
object_text = codes "import a.b /* import */ object M { import c def f(x: Real): Real = {require(1 >= x && x > 0) x} }"

object_is : IsSourceText object_text (record {
  name = codes "f";
  inputs = unit (codes "x") ∷ [];
  states = [];
  temps = [];
  results = x ∷ [];
  demands = free ∷ [];
} ∷ [])
unfolding object_text unit read
object_is =
    (text_law object_text (record {
      name = codes "f";
      inputs = unit (codes "x") ∷ [];
      states = [];
      temps = [];
      results = x ∷ [];
      demands = free ∷ [];
    } ∷ [])).0 refl

-- ---- texts that are no source

-- a text with a fault is no source
no_source : (text : Text) (e : SourceFault) → functions_of text ≡ Err e → (fs : List Function) → IsSourceText text fs →
    ⊥
no_source text e f fs i = let g = (text_law text fs).1 i in different fs e (sym g ∙ f)
  where
    different : (fs : List Function) (e : SourceFault) → ◌≡◌ {A = Result (List Function) SourceFault} (Ok fs) (Err e) →
        ⊥
    different fs e h = absurd cc

-- none is spelled by this body
SpellsNothing : Text → Type 0
SpellsNothing text = (fs : List Function) → IsSourceText (body text) fs → ⊥

minus_goes_on : SpellsNothing (codes "val t = x - y")
unfolding SpellsNothing body read
minus_goes_on = no_source (body (codes "val t = x - y")) (fault 92 kinds.Unexpected) refl

call : SpellsNothing (codes "val t = x (y)")
unfolding SpellsNothing body read
call = no_source (body (codes "val t = x (y)")) (fault 87 kinds.Unsupported) refl

unseen_temp : SpellsNothing (codes "val t = t; t")
unfolding SpellsNothing body read
unseen_temp = no_source (body (codes "val t = t; t")) (fault 87 kinds.UnknownName) refl

second_temp : SpellsNothing (codes "val x = y; x")
unfolding SpellsNothing body read
second_temp = no_source (body (codes "val x = y; x")) (fault 83 kinds.NamedTwice) refl

two_results : SpellsNothing (codes "(x, y)")
unfolding SpellsNothing body read
two_results = no_source (body (codes "(x, y)")) (fault 81 kinds.Unexpected) refl

no_comma : (fs : List Function) →
    IsSourceText (codes "def f(x: Real y: Real): Real = {require(0 <= x && x <= 1) x}") fs → ⊥
unfolding read
no_comma =
    no_source (codes "def f(x: Real y: Real): Real = {require(0 <= x && x <= 1) x}") (fault 14 kinds.Unexpected) refl

no_upper_end : (fs : List Function) → IsSourceText (codes "def f(x: Real): Real = {require(0 <= x) x}") fs → ⊥
unfolding read
no_upper_end = no_source (codes "def f(x: Real): Real = {require(0 <= x) x}") (fault 6 kinds.NoRange) refl

upper_end_twice : (fs : List Function) →
    IsSourceText (codes "def f(x: Real): Real = {require(0 <= x && x <= 1 && x < 2) x}") fs → ⊥
unfolding read
upper_end_twice =
    no_source (codes "def f(x: Real): Real = {require(0 <= x && x <= 1 && x < 2) x}") (fault 52 kinds.NamedTwice) refl

empty_range : (fs : List Function) →
    IsSourceText (codes "def f(x: Real): Real = {require(0.2 <= x && x <= 0.1) x}") fs → ⊥
unfolding read
empty_range =
    no_source (codes "def f(x: Real): Real = {require(0.2 <= x && x <= 0.1) x}") (fault 6 kinds.EmptyRange) refl
