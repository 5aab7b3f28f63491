use Rattle.std.proofs.Common.{◌≡◌, rules, tests, sym, ap, ◌∙◌, eqb, option_map}
use Rattle.std.specs.List.{find, starts_with}
use Rattle.std.proofs.lemmas.Iterator.{YieldsList-from_slice}
use Rattle.std.proofs.lemmas.Iterator.Search.{find_from_yields_List}
use Rattle.std.specs.Slice.Iter.{iter_rest}
use Rattle.fx_lexer.specs.Tokens.{signs, found_sign}
use Rattle.fx_lexer.proofs.Items.{found_of}
use Rattle.fx_lexer.proofs.sign.sign_item.Goals.{In-Some, In-None}
use Rattle.fx_lexer.proofs.sign.sign_item.Goals as goal

found_some : (c : In-Some) →
    find (λ s. starts_with eqb c.args.bytes.now s) signs ≡ option_map (λ s. s.now.now) c.find.result
found_some c =
    found_of c.args.bytes.now _ (iter_rest c.iter.result) c.iter.ensures.rest c.find.result
    (find_from_yields_List (λ sign. starts_with eqb c.args.bytes.now sign.now) _ _ c.find.result c.find.ensures.ran
    (YieldsList-from_slice _ c.iter.ensures.rest) (λ x b q k. search (rules, tests)))

found_none : (c : In-None) →
    find (λ s. starts_with eqb c.args.bytes.now s) signs ≡ option_map (λ s. s.now.now) c.find.result
found_none c =
    found_of c.args.bytes.now _ (iter_rest c.iter.result) c.iter.ensures.rest c.find.result
    (find_from_yields_List (λ sign. starts_with eqb c.args.bytes.now sign.now) _ _ c.find.result c.find.ensures.ran
    (YieldsList-from_slice _ c.iter.ensures.rest) (λ x b q k. search (rules, tests)))

pub returns-in-None : goal.returns-in-None
returns-in-None c = sym (ap found_sign (found_none c ∙ ap (option_map (λ s. s.now.now)) c.in-None.is))

pub returns-in-Some : goal.returns-in-Some
returns-in-Some c = sym (ap found_sign (found_some c ∙ ap (option_map (λ s. s.now.now)) c.in-Some.is))
