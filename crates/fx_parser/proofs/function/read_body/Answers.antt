use Rattle.std.proofs.Common.{◌≡◌, ℕ, refl, ◌+◌, ◌-◌, length, map, sym, ap, ◌∙◌, arith, rules, tests}
use Rattle.std.proofs.lemmas.List.{length-map}
use Rattle.std.proofs.lemmas.Result.{err_from_is_err_and}
use Rattle.fx_expr.specs.TreeOf.{tree}
use Rattle.fx_grammar.specs.Functions.{body_of, ending_at, require_word_at}
use Rattle.fx_grammar.specs.Steps.{past_semicolon}
use Rattle.fx_grammar.specs.Bodies.{Body, vals_at}
use Rattle.fx_cursor.specs.Views.{lexemes}
use Rattle.fx_requirements.specs.Views.{inputs_value, subject_of}
use Rattle.fx_parser.specs.Views.{body_value, front_value, results_value, state_value}
use Rattle.fx_parser.proofs.BodyParts.{AreBodyParts, its_ending, body_is, body_wrong}
use Rattle.fx_parser.proofs.function.read_body.Goals.{In_ok-results}
use Rattle.fx_parser.proofs.function.read_body.Goals as goal

-- so many states were declared
states : (c : In_ok-results) → length (map state_value c.args.front.declared.states.items) ≡ c.len-kept.result
states c =
    let l : length c.args.front.declared.states.items ≡ c.len-kept.result = search (rules, tests) in simp length-map l

-- the parts before the brace were read
inside : (c : In_ok-results) →
    AreBodyParts c.args.end c.args.word (front_value c.args.front) (lexemes c.args.tokens.now)
    (inputs_value c.in_ok-inputs.inputs, lexemes c.in_ok-inputs.rest.now)
    (body_value c.in_ok-known.known, lexemes c.in_ok-known.rest.now)
    (results_value c.in_ok-results.results, lexemes c.in_ok-results.rest.now)
inside c =
    let l : length c.args.front.subjects.items ≡ c.len-count.result = search (rules, tests) in
    let n : length (map subject_of c.args.front.subjects.items) ≡ c.len-count.result = simp length-map l in
    let start : body_of (front_value c.args.front) ≡ body_value c.first_body-start.result =
    rw (n, states c) (sym c.first_body-start.ensures.value) in
    record {
      rest = lexemes c.in_ok-rest.rest.now;
      requires = ap (λ ss. require_word_at c.args.end (map subject_of ss) (lexemes c.args.tokens.now))
          (sym c.deref.ensures.value) ∙ c.in_ok-rest.ensures.value;
      inputs = c.in_ok-inputs.ensures.value;
      vals = ap (λ (k : Body). vals_at c.args.end k (past_semicolon (lexemes c.in_ok-inputs.rest.now))) start
          ∙ c.in_ok-known.ensures.value;
      results = c.in_ok-results.ensures.value;
    }

-- what the brace and the demands behind these parts come to, by the count of the code
ending_is : (c : In_ok-results) (nodes : ℕ) →
    nodes ≡ c.len-count.result + c.len-kept.result + length c.in_ok-results.results.trees.items
    + c.in_ok-results.results.nodes
    → its_ending (inside c)
    ≡ ending_at c.args.end c.args.word nodes (c.args.front.reals - c.len-kept.result) (lexemes c.in_ok-results.rest.now)
ending_is c nodes e =
    let trees : length (map tree c.in_ok-results.results.trees.items) ≡ length c.in_ok-results.results.trees.items =
    simp length-map refl in
    let kept = c.in_ok-known.ensures.kept in let few = c.first_body-start.ensures.few in
    let count : c.in_ok-known.known.inputs + c.in_ok-known.known.states
    + length (map tree c.in_ok-results.results.trees.items) + c.in_ok-results.results.nodes ≡ nodes =
    omega (arith, kept.0, kept.1, few.0, few.1, trees, e) in
    rw (count, states c) refl

pub returns-in_err-demands-clause-value : goal.returns-in_err-demands-clause-value
returns-in_err-demands-clause-value c =
    let on = (goal.at.returns-in_err-demands-clause-value c).In_ok-results in
    let fault = err_from_is_err_and c.from_residual-in_err-demands.result c.from_residual-in_err-demands.ensures.1 in
    let same = ending_is on _ (search (rules, tests)) in
    rw (fault.1, fault.2) (body_wrong (inside on) c.in_err-demands.field-0.0 (rw same c.in_err-demands.ensures.value))

pub returns-clause-value : goal.returns-clause-value
returns-clause-value c =
    let on = (goal.at.returns-clause-value c).In_ok-results in
    body_is (inside on) _ (ending_is on _ (search (rules, tests)) ∙ c.in_ok-demands.ensures.value)
