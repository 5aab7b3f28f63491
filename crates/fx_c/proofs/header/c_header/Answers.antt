use Rattle.std.proofs.Common.{◌≡◌, List, ℕ, ◌++◌, ◌∙◌, ap, sym, subst, append_assoc}
use Rattle.fx_model.specs.LineText.{numbered_lines}
use Rattle.fx_rational.specs.Dyadic.{Dyadic}
use Rattle.fx_c99.specs.CHeader.{count_macros, input_group, state_group, output_group, opening_text, declarations_text, header_text}
use Rattle.fx_c99.specs.CHeaderMeaning.{SaysHeader}
use Rattle.fx_c.proofs.Appended.{five_pieces}
use Rattle.fx_c.proofs.header.c_header.Goals as goal

text_is : (c : goal.After-drop-starts-2) →
    c.put_back.new.out.items ≡ header_text c.args.function.now c.args.program.now c.args.bounds.now
text_is c =
    let fn = c.args.function.now in let q = c.args.program.now in let bounds = c.args.bounds.now in
    let opening = opening_text q.name q.width in
    let counts = count_macros q.name q.width q.inputs q.states q.outputs in
    let inputs = numbered_lines (input_group fn q) 0 q.inputs in
    let states = numbered_lines (state_group fn q) 0 q.states in
    let outputs = numbered_lines (output_group q bounds) 0 q.outputs in
    let declarations = declarations_text q.name q.width q.states q.inputs q.outputs in
    let rest = inputs ++ (states ++ (outputs ++ declarations)) in
    five_pieces (opening ++ counts) inputs states outputs declarations c.new-out.result.items
    c.put_front.new.out.items c.put_inputs.new.out.items c.put_states.new.out.items c.put_outputs.new.out.items
    c.put_back.new.out.items c.in_ok-put_front.ensures c.in_ok-put_inputs.ensures c.in_ok-put_states.ensures
    c.in_ok-put_outputs.ensures c.in_ok-put_back.ensures
    ∙ ap (λ (o : List ℕ). o ++ ((opening ++ counts) ++ rest)) c.new-out.ensures.items
    ∙ append_assoc opening counts rest

pub returns-clause-text : goal.returns-clause-text
returns-clause-text c = text_is c

pub returns-clause-says : goal.returns-clause-says
returns-clause-says c rewrite cert certified same =
    let fn = c.args.function.now in let q = c.args.program.now in
    let text = text_is c ∙ ap (λ (bounds : List Dyadic). header_text fn q bounds) same in
    subst (SaysHeader fn q cert) (sym text) (c.header_law.ensures rewrite fn q cert certified c.keeps.ensures.inputs)
