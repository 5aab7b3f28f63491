use Rattle.std.proofs.Common.{Err, sym, ap, ◌∙◌, inl}
use Rattle.std.specs.Option.{option_map}
use Rattle.fx_lexer.specs.declared.fault.SourceKind.TheVariants.{BadUtf8}
use Rattle.fx_grammar.specs.Steps.{fault}
use Rattle.fx_parser.proofs.Bytes.{of_text, of_no_text}
use Rattle.fx_parser.proofs.wanted.parse.Goals as goal

pub returns-in-Ok : goal.returns-in-Ok
returns-in-Ok c =
    let name = option_map (λ n. n.now) c.args.name in
    rw (of_text c.args.bytes.now name c.in-Ok.ensures.cases.1, sym c.in-Ok.ensures.cases.0) c.function_in.ensures

pub returns-in-Err : goal.returns-in-Err
returns-in-Err c =
    rw c.at.ensures (inl (of_no_text c.args.bytes.now (option_map (λ n. n.now) c.args.name) c.in-Err.ensures.cases.0
    ∙ ap (λ at. Err (fault at BadUtf8)) (sym (c.valid_up_to.ensures ∙ c.in-Err.ensures.valid_len))))
