use Rattle.std.proofs.Common.{sym, ◌∙◌, inl}
use Rattle.fx_lexer.specs.Tokens.{lexeme_of}
use Rattle.fx_cursor.specs.Texts.{numeral_decimal}
use Rattle.fx_requirements.proofs.Places.{said_twice, said_once}
use Rattle.fx_requirements.proofs.subject.said.Goals as goal

pub returns-then-is_said : goal.returns-then-is_said
returns-then-is_said c =
    rw c.at.ensures (inl (said_twice c.args.aspect (numeral_decimal c.args.value)
    (lexeme_of c.args.token.now) c.args.subjects.items c.args.k c.index.result.now c.requires c.index.ensures
    (sym c.is_said.ensures ∙ c.if-is_said.true)))

pub returns : goal.returns
returns c =
    said_once c.args.aspect (numeral_decimal c.args.value)
    (lexeme_of c.args.token.now) c.args.subjects.items c.args.k c.index.result.now c.with_aspect.result c.requires
    c.index.ensures (sym c.is_said.ensures ∙ c.if-is_said.false) c.with_aspect.ensures
