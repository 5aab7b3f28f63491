use Rattle.std.proofs.Common.{◌∙◌, map, ap}
use Rattle.fx_flat.specs.NodeOf.{nodes_in}
use Rattle.fx_program.specs.CodeView.{round_of, code_of}
use Rattle.fx_calm.proofs.Placed.{placed, all_short, starts_short, words_handed, program_is, program_lawful}
use Rattle.fx_calm.proofs.plan.plan_of.Goals as goal

pub bounds-requires-clause-place : goal.bounds-requires-clause-place
bounds-requires-clause-place c =
    placed c.requires.width c.narrow_function.ensures c.requires.calm c.requires.numbers

pub bounds-requires-clause-short : goal.bounds-requires-clause-short
bounds-requires-clause-short c =
    all_short c.requires.width c.narrow_function.ensures c.requires.calm c.requires.numbers

pub codes-requires-clause-some : goal.codes-requires-clause-some
codes-requires-clause-some c =
    (placed c.requires.width c.narrow_function.ensures c.requires.calm c.requires.numbers).some

pub codes-requires-clause-point : goal.codes-requires-clause-point
codes-requires-clause-point c =
    (placed c.requires.width c.narrow_function.ensures c.requires.calm c.requires.numbers).point

pub codes-requires-clause-words : goal.codes-requires-clause-words
codes-requires-clause-words c =
    words_handed c.requires.width c.narrow_function.ensures c.requires.calm c.requires.numbers
    (ap nodes_in c.as_slice-3.ensures ∙ c.in_ok-nodes.ensures.list)

pub program_for-requires : goal.program_for-requires
program_for-requires c =
    program_lawful c.requires.width c.narrow_function.ensures c.requires.calm c.requires.numbers
    (round_of c.args.round) (map code_of c.in_ok-codes.codes.items)
    (ap nodes_in c.as_slice-3.ensures ∙ c.in_ok-nodes.ensures.list) c.in_ok-codes.ensures

pub certificate-requires-clause-place : goal.certificate-requires-clause-place
certificate-requires-clause-place c =
    placed c.requires.width c.narrow_function.ensures c.requires.calm c.requires.numbers

pub certificate-requires-clause-starts : goal.certificate-requires-clause-starts
certificate-requires-clause-starts c =
    starts_short c.requires.width c.narrow_function.ensures c.requires.calm c.requires.numbers

pub returns-clause-program : goal.returns-clause-program
returns-clause-program c = c.in_ok-program.ensures
    ∙ program_is c.requires.width c.narrow_function.ensures c.requires.calm c.requires.numbers
    (round_of c.args.round) (map code_of c.in_ok-codes.codes.items)
    (ap nodes_in c.as_slice-3.ensures ∙ c.in_ok-nodes.ensures.list) c.in_ok-codes.ensures
