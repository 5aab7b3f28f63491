use Rattle.fx_arguments.specs.Command.{texts}
use Rattle.fx_arguments.proofs.PlainLaw.{each-takes-one-file}
use Rattle.fx_arguments.proofs.law.one_file_law.Goals as goal

pub returns : goal.returns
returns c = each-takes-one-file c.args.name.now (texts c.args.words.now)
