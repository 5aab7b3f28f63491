use Rattle.std.specs.Prelude.{option_map}
use Rattle.fx_node.specs.Steps.{node_columns}
use Rattle.fx_node.proofs.Taken.{long_stops}
use Rattle.fx_node.proofs.printer.NodePrinterPrinter.too_long.Goals as goal

pub returns : goal.returns
returns g c =
    λ none_held line rest long. long_stops c.args.self.now.node
    (option_map node_columns c.args.self.now.reader) line rest long
