use Rattle.std.proofs.Common.{◌≡◌, ◌+◌, ◌*◌, ◌≤◌, ◌++◌, length, drop}
use Rattle.fx_model.specs.Page.{line_of, names_from}
use Rattle.fx_run.proofs.Fields.{rest_of_line}
use Rattle.fx_run.proofs.words.put_names.Given as goal

abbrev pub invariant-loop-j : goal.invariant-loop-j
invariant-loop-j l =
    let all = names_from 1 l.count in
    record {
      line : l.page ++ rest_of_line (drop l.j all) ≡ l.initial.page ++ line_of all;
      short : length l.page ≤ length l.initial.page + 129 * l.j;
    }
