-- What units print from before their first rows on is the page of their runs.
use Rattle.std.proofs.Common.{◌≡◌, ◌<◌, ℕ, List, [], ◌++◌, length, get_or, replicate, Option, None, ap, ◌∙◌}
use Rattle.std.specs.Prelude.{option_map, if◌then◌else◌}
use Rattle.std.proofs.lemmas.List.{get_or-replicate, length-map, length-replicate}
use Rattle.std.proofs.Math.ListN.{get_or-map}
use Rattle.fx_model.specs.Machine.{start_words}
use Rattle.fx_machine.specs.Registers.{Contents}
use Rattle.fx_checker.specs.CertifiedView.{Accepted}
use Rattle.fx_stream.specs.Outcome.{Outcome}
use Rattle.fx_node.specs.Events.{LineFlaw, ReadEvents, events_read}
use Rattle.fx_node.specs.NodePage.{UnitsLaw, node_head, node_outcome}
use Rattle.fx_node.specs.Steps.{lines_from, node_columns, states_of, units_outcome}
use Rattle.fx_node.specs.Units.{Units, first_registers, first_units}
use Rattle.fx_node.specs.declared.printer.NodeReader.{NodeReader}
use Rattle.fx_node.proofs.Given.{all_below, good_events}
use Rattle.fx_node.proofs.Printed.{lines_from_start}

-- the state words of each unit before its first row
many_states : (a : Accepted) (units : ℕ) → length (states_of (first_units a units)) ≡ units
many_states a units = length-map (replicate units (first_registers a.program)) (λ (r : Contents). r.states)
    ∙ length-replicate units (first_registers a.program)

first_states : (a : Accepted) (units u : ℕ) → u < units →
    get_or (states_of (first_units a units)) u [] ≡ start_words a.program.codes
first_states a units u below =
    get_or-map (λ (r : Contents). r.states) (replicate units (first_registers a.program)) u record {
      words = [];
      states = [];
    }
    ∙ ap (λ (r : Contents). r.states) (get_or-replicate units u (first_registers a.program) record {
      words = [];
      states = [];
    } below)

-- what comes of the events that are read
first_outcome : Accepted → ℕ → ReadEvents → Outcome LineFlaw
first_outcome a units r = record {
  text =
      if r.has_header then node_head a.program ++ lines_from a.program r.given.events (states_of (first_units a units))
      else [];
  rows = length r.given.events;
  bad = r.given.bad;
}

start : (a : Accepted) (units : ℕ) → UnitsLaw a.function a.program a.certificate → (ls : List (List ℕ)) →
    units_outcome (first_units a units) None ls ≡ node_outcome a.function a.program units ls
unfolding first_outcome
start a units law ls =
    let r = events_read a.function units ls in
    ap (λ n. first_outcome a units (events_read a.function n ls)) (length-replicate units (first_registers a.program))
    ∙ ap (λ t. record {
      text = if r.has_header then node_head a.program ++ t else [];
      rows = length r.given.events;
      bad = r.given.bad;
    })
    (lines_from_start a.program units (states_of (first_units a units)) r.given.events (many_states a units)
    (first_states a units)
    (all_below a.function units r.given.events (good_events a.function units ls))
    (λ u. ((law units ls u).run, (law units ls u).own)))

pub outcome_is : (a : Accepted) (units : ℕ) (node : Units) (reader : Option NodeReader) → node ≡ first_units a units →
    reader ≡ None → UnitsLaw a.function a.program a.certificate
    → (ls : List (List ℕ)) →
    units_outcome node (option_map node_columns reader) ls ≡ node_outcome a.function a.program units ls
outcome_is a units node reader same before law ls =
    ap (λ (n : Units). units_outcome n (option_map node_columns reader) ls) same
    ∙ ap (λ (r : Option NodeReader). units_outcome (first_units a units) (option_map node_columns r) ls) before
    ∙ start a units law ls
