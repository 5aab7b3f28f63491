-- Where a word that is required is missing there is no command.
use Rattle.std.proofs.Common.{◌≡◌, ℕ, Bool, true, false, not, ◌||◌, List, [], ◌∷◌, Option, Some, None, option_map, codes, refl, ap, ◌∙◌}
use Rattle.std.specs.Prelude.{if◌then◌else◌, find}
use Rattle.std.specs.Str.{bytes_eq}
use Rattle.fx_wanted.specs.Asked.{tries_limit}
use Rattle.fx_wanted.specs.declared.wanted.Wanted.{Wanted}
use Rattle.fx_arguments.specs.Command.{command_given, node_of, synthesis_of, wanted_of}
use Rattle.fx_arguments.specs.Grammar.{Bytes, Entry, has_entry, value_named}
use Rattle.fx_arguments.specs.Numbers.{number_or, units_given, width_given}
use Rattle.fx_arguments.specs.Rounding.{round_given}
use Rattle.fx_arguments.proofs.Pending.{has_required}
use Rattle.fx_arguments.proofs.Options.{node_takes, options_rules, synth_takes}

value-is-none : (name : Bytes) (ps : List Entry) → has_entry name ps ≡ false → value_named ps name ≡ None
value-is-none name [] e = refl
value-is-none name (p ∷ ps) e = first (bytes_eq p.0 name) e (value-is-none name ps) where
  first : (b : Bool) → (b || has_entry name ps) ≡ false → (has_entry name ps ≡ false → value_named ps name ≡ None)
      → option_map (λ (q : Entry). q.1) (if b then Some p else find (λ q. bytes_eq q.0 name) ps) ≡ None
  first true e h = absurd (cc)
  first false e h = h e

pub no-file : (ps : List Entry) → has_required (options_rules []) ps ≡ false → value_named ps (codes "file") ≡ None
no-file ps e = value-is-none (codes "file") ps (by_file (has_entry (codes "file") ps) e) where
  by_file : (f : Bool) → not (not f || false) ≡ false → f ≡ false
  by_file true e = absurd (cc)
  by_file false e = refl

no-units : (units : Option ℕ) → node_of units None ≡ None
no-units None = refl
no-units (Some units) = refl

pub no-node : (ps : List Entry) → has_required (options_rules node_takes) ps ≡ false →
    command_given (codes "node") (value_named ps) ≡ None
no-node ps e = by_names (has_entry (codes "units") ps) refl (has_entry (codes "file") ps) refl e where
  by_names : (u : Bool) → has_entry (codes "units") ps ≡ u → (f : Bool) → has_entry (codes "file") ps ≡ f →
      not (not u || (not f || false)) ≡ false → command_given (codes "node") (value_named ps) ≡ None
  by_names true g true h e = absurd (cc)
  by_names false g f h e =
      ap (λ units. node_of (units_given units) (value_named ps (codes "file"))) (value-is-none (codes "units") ps g)
  by_names true g false h e =
      ap (λ file. node_of (units_given (value_named ps (codes "units"))) file) (value-is-none (codes "file") ps h)
      ∙ no-units (units_given (value_named ps (codes "units")))

without-file : (w : Option Wanted) (f : Option Bytes) (s : Option ℕ) → synthesis_of w f s None ≡ None
without-file None f s = refl
without-file (Some w) f None = refl
without-file (Some w) f (Some s) = refl

pub no-synthesis : (ps : List Entry) → has_required (options_rules synth_takes) ps ≡ false →
    command_given (codes "synth") (value_named ps) ≡ None
no-synthesis ps e = by_names (has_entry (codes "width") ps) refl (has_entry (codes "file") ps) refl e where
  seed : Option ℕ
  seed = number_or 0 18446744073709551615 (value_named ps (codes "seed"))

  wanted : Option Bytes → Option Wanted
  wanted w =
      wanted_of (width_given w) (number_or 200 tries_limit (value_named ps (codes "tries")))
      (round_given (value_named ps (codes "round")))

  by_names : (w : Bool) → has_entry (codes "width") ps ≡ w → (f : Bool) → has_entry (codes "file") ps ≡ f →
      not (not w || (not f || false)) ≡ false → command_given (codes "synth") (value_named ps) ≡ None
  by_names true g true h e = absurd (cc)
  by_names false g f h e =
      ap (λ w. synthesis_of (wanted w) (value_named ps (codes "function")) seed (value_named ps (codes "file")))
      (value-is-none (codes "width") ps g)
  by_names true g false h e =
      ap (λ file. synthesis_of (wanted (value_named ps (codes "width"))) (value_named ps (codes "function")) seed file)
      (value-is-none (codes "file") ps h)
      ∙ without-file (wanted (value_named ps (codes "width"))) (value_named ps (codes "function")) seed
