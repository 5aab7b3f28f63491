-- The commands that take FILE alone, by their names.
use Rattle.std.proofs.Common.{◌≡◌, Bool, true, false, List, [], map, Bor, Option, Some, None, option_map, codes, refl, ap, sym, ◌∙◌}
use Rattle.std.specs.Prelude.{if◌then◌else◌, find, option_and_then, MatchOption, IsSomeAnd}
use Rattle.std.specs.Str.{bytes_eq}
use Rattle.std.proofs.lemmas.Slice.Eq.{bytes_eq-Decides}
use Rattle.clap.proofs.WalkLemmas.{find-map}
use Rattle.fx_arguments.specs.Command.{OnFile, command_given, file_command_given, file_commands, lawful_command, on_file, options_of}
use Rattle.fx_arguments.specs.Grammar.{Bytes}
use Rattle.fx_arguments.specs.declared.command.FileCommand.{FileCommand}

-- a row of the table as code has it
abbrev pub row_of : Bor Bytes × FileCommand → Bytes × FileCommand
row_of row = (row.0.now, row.1)

-- what code finds in the table of these rows is the command of the name
pub in-table : (name : Bytes) (rows : List (Bor Bytes × FileCommand)) → map row_of rows ≡ file_commands →
    (r : Option (Bor (Bor Bytes × FileCommand)))
    → option_map (λ row. row.now) r ≡ find (λ row. bytes_eq row.0.now name) rows
    → on_file name ≡ option_map (λ row. row.now.1) r
in-table name rows same r e =
    ap (λ (t : List (Bytes × FileCommand)). option_map (λ (row : Bytes × FileCommand). row.1)
    (find (λ row. bytes_eq row.0 name) t)) (sym same)
    ∙ ap (option_map (λ (row : Bytes × FileCommand). row.1))
    (sym (find-map (λ row. bytes_eq row.0 name) row_of rows) ∙ ap (option_map row_of) (sym e)) ∙ by_row r where
      by_row : (r : Option (Bor (Bor Bytes × FileCommand)))
          → option_map (λ (row : Bytes × FileCommand). row.1) (option_map row_of (option_map (λ row. row.now) r))
          ≡ option_map (λ row. row.now.1) r
      by_row None = refl
      by_row (Some row) = refl

-- what `map` makes of an option is what its closure makes of what is there
pub mapped : {X Y : Type 0} (f : X → Y) (P : X → Y → Type 0) → ((x : X) (y : Y) → P x y → y ≡ f x)
    → (r : Option X) (m : Option Y) → MatchOption r (m ≡ None) (λ x. IsSomeAnd m (P x)) → m ≡ option_map f r
mapped f P h None m e = e
mapped f P h (Some x) None e = absurd e
mapped f P h (Some x) (Some y) e = ap Some (h x y e)

-- three tests that fail
module _ (a b d : Bool) (not_a : a ≡ false) (not_b : b ≡ false) (not_d : d ≡ false) where
  after-three : (A : Type 0) (x y z r : A) → (if a then x else if b then y else if d then z else r) ≡ r
  after-three A x y z r =
      ap (λ (t : Bool). if t then x else if b then y else if d then z else r) not_a
      ∙ ap (λ (t : Bool). if t then y else if d then z else r) not_b
      ∙ ap (λ (t : Bool). if t then z else r) not_d

-- a name that is none of those of the other commands
module _ (name : Bytes)
    (no_node : bytes_eq name (codes "node") ≡ false)
    (no_synth : bytes_eq name (codes "synth") ≡ false)
    (no_demo : bytes_eq name (codes "demo") ≡ false) where
  pub no-options : options_of name ≡ option_map (λ command. []) (on_file name)
  no-options = after-three _ _ _ no_node no_synth no_demo _ _ _ _ _

  of-file : (given : Bytes → Option Bytes) →
      command_given name given ≡ file_command_given name (given (codes "file"))
  of-file given = after-three _ _ _ no_node no_synth no_demo _ _ _ _ _

  -- what is found under it is made of FILE alone
  pub found-of-file : (given : Bytes → Option Bytes)
      → option_and_then (λ options. lawful_command name options given) (options_of name)
      ≡ file_command_given name (given (codes "file"))
  found-of-file given =
      ap (option_and_then (λ options. lawful_command name options given)) no-options
      ∙ by_command (on_file name) (of-file given) where
        by_command : (o : Option FileCommand) → command_given name given
            ≡ option_and_then (λ command. option_map (OnFile command) (given (codes "file"))) o
            → option_and_then (λ options. lawful_command name options given) (option_map (λ command. []) o)
            ≡ option_and_then (λ command. option_map (OnFile command) (given (codes "file"))) o
        by_command None e = refl
        by_command (Some command) e = e

-- a name of one that takes FILE alone
module _ (name : Bytes) (command : FileCommand) (is : on_file name ≡ Some command) where
  -- it is none of those that don't
  another : (other : Bytes) → on_file other ≡ None → bytes_eq name other ≡ false
  another other none = by_name (bytes_eq name other) refl where
    clash : (o : Option FileCommand) → o ≡ Some command → o ≡ None → ⊥
    clash None e f = cc
    clash (Some m) e f = cc

    by_name : (b : Bool) → bytes_eq name other ≡ b → b ≡ false
    by_name true e = absurd (clash (on_file name) is (ap on_file ((bytes_eq-Decides name other).0 e) ∙ none))
    by_name false e = refl

  pub takes-no-options : options_of name ≡ Some []
  takes-no-options =
      no-options name (another (codes "node") refl) (another (codes "synth") refl) (another (codes "demo") refl)
      ∙ ap (option_map (λ command. [])) is

  pub made-of-file : (given : Bytes → Option Bytes) →
      command_given name given ≡ option_map (OnFile command) (given (codes "file"))
  made-of-file given =
      of-file name (another (codes "node") refl) (another (codes "synth") refl) (another (codes "demo") refl) given
      ∙ ap (option_and_then (λ command. option_map (OnFile command) (given (codes "file")))) is
