-- The first word is a command's name, and what `clap` does behind it.
use Rattle.std.proofs.Common.{zero, suc, ◌≢◌, ◌≡◌, ℕ, Bool, true, false, ◌||◌, List, [], ◌∷◌, ◌++◌, map, length, drop, Option, Some, None, option_map, codes, refl, ap, ap₂, ◌∙◌, sym, subst, inl, inr}
use Rattle.std.specs.Prelude.{if◌then◌else◌, find, fold, slice_get, is_some, ◌⊎◌}
use Rattle.std.specs.Option.{option_map_or}
use Rattle.std.specs.Str.{bytes_eq, chars}
use Rattle.std.proofs.lemmas.Slice.Eq.{bytes_eq-Decides}
use Rattle.clap.proofs.WalkLemmas.{find-map, walk_stopped}
use Rattle.clap.specs.Lexer.{long_of}
use Rattle.clap.specs.Walk.{Held, Step, after_step, walk_from, subcommand_met, word_met, subcommand_or_other, long_or_other, short_or_plain, trailing, settled, finished, Walk, Names, answers_to, idle, walked, nothing_held, rows_after}
use Rattle.clap.specs.Simple.{Shape, built, entered, label_of, names_of, rows_at, subcommand_of}
use Rattle.clap.specs.Kinds.{Kinds, or_else}
use Rattle.clap.specs.Faults.{fault_of, level_fault, walk_fault, turn_fault, step_fault, word_fault, other_fault, flag_word_fault, flags_fault, bundle_fault, bundle_step_fault, settle_fault, check_fault, defaults_fault, entered_fault}
use Rattle.clap.specs.declared.error.kind.ErrorKind.TheVariants as kind
use Rattle.fx_arguments.specs.App.{fixd_app}
use Rattle.fx_arguments.specs.Command.{OnFile, command_given, demo_given, file_commands, on_file, options_of}
use Rattle.fx_arguments.specs.declared.command.FileCommand.{FileCommand}
use Rattle.fx_arguments.specs.Grammar.{Bytes, Entry, ends_options, is_dashed, value_named}
use Rattle.fx_arguments.proofs.Booleans.{and-true, never-both}
use Rattle.fx_arguments.proofs.Pending.{faults_from, has_required, is_nil, leaf_shape, nil-or_else, settled_now, walk_at}
use Rattle.fx_arguments.proofs.OneWord.{HasFirstFlag, nil-first, no-nil, plain-met, short-met}
use Rattle.fx_arguments.proofs.Options.{AreApart, node_takes, option_names, options_rules, synth_takes}
use Rattle.fx_arguments.proofs.Missing.{no-file, no-node, no-synthesis}
use Rattle.fx_arguments.proofs.OnFile.{made-of-file, no-options, takes-no-options}

-- ---- the top

abbrev top : Shape
top = (built fixd_app).top

abbrev pub commands : Names
commands = names_of (built fixd_app)

-- the words after a command go to it
stopped-walk : (w : Walk) (name : Bytes) (seen words : List Bytes) →
    walk_fault top commands (record w { stopped = Some (name, seen) }) words ≡ []
unfolding walk_fault walked
stopped-walk w name seen [] = refl
stopped-walk w name seen (x ∷ xs) = stopped-walk w name (seen ++ x ∷ []) xs

-- the faults of the top, by its walk
abbrev by_walk : Kinds → Walk → Bool
by_walk first w =
    is_nil (or_else first (or_else (entered_fault (built fixd_app) w.stopped)
    (or_else (settle_fault [] false w.held) (or_else (defaults_fault (settled [] w.held).rows [])
    (check_fault top (finished [] w.held) (is_some (entered (built fixd_app) w.stopped)))))))

-- a command of this name takes options and FILE, and is made of their values
pub record IsCommand (name : Bytes) : Type 0 where
  pub options : List (Bytes × Bool)
  pub apart : AreApart options
  pub known : options_of name ≡ Some (option_names options)
  pub faults : (rest : List Bytes) →
      is_nil (fault_of fixd_app (name ∷ rest))
      ≡ is_nil (faults_from name (options_rules options) (walk_at [] settled_now 1 false) rest)
  pub rows : (rest : List Bytes) →
      subcommand_of fixd_app (name ∷ rest) ≡ Some (name, rows_after (options_rules options) [] rest)
  pub wants : (ps : List Entry) → has_required (options_rules options) ps ≡ false →
      command_given name (value_named ps) ≡ None

-- the walk has stopped at a command of this name, after these words
abbrev stopped_at : Bytes → List Bytes → Walk
stopped_at name seen = record (walk_from nothing_held) { stopped = Some (name, seen) }

-- what building makes of a command of this name with these options and FILE
abbrev leaf_of : Bytes → List (Bytes × Bool) → Shape
leaf_of name options = leaf_shape name (options_rules options)

-- the one of this name among the commands
abbrev shape_named : Bytes → List Shape → Option Shape
shape_named name shapes = find (λ s. answers_to name (label_of s)) shapes

-- a walk meets the name of what is found so
met-by-name : (word : Bytes) (o : Option Shape) → shape_named word (built fixd_app).subs ≡ o →
    subcommand_met commands idle word ≡ option_map (λ p. p.0) (option_map label_of o)
met-by-name word o is =
    ap (option_map (λ (p : Bytes × List Bytes). p.0)) (sym (find-map (answers_to word) label_of (built fixd_app).subs)
    ∙ ap (option_map label_of) is)

-- what is found under a name is a command: the walk stops there, and its options and FILE are read
module _ (name : Bytes) (options : List (Bytes × Bool))
    (found : shape_named name (built fixd_app).subs ≡ Some (leaf_of name options)) where
  met : subcommand_met commands idle name ≡ Some name
  met = met-by-name name (Some (leaf_of name options)) found

  abbrev met_as : Option Bytes → Held × Step
  met_as o = subcommand_or_other [] o idle 1 name nothing_held

  first-turn : turn_fault top commands (walk_from nothing_held) name ≡ []
  first-turn =
      ap (λ o. or_else (other_fault top o name nothing_held) (step_fault top 1 (met_as o).0 (met_as o).1)) met
      ∙ ap (λ k. or_else k []) (never-both (bytes_eq name (codes "help"))
      (kind.DisplayHelp ∷ kind.InvalidSubcommand ∷ []) [])

  first-walked : walked [] commands (walk_from nothing_held) name ≡ stopped_at name []
  unfolding walked
  first-walked = ap (λ o. after_step [] name (walk_from nothing_held) (met_as o).0 (met_as o).1) met

  no-fault : (rest : List Bytes) → walk_fault top commands (walk_from nothing_held) (name ∷ rest) ≡ []
  unfolding walk_fault
  no-fault rest =
      ap₂ (λ t w. or_else t (walk_fault top commands w rest)) first-turn first-walked
      ∙ stopped-walk (walk_from nothing_held) name [] rest

  stops : (rest : List Bytes) → fold (walked [] commands) (walk_from nothing_held) (name ∷ rest) ≡ stopped_at name rest
  stops rest =
      ap (λ w. fold (walked [] commands) w rest) first-walked
      ∙ sym (walk_stopped [] commands (walk_from nothing_held) name [] rest)

  enters : (rest : List Bytes) → by_walk [] (stopped_at name rest)
      ≡ is_nil (or_else (faults_from name (options_rules options) (walk_at [] settled_now 1 false) rest) [])
  unfolding defaults_fault
  enters rest =
      ap (λ o. is_nil (or_else (option_map_or (λ s. level_fault s [] nothing_held rest false []) o [])
      (check_fault top [] (is_some (option_map (λ s. rows_at s rest) o))))) found

  is-one : AreApart options → options_of name ≡ Some (option_names options)
      → ((ps : List Entry) → has_required (options_rules options) ps ≡ false →
      command_given name (value_named ps) ≡ None) → IsCommand name
  is-one apart known wants = record {
    options = options;
    apart = apart;
    known = known;
    faults = λ rest. ap₂ by_walk (no-fault rest) (stops rest) ∙ enters rest
        ∙ nil-or_else (faults_from name (options_rules options) (walk_at [] settled_now 1 false) rest) [] ∙ and-true _;
    rows = λ rest. ap (λ (w : Walk). entered (built fixd_app) w.stopped) (stops rest)
        ∙ ap (option_map (λ s. rows_at s rest)) found;
    wants = wants;
  }

-- ---- the commands that take FILE alone, and the others

-- those that have options, and `demo`
abbrev others : List Shape
others = leaf_of (codes "node") node_takes ∷ leaf_of (codes "synth") synth_takes ∷ leaf_of (codes "demo") [] ∷ []

-- a word is sought among the names of these commands that take FILE alone, and then among the others
by-file : (word : Bytes) (rows : List (Bytes × FileCommand)) →
    shape_named word (map (λ row. leaf_of row.0 []) rows ++ others)
    ≡ option_map_or (λ command. Some (leaf_of word []))
    (option_map (λ row. row.1) (find (λ row. bytes_eq row.0 word) rows)) (shape_named word others)
by-file word [] = refl
by-file word (row ∷ rows) = by_name (bytes_eq row.0 word) refl (by-file word rows) where
  by_name : (b : Bool) → bytes_eq row.0 word ≡ b
      → shape_named word (map (λ r. leaf_of r.0 []) rows ++ others)
      ≡ option_map_or (λ command. Some (leaf_of word []))
      (option_map (λ (r : Bytes × FileCommand). r.1) (find (λ r. bytes_eq r.0 word) rows)) (shape_named word others)
      → (if b || false then Some (leaf_of row.0 []) else shape_named word (map (λ r. leaf_of r.0 []) rows ++ others))
      ≡ option_map_or (λ command. Some (leaf_of word []))
      (option_map (λ (r : Bytes × FileCommand). r.1) (if b then Some row else find (λ r. bytes_eq r.0 word) rows))
      (shape_named word others)
  by_name true e ih = ap (λ n. Some (leaf_of n [])) ((bytes_eq-Decides row.0 word).0 e)
  by_name false e ih = ih

-- so the commands are found by the table of those that take FILE alone
by-table : (word : Bytes) (o : Option FileCommand) → on_file word ≡ o → shape_named word (built fixd_app).subs
    ≡ option_map_or (λ command. Some (leaf_of word [])) o (shape_named word others)
by-table word o is =
    by-file word file_commands
    ∙ ap (λ p. option_map_or (λ (command : FileCommand). Some (leaf_of word [])) p (shape_named word others)) is

-- without FILE there is none that takes it alone
wants-file : (name : Bytes) (command : FileCommand) → on_file name ≡ Some command → (ps : List Entry)
    → has_required (options_rules []) ps ≡ false → command_given name (value_named ps) ≡ None
wants-file name command is ps e =
    made-of-file name command is (value_named ps) ∙ ap (option_map (OnFile command)) (no-file ps e)

file-is-one : (name : Bytes) (command : FileCommand) → on_file name ≡ Some command → IsCommand name
file-is-one name command is =
    is-one name [] (by-table name (Some command) is) tt (takes-no-options name command is) (wants-file name command is)

node-is-one : IsCommand (codes "node")
node-is-one = is-one (codes "node") node_takes refl (refl, tt) refl no-node

synth-is-one : IsCommand (codes "synth")
synth-is-one =
    is-one (codes "synth") synth_takes refl (
      refl,
      (refl, (refl, (refl, (refl, tt)))),
    ) refl no-synthesis

demo-is-one : IsCommand (codes "demo")
demo-is-one = is-one (codes "demo") [] refl tt refl (λ ps e. ap demo_given (no-file ps e))

-- ---- a first word that is none

pub no-words : is_nil (fault_of fixd_app []) ≡ false
unfolding walk_fault walked defaults_fault
no-words = refl

after-dashes : (rest : List Bytes) → is_nil (fault_of fixd_app (codes "--" ∷ rest)) ≡ false
unfolding walk_fault walked defaults_fault
after-dashes [] = refl
after-dashes (x ∷ xs) = refl

module _ (word : Bytes) (no_command : subcommand_met commands idle word ≡ None) (flagged : HasFirstFlag word) where
  word-fault : ends_options word ≡ false →
      word_fault top commands false idle word nothing_held ≡ flag_word_fault [] false (long_of word) word nothing_held
  word-fault e = ap (λ o. other_fault top o word nothing_held) no_command
      ∙ ap (λ (b : Bool). if b then [] else flag_word_fault [] false (long_of word) word nothing_held) e

  word-met : ends_options word ≡ false →
      word_met [] commands false idle 1 word nothing_held ≡ long_or_other [] idle word (long_of word) nothing_held
  word-met e = ap (λ o. subcommand_or_other [] o idle 1 word nothing_held) no_command
      ∙ ap (λ (b : Bool). if b then (nothing_held, trailing 1)
      else long_or_other [] idle word (long_of word) nothing_held) e

  flag-fault : ends_options word ≡ false → is_dashed word ≡ true → (l : Option (Bytes × Option Bytes)) →
      long_of word ≡ l → is_nil (flag_word_fault [] false l word nothing_held) ≡ false
  unfolding flags_fault
  flag-fault e d (Some p) is_long = refl
  flag-fault e d None is_long =
      ap (λ o. is_nil (option_map_or (λ flags. bundle_fault [] false flags nothing_held) o []))
      (short-met word d e is_long)
      ∙ first (drop 1 word) (length (drop 1 word)) (flagged d).0 (flagged d).1 (flagged d).2 where
        first : (flags : Bytes) (k x : ℕ) → slice_get (chars flags) 0 ≡ Some x → k ≢ 0 →
            is_nil (flags_fault [] false k flags 0 (record nothing_held { skip = 0 })) ≡ false
        first flags zero x e n = absurd (n refl)
        first flags (suc k) x e n =
            ap (λ o. is_nil (bundle_step_fault [] false o flags 0 (record nothing_held { skip = 0 })
            (flags_fault [] false k))) e

  bad-turn : ends_options word ≡ false → (d : Bool) → is_dashed word ≡ d →
      is_nil (turn_fault top commands (walk_from nothing_held) word) ≡ false
  bad-turn e true d = no-nil _ _ (ap is_nil (word-fault e) ∙ flag-fault e d (long_of word) refl)
  bad-turn e false d =
      nil-first _ _ (word-fault e ∙ ap (λ l. flag_word_fault [] false l word nothing_held) (plain-met word d).0
      ∙ ap (λ o. option_map_or (λ flags. bundle_fault [] false flags nothing_held) o []) (plain-met word d).1)
      ∙ ap (λ m. is_nil (step_fault top 1 m.0 m.1)) (word-met e
      ∙ ap (λ l. long_or_other [] idle word l nothing_held) (plain-met word d).0
      ∙ ap (λ o. short_or_plain [] idle word o nothing_held) (plain-met word d).1)

  pub after-another : (rest : List Bytes) → is_nil (fault_of fixd_app (word ∷ rest)) ≡ false
  unfolding walk_fault
  after-another rest = by_ends (ends_options word) refl where
    by_ends : (b : Bool) → ends_options word ≡ b → is_nil (fault_of fixd_app (word ∷ rest)) ≡ false
    by_ends true e =
        ap (λ w. is_nil (fault_of fixd_app (w ∷ rest))) ((bytes_eq-Decides word (codes "--")).0 e) ∙ after-dashes rest
    by_ends false e =
        no-nil _ _ (no-nil (turn_fault top commands (walk_from nothing_held) word) _ (bad-turn e (is_dashed word) refl))

-- ---- which word is one

-- neither `clap` nor the grammar knows a command of this name
pub record IsNone (word : Bytes) : Type 0 where
  pub met : subcommand_met commands idle word ≡ None
  pub unknown : options_of word ≡ None

other-way : (xs ys : Bytes) → bytes_eq xs ys ≡ false → bytes_eq ys xs ≡ false
other-way xs ys e = by_other (bytes_eq ys xs) refl where
  by_other : (b : Bool) → bytes_eq ys xs ≡ b → b ≡ false
  by_other true f = sym ((bytes_eq-Decides xs ys).1 (sym ((bytes_eq-Decides ys xs).0 f))) ∙ e
  by_other false f = refl

-- one that isn't there is not the first, nor among the others
not-first : (A : Type 0) (b : Bool) (x : A) (others : Option A) → b ≡ false → others ≡ None →
    (if b then Some x else others) ≡ None
not-first A true x others e none = absurd (cc)
not-first A false x others e none = none

-- the word isn't this name, as the grammar tests it and as `clap` does
abbrev IsOther : Bytes → Bytes → Type 0
IsOther word name = (bytes_eq word name ≡ false) × ((bytes_eq name word || false) ≡ false)

-- a word is this command's name, or what it is shown to be otherwise
or-another : (word name : Bytes) → IsCommand name → (IsOther word name → IsCommand word ⊎ IsNone word) →
    IsCommand word ⊎ IsNone word
or-another word name is otherwise = by_name (bytes_eq word name) refl where
  by_name : (b : Bool) → bytes_eq word name ≡ b → IsCommand word ⊎ IsNone word
  by_name true e = inl (subst IsCommand (sym ((bytes_eq-Decides word name).0 e)) is)
  by_name false e = otherwise (e, ap (λ b. b || false) (other-way word name e))

pub which-command : (word : Bytes) → IsCommand word ⊎ IsNone word
which-command word = by_command (on_file word) refl where
  by_command : (o : Option FileCommand) → on_file word ≡ o → IsCommand word ⊎ IsNone word
  by_command (Some command) is = inl (file-is-one word command is)
  by_command None is =
      or-another word (codes "node") node-is-one (λ no_node.
      or-another word (codes "synth") synth-is-one (λ no_synth.
      or-another word (codes "demo") demo-is-one (λ no_demo.
      let unmet : shape_named word others ≡ None =
      not-first _ _ _ _ no_node.1 (not-first _ _ _ _ no_synth.1 (not-first _ _ _ _ no_demo.1 refl)) in
      inr (record {
        met = met-by-name word None (by-table word None is ∙ unmet);
        unknown = no-options word no_node.0 no_synth.0 no_demo.0 ∙ ap (option_map (λ command. [])) is;
      }))))
