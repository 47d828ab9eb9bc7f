-- The command line, as `clap` sees it, and what its words ask for.
use Rattle.std.specs.Prelude.{◌≡◌, ◌||◌, Bool, true, false, is_some, if◌then◌else◌, List, [], ◌∷◌, Option, Some, None, codes}
use Rattle.std.specs.Str.{bytes_eq}
use Rattle.clap.specs.Words.{App, Row, Rule, Text, Kinds, fault_of, first_of, new_app, new_rule, subcommand_of, with_rule, with_subcommand}
use Rattle.clap.specs.Simple.{on_top}
use Rattle.ifc_base.specs.declared.memory.Refusal.{Refusal}
use Rattle.ifc_base.specs.declared.memory.Refusal.TheVariants.{Fault, Memory}
use Rattle.command_line.specs.declared.command.NotTaken.{NotTaken}
use Rattle.command_line.specs.declared.command.Names.{Names}
use Rattle.command_line.specs.declared.command.Command.{Command as Asked}
use Rattle.command_line.specs.declared.command.Command.TheVariants.{Replay}

-- ---- the command line

-- a required positional
abbrev pub input_rule : Text → Rule
input_rule id = record (new_rule id) { required = true }

-- the four inputs: schema, specifications, model, script
unfoldable pub with_inputs : App → App
with_inputs a = with_rule (with_rule (with_rule (with_rule a
    (input_rule (codes "schema"))) (input_rule (codes "specs"))) (input_rule (codes "model")))
    (input_rule (codes "script"))

unfoldable pub replay_app : App
replay_app = with_inputs (new_app (codes "replay"))

-- A command that must have a subcommand, over words without the program's name. Its one subcommand is `replay`: it has none that
-- shows help.
unfoldable pub line_app : App
line_app = with_subcommand
    (on_top (λ s. record s { no_binary_name = true; subcommand_required = true; disable_help_subcommand = true }) (new_app (codes "ids_live")))
    replay_app.top

-- ---- what the words ask for

-- What the command names: the files of the four inputs, each by the bytes of its name.
pub record Command : Type 0 where
  pub schema : Text
  pub specs : Text
  pub model : Text
  pub script : Text

abbrev pub names_shown : Names → Command
names_shown names = record { schema = names.schema.now; specs = names.specs.now; model = names.model.now; script = names.script.now }

abbrev pub command_shown : Asked → Command
command_shown (Replay names) = names_shown names

abbrev pub all_four : Option Text → Option Text → Option Text → Option Text → Option Command
all_four (Some schema) (Some specs) (Some model) (Some script) = Some (record { schema = schema; specs = specs; model = model; script = script })
all_four _ _ _ _ = None

-- each input is the first value of its positional
abbrev pub inputs_in : List Row → Option Command
inputs_in rows = all_four (first_of (codes "schema") rows) (first_of (codes "specs") rows) (first_of (codes "model") rows) (first_of (codes "script") rows)

-- the command of a subcommand with its matches
abbrev pub named : Option (Text × List Row) → Option Command
named None = None
named (Some p) = if bytes_eq p.0 (codes "replay") then inputs_in p.1 else None

abbrev pub unless_fault : Kinds → Option Command → Option Command
unless_fault [] command = command
unless_fault (k ∷ ks) command = None

-- What the words ask for: the subcommand that they name, with its inputs, where `clap` finds no fault in them.
unfoldable pub command_of : List Text → Option Command
command_of words = unless_fault (fault_of line_app words) (named (subcommand_of line_app words))

-- ---- what a line that is taken has

abbrev pub AllGiven : List Row → Type 0
AllGiven rows = (is_some (first_of (codes "schema") rows) ≡ true) × (is_some (first_of (codes "specs") rows) ≡ true)
    × (is_some (first_of (codes "model") rows) ≡ true) × (is_some (first_of (codes "script") rows) ≡ true)

-- a subcommand of the command, with a value for each input
abbrev pub IsGiven : Option (Text × List Row) → Type 0
IsGiven None = ⊥
IsGiven (Some p) = (p.0 ≡ codes "replay") × AllGiven p.1

abbrev pub is_input : Text → Bool
is_input id = bytes_eq (codes "schema") id || (bytes_eq (codes "specs") id || (bytes_eq (codes "model") id || bytes_eq (codes "script") id))

abbrev pub is_fault : Refusal NotTaken → Bool
is_fault (Fault f) = true
is_fault Memory = false
