-- The words of the command.
use Rattle.std.specs.Prelude.{ℕ, List, [], ◌∷◌, Option, Some, None, codes, if◌then◌else◌}
use Rattle.std.specs.Str.{bytes_eq}
use Rattle.ids_live.specs.declared.words.Names.{Names}

-- what the command names: the files of the four inputs, each by the bytes of its name
pub record Command : Type 0 where
  pub schema : List ℕ
  pub specs : List ℕ
  pub model : List ℕ
  pub script : List ℕ

-- `replay` and four names, and nothing else
abbrev pub command_of : List (List ℕ) → Option Command
command_of (word ∷ schema ∷ specs ∷ model ∷ script ∷ []) =
    if bytes_eq word (codes "replay") then Some (record { schema = schema; specs = specs; model = model; script = script }) else None
command_of _ = None

abbrev pub command_shown : Names → Command
command_shown names = record { schema = names.schema.now; specs = names.specs.now; model = names.model.now; script = names.script.now }
