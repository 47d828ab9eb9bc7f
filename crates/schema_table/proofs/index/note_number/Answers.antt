use Rattle.std.proofs.Common.{◌≡◌, ℕ, List, Some, ap, sym, false, ◌∙◌, subst, cond}
use Rattle.std.specs.HashMap.{get_by_text}
use Rattle.std.specs.Option.{is_some}
use Rattle.std.specs.String.{string_bytes}
use Rattle.std.specs.Str.{bytes_eq}
use Rattle.std.proofs.lemmas.Map.Text.{hash_map_updates_text}
use Rattle.schema_table.proofs.Indexing.{noted}
use Rattle.schema_table.proofs.index.note_number.Goals as goal

pub returns-in_ok-insert : goal.returns-in_ok-insert
returns-in_ok-insert c = λ text.
    let key : List ℕ = string_bytes c.in_ok-from_str.field-0 in
    let is : key ≡ c.args.name.now = c.in_ok-from_str.ensures.ok in
    hash_map_updates_text key c.args.index.now c.insert.new.self (Some c.args.number) c.in_ok-insert.ensures.updates text
    ∙ ap (λ k. cond (bytes_eq k text) (Some c.args.number) (get_by_text c.args.index.now text)) is
    ∙ noted (get_by_text c.args.index.now text) c.args.name.now text c.args.number (λ e. subst (λ (t : List ℕ). is_some (get_by_text c.args.index.now t) ≡ false) e (sym c.if-not-contains_key.ensures))
