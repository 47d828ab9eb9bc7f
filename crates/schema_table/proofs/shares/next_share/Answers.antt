use Rattle.std.proofs.Common.{◌≡◌, ◌∙◌, ◌++◌, ap, sym, length, map, Option, Some, List, ℕ}
use Rattle.std.specs.List.{slice_get}
use Rattle.std.proofs.lemmas.Option.{slice_get-get_or}
use Rattle.schema_table.specs.declared.slot.AttrSlot.{AttrSlot}
use Rattle.schema_table.specs.declared.shares.Share.{Share}
use Rattle.schema_table.specs.Schema.{upwards}
use Rattle.schema_table.specs.Climbing.{entity_at, step}
use Rattle.schema_table.specs.Shares.{part, share_at, slot_of, slots_of, redeclared}
use Rattle.schema_table.proofs.Numbers.{is_whole}
use Rattle.schema_table.proofs.Inheriting.{slots_step}
use Rattle.schema_table.proofs.shares.next_share.Goals as goal

pub returns-clause-shared : goal.returns-clause-shared
returns-clause-shared c =
    let s = c.args.entities.now in
    let d = c.index-entities-number.result in
    let own = map (slot_of (upwards c.args.entities.now (length c.args.entities.now) (slice_get c.args.entities.now c.args.number))) d.own in
    let there : slice_get c.args.entities.now c.args.number ≡ Some d = slice_get-get_or c.args.entities.now c.args.number d c.requires.inside ∙ ap Some (sym c.index-entities-number.is) in
    let base : c.share_at-base.result ≡ share_at c.args.shares.now.items (step c.args.parents.now c.args.number) =
    c.share_at-base.ensures ∙ ap (λ (l : List Share). share_at l c.step.result) c.deref.ensures.value ∙ ap (share_at c.args.shares.now.items) c.step.ensures in
    let parents = c.requires.parents in
    record {
      share = c.in_ok-share.share;
      there = c.in_ok-share.ensures.part;
      has = c.in_ok-share.ensures.slots
          ∙ ap (λ (l : List AttrSlot). map (redeclared d.derived) l ++ own) (ap (part c.args.lists.now.items) base ∙ c.requires.slots ∙ ap (λ (ps : List (Option ℕ)). slots_of (upwards c.args.entities.now (length c.args.entities.now) (entity_at c.args.entities.now (step ps c.args.number)))) parents)
          ∙ sym (slots_step c.args.entities.now (is_whole c.args.entities.now _ c.requires.faultless) c.args.number d there);
      is_set = c.set_share.ensures;
    }
