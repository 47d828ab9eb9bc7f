use Rattle.std.proofs.Common.{◌∙◌, ◌++◌, ap, sym, subst, length, map, List}
use Rattle.std.specs.List.{slice_get}
use Rattle.std.proofs.Math.ListN.{set}
use Rattle.schema_table.specs.declared.slot.AttrSlot.{AttrSlot}
use Rattle.schema_table.specs.declared.shares.Share.{Share}
use Rattle.schema_table.specs.Schema.{upwards}
use Rattle.schema_table.specs.Shares.{KeepsParts, IsPart, part, list_at, slot_of}
use Rattle.schema_table.proofs.Sharing.{list_lengthened, lengthened_part, parts_then}
use Rattle.schema_table.proofs.shares.share_of.Goals as goal

pub returns-clause-kept : goal.returns-clause-kept
returns-clause-kept c =
    let begun = c.in_ok-begun.begun in
    let longer = list_lengthened c.start.new.lists.items begun.list (map (slot_of (upwards c.args.entities.now (length c.args.entities.now) (slice_get c.args.entities.now c.args.number))) c.args.entity.now.own) c.in_ok-begun.ensures.begins.there.0 in
    parts_then c.args.lists.now.items c.start.new.lists.items c.lengthened.new.lists.items c.in_ok-begun.ensures.kept
    (subst (KeepsParts c.start.new.lists.items) (sym c.in_ok-share.ensures.lists) longer)

pub returns-clause-part : goal.returns-clause-part
returns-clause-part c =
    let begun = c.in_ok-begun.begun in
    let whole = lengthened_part c.start.new.lists.items begun c.args.entity.now.own (slot_of (upwards c.args.entities.now (length c.args.entities.now) (slice_get c.args.entities.now c.args.number))) c.in_ok-begun.ensures.begins.there c.in_ok-begun.ensures.begins.at_end in
    let lists : List (List AttrSlot) = set c.start.new.lists.items begun.list (list_at c.start.new.lists.items begun.list ++ map (slot_of (upwards c.args.entities.now (length c.args.entities.now) (slice_get c.args.entities.now c.args.number))) c.args.entity.now.own) in
    subst (λ (l : List (List AttrSlot)). IsPart l c.in_ok-share.share) (sym c.in_ok-share.ensures.lists) (subst (λ (s : Share). IsPart lists s) (sym c.in_ok-share.ensures.share) whole.0)

pub returns-clause-slots : goal.returns-clause-slots
returns-clause-slots c =
    let begun = c.in_ok-begun.begun in
    let f = slot_of (upwards c.args.entities.now (length c.args.entities.now) (slice_get c.args.entities.now c.args.number)) in
    let lists : List (List AttrSlot) = set c.start.new.lists.items begun.list (list_at c.start.new.lists.items begun.list ++ map f c.args.entity.now.own) in
    let whole = lengthened_part c.start.new.lists.items begun c.args.entity.now.own f c.in_ok-begun.ensures.begins.there c.in_ok-begun.ensures.begins.at_end in
    ap (λ (l : List (List AttrSlot)). part l c.in_ok-share.share) c.in_ok-share.ensures.lists ∙ ap (part lists) c.in_ok-share.ensures.share ∙ whole.1
    ∙ ap (λ (l : List AttrSlot). l ++ map f c.args.entity.now.own) c.in_ok-begun.ensures.begins.inherited
