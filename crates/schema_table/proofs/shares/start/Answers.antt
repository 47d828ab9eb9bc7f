use Rattle.std.proofs.Common.{◌∙◌, ap, sym, List}
use Rattle.schema_table.specs.declared.slot.AttrSlot.{AttrSlot}
use Rattle.schema_table.specs.Shares.{may_share}
use Rattle.schema_table.proofs.Sharing.{begins_there}
use Rattle.schema_table.proofs.shares.start.Goals as goal

pub returns-then-may_share-clause-begins : goal.returns-then-may_share-clause-begins
returns-then-may_share-clause-begins c =
    begins_there c.args.lists.now.items c.args.base c.args.entity.now c.requires
    (ap (λ (l : List (List AttrSlot)). may_share l c.args.base c.args.entity.now) (sym c.deref.ensures.value) ∙ sym c.if-may_share.ensures)
