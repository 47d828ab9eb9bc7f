use Rattle.std.proofs.Common.{◌≡◌, take}
use Rattle.audit_model.specs.Ascending.{union}
use Rattle.closure_walk.specs.Walking.{IsFresh}
use Rattle.closure_walk.proofs.closing.add_all.Given as goal

abbrev pub invariant-loop-id : goal.invariant-loop-id
invariant-loop-id l = record {
  members : l.members.keys ≡ union l.initial.members.keys (take l.id-index l.ids);
  fresh : IsFresh l.initial.members.keys l.members.keys l.fresh.items;
}
