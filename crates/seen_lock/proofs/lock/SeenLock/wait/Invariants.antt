use Rattle.std.proofs.Common.{◌≡◌, length}
use Rattle.seen_lock.proofs.lock.SeenLock.wait.Given as goal

abbrev pub invariant-loop : goal.invariant-loop
invariant-loop g l =
    (goal.iterator-loop g).can_next l.iterator' × (goal.iterator-loop g).is_finite l.iterator'
    × (l.place.table_id ≡ l.fn.place.table_id) × (l.place.id ≡ l.fn.place.id) × (l.place.me ≡ l.fn.place.me)

abbrev pub ghosts-look : goal.ghosts-look
ghosts-look g a = record {
  fits = λ y. g.S.Journaled.ground y ≡ g.S.Journaled.ground a.self.now.table.shared.key.state.value;
  from = length (g.S.Journaled.entries a.self.now.table.shared.key.state.value);
}
