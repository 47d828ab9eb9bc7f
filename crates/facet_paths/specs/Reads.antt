-- What a call appends: the answer of a reading to one list, its keys to another.
use Rattle.std.specs.Prelude.{◌≡◌, ℕ, List, ◌++◌}
use Rattle.ifc_base.specs.declared.key.Key.{Key}
use Rattle.audit_model.specs.Keys.{Sight}
use Rattle.audit_model.specs.Reading.{Reading}
use Rattle.closure_walk.specs.Walking.{SameKeys}

-- the answer and the keys are appended
pub record Appends (r : Reading (List ℕ)) (v : Sight) (ends ends' : List ℕ) (reads reads' : List Key) : Type 0 where
  pub ends_are : ends' ≡ ends ++ r.answer v
  pub reads_are : reads' ≡ reads ++ r.keys v

-- the answer, and the keys appended in some order
pub record Reads {A : Type 0} (r : Reading A) (v : Sight) (answer : A) (reads reads' : List Key) : Type 0 where
  pub answer_is : answer ≡ r.answer v
  pub reads_same : SameKeys reads' (reads ++ r.keys v)
