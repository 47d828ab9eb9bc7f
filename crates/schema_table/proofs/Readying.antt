-- What an order of entities without a fault asks.
use Rattle.std.proofs.Common.{◌≡◌, ℕ, ◌<◌, ◌≤◌, List, [], length, Option, Some, None, sym, ◌∙◌, subst}
use Rattle.schema_table.specs.Schema.{Schema}
use Rattle.schema_table.specs.Declarations.{schema_fault}
use Rattle.schema_table.specs.Climbing.{lift, parents_of}
use Rattle.schema_table.proofs.Checking.{few_enough}
use Rattle.schema_table.proofs.Lookups.{few_without_fault}
use Rattle.schema_table.proofs.Chains.{AreWithin}
use Rattle.schema_table.proofs.Numbers.{length-parents, parents_within, is_whole}

-- few parents, which are numbers of entities, and ways up that end
pub record AreReady (ps : List (Option ℕ)) : Type 0 where
  pub few : length ps ≤ 5000
  pub within : AreWithin ps
  pub ends : (i : ℕ) → i < length ps → lift ps (length ps) (Some i) ≡ None

ready_parents : (s : Schema) → schema_fault s [] ≡ None → AreReady (parents_of s)
ready_parents s e = record {
  few = subst (λ n. n ≤ 5000) (sym (length-parents s)) (few_enough s [] (few_without_fault s e));
  within = parents_within s;
  ends = λ i h. subst (λ n. lift (parents_of s) n (Some i) ≡ None) (sym (length-parents s)) ((is_whole s [] e).ends i (subst (λ n. i < n) (length-parents s) h));
}

pub are_ready : (s : Schema) (ps qs : List (Option ℕ)) → schema_fault s [] ≡ None → ps ≡ parents_of s → qs ≡ ps → AreReady qs
are_ready s ps qs e f g = subst AreReady (sym (g ∙ f)) (ready_parents s e)
