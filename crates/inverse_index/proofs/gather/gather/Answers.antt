use Rattle.std.proofs.Common.{◌≡◌, ◌++◌, ◌∷◌, [], Some, ap, ◌∙◌, if◌then◌else◌, unwrap_or}
use Rattle.std.specs.Map.{lookup}
use Rattle.std.specs.BTreeMap as tree
use Rattle.ifc_base.specs.KeyOrder.{key_cmp}
use Rattle.inverse_index.specs.Index.{has_key, is_listed}
use Rattle.inverse_index.specs.Gathered.{gathered}
use Rattle.inverse_index.proofs.Refers.{listed_is}
use Rattle.inverse_index.proofs.Gathering.{standing_more}
use Rattle.inverse_index.proofs.gather.gather.Goals as goal

pub loop-x-init : goal.loop-x-init
unfolding gathered
loop-x-init c = λ k. ap (λ es. unwrap_or (lookup (tree.is_at (key_cmp k)) es) []) c.new-lists.ensures.empty

pub loop-x-preserved : goal.loop-x-preserved
loop-x-preserved c = λ k.
    let same : has_key c.as_slice.result.now k ≡ is_listed c.args.schema.now (Some c.x-item.result) k =
    listed_is c.args.schema.now (Some c.x-item.result) c.as_slice.result.now k (c.as_slice.ensures.value ∙ c.in_ok-keys.ensures) in
    standing_more (λ x. is_listed c.args.schema.now (Some x) k) c.args.instances.now c.loop-x.x-index c.x-item.result (has_key c.as_slice.result.now k) (gathered c.push_once.new.lists k) c.loop-x-test.true c.x-item.is same
    (c.in_ok-push_once.ensures k ∙ ap (λ xs. if has_key c.as_slice.result.now k then xs ++ c.x-item.result.id ∷ [] else xs) (c.loop-x.invariant k))
