use Rattle.std.proofs.Common.{◌∙◌, ◌||◌, ap, sym}
use Rattle.std.specs.Option.{option_copied}
use Rattle.inverse_index.specs.Index.{change_id, has_key}
use Rattle.inverse_index.specs.Changed.{changed_at}
use Rattle.inverse_index.proofs.Replacing.{own_id, same_id}
use Rattle.inverse_index.proofs.Changing.{are_changed, none_are_changed, none_ascend}
use Rattle.inverse_index.proofs.index.InverseIndex.changed_keys.Goals as goal

pub returns-in_default-clause-changed : goal.returns-in_default-clause-changed
returns-in_default-clause-changed c = rw (c.from_vec.ensures, c.new-keys.ensures.items) (none_are_changed c.args.schema.now (option_copied c.args.old) (option_copied c.args.new) (sym c.id_of_change.ensures ∙ c.in_default.is))

pub returns-in_default-clause-ascending : goal.returns-in_default-clause-ascending
returns-in_default-clause-ascending c = rw (c.from_vec.ensures, c.new-keys.ensures.items) none_ascend

pub returns-clause-changed : goal.returns-clause-changed
returns-clause-changed c =
    are_changed c.args.schema.now (change_id (option_copied c.args.old) (option_copied c.args.new)) (option_copied c.args.old) (option_copied c.args.new) c.in_ok-keys.keys (own_id (option_copied c.args.old) (option_copied c.args.new))
    (λ k. c.in_ok-keys.ensures.same k ∙ ap (λ ks. has_key ks k) c.as_slice.ensures.value ∙ c.in_ok-push_changed.ensures k ∙ ap (λ ks. has_key ks k || changed_at c.args.schema.now c.in-Some.n (option_copied c.args.old) (option_copied c.args.new) k) c.new-keys.ensures.items
    ∙ ap (λ i. changed_at c.args.schema.now i (option_copied c.args.old) (option_copied c.args.new) k) (sym (same_id (option_copied c.args.old) (option_copied c.args.new) c.in-Some.n (sym c.id_of_change.ensures ∙ c.in-Some.is))))
