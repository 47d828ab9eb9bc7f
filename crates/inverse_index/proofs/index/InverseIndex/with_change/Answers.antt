use Rattle.std.proofs.Common.{◌∙◌, ap, sym}
use Rattle.std.specs.Option.{option_copied}
use Rattle.inverse_index.specs.Index.{change_id, has_key}
use Rattle.inverse_index.proofs.Replacing.{follows_by, none_follows, own_id, reindexed, relisted}
use Rattle.inverse_index.proofs.index.InverseIndex.with_change.Goals as goal

pub returns-clause-lists : goal.returns-clause-lists
returns-clause-lists c =
    follows_by c.args.schema.now c.in-Some.n (option_copied c.args.old) (option_copied c.args.new) c.args.self.now c.in_ok-left.left c.in_ok-lists.lists
    c.as_slice.result.now c.as_slice-2.result.now c.as_slice-3.result.now c.as_slice-4.result.now
    (sym c.id_of_change.ensures ∙ c.in-Some.is) (c.as_slice.ensures.value ∙ c.in_ok-olds.ensures) (c.as_slice-2.ensures.value ∙ c.in_ok-news.ensures)
    (λ k. ap (λ ks. has_key ks k) c.as_slice-3.ensures.value ∙ c.in_ok-gone.ensures.gone k) (λ k. ap (λ ks. has_key ks k) c.as_slice-4.ensures.value ∙ c.in_ok-gone.ensures.come k)
    (rw (← c.self.view_is) c.in_ok-left.ensures) c.in_ok-lists.ensures

pub returns-clause-referrers : goal.returns-clause-referrers
returns-clause-referrers c =
    reindexed c.args.schema.now (change_id (option_copied c.args.old) (option_copied c.args.new)) (option_copied c.args.old) (option_copied c.args.new) c.args.self.now c.in_ok-lists.lists (own_id (option_copied c.args.old) (option_copied c.args.new))
    (follows_by c.args.schema.now c.in-Some.n (option_copied c.args.old) (option_copied c.args.new) c.args.self.now c.in_ok-left.left c.in_ok-lists.lists
    c.as_slice.result.now c.as_slice-2.result.now c.as_slice-3.result.now c.as_slice-4.result.now
    (sym c.id_of_change.ensures ∙ c.in-Some.is) (c.as_slice.ensures.value ∙ c.in_ok-olds.ensures) (c.as_slice-2.ensures.value ∙ c.in_ok-news.ensures)
    (λ k. ap (λ ks. has_key ks k) c.as_slice-3.ensures.value ∙ c.in_ok-gone.ensures.gone k) (λ k. ap (λ ks. has_key ks k) c.as_slice-4.ensures.value ∙ c.in_ok-gone.ensures.come k)
    (rw (← c.self.view_is) c.in_ok-left.ensures) c.in_ok-lists.ensures)

pub returns-clause-holders : goal.returns-clause-holders
returns-clause-holders c =
    relisted c.args.schema.now (change_id (option_copied c.args.old) (option_copied c.args.new)) (option_copied c.args.old) (option_copied c.args.new) c.args.self.now c.in_ok-lists.lists (own_id (option_copied c.args.old) (option_copied c.args.new))
    (follows_by c.args.schema.now c.in-Some.n (option_copied c.args.old) (option_copied c.args.new) c.args.self.now c.in_ok-left.left c.in_ok-lists.lists
    c.as_slice.result.now c.as_slice-2.result.now c.as_slice-3.result.now c.as_slice-4.result.now
    (sym c.id_of_change.ensures ∙ c.in-Some.is) (c.as_slice.ensures.value ∙ c.in_ok-olds.ensures) (c.as_slice-2.ensures.value ∙ c.in_ok-news.ensures)
    (λ k. ap (λ ks. has_key ks k) c.as_slice-3.ensures.value ∙ c.in_ok-gone.ensures.gone k) (λ k. ap (λ ks. has_key ks k) c.as_slice-4.ensures.value ∙ c.in_ok-gone.ensures.come k)
    (rw (← c.self.view_is) c.in_ok-left.ensures) c.in_ok-lists.ensures)

pub returns-in_default-clause-lists : goal.returns-in_default-clause-lists
returns-in_default-clause-lists c = none_follows c.args.schema.now (option_copied c.args.old) (option_copied c.args.new) c.args.self.now c.in_ok-same.same (sym c.id_of_change.ensures ∙ c.in_default.is) c.in_ok-same.ensures

pub returns-in_default-clause-referrers : goal.returns-in_default-clause-referrers
returns-in_default-clause-referrers c =
    reindexed c.args.schema.now (change_id (option_copied c.args.old) (option_copied c.args.new)) (option_copied c.args.old) (option_copied c.args.new) c.args.self.now c.in_ok-same.same (own_id (option_copied c.args.old) (option_copied c.args.new))
    (none_follows c.args.schema.now (option_copied c.args.old) (option_copied c.args.new) c.args.self.now c.in_ok-same.same (sym c.id_of_change.ensures ∙ c.in_default.is) c.in_ok-same.ensures)

pub returns-in_default-clause-holders : goal.returns-in_default-clause-holders
returns-in_default-clause-holders c =
    relisted c.args.schema.now (change_id (option_copied c.args.old) (option_copied c.args.new)) (option_copied c.args.old) (option_copied c.args.new) c.args.self.now c.in_ok-same.same (own_id (option_copied c.args.old) (option_copied c.args.new))
    (none_follows c.args.schema.now (option_copied c.args.old) (option_copied c.args.new) c.args.self.now c.in_ok-same.same (sym c.id_of_change.ensures ∙ c.in_default.is) c.in_ok-same.ensures)
