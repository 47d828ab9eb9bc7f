use Rattle.std.proofs.Common.{◌∙◌, ◌||◌, ◌&&◌, not, ap}
use Rattle.std.specs.Option.{option_copied}
use Rattle.ifc_base.specs.declared.key.Key.TheVariants.{Inst}
use Rattle.ifc_base.specs.KeyOrder.{key_eq}
use Rattle.audit_model.specs.Keys.{same_place}
use Rattle.inverse_index.specs.Index.{has_key, stands}
use Rattle.inverse_index.specs.Changed.{changed_at}
use Rattle.inverse_index.proofs.Refers.{gone_is}
use Rattle.inverse_index.proofs.Differences.{appended, all_three}
use Rattle.inverse_index.proofs.changed.push_changed.Goals as goal

pub returns : goal.returns
unfolding changed_at
returns c = λ k.
    let o = stands c.args.schema.now (option_copied c.args.old) k in
    let w = stands c.args.schema.now (option_copied c.args.new) k in
    let gone = gone_is c.args.schema.now (option_copied c.args.old) (option_copied c.args.new) c.as_slice.result.now c.as_slice-2.result.now k (has_key c.in_ok-gone.field-0.gone.items k) (c.in_ok-gone.ensures.gone k) (c.as_slice.ensures.value ∙ c.in_ok-olds.ensures) (c.as_slice-2.ensures.value ∙ c.in_ok-news.ensures) in
    let come = gone_is c.args.schema.now (option_copied c.args.new) (option_copied c.args.old) c.as_slice-2.result.now c.as_slice.result.now k (has_key c.in_ok-gone.field-0.come.items k) (c.in_ok-gone.ensures.come k) (c.as_slice-2.ensures.value ∙ c.in_ok-news.ensures) (c.as_slice.ensures.value ∙ c.in_ok-olds.ensures) in
    all_three (has_key c.args.out.now.items k) (key_eq (Inst c.args.n) k && not (same_place (option_copied c.args.old) (option_copied c.args.new))) (o && not w) (w && not o)
    (has_key c.push_own.new.out.items k) (has_key c.push_all.new.out.items k) (has_key c.push_all-2.new.out.items k)
    (c.in_ok-push_own.ensures k ∙ ap (λ b. has_key c.args.out.now.items k || key_eq (Inst c.args.n) k && b) c.differs-changed.ensures)
    (appended c.push_own.new.out.items c.as_slice-3.result.now c.push_all.new.out.items k c.in_ok-push_all.ensures ∙ ap (λ b. has_key c.push_own.new.out.items k || b) (ap (λ ks. has_key ks k) c.as_slice-3.ensures.value ∙ gone))
    (appended c.push_all.new.out.items c.as_slice-4.result.now c.push_all-2.new.out.items k c.in_ok-push_all-2.ensures ∙ ap (λ b. has_key c.push_all.new.out.items k || b) (ap (λ ks. has_key ks k) c.as_slice-4.ensures.value ∙ come))
