use Rattle.std.proofs.Common.{◌≡◌, subst, sym, ◌∙◌, ◌++◌}
use Rattle.std.specs.Prelude.{is_some}
use Rattle.audit_model.specs.Relations.{part_of_kind}
use Rattle.audit_model.specs.Reading.{visit}
use Rattle.audit_model.specs.Verdicts.{seen_for, part_of_weighed}
use Rattle.closure_walk.specs.Walking.{SameKeys}
use Rattle.facet_paths.specs.Reads.{Reads}
use Rattle.facet_paths.proofs.Same.{any_seen}
use Rattle.facet_partof.proofs.Whole.{any_made, kind_made}
use Rattle.facet_partof.proofs.part_of.look_and_weigh.Goals as goal

pub returns-in-None : goal.returns-in-None
returns-in-None g c =
    let s = c.args.schema.now in
    let v = g.L.Look.seen c.args.look.now in
    subst (λ o. Reads (part_of_weighed s c.args.facet.now o c.args.elem) v c.is_any_there-holds.result c.args.reads.now.items c.ancestors_of.new.reads.items) (sym c.in-None.is)
    (any_made s v c.args.facet.now c.args.elem c.in_ok-ids.ids.items c.is_any_there-holds.result c.args.reads.now.items c.ancestors_of.new.reads.items c.in_ok-ids.ensures
    (rw c.as_slice.ensures.value at c.is_any_there-holds.ensures ∙ any_seen is_some v.instance c.in_ok-ids.ids.items))

pub returns : goal.returns
returns g c =
    let s = c.args.schema.now in
    let v = g.L.Look.seen c.args.look.now in
    subst (λ o. Reads (part_of_weighed s c.args.facet.now o c.args.elem) v c.in_ok-holds-in-Some.holds c.args.reads.now.items c.is_any_of_kind.new.reads.items) (sym c.in-Some.is)
    (kind_made s v c.args.facet.now _ c.args.elem c.in_ok-ids.ids.items c.in_ok-holds-in-Some.holds c.args.reads.now.items c.ancestors_of.new.reads.items c.is_any_of_kind.new.reads.items c.in_ok-ids.ensures
    (subst (λ xs. c.in_ok-holds-in-Some.holds ≡ part_of_kind s c.in-Some.entity ((visit (seen_for s c.in-Some.entity.predefined) xs).answer v)) c.as_slice-in-Some.ensures.value c.in_ok-holds-in-Some.ensures.holds)
    (subst (λ xs. SameKeys c.is_any_of_kind.new.reads.items (c.ancestors_of.new.reads.items ++ (visit (seen_for s c.in-Some.entity.predefined) xs).keys v)) c.as_slice-in-Some.ensures.value c.in_ok-holds-in-Some.ensures.reads))
