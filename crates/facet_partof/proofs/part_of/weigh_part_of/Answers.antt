use Rattle.std.proofs.Common.{List, [], ◌++◌, subst, ap}
use Rattle.ifc_base.specs.declared.key.Key.{Key}
use Rattle.audit_model.specs.declared.facet.Facet.TheVariants.{PartOf}
use Rattle.audit_model.specs.Facets.{holds_alike}
use Rattle.audit_model.specs.Reading.{told}
use Rattle.audit_model.specs.Verdicts.{weigh, part_of_weighed}
use Rattle.closure_walk.specs.Walking.{SameKeys}
use Rattle.facet_paths.specs.Reads.{Reads}
use Rattle.facet_paths.proofs.Joins.{reads_then}
use Rattle.facet_paths.proofs.Same.{same_after, told_read}
use Rattle.std.proofs.Common.{refl}
use Rattle.facet_partof.proofs.part_of.weigh_part_of.Goals as goal

pub returns-clause-weighed : goal.returns-clause-weighed
returns-clause-weighed g c = ap holds_alike c.in_ok-holds.ensures.answer_is

pub returns-clause-reads : goal.returns-clause-reads
returns-clause-reads g c =
    let s = c.args.schema.now in
    let v = g.L.Look.seen c.args.look.now in
    let ks : List Key = (weigh s (PartOf c.args.facet.now) c.args.elem).keys v in
    let whole : Reads (weigh s (PartOf c.args.facet.now) c.args.elem) v (holds_alike c.in_ok-holds.holds) c.new-own.result.items c.look_and_weigh.new.reads.items
    = reads_then (part_of_weighed s c.args.facet.now c.args.facet.now.entity c.args.elem) (λ b. told (holds_alike b)) v c.in_ok-holds.holds (holds_alike c.in_ok-holds.holds) c.new-own.result.items c.look_and_weigh.new.reads.items c.look_and_weigh.new.reads.items
    c.in_ok-holds.ensures (told_read (holds_alike c.in_ok-holds.holds) (holds_alike c.in_ok-holds.holds) v c.look_and_weigh.new.reads.items refl) in
    let h : SameKeys c.look_and_weigh.new.reads.items ([] ++ ks) = subst (λ xs. SameKeys c.look_and_weigh.new.reads.items (xs ++ ks)) c.new-own.ensures.items whole.reads_same in
    same_after _ c.args.reads.now c.look_and_weigh.new.reads.items ks (rw c.as_slice.ensures.value at c.in_ok-append_keys.ensures.ok) h
