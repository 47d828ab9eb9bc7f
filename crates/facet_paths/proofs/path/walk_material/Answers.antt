use Rattle.std.proofs.Common.{◌≡◌, ◌++◌, subst}
use Rattle.audit_model.specs.Closures.{closure, most_hops}
use Rattle.audit_model.specs.Paths.{forward_by, material_attributes}
use Rattle.closure_walk.specs.Walking.{SameKeys}
use Rattle.facet_paths.proofs.WalkLaws.{material_walked}
use Rattle.facet_paths.proofs.path.walk_material.Goals as goal

pub returns : goal.returns
returns g c =
    let s = c.args.schema.now in
    let v = g.L.Look.seen c.args.look.now in
    material_walked s v c.args.from c.in_ok-starts.starts.items c.in_ok-ends.ends.items c.args.reads.now.items c.related_of.new.reads.items c.members_of.new.reads.items c.in_ok-starts.ensures.ends c.in_ok-starts.ensures.reads
    (subst (λ xs. c.in_ok-ends.ends.items ≡ (closure most_hops (forward_by s (material_attributes)) xs).answer v) c.as_slice.ensures.value c.in_ok-ends.ensures.ids)
    (subst (λ xs. SameKeys c.members_of.new.reads.items (c.related_of.new.reads.items ++ (closure most_hops (forward_by s (material_attributes)) xs).keys v)) c.as_slice.ensures.value c.in_ok-ends.ensures.reads)
