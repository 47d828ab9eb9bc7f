use Rattle.std.proofs.Common.{◌≡◌, [], ◌∷◌, ◌++◌, subst, rules, codes}
use Rattle.audit_model.specs.Closures.{closure, most_hops}
use Rattle.audit_model.specs.Paths.{forward_by}
use Rattle.closure_walk.specs.Walking.{SameKeys}
use Rattle.facet_paths.proofs.Same.{stands_again}
use Rattle.facet_relations.proofs.classification.weigh_reference.Goals as goal

pub returns-clause-reads : goal.returns-clause-reads
returns-clause-reads g c =
    let s = c.args.schema.now in
    let v = g.L.Look.seen c.args.look.now in
    let one : c.as_slice.result.now ≡ c.args.id ∷ [] = search rules in
    let e : c.in_ok-members.members.items ≡ (closure most_hops (forward_by s (codes "ReferencedSource" ∷ [])) (c.args.id ∷ [])).answer v
    = subst (λ xs. c.in_ok-members.members.items ≡ (closure most_hops (forward_by s (codes "ReferencedSource" ∷ [])) xs).answer v) one c.in_ok-members.ensures.ids in
    let h : SameKeys c.members_of.new.reads.items (c.args.reads.now.items ++ (closure most_hops (forward_by s (codes "ReferencedSource" ∷ [])) (c.args.id ∷ [])).keys v)
    = subst (λ xs. SameKeys c.members_of.new.reads.items (c.args.reads.now.items ++ (closure most_hops (forward_by s (codes "ReferencedSource" ∷ [])) xs).keys v)) one c.in_ok-members.ensures.reads in
    (stands_again most_hops (forward_by s (codes "ReferencedSource" ∷ [])) (c.args.id ∷ []) c.in_ok-members.members.items v c.args.reads.now.items c.members_of.new.reads.items e h).reads_same
