use Rattle.std.proofs.Common.{[], ◌∷◌, codes}
use Rattle.std.specs.List.{flat_map}
use Rattle.audit_model.specs.Closures.{closure, most_hops}
use Rattle.audit_model.specs.Paths.{forward_by, source_path}
use Rattle.facet_paths.proofs.Same.{same_then}
use Rattle.facet_paths.proofs.Within.{same_within}
use Rattle.facet_paths.proofs.WalkLaws.{all_in_each, each_in_all}
use Rattle.facet_relations.proofs.classification.look_at_sources.Goals as goal

pub returns : goal.returns
returns g c =
    let s = c.args.schema.now in
    let v = g.L.Look.seen c.args.look.now in
    let step = forward_by s (codes "ReferencedSource" ∷ []) in
    let ids = c.args.ids.now in
    same_then c.members_of.new.reads.items c.args.reads.now.items ((closure most_hops step ids).keys v) (flat_map (λ x. (source_path s x).keys v) ids) c.in_ok-members_of.ensures.reads
    (same_within ((closure most_hops step ids).keys v) (flat_map (λ x. (source_path s x).keys v) ids) (all_in_each v step most_hops ids) (each_in_all v step most_hops ids))
