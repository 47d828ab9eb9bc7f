use Rattle.std.proofs.Common.{List, [], ◌++◌, subst}
use Rattle.ifc_base.specs.declared.key.Key.{Key}
use Rattle.closure_walk.specs.Walking.{SameKeys}
use Rattle.facet_paths.specs.WalkEnds.{path_keys}
use Rattle.facet_paths.proofs.Same.{same_after}
use Rattle.facet_paths.proofs.path.walk.Goals as goal

pub returns-clause-ends : goal.returns-clause-ends
returns-clause-ends g c = c.in_ok-ends.ensures.ends_are

pub returns-clause-reads : goal.returns-clause-reads
returns-clause-reads g c =
    let ks : List Key = path_keys c.args.schema.now (g.L.Look.seen c.args.look.now) c.args.path c.args.from in
    let h : SameKeys c.walk_along.new.reads.items ([] ++ ks) = subst (λ xs. SameKeys c.walk_along.new.reads.items (xs ++ ks)) c.new-own.ensures.items c.in_ok-ends.ensures.reads_same in
    same_after _ c.args.reads.now c.walk_along.new.reads.items ks (rw c.as_slice.ensures.value at c.in_ok-append_keys.ensures.ok) h
