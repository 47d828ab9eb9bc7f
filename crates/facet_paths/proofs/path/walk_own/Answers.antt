use Rattle.std.proofs.Common.{◌≡◌, [], ◌∷◌, rules}
use Rattle.facet_paths.proofs.WalkLaws.{own_walked}
use Rattle.facet_paths.proofs.path.walk_own.Goals as goal

pub returns : goal.returns
returns g c =
    let one : c.push-2.new.self.items ≡ c.args.from ∷ [] = search rules in
    own_walked c.args.schema.now (g.L.Look.seen c.args.look.now) c.args.from _ _ _ one c.in_ok-push.ensures.items
