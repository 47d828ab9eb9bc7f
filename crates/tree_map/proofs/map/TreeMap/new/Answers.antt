use Rattle.tree_map.proofs.Maps.{nothing}
use Rattle.tree_map.proofs.map.TreeMap.new.Goals as goal

pub returns : goal.returns
returns g c = nothing
