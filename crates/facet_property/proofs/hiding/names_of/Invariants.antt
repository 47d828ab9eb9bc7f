use Rattle.std.proofs.Common.{take}
use Rattle.facet_property.specs.Held.{HasNames, properties_of}
use Rattle.facet_property.proofs.hiding.names_of.Given as goal

abbrev pub invariant-loop-p : goal.invariant-loop-p
invariant-loop-p l = HasNames l.names.keys (properties_of (take l.p-index l.own))
