use Rattle.std.proofs.Common.{take}
use Rattle.facet_property.specs.Held.{HasTexts, texts_of}
use Rattle.facet_property.proofs.hiding.texts_in.Given as goal

abbrev pub invariant-loop-name : goal.invariant-loop-name
invariant-loop-name l = HasTexts l.texts.keys (texts_of (take l.name-index l.names))
