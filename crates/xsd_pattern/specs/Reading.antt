-- A whole text: its tree, or its first fault. What a fault's place says is the number of a character, from 1.
use Rattle.std.specs.Prelude.{ℕ, ◌+◌, ◌-◌, [], ◌∷◌, length, Result, Ok, Err, nat_le, if◌then◌else◌}
use Rattle.ifc_base.specs.declared.memory.Refusal.{Refusal}
use Rattle.ifc_base.specs.declared.memory.Refusal.TheVariants as refusal
use Rattle.reading.specs.declared.stop.Stop.{Stop}
use Rattle.reading.specs.declared.stop.Stop.TheVariants as stop
use Rattle.reading.specs.Codes.{codes_of}
use Rattle.reading.specs.Reading.{Text, Refused, ◌>>=◌, refuse}
use Rattle.pattern_tree.specs.declared.tree.Tree.{Tree}
use Rattle.pattern_tree.specs.Trees.{weight}
use Rattle.xsd_pattern.specs.declared.fault.PatternCause.{PatternCause}
use Rattle.xsd_pattern.specs.declared.fault.PatternCause.TheVariants.{Syntax, TooLong, TooManyRepeats}
use Rattle.xsd_pattern.specs.declared.fault.PatternFault.{PatternFault}
use Rattle.xsd_pattern.specs.declared.sides.Sides.{Sides}
use Rattle.xsd_pattern.specs.Parts.{choice, sides}

-- at most so many characters
abbrev pub most_characters : ℕ
most_characters = 1000

-- at most so many groups one within the other
abbrev pub most_groups : ℕ
most_groups = 32

abbrev pub most_weight : ℕ
most_weight = 100000

-- behind the sides of the whole text nothing stands
unfoldable pub whole_end : Sides × Text → Result Tree (Refused PatternCause)
whole_end (s, []) = Ok (choice s)
whole_end (s, c ∷ t) = refuse Syntax (c ∷ t)

-- from left to right, whatever its length and its weight
unfoldable pub whole : Text → Result Tree (Refused PatternCause)
whole t = sides most_groups t >>= whole_end

-- The fault where reading the text stopped: with the number of the character there, which is one more than there are where it
-- is the end.
abbrev pub located : Text → Refused PatternCause → PatternFault
located text r = record { at = length text - length r.at + 1; why = r.why }

-- What a call answers where reading this text stopped.
abbrev pub refusal_of : Text → Stop PatternCause → Refusal PatternFault
refusal_of text stop.Memory = refusal.Memory
refusal_of text (stop.Refused why at) = refusal.Fault (located text (record { why = why; at = codes_of at.now }))

-- a fault of the whole text
abbrev pub of_all : PatternCause → PatternFault
of_all why = record { at = 0; why = why }

abbrev pub weighed : Tree → Result Tree PatternFault
weighed x = if nat_le (weight x) most_weight then Ok x else Err (of_all TooManyRepeats)

abbrev pub answered : Text → Result Tree (Refused PatternCause) → Result Tree PatternFault
answered text (Ok x) = weighed x
answered text (Err r) = Err (located text r)

-- The length comes first, then what is read from the left, then the weight.
unfoldable pub reading : Text → Result Tree PatternFault
reading text = if nat_le (length text) most_characters then answered text (whole text) else Err (of_all TooLong)
