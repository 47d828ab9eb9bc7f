-- A turn of reading sides that goes on leaves less.
use Rattle.std.proofs.Common.{◌≡◌, ℕ, zero, suc, ◌<◌, Bool, true, length, Ok, refl, ap, arith}
use Rattle.reading.specs.Reading.{Text}
use Rattle.xsd_pattern.specs.declared.sides.Sides.{Sides}
use Rattle.xsd_pattern.specs.Parts.{sides_turn, below}
use Rattle.xsd_pattern.proofs.PartLaws.{SoundInside, Taken, turn_is, sides_sound}
use Rattle.xsd_pattern.proofs.PartComplete.{piece_shorter}

sound_below : (d : ℕ) → SoundInside d (below d)
unfolding below
sound_below zero = tt
sound_below (suc d) = (d, refl, sides_sound d)

taken_shorter : (d : ℕ) (s : Sides) (t : Text) (goes : Bool) (r : Sides) (u : Text) → goes ≡ true → Taken d s t goes r u → length u < length t
taken_shorter d s t _ _ _ goes Taken.ends = absurd cc
taken_shorter d s t _ _ _ goes (Taken.bar v is) = omega (arith, ap length is)
taken_shorter d s t _ _ _ goes (Taken.piece x v is) = piece_shorter is

pub sides_shorten : (d : ℕ) (s : Sides) (t : Text) (r : Sides) (u : Text) → sides_turn (below d) s t ≡ Ok ((true, r), u) → length u < length t
sides_shorten d s t r u e = taken_shorter d s t true r u refl (turn_is d (below d) (sound_below d) s t ((true, r), u) e)
