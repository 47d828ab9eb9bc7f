-- How a program takes a character: each step makes its new mark of the old ones and hands a wire on.
use Rattle.std.specs.Prelude.{ℕ, fold, replicate, length, Bool, true, false, ◌&&◌, ◌||◌, if◌then◌else◌}
use Rattle.std.specs.Prelude.{List, [], ◌∷◌, ◌++◌, slice_index_or}
use Rattle.pattern_tree.specs.declared.program.Op.{Op}
use Rattle.pattern_tree.specs.declared.program.Op.TheVariants as op
use Rattle.pattern_tree.specs.declared.program.Part.{Part}
use Rattle.pattern_tree.specs.declared.tree.Set.{Set}
use Rattle.pattern_tree.specs.declared.matcher.Progress.{Progress}
use Rattle.pattern_tree.specs.Trees.{hits_in}
use Rattle.pattern_tree.specs.declared.machine.Wire.{Wire}
use Rattle.pattern_tree.specs.declared.machine.Kept.{Kept}
use Rattle.pattern_tree.specs.declared.machine.Turn.{Turn}

-- whether the text can end here: before the next character, and behind it
abbrev pub wire : Bool → Bool → Wire
wire now next = record { now = now; next = next }

-- it can't
abbrev pub no_way : Wire
no_way = wire false false

-- one of the two ways
abbrev pub or : Wire → Wire → Wire
or one other = wire (one.now || other.now) (one.next || other.next)

-- the wire that came to an alternation or a repeat, and what was gathered of its sides
abbrev pub kept_of : Wire → Wire → Kept
kept_of came gathered = record { came = came; gathered = gathered }

-- what is kept last, and what else is kept
abbrev pub popped : List Kept → Kept × List Kept
popped [] = (kept_of no_way no_way, [])
popped (last ∷ others) = (last, others)

-- what a step gives: the wire behind it, and its new mark
abbrev pub turned : Wire → Bool → Turn
turned wire mark = record { wire = wire; mark = mark }

-- the mark so many places further on
abbrev pub mark_at : List Bool → ℕ → Bool
mark_at marks far = slice_index_or marks far false

-- what the set of the step says of the character
abbrev pub hit_of : List Bool → Op → Bool
hit_of hits (op.One at) = slice_index_or hits at false
hit_of hits _ = false

-- One step. The marks are those from the step's own on; what is kept last stands first.
abbrev pub step : Op → Bool → List Bool → Wire → List Kept → Turn × List Kept
step (op.One at) hit marks w kept = (turned (wire (mark_at marks 0) (w.now && hit)) (w.now && hit), kept)
step op.Fork hit marks w kept = (turned w false, kept_of w no_way ∷ kept)
step op.Next hit marks w kept =
    (let last = popped kept in (turned last.0.came false, kept_of last.0.came (or last.0.gathered w) ∷ last.1))
step op.Join hit marks w kept = (let last = popped kept in (turned last.0.gathered false, last.1))
step (op.Enter far) hit marks w kept = (turned (wire (w.now || mark_at marks far) false) false, kept_of w no_way ∷ kept)
step (op.Leave empty) hit marks w kept =
    (let last = popped kept in (turned (if empty then or w last.0.came else w) w.next, last.1))

-- further marks before those of a run
abbrev pub behind : List Bool → List Bool × Wire → List Bool × Wire
behind marks run = (marks ++ run.0, run.1)

-- the steps one after another, each with its mark
unfoldable pub run : List Bool → List Op → List Bool → Wire → List Kept → List Bool × Wire
run hits [] marks w kept = (marks, w)
run hits (op ∷ ops) [] w kept = ([], w)
run hits (op ∷ ops) (mark ∷ marks) w kept =
    let t = step op (hit_of hits op) (mark ∷ marks) w kept in behind (t.0.mark ∷ []) (run hits ops marks t.0.wire t.1)

-- all steps; the flag says whether a text may begin here
abbrev pub passed : List Bool → List Op → List Bool → Bool → List Bool × Wire
passed hits steps marks begins = run hits steps marks (wire begins false) []

-- What is known behind some of the text's characters: the marks, whether a text may begin here, and
-- whether the text so far is matched.
pub record Reached : Type 0 where
  pub marks : List Bool
  pub begins : Bool
  pub ends : Bool

-- ditto behind one more character; `hits` is what each set says of it
abbrev pub taken : (ℕ → List Bool) → List Op → Reached → ℕ → Reached
taken hits ops r c = (let p = passed (hits c) ops r.marks r.begins in record { marks = p.0; begins = false; ends = p.1.next })

-- before the first character
abbrev pub begun : Part → Reached
begun part = record { marks = replicate (length part.ops) false; begins = true; ends = part.empty }

-- ditto, of what the matcher holds
abbrev pub reached_of : Progress → Reached
reached_of progress = record { marks = progress.marks.items; begins = progress.begins; ends = progress.ends }

-- whether the program of these sets matches the text
abbrev pub is_matched : List Set → Part → List ℕ → Bool
is_matched sets part text = (fold (taken (hits_in sets) part.ops) (begun part) text).ends
