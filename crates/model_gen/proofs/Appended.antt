-- What stands in a buffer after the parts of a line, a wall or a file were appended one after another.
use Rattle.std.proofs.Common.{◌≡◌, ℕ, ◌+◌, ◌*◌, List, [], ◌++◌, ap, sym, ◌∙◌, append_assoc, append-nil, add-one}
use Rattle.std.specs.Prelude.{codes}
use Rattle.std.specs.Fmt.{decimal}
use Rattle.model_gen.specs.Fixed.{head, foot}
use Rattle.model_gen.specs.Made.{rating, wall_line, property_line, set_line, relationship_line, wall_lines, walls, model}

then_appended : (old mid new first second : List ℕ) → mid ≡ old ++ first → new ≡ mid ++ second → new ≡ old ++ (first ++ second)
then_appended old mid new first second p q = q ∙ ap (λ w. w ++ second) p ∙ append_assoc old first second

five_appended : (old w1 w2 w3 w4 w5 p1 p2 p3 p4 p5 : List ℕ) → w1 ≡ old ++ p1 → w2 ≡ w1 ++ p2 → w3 ≡ w2 ++ p3 → w4 ≡ w3 ++ p4 → w5 ≡ w4 ++ p5
    → w5 ≡ old ++ (p1 ++ p2 ++ p3 ++ p4 ++ p5)
five_appended old w1 w2 w3 w4 w5 p1 p2 p3 p4 p5 e1 e2 e3 e4 e5 =
    then_appended old w4 w5 (p1 ++ p2 ++ p3 ++ p4) p5
    (then_appended old w3 w4 (p1 ++ p2 ++ p3) p4 (then_appended old w2 w3 (p1 ++ p2) p3 (then_appended old w1 w2 p1 p2 e1 e2) e3) e4) e5

seven_appended : (old w1 w2 w3 w4 w5 w6 w7 p1 p2 p3 p4 p5 p6 p7 : List ℕ) → w1 ≡ old ++ p1 → w2 ≡ w1 ++ p2 → w3 ≡ w2 ++ p3 → w4 ≡ w3 ++ p4 → w5 ≡ w4 ++ p5 → w6 ≡ w5 ++ p6 → w7 ≡ w6 ++ p7
    → w7 ≡ old ++ (p1 ++ p2 ++ p3 ++ p4 ++ p5 ++ p6 ++ p7)
seven_appended old w1 w2 w3 w4 w5 w6 w7 p1 p2 p3 p4 p5 p6 p7 e1 e2 e3 e4 e5 e6 e7 =
    then_appended old w6 w7 (p1 ++ p2 ++ p3 ++ p4 ++ p5 ++ p6) p7
    (then_appended old w5 w6 (p1 ++ p2 ++ p3 ++ p4 ++ p5) p6 (five_appended old w1 w2 w3 w4 w5 p1 p2 p3 p4 p5 e1 e2 e3 e4 e5) e6) e7

-- the numbers of the code are those of wall n
pub property_appended : (number n k : ℕ) (old w1 w2 w3 w4 w5 word : List ℕ) → k ≡ n → word ≡ rating number n → w1 ≡ old ++ codes "#" → w2 ≡ w1 ++ decimal (10 * k + 1)
    → w3 ≡ w2 ++ codes "=IFCPROPERTYSINGLEVALUE('FireRating',$,IFCLABEL('" → w4 ≡ w3 ++ word → w5 ≡ w4 ++ codes "'),$);\n" → w5 ≡ old ++ property_line number n
property_appended number n k old w1 w2 w3 w4 w5 word same said e1 e2 e3 e4 e5 =
    five_appended old w1 w2 w3 w4 w5 (codes "#") (decimal (10 * k + 1)) (codes "=IFCPROPERTYSINGLEVALUE('FireRating',$,IFCLABEL('") word (codes "'),$);\n") e1 e2 e3 e4 e5
    ∙ ap (λ j. old ++ (codes "#" ++ decimal (10 * j + 1) ++ codes "=IFCPROPERTYSINGLEVALUE('FireRating',$,IFCLABEL('" ++ word ++ codes "'),$);\n")) same
    ∙ ap (λ w. old ++ (codes "#" ++ decimal (10 * n + 1) ++ codes "=IFCPROPERTYSINGLEVALUE('FireRating',$,IFCLABEL('" ++ w ++ codes "'),$);\n")) said

pub set_appended : (n k : ℕ) (old w1 w2 w3 w4 w5 w6 w7 : List ℕ) → k ≡ n → w1 ≡ old ++ codes "#" → w2 ≡ w1 ++ decimal (10 * k + 2) → w3 ≡ w2 ++ codes "=IFCPROPERTYSET('" → w4 ≡ w3 ++ decimal k
    → w5 ≡ w4 ++ codes "',$,'Pset_WallCommon',$,(#" → w6 ≡ w5 ++ decimal (10 * k + 1) → w7 ≡ w6 ++ codes "));\n" → w7 ≡ old ++ set_line n
set_appended n k old w1 w2 w3 w4 w5 w6 w7 same e1 e2 e3 e4 e5 e6 e7 =
    seven_appended old w1 w2 w3 w4 w5 w6 w7 (codes "#") (decimal (10 * k + 2)) (codes "=IFCPROPERTYSET('") (decimal k) (codes "',$,'Pset_WallCommon',$,(#") (decimal (10 * k + 1)) (codes "));\n")
    e1 e2 e3 e4 e5 e6 e7
    ∙ ap (λ j. old ++ set_line j) same

pub relationship_appended : (n k : ℕ) (old w1 w2 w3 w4 w5 w6 w7 w8 w9 : List ℕ) → k ≡ n → w1 ≡ old ++ codes "#" → w2 ≡ w1 ++ decimal (10 * k + 3) → w3 ≡ w2 ++ codes "=IFCRELDEFINESBYPROPERTIES('"
    → w4 ≡ w3 ++ decimal k → w5 ≡ w4 ++ codes "',$,$,$,(#" → w6 ≡ w5 ++ decimal (10 * k) → w7 ≡ w6 ++ codes "),#" → w8 ≡ w7 ++ decimal (10 * k + 2) → w9 ≡ w8 ++ codes ");\n"
    → w9 ≡ old ++ relationship_line n
relationship_appended n k old w1 w2 w3 w4 w5 w6 w7 w8 w9 same e1 e2 e3 e4 e5 e6 e7 e8 e9 =
    let seven = seven_appended old w1 w2 w3 w4 w5 w6 w7 (codes "#") (decimal (10 * k + 3)) (codes "=IFCRELDEFINESBYPROPERTIES('") (decimal k) (codes "',$,$,$,(#") (decimal (10 * k)) (codes "),#")
    e1 e2 e3 e4 e5 e6 e7 in
    then_appended old w8 w9 _ (codes ");\n") (then_appended old w7 w8 _ (decimal (10 * k + 2)) seven e8) e9
    ∙ ap (λ j. old ++ relationship_line j) same

-- the four lines of a wall
pub wall_appended : (number n : ℕ) (old w1 w2 w3 w4 : List ℕ) → w1 ≡ old ++ wall_line n → w2 ≡ w1 ++ property_line number n → w3 ≡ w2 ++ set_line n → w4 ≡ w3 ++ relationship_line n
    → w4 ≡ old ++ wall_lines number n
unfolding wall_lines
wall_appended number n old w1 w2 w3 w4 e1 e2 e3 e4 =
    then_appended old w3 w4 (wall_line n ++ property_line number n ++ set_line n) (relationship_line n)
    (then_appended old w2 w3 (wall_line n ++ property_line number n) (set_line n) (then_appended old w1 w2 (wall_line n) (property_line number n) e1 e2) e3) e4

-- no wall yet
pub walls_none : (number : ℕ) (old : List ℕ) → old ≡ old ++ walls number 0
unfolding walls
walls_none number old = sym (append-nil old)

-- one more wall
pub walls_more : (number before : ℕ) (old mid new : List ℕ) → mid ≡ old ++ walls number before → new ≡ mid ++ wall_lines number (before + 1) → new ≡ old ++ walls number (before + 1)
unfolding walls
walls_more number before old mid new p q =
    then_appended old mid new (walls number before) (wall_lines number (before + 1)) p q
    ∙ ap (λ n. old ++ (walls number before ++ wall_lines number n)) (add-one before)
    ∙ ap (λ n. old ++ walls number n) (sym (add-one before))

-- the whole file
pub model_appended : (number count : ℕ) (w0 w1 w2 w3 : List ℕ) → w0 ≡ [] → w1 ≡ w0 ++ head → w2 ≡ w1 ++ walls number count → w3 ≡ w2 ++ foot → w3 ≡ model number count
model_appended number count w0 w1 w2 w3 none e1 e2 e3 =
    let first : w1 ≡ head = e1 ∙ ap (λ w. w ++ head) none in
    let second : w2 ≡ head ++ walls number count = e2 ∙ ap (λ w. w ++ walls number count) first in
    e3 ∙ ap (λ w. w ++ foot) second
