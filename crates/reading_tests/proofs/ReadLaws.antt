-- A whole text: what is read is spelled so, and what is spelled so is read.
use Rattle.std.proofs.Common.{◌≡◌, ℕ, List, [], Option, None, Result, Ok, Err, refl, sym, ap, ◌∙◌, subst}
use Rattle.std.specs.Prelude.{IfOk}
use Rattle.ifc_base.specs.declared.memory.Refusal.{Refusal}
use Rattle.reading.specs.declared.fault.Fault.{Fault}
use Rattle.reading.specs.Codes.{codes_of}
use Rattle.reading.specs.Lines.{with_line, Answers}
use Rattle.reading.specs.Reading.{Text, Refused}
use Rattle.reading.proofs.Lines.{with_line_ok}
use Rattle.reading.proofs.Tools.{bound, ok_is}
use Rattle.reading_tests.specs.declared.tree.Cause.{Cause}
use Rattle.reading_tests.specs.declared.tree.Tree.{Tree}
use Rattle.reading_tests.specs.declared.token.Token.{Token}
use Rattle.reading_tests.specs.declared.token.Token.TheVariants.{End}
use Rattle.reading_tests.specs.Nest.{token, tree, max_depth, whole_end, whole, reading}
use Rattle.reading_tests.specs.Grammar.{IsToken, Next, Spells, Reads}
use Rattle.reading_tests.proofs.TokenLaws.{token_sound, token_complete}
use Rattle.reading_tests.proofs.TreeLaws.{tree_sound}
use Rattle.reading_tests.proofs.TreeComplete.{tree_complete}

end_is : {t u : Text} → Next t End u → Next t End []
end_is (Next.next t s _ u passed IsToken.end) = Next.next t s End [] passed IsToken.end

end_sound : (x : Tree) (k : Token) (at t u : Text) (y : Tree) → Next t k u → whole_end x k at ≡ Ok y → Next t End [] × (x ≡ y)
end_sound x End at t u y n e = (end_is n, ok_is {E = Refused Cause} x y e)
end_sound x k at t u y n e = absurd cc

whole_sound : (t : Text) (y : Tree) → whole t ≡ Ok y → (rest : Text) × Spells max_depth t y rest × Next rest End []
unfolding whole
whole_sound t y e =
    let b = bound {r = token t} e in
    let f = bound {r = tree max_depth None b.0.0 b.0.1} b.2 in
    let q = bound {r = token f.0.1} f.2 in
    let end = end_sound f.0.0 q.0.0.token q.0.0.at f.0.1 q.0.1 y (token_sound f.0.1 q.0.0 q.0.1 q.1) q.2 in
    (f.0.1, subst (λ (x : Tree). Spells max_depth t x f.0.1) end.1 (tree_sound max_depth None b.0.0 t b.0.1 f.0.0 f.0.1 (token_sound t b.0.0 b.0.1 b.1) f.1), end.0)

whole_complete : (t : Text) (y : Tree) (rest : Text) → Spells max_depth t y rest → Next rest End [] → whole t ≡ Ok y
unfolding whole
whole_complete t y rest h n =
    let b = bound {r = token t} (tree_complete None h) in
    let e = token_complete n in
    rw (b.1, b.2, e.1) refl

-- what is read is spelled so
pub reading_sound : (bytes : List ℕ) (y : Tree) → reading bytes ≡ Ok y → Reads bytes y
unfolding reading
reading_sound bytes y e =
    let w = whole_sound (codes_of bytes) y (with_line_ok (codes_of bytes) (whole (codes_of bytes)) y e) in
    record { rest = w.0; tree = w.1; end = w.2 }

-- and what is spelled so is read
pub reading_complete : (bytes : List ℕ) (y : Tree) → Reads bytes y → reading bytes ≡ Ok y
unfolding reading
reading_complete bytes y r = ap (with_line (codes_of bytes)) (whole_complete (codes_of bytes) y r.rest r.tree r.end)

-- at most one tree
pub one_reading : (bytes : List ℕ) (x y : Tree) → Reads bytes x → Reads bytes y → x ≡ y
one_reading bytes x y p q = ok_is {E = Fault Cause} x y (sym (reading_complete bytes x p) ∙ reading_complete bytes y q)

-- for the contract
pub is_found : (bytes : List ℕ) (r : Result Tree (Refusal (Fault Cause))) → Answers (λ x. x) r (reading bytes) → IfOk r (λ x. Reads bytes x)
is_found bytes (Ok x) given = reading_sound bytes x given
is_found bytes (Err e) given = tt
