-- The places of open remarks.
use Rattle.std.proofs.Common.{◌≡◌, ℕ, true, arith, List, [], ◌∷◌, ◌++◌, refl, ap}
use Rattle.std.specs.Borrow.{Bor}
use Rattle.reading.specs.Codes.{codes_of}
use Rattle.reading.specs.Reading.{Text}
use Rattle.reading.proofs.Each.{each_laws}
use Rattle.std.proofs.lemmas.Bool.Decides.{nat_tests}
use Rattle.express_decl.specs.Tokens.{places, next_is, behind}

pub places_none : places [] ≡ []
unfolding places
places_none = refl

pub places_push : (ps : List (Bor (List ℕ))) (p : Bor (List ℕ)) → places (ps ++ p ∷ []) ≡ codes_of p.now ∷ places ps
unfolding places
places_push [] p = refl
places_push (q ∷ ps) p = ap (λ (l : List Text). l ++ codes_of q.now ∷ []) (places_push ps p)

-- the code that comes next is before what follows it
pub next_taken : (wanted : ℕ) (t : Text) → next_is wanted t ≡ true → t ≡ wanted ∷ behind t
unfolding next_is behind
next_taken wanted [] is = absurd cc
next_taken wanted (c ∷ t) is = let same : c ≡ wanted = grind (arith, nat_tests) in ap (λ (x : ℕ). x ∷ t) same

pub ruleset place_laws = (places_none, places_push, next_taken)

pub ruleset remark_laws = (each_laws, place_laws)
