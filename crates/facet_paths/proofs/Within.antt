-- Keys that stand within others, in whatever order and however often.
use Rattle.std.proofs.Common.{◌≡◌, List, [], ◌++◌, sym, subst, inl, inr}
use Rattle.ifc_base.specs.declared.key.Key.{Key}
use Rattle.closure_walk.specs.Walking.{In, SameKeys}
use Rattle.closure_walk.proofs.Members.{in_first, in_last, in_parts}

abbrev pub Within : List Key → List Key → Type 0
Within ks ls = (k : Key) → In k ks → In k ls

pub within_both : (a b c : List Key) → Within a c → Within b c → Within (a ++ b) c
within_both a b c f g k i = elim (in_parts k a b i) [ inl j ↦ f k j | inr j ↦ g k j ]

pub within_first : (a b c : List Key) → Within a b → Within a (b ++ c)
within_first a b c f k i = in_first k b c (f k i)

pub within_last : (a b c : List Key) → Within a c → Within a (b ++ c)
within_last a b c f k i = in_last k b c (f k i)

pub within_none : (a : List Key) → Within [] a
within_none a k i = absurd i

pub within_self : (a : List Key) → Within a a
within_self a k i = i

pub within_then : (a b c : List Key) → Within a b → Within b c → Within a c
within_then a b c f g k i = g k (f k i)

-- both ways
pub same_within : (a b : List Key) → Within a b → Within b a → SameKeys a b
same_within a b f g k = (f k, g k)

-- what was appended is the same as this
pub appended_same : (reads old ks ls : List Key) → reads ≡ old ++ ks → SameKeys ks ls → SameKeys reads (old ++ ls)
appended_same reads old ks ls e h k = (
  λ i. elim (in_parts k old ks (subst (λ xs. In k xs) e i)) [ inl j ↦ in_first k old ls j | inr j ↦ in_last k old ls ((h k).0 j) ],
  λ i. subst (λ xs. In k xs) (sym e) (elim (in_parts k old ls i) [ inl j ↦ in_first k old ks j | inr j ↦ in_last k old ks ((h k).1 j) ]),
)
