-- What chains of steps reach.
use Rattle.std.specs.Prelude.{ℕ, zero, suc, List}
use Rattle.audit_model.specs.Reading.{Reading, told, stand, visit, gather, ◌>>=◌}
use Rattle.audit_model.specs.Ascending.{union, ascending}

-- the number of possible ids, and so more than a chain with no id twice has hops
unfoldable pub most_hops : ℕ
most_hops = 2147483647

-- the hops that are left after a first one
unfoldable pub most_after : ℕ
most_after = 2147483646

-- what a chain of at most n steps reaches from the starts, the starts included, ascending
unfoldable pub reached : (ℕ → Reading (List ℕ)) → ℕ → List ℕ → Reading (List ℕ)
reached step zero starts = told (ascending starts)
reached step (suc n) starts = do
  xs ← reached step n starts
  ys ← gather step xs
  told (union xs ys)

-- the closure by at most n steps; it stands on each id reached
abbrev pub closure : ℕ → (ℕ → Reading (List ℕ)) → List ℕ → Reading (List ℕ)
closure n step starts = do
  xs ← reached step n starts
  _ ← visit stand xs
  told xs
