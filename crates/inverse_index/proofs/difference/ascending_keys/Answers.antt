use Rattle.std.proofs.Common.{◌≡◌, ◌∙◌, subst, sym}
use Rattle.std.proofs.lemmas.Bool.{false≢true}
use Rattle.inverse_index.specs.Changed.{KeysAscend}
use Rattle.inverse_index.proofs.Differences.{has_keys, none_over}
use Rattle.inverse_index.proofs.difference.ascending_keys.Goals as goal

pub returns-clause-same : goal.returns-clause-same
returns-clause-same c = λ k.
    let all : c.loop-key.sorted.items ≡ c.in_ok-set.set.keys = none_over c.loop-key.set c.loop-key.sorted.items c.in_ok-set.set.keys c.loop-key.invariant (λ h. false≢true (c.in_default.ensures.variant.1 h)) in
    rw c.from_vec.ensures (has_keys c.in_ok-set.set c.loop-key.sorted.items k all ∙ c.in_ok-set.ensures k)

pub returns-clause-ascending : goal.returns-clause-ascending
returns-clause-ascending c =
    let all : c.loop-key.sorted.items ≡ c.in_ok-set.set.keys = none_over c.loop-key.set c.loop-key.sorted.items c.in_ok-set.set.keys c.loop-key.invariant (λ h. false≢true (c.in_default.ensures.variant.1 h)) in
    rw c.from_vec.ensures (subst KeysAscend (sym all) c.len.ensures.ordered)
