-- Models and changes over a list of commits.
use Rattle.std.proofs.Common.{◌≡◌, ℕ, suc, ◌+◌, ◌≤◌, ◌<◌, List, [], ◌∷◌, length, arith, refl, sym, ◌∙◌, Bool, true, false, not, ◌&&◌, nat_le, nat_lt, if◌then◌else◌, inl, inr}
use Rattle.std.proofs.lemmas.Bool.{lt-leb, le-leb, lt-ltb, cases_lt, and_parts}
use Rattle.audit_model.specs.declared.commit.Edit.{Edit}
use Rattle.audit_model.specs.declared.step.Given.{Given}
use Rattle.audit_model.specs.Edits.{apply}
use Rattle.audit_model.specs.Keys.{changes, keeps_all}
use Rattle.audit_model.specs.Needs.{need}
use Rattle.audit_model.specs.History.{Ground, model_after, model_of, last_of, stands_by}
use Rattle.audit_model.proofs.Tests.{list_all-both}
use Rattle.audit_model.specs.FacetLaws.{Stays}
use Rattle.audit_model.proofs.Frame.{stays}

-- the model of the last revision
pub model_of-last : (g : Ground) (cs : List (List Edit)) → model_of g cs (length cs) ≡ model_after g cs
model_of-last g [] = refl
model_of-last g (edits ∷ cs) =
    let e : nat_le (suc (length cs)) (length cs) ≡ false = lt-leb (suc (length cs)) (length cs) (omega arith) in rw e

-- an older model is not changed by one more commit
pub model_of-older : (g : Ground) (edits : List Edit) (cs : List (List Edit)) (r : ℕ) → r ≤ length cs → model_of g (edits ∷ cs) r ≡ model_of g cs r
model_of-older g edits cs r h =
    let e : nat_le r (length cs) ≡ true = le-leb r (length cs) h in rw e

pub model_of-newest : (g : Ground) (edits : List Edit) (cs : List (List Edit)) (r : ℕ) → length cs < r → model_of g (edits ∷ cs) r ≡ model_after g (edits ∷ cs)
model_of-newest g edits cs r h =
    let e : nat_le r (length cs) ≡ false = lt-leb r (length cs) h in rw e

-- what was changed since r, after one more commit
later : (b : Bool) (r last n : ℕ) → r ≤ n → not (nat_lt r (if b then n + 1 else last)) ≡ (not b && not (nat_lt r last))
later true r last n h = let e : nat_lt r (n + 1) ≡ true = lt-ltb r (n + 1) (omega arith) in rw e
later false r last n h = refl

-- A claim stands after one more commit where it stood and the commit keeps what its verdict needs.
pub stands-commit : (g : Ground) (edits : List Edit) (cs : List (List Edit)) (c : Given) → c.revision ≤ length cs → stands_by g (edits ∷ cs) c ≡ (keeps_all g.schema (model_after g cs) (apply g.schema (model_after g cs) edits) (need g.schema g.specs c.pair (model_of g cs c.revision)) && stands_by g cs c)
stands-commit g edits cs c h =
    rw (model_of-older g edits cs c.revision h)
    (list_all-both _ _ _ (λ k. later (changes g.schema (model_after g cs) (apply g.schema (model_after g cs) edits) k) c.revision (last_of g cs k) (length cs) h) (need g.schema g.specs c.pair (model_of g cs c.revision)))

-- Where a claim stands, its verdict and its needs are those of now.
pub stands_found : (g : Ground) (cs : List (List Edit)) (c : Given) → c.revision ≤ length cs → stands_by g cs c ≡ true → Stays g.schema g.specs c.pair (model_of g cs c.revision) (model_after g cs)
stands_found g [] c h e = record { element_stays = refl; verdict_stays = refl; need_stays = refl }
stands_found g (edits ∷ cs) c h e =
    elim (cases_lt (length cs) c.revision) [
      | inl lt ↦ rw (model_of-newest g edits cs c.revision lt) (record { element_stays = refl; verdict_stays = refl; need_stays = refl })
      | inr le ↦
          let both : (keeps_all g.schema (model_after g cs) (apply g.schema (model_after g cs) edits) (need g.schema g.specs c.pair (model_of g cs c.revision)) ≡ true) × (stands_by g cs c ≡ true) = and_parts _ _ (sym (stands-commit g edits cs c le) ∙ e) in
          let s : Stays g.schema g.specs c.pair (model_of g cs c.revision) (model_after g cs) = stands_found g cs c le both.1 in
          let t : Stays g.schema g.specs c.pair (model_after g cs) (apply g.schema (model_after g cs) edits) = stays g.schema g.specs c.pair (model_after g cs) (apply g.schema (model_after g cs) edits) (rw s.need_stays both.0) in
          rw (model_of-older g edits cs c.revision le) (record { element_stays = t.element_stays ∙ s.element_stays; verdict_stays = t.verdict_stays ∙ s.verdict_stays; need_stays = t.need_stays ∙ s.need_stays })
    ]
