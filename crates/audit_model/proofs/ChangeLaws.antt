-- The last change of a key.
use Rattle.std.proofs.Common.{◌≡◌, ℕ, ◌+◌, ◌≤◌, ◌<◌, Bool, true, false, if◌then◌else◌, List, [], ◌∷◌, length, arith, refl, subst, ◌∙◌, inl, inr}
use Rattle.std.proofs.lemmas.Bool.{cases_lt}
use Rattle.ifc_base.specs.declared.key.Key.{Key}
use Rattle.audit_model.specs.declared.commit.Edit.{Edit}
use Rattle.audit_model.specs.Edits.{apply}
use Rattle.audit_model.specs.Keys.{changes}
use Rattle.audit_model.specs.History.{Ground, model_after, model_of, last_of, commits}
use Rattle.audit_model.specs.Laws.{LastChangeIsLast}
use Rattle.audit_model.proofs.Commits.{model_of-last, model_of-older, model_of-newest}

abbrev changed_by : Ground → List (List Edit) → ℕ → Key → Bool
changed_by g cs r k = changes g.schema (model_of g cs r) (model_of g cs (r + 1)) k

changed_by-older : (g : Ground) (edits : List Edit) (cs : List (List Edit)) (r : ℕ) (k : Key) → r < length cs → changed_by g (edits ∷ cs) r k ≡ changed_by g cs r k
changed_by-older g edits cs r k l = λ i. changes g.schema (model_of-older g edits cs r (omega (arith, l)) i) (model_of-older g edits cs (r + 1) (omega (arith, l)) i) k

changed_by-newest : (g : Ground) (edits : List Edit) (cs : List (List Edit)) (k : Key) → changed_by g (edits ∷ cs) (length cs) k ≡ changes g.schema (model_after g cs) (apply g.schema (model_after g cs) edits) k
changed_by-newest g edits cs k =
    let before : model_of g (edits ∷ cs) (length cs) ≡ model_after g cs = model_of-older g edits cs (length cs) (omega arith) ∙ model_of-last g cs in
    let after : model_of g (edits ∷ cs) (length cs + 1) ≡ apply g.schema (model_after g cs) edits = model_of-newest g edits cs (length cs + 1) (omega arith) in
    λ i. changes g.schema (before i) (after i) k

-- the same of a list of commits
record IsLast (g : Ground) (cs : List (List Edit)) (k : Key) (last : ℕ) : Type 0 where
  pub so_far : last ≤ length cs
  pub changed_it : (r : ℕ) → last ≡ r + 1 → changed_by g cs r k ≡ true
  pub none_later : (r : ℕ) → last ≤ r → r < length cs → changed_by g cs r k ≡ false

last_changed : (g : Ground) (edits : List Edit) (cs : List (List Edit)) (k : Key) → changes g.schema (model_after g cs) (apply g.schema (model_after g cs) edits) k ≡ true → IsLast g (edits ∷ cs) k (length cs + 1)
last_changed g edits cs k e =
    record {
      so_far = omega arith;
      changed_it = λ r is. let same : length cs ≡ r = omega (arith, is) in subst (λ (s : ℕ). changed_by g (edits ∷ cs) s k ≡ true) same (changed_by-newest g edits cs k ∙ e);
      none_later = λ r le lt. absurd (omega (arith, le, lt));
    }

last_kept : (g : Ground) (edits : List Edit) (cs : List (List Edit)) (k : Key) (last : ℕ) → changes g.schema (model_after g cs) (apply g.schema (model_after g cs) edits) k ≡ false → IsLast g cs k last → IsLast g (edits ∷ cs) k last
last_kept g edits cs k last e l =
    record {
      so_far = let le : last ≤ length cs = l.so_far in omega (arith, le);
      changed_it = λ r is. let le : last ≤ length cs = l.so_far in changed_by-older g edits cs r k (omega (arith, is, le)) ∙ l.changed_it r is;
      none_later = λ r le lt. elim (cases_lt r (length cs)) [
        | inl early ↦ changed_by-older g edits cs r k early ∙ l.none_later r le early
        | inr late ↦ let same : length cs ≡ r = omega (arith, late, lt) in subst (λ (s : ℕ). changed_by g (edits ∷ cs) s k ≡ false) same (changed_by-newest g edits cs k ∙ e)
      ];
    }

last_of_last : (g : Ground) (cs : List (List Edit)) (k : Key) → IsLast g cs k (last_of g cs k)
last_of_last g [] k = record { so_far = omega arith; changed_it = λ r is. absurd (omega (arith, is)); none_later = λ r le lt. absurd (omega (arith, lt)) }
last_of_last g (edits ∷ cs) k =
    let F : Bool → Type 0 = λ b. changes g.schema (model_after g cs) (apply g.schema (model_after g cs) edits) k ≡ b → IsLast g (edits ∷ cs) k (if b then length cs + 1 else last_of g cs k) in
    let at : F (changes g.schema (model_after g cs) (apply g.schema (model_after g cs) edits) k) = elim (changes g.schema (model_after g cs) (apply g.schema (model_after g cs) edits) k) as F [
      | true ↦ λ e. last_changed g edits cs k e
      | false ↦ λ e. last_kept g edits cs k (last_of g cs k) e (last_of_last g cs k)
    ] in
    at refl

pub last_change_is_last : LastChangeIsLast
last_change_is_last g h k =
    let l : IsLast g (commits h) k (last_of g (commits h) k) = last_of_last g (commits h) k in
    record { so_far = l.so_far; changed_it = l.changed_it; none_later = l.none_later }
