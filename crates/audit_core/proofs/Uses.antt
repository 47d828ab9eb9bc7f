-- What holds of a finding that is delivered in time, and what the log says of changes.
use Rattle.std.proofs.Common.{◌≡◌, ℕ, ◌==◌, Bool, true, false, cond, not, ◌&&◌, List, [], ◌∷◌, find, refl, sym, ap, ◌∙◌, None, Some}
use Rattle.std.specs.List.{list_all}
use Rattle.ifc_base.specs.declared.key.Key.{Key}
use Rattle.audit_model.specs.declared.step.StepRec.{StepRec}
use Rattle.audit_model.specs.declared.step.Given.{Given}
use Rattle.audit_model.specs.declared.step.Reply.TheVariants.{Stale}
use Rattle.audit_model.specs.Needs.{need}
use Rattle.audit_model.specs.Verdicts.{verdict}
use Rattle.audit_model.specs.History.{Ground, current, out, commits, changed_since, last_change, model_at, model_of, model_after, stands_by}
use Rattle.audit_model.specs.Machine.{Legal, least_changed, deliver_reply}
use Rattle.audit_model.proofs.Claims.{IsSound, sound_out}
use Rattle.audit_model.proofs.Commits.{stands_found}
use Rattle.audit_model.specs.FacetLaws.{Stays}
use Rattle.audit_model.proofs.Tests.{Each-found}
use Rattle.model_view.specs.Views.{FindingView}
use Rattle.model_view.specs.Answers.{given_of, IsTrue}
use Rattle.audit_core.specs.Rows.{found}

-- where no key is found none passes
pub none_all : {X : Type 0} (t : X → Bool) (xs : List X) → find t xs ≡ None → list_all (λ x. not (t x)) xs ≡ true
none_all t [] e = refl
none_all {X} t (x ∷ xs) e =
    let F : Bool → Type 0 = λ b. cond b (Some x) (find t xs) ≡ None → (not b && list_all (λ y. not (t y)) xs) ≡ true in
    let at : F (t x) = elim (t x) as F [ true ↦ λ k. absurd (cc) | false ↦ λ k. none_all t xs k ] in
    at e

-- a claim of which nothing that it needs was changed stands
pub stands_when : (g : Ground) (h : List StepRec) (c : Given) → least_changed g h c ≡ None → stands_by g (commits h) c ≡ true
stands_when g h c e = none_all (changed_since g h c.revision) (need g.schema g.specs c.pair (model_at g h c.revision)) e

-- a search of the finding's needs is one of the needs of its claim
pub changed_of : {g : Ground} {h : List StepRec} {actor : ℕ} {f : FindingView} → IsTrue g h actor f → least_changed g h (given_of actor f.claim) ≡ find (changed_since g h f.claim.snapshot.revision) f.needs
changed_of {g = g} {h = h} {f = f} t = ap (λ (ks : List Key). find (changed_since g h f.claim.snapshot.revision) ks) (rw (← t.snapshot_is) (sym t.finds.needs_are))

pub stale_of : {g : Ground} {h : List StepRec} {actor : ℕ} {f : FindingView} (k : Key) → IsTrue g h actor f → find (changed_since g h f.claim.snapshot.revision) f.needs ≡ Some k → Stale k (last_change g h k) ≡ deliver_reply g h (given_of actor f.claim)
stale_of k t e = rw (changed_of t ∙ e)

pub found_now : {g : Ground} {h : List StepRec} {actor : ℕ} {f : FindingView} → Legal g h → IsTrue g h actor f → least_changed g h (given_of actor f.claim) ≡ None → record { verdict = f.verdict; needs = f.needs } ≡ found g.schema g.specs (current g h) f.claim.pair
found_now {g = g} {h = h} {actor = actor} {f = f} l t none =
    let sound : IsSound g (commits h) (given_of actor f.claim) = Each-found (IsSound g (commits h)) (λ c. c.number == f.claim.number) (out h) (given_of actor f.claim) (sound_out g h l) t.is_out in
    let stays : Stays g.schema g.specs f.claim.pair (model_of g (commits h) f.claim.snapshot.revision) (model_after g (commits h)) = stands_found g (commits h) (given_of actor f.claim) sound.early (stands_when g h (given_of actor f.claim) none) in
    let v : f.verdict ≡ verdict g.schema g.specs f.claim.pair (current g h) = t.finds.verdict_is ∙ ap (λ m. verdict g.schema g.specs f.claim.pair m) t.snapshot_is ∙ sym stays.verdict_stays in
    let n : f.needs ≡ need g.schema g.specs f.claim.pair (current g h) = t.finds.needs_are ∙ ap (λ m. need g.schema g.specs f.claim.pair m) t.snapshot_is ∙ sym stays.need_stays in
    λ i. record { verdict = v i; needs = n i }
