-- What actors hold stays theirs while others make entries.
use Rattle.std.proofs.Common.{◌≡◌, ℕ, suc, zero, ◌+◌, ◌<◌, ◌≤◌, Bool, true, false, not, cond, ◌||◌, ◌==◌, List, [], ◌∷◌, ◌++◌, get_or, Option, Some, None, refl, arith, ap, sym, subst, ◌∙◌}
use Rattle.std.specs.List.{remove, position, position_or_len, before_first, after_first}
use Rattle.std.proofs.lemmas.Bool.{and_parts, eqb-true, ne_eqb, true≢false}
use Rattle.std.proofs.lemmas.List.Quantifiers.{position-Some}
use Rattle.ifc_base.specs.declared.key.Key.{Key}
use Rattle.audit_model.specs.declared.commit.CommitRefusal.{CommitRefusal}
use Rattle.audit_model.specs.declared.verdict.Pair.{Pair}
use Rattle.audit_model.specs.declared.step.Given.{Given}
use Rattle.audit_model.specs.declared.step.StepRec.{StepRec}
use Rattle.audit_model.specs.declared.step.Call.{Call}
use Rattle.audit_model.specs.declared.step.Call.TheVariants.{Begin, Commit, Claim, Deliver, GiveBack, Publish}
use Rattle.audit_model.specs.declared.step.Reply.{Reply}
use Rattle.audit_model.specs.declared.step.Reply.TheVariants.{Claimed, Back}
use Rattle.audit_model.specs.History.{Ground, judge_in, last_change, commits, current, revision, out, given, claim_numbered, without_claim}
use Rattle.audit_model.specs.Machine.{Answers, Legal, MayFollow, claimed, committed, delivered, published, least_claimable, least_changed, least_unsettled}
use Rattle.audit_model.proofs.Claims.{IsSound, sound_out}
use Rattle.audit_model.proofs.Commits.{model_of-last}
use Rattle.audit_model.proofs.HistoryLaws.{earlier_models_stay}
use Rattle.audit_model.proofs.Numbers.{out_numbers, claim_number}
use Rattle.script_rules.proofs.RunLegal.{revision_grows}
use Rattle.audit_model.proofs.Tests.{Each, Each-found, or_true, Each-all}
use Rattle.model_view.specs.Views.{ClaimView}
use Rattle.model_view.specs.Answers.{given_of, IsNow}
use Rattle.audit_run.specs.declared.hands.Begun.{Begun}
use Rattle.audit_run.specs.declared.hands.Taken.{Taken}
use Rattle.audit_run.specs.Holding.{IsTaken, AreTaken, AreLater, AreBegun, is_began, begins, has_begun, begun_on, taken_as, drafted_by, taken_by, draft_of, other_drafts, claim_of, other_claims}
use Rattle.audit_run.proofs.Firsts.{first_at, first_removed, split_first}

-- a claim that is out is of a revision so far
early : (g : Ground) (h : List StepRec) (t : Taken) → Legal g h → IsTaken g h t → t.claim.snapshot.revision ≤ revision h
early g h t l k = (Each-found (IsSound g (commits h)) (λ c. c.number == t.claim.number) (out h) (given_of t.actor t.claim) (sound_out g h l) k.is_out).early

-- its number is no greater than that of the last claim
known : (g : Ground) (h : List StepRec) (t : Taken) → Legal g h → IsTaken g h t → t.claim.number ≤ given h
known g h t l k = Each-found (λ (c : Given). c.number ≤ given h) (λ c. c.number == t.claim.number) (out h) (given_of t.actor t.claim) (out_numbers g h l) k.is_out

-- after an entry that leaves the claim out it is taken as before
still_taken : (g : Ground) (h : List StepRec) (e : StepRec) (t : Taken) → Legal g h → (claim_numbered t.claim.number (out h) ≡ Some (given_of t.actor t.claim) → claim_numbered t.claim.number (out (e ∷ h)) ≡ Some (given_of t.actor t.claim)) → IsTaken g h t → IsTaken g (e ∷ h) t
still_taken g h e t l keeps k = record {
  is_out = keeps k.is_out;
  snapshot_is = record {
    model = k.snapshot_is.model ∙ sym (earlier_models_stay g (e ∷ []) h t.claim.snapshot.revision (early g h t l k));
    revision = refl;
    index = k.snapshot_is.index;
  };
}

-- the entry leaves this claim out, if it is
abbrev pub LeavesOut : List StepRec → StepRec → Taken → Type 0
LeavesOut h e t = claim_numbered t.claim.number (out h) ≡ Some (given_of t.actor t.claim) → claim_numbered t.claim.number (out (e ∷ h)) ≡ Some (given_of t.actor t.claim)

pub all_taken : (g : Ground) (h : List StepRec) (e : StepRec) (ts : List Taken) → Legal g h → Each (LeavesOut h e) ts → AreTaken g h ts → AreTaken g (e ∷ h) ts
all_taken g h e [] l keeps k = tt
all_taken g h e (t ∷ ts) l keeps k = (still_taken g h e t l keeps.0 k.0, (k.1.0, all_taken g h e ts l keeps.1 k.1.1))

-- New claims.

found_push : (n : ℕ) (cs : List Given) (c d : Given) → claim_numbered n cs ≡ Some c → claim_numbered n (cs ++ d ∷ []) ≡ Some c
found_push n [] c d e = absurd (cc)
found_push n (x ∷ xs) c d e =
    let F : Bool → Type 0 = λ b. cond b (Some x) (claim_numbered n xs) ≡ Some c → cond b (Some x) (claim_numbered n (xs ++ d ∷ [])) ≡ Some c in
    let at : F (x.number == n) = elim (x.number == n) as F [ true ↦ λ k. k | false ↦ λ k. found_push n xs c d k ] in
    at e

pub claimed_leaves : (h : List StepRec) (actor n r : ℕ) (p : Pair) (t : Taken) → LeavesOut h (record { actor = actor; call = Claim; reply = Claimed n p r }) t
claimed_leaves h actor n r p t e = found_push t.claim.number (out h) (given_of t.actor t.claim) (record { number = n; actor = actor; pair = p; revision = r }) e

later_push : (n : ℕ) (ts : List Taken) (t : Taken) → AreLater n ts → n < t.claim.number → AreLater n (ts ++ t ∷ [])
later_push n [] t a l = (l, tt)
later_push n (x ∷ xs) t a l = (a.0, later_push n xs t a.1 l)

taken_push : (g : Ground) (h : List StepRec) (n : ℕ) (ts : List Taken) (t : Taken) → Each (λ (x : Taken). x.claim.number ≤ n) ts → n < t.claim.number → AreTaken g h ts → IsTaken g h t → AreTaken g h (ts ++ t ∷ [])
taken_push g h n [] t a l k own = (own, (tt, tt))
taken_push g h n (x ∷ xs) t a l k own = (k.0, (later_push x.claim.number xs t k.1.0 (omega (arith, a.0, l)), taken_push g h n xs t a.1 l k.1.1 own))

all_known : (g : Ground) (h : List StepRec) (ts : List Taken) → Legal g h → AreTaken g h ts → Each (λ (x : Taken). x.claim.number ≤ given h) ts
all_known g h [] l k = tt
all_known g h (t ∷ ts) l k = (known g h t l k.0, all_known g h ts l k.1.1)

-- a claim that was just given, of the model now, is taken beside the others
pub taken_more : (g : Ground) (h : List StepRec) (ts : List Taken) (actor : ℕ) (c : ClaimView) → Legal g h → MayFollow g h (record { actor = actor; call = Claim; reply = Claimed c.number c.pair c.snapshot.revision }) → IsNow g h c.snapshot →
    claim_numbered c.number (out (record { actor = actor; call = Claim; reply = Claimed c.number c.pair c.snapshot.revision } ∷ h)) ≡ Some (given_of actor c) → AreTaken g h ts → AreTaken g (record { actor = actor; call = Claim; reply = Claimed c.number c.pair c.snapshot.revision } ∷ h) (ts ++ record { actor = actor; claim = c } ∷ [])
taken_more g h ts actor c l m now o k =
    let e : StepRec = record { actor = actor; call = Claim; reply = Claimed c.number c.pair c.snapshot.revision } in
    let next : c.number ≡ given h + 1 = claim_number (least_claimable g h) (given h + 1) c.number c.snapshot.revision (revision h) c.pair m in
    taken_push g (e ∷ h) (given h) ts (record { actor = actor; claim = c }) (all_known g h ts l k) (omega (arith, next))
    (all_taken g h e ts l (Each-all (LeavesOut h e) (claimed_leaves h actor c.number c.snapshot.revision c.pair) ts) k)
    (record { is_out = o; snapshot_is = record { model = rw (now.model, now.revision) (sym (model_of-last g (commits h))); revision = refl; index = now.index } })

-- Ended claims.

found_without : (n m : ℕ) (cs : List Given) (c : Given) → (n == m) ≡ false → claim_numbered n cs ≡ Some c → claim_numbered n (without_claim m cs) ≡ Some c
found_without n m [] c d e = e
found_without n m (x ∷ xs) c d e =
    let F : Bool → Type 0 = λ b. (x.number == n) ≡ b → cond b (Some x) (claim_numbered n xs) ≡ Some c → claim_numbered n (without_claim m (x ∷ xs)) ≡ Some c in
    let at : F (x.number == n) = elim (x.number == n) as F [
      | true ↦ λ k t.
          let other : (x.number == m) ≡ false = subst (λ (y : ℕ). (y == m) ≡ false) (sym (eqb-true x.number n k)) d in
          rw (other, k) t
      | false ↦ λ k t.
          let rest : claim_numbered n (without_claim m xs) ≡ Some c = found_without n m xs c d t in
          elim (x.number == m) as (λ b. claim_numbered n (cond (not b) (x ∷ without_claim m xs) (without_claim m xs)) ≡ Some c) [ true ↦ rest | false ↦ rw k rest ]
    ] in
    at refl e

-- another number
abbrev pub Differs : ℕ → Taken → Type 0
Differs m t = (t.claim.number == m) ≡ false

pub delivery_leaves : (h : List StepRec) (actor m : ℕ) (reply : Reply) (t : Taken) → Differs m t → LeavesOut h (record { actor = actor; call = Deliver m; reply = reply }) t
delivery_leaves h actor m reply t d e = found_without t.claim.number m (out h) (given_of t.actor t.claim) d e

pub return_leaves : (h : List StepRec) (actor m : ℕ) (t : Taken) → Differs m t → LeavesOut h (record { actor = actor; call = GiveBack m; reply = Back }) t
return_leaves h actor m t d e = found_without t.claim.number m (out h) (given_of t.actor t.claim) d e

-- One claim of several.

later_of : (n : ℕ) (front : List Taken) (t : Taken) (back : List Taken) → AreLater n (front ++ t ∷ back) → (n < t.claim.number) × AreLater n (front ++ back)
later_of n [] t back a = (a.0, a.1)
later_of n (x ∷ xs) t back a = let rest : (n < t.claim.number) × AreLater n (xs ++ back) = later_of n xs t back a.1 in (rest.0, (a.0, rest.1))

later_differ : (n : ℕ) (ts : List Taken) → AreLater n ts → Each (Differs n) ts
later_differ n [] a = tt
later_differ n (t ∷ ts) a = (ne_eqb t.claim.number n (omega (arith, a.0)), later_differ n ts a.1)

-- the claim, and the others, whose numbers differ
pub record AreParted (g : Ground) (h : List StepRec) (t : Taken) (others : List Taken) : Type 0 where
  pub own : IsTaken g h t
  pub rest : AreTaken g h others
  pub differ : Each (Differs t.claim.number) others

pub parted : (g : Ground) (h : List StepRec) (front : List Taken) (t : Taken) (back : List Taken) → AreTaken g h (front ++ t ∷ back) → AreParted g h t (front ++ back)
parted g h [] t back k = record { own = k.0; rest = k.1.1; differ = later_differ t.claim.number back k.1.0 }
parted g h (x ∷ xs) t back k =
    let rest : AreParted g h t (xs ++ back) = parted g h xs t back k.1.1 in
    let later : (x.claim.number < t.claim.number) × AreLater x.claim.number (xs ++ back) = later_of x.claim.number xs t back k.1.0 in
    record {
      own = rest.own;
      rest = (k.0, (later.1, rest.rest));
      differ = (ne_eqb x.claim.number t.claim.number (omega (arith, later.0)), rest.differ);
    }

-- the actor's first claim, and the others
pub parted_first : (g : Ground) (h : List StepRec) (actor : ℕ) (ts : List Taken) (t : Taken) → claim_of actor ts ≡ Some t → AreTaken g h ts → AreParted g h t (other_claims actor ts)
parted_first g h actor ts t e k = parted g h (before_first (taken_by actor) ts) t (after_first (taken_by actor) ts) (subst (AreTaken g h) (split_first (taken_by actor) ts t e) k)

pub claim_there : (actor : ℕ) (ts : List Taken) (i : ℕ) (t : Taken) → position (taken_by actor) ts ≡ Some i → t ≡ get_or ts i t → Some (taken_as actor t.claim) ≡ claim_of actor ts
claim_there actor ts i t e at =
    let by : t.actor ≡ actor = ap (λ (x : Taken). x.actor) at ∙ eqb-true (get_or ts i t).actor actor (position-Some (taken_by actor) ts i t e).1 in
    ap (λ (n : ℕ). Some (taken_as n t.claim)) (sym by) ∙ sym (first_at (taken_by actor) ts i t e at)

-- Drafts.

pub draft_there : (actor : ℕ) (bs : List Begun) (i : ℕ) (b : Begun) → position (drafted_by actor) bs ≡ Some i → b ≡ get_or bs i b → Some (begun_on actor b.base) ≡ draft_of actor bs
draft_there actor bs i b e at =
    let by : b.actor ≡ actor = ap (λ (x : Begun). x.actor) at ∙ eqb-true (get_or bs i b).actor actor (position-Some (drafted_by actor) bs i b e).1 in
    ap (λ (n : ℕ). Some (begun_on n b.base)) (sym by) ∙ sym (first_at (drafted_by actor) bs i b e at)

pub begun_more : (e : StepRec) (h : List StepRec) (bs : List Begun) → AreBegun h bs → AreBegun (e ∷ h) bs
begun_more e h [] p = tt
begun_more e h (b ∷ bs) p = (rw p.0 (or_true (begins b.actor b.base.revision e)), begun_more e h bs p.1)

pub begun_push : (h : List StepRec) (bs : List Begun) (b : Begun) → AreBegun h bs → has_begun h b.actor b.base.revision ≡ true → AreBegun h (bs ++ b ∷ [])
begun_push h [] b p l = (l, tt)
begun_push h (x ∷ xs) b p l = (p.0, begun_push h xs b p.1 l)

pub begun_remove : (h : List StepRec) (bs : List Begun) (i : ℕ) → AreBegun h bs → AreBegun h (remove bs i)
begun_remove h [] zero p = tt
begun_remove h [] (suc i) p = tt
begun_remove h (b ∷ bs) zero p = p.1
begun_remove h (b ∷ bs) (suc i) p = (p.0, begun_remove h bs i p.1)

-- the actor's draft was begun, and so were the others
pub begun_first : (h : List StepRec) (actor : ℕ) (bs : List Begun) (b : Begun) → AreBegun h bs → draft_of actor bs ≡ Some b → has_begun h b.actor b.base.revision ≡ true
begun_first h actor [] b p e = absurd (cc)
begun_first h actor (x ∷ xs) b p e =
    let F : Bool → Type 0 = λ t. cond t (Some x) (draft_of actor xs) ≡ Some b → has_begun h b.actor b.base.revision ≡ true in
    let at : F (x.actor == actor) = elim (x.actor == actor) as F [
      | true ↦ λ k. let same : x ≡ b = cc in subst (λ (y : Begun). has_begun h y.actor y.base.revision ≡ true) same p.0
      | false ↦ λ k. begun_first h actor xs b p.1 k
    ] in
    at e

pub begun_others : (h : List StepRec) (actor : ℕ) (bs : List Begun) → AreBegun h bs → AreBegun h (other_drafts actor bs)
begun_others h actor bs p = subst (AreBegun h) (first_removed (drafted_by actor) bs) (begun_remove h bs (position_or_len (drafted_by actor) bs) p)

-- No other reply is Began.

not_claimed : (o : Option Pair) (n q r : ℕ) → is_began r (claimed o n q) ≡ false
not_claimed None n q r = refl
not_claimed (Some p) n q r = refl

not_delivered : (o : Option Key) (last : Key → ℕ) (r : ℕ) → is_began r (delivered o last) ≡ false
not_delivered None last r = refl
not_delivered (Some k) last r = refl

not_published : (o : Option Pair) (q r : ℕ) → is_began r (published o q) ≡ false
not_published None q r = refl
not_published (Some p) q r = refl

not_committed : (o : Option CommitRefusal) (q r : ℕ) → is_began r (committed o q) ≡ false
not_committed None q r = refl
not_committed (Some why) q r = refl

-- a draft is begun on a revision so far
begun_now : (g : Ground) (h : List StepRec) (actor : ℕ) (call : Call) (reply : Reply) (r : ℕ) → Answers g h actor call reply → is_began r reply ≡ true → r ≤ revision h
begun_now g h actor Begin reply r m b =
    let same : revision h ≡ r = eqb-true (revision h) r (subst (λ (x : Reply). is_began r x ≡ true) m b) in
    rw (← same) (omega arith)
begun_now g h actor (Commit base edits) reply r m b = absurd (true≢false (sym b ∙ ap (λ (x : Reply). is_began r x) m.1 ∙ not_committed (judge_in g (revision h) (last_change g h) base (current g h) edits) (revision h + 1) r))
begun_now g h actor Claim reply r m b = absurd (true≢false (sym b ∙ ap (λ (x : Reply). is_began r x) m ∙ not_claimed (least_claimable g h) (given h + 1) (revision h) r))
begun_now g h actor (Deliver n) reply r m b = absurd (true≢false (sym b ∙ ap (λ (x : Reply). is_began r x) m.2 ∙ not_delivered (least_changed g h m.0) (last_change g h) r))
begun_now g h actor (GiveBack n) reply r m b = absurd (true≢false (sym b ∙ ap (λ (x : Reply). is_began r x) m.2))
begun_now g h actor Publish reply r m b = absurd (true≢false (sym b ∙ ap (λ (x : Reply). is_began r x) m ∙ not_published (least_unsettled g h) (revision h) r))

pub begun_past : (g : Ground) (h : List StepRec) (actor r : ℕ) → Legal g h → has_begun h actor r ≡ true → r ≤ revision h
begun_past g [] actor r l b = absurd (true≢false (sym b))
begun_past g (e ∷ h) actor r l b =
    let F : Bool → Type 0 = λ t. begins actor r e ≡ t → (t || has_begun h actor r) ≡ true → r ≤ revision h in
    let at : F (begins actor r e) = elim (begins actor r e) as F [
      | true ↦ λ k m. begun_now g h e.actor e.call e.reply r l.0 (and_parts (e.actor == actor) (is_began r e.reply) k).1
      | false ↦ λ k m. begun_past g h actor r l.1 m
    ] in
    let early : r ≤ revision h = at refl b in
    omega (arith, early, revision_grows e h)
