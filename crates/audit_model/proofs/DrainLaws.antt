-- A drain claims the unsettled pairs in their order, uses each finding, and reports.
use Rattle.std.proofs.Common.{◌≡◌, ℕ, ◌+◌, ◌≤◌, suc, Bool, true, false, not, ◌&&◌, ◌||◌, cond, nat_lt, if◌then◌else◌, List, [], ◌∷◌, ◌++◌, find, filter, reverse, length, Option, Some, None, arith, refl, ap, sym, subst, ◌∙◌}
use Rattle.std.specs.List.{list_any, list_all, cons_option}
use Rattle.std.proofs.lemmas.Bool.{eq-eqb, le-ltb, or_parts}
use Rattle.std.proofs.lemmas.List.{append-nil, append_assoc, reverse-append}
use Rattle.std.proofs.lemmas.List.Folds.{list_any-append}
use Rattle.std.proofs.lemmas.List.Sums.{sum_by-cons}
use Rattle.ifc_base.specs.declared.key.Key.{Key}
use Rattle.audit_model.specs.declared.commit.Edit.{Edit}
use Rattle.audit_model.specs.declared.verdict.Pair.{Pair}
use Rattle.audit_model.specs.declared.step.Given.{Given}
use Rattle.audit_model.specs.declared.step.StepRec.{StepRec}
use Rattle.audit_model.specs.declared.step.Call.TheVariants.{Claim, Deliver, Publish}
use Rattle.audit_model.specs.declared.step.Reply.{Reply}
use Rattle.audit_model.specs.declared.step.Reply.TheVariants.{Claimed, Idle, Used, Report}
use Rattle.audit_model.specs.Models.{IsModel}
use Rattle.audit_model.specs.Edits.{apply}
use Rattle.audit_model.specs.Keys.{changes}
use Rattle.audit_model.specs.Needs.{need}
use Rattle.audit_model.specs.Pairs.{same_pair, NumberedFrom}
use Rattle.audit_model.specs.History.{Ground, pairs_in, model_after, model_of, model_at, last_of, commits, revision, current, last_change, changed_since, out, used, given, is_claimed, claim_numbered, without_claim, is_out, stands_by, settled, settled_by}
use Rattle.audit_model.specs.Machine.{MayFollow, Legal, pairs_now, least_unsettled, least_claimable, claimed, claim_reply, delivered, deliver_reply, published, publish_reply}
use Rattle.audit_model.specs.Drain.{caller_entry, IsDrain, stops, goes_on, drain_from, drain, unsettled, drain_after, DrainFollows, DrainOfFile}
use Rattle.audit_model.proofs.Tests.{Each, Each-weaker, or_true}
use Rattle.audit_model.proofs.Apart.{AreApart, apart_pairs}
use Rattle.audit_model.proofs.Claims.{same_pair-refl}
use Rattle.audit_model.proofs.HistoryLaws.{one_reply, all_models, newest_model}

-- Searches of lists.

find_same : {X : Type 0} (f g : X → Bool) → ((x : X) → f x ≡ g x) → (xs : List X) → find f xs ≡ find g xs
find_same f g h [] = refl
find_same f g h (x ∷ xs) = λ i. cond (h x i) (Some x) (find_same f g h xs i)

find_never : {X : Type 0} (f : X → Bool) → ((x : X) → f x ≡ false) → (xs : List X) → find f xs ≡ None
find_never f h [] = refl
find_never f h (x ∷ xs) = λ i. cond (h x i) (Some x) (find_never f h xs i)

find_filtered : {X : Type 0} (f g : X → Bool) (xs : List X) → find (λ x. f x && g x) xs ≡ find g (filter f xs)
find_filtered f g [] = refl
find_filtered {X} f g (x ∷ xs) =
    let F : Bool → Type 0 = λ b. cond (b && g x) (Some x) (find (λ y. f y && g y) xs) ≡ find g (cond b (x ∷ filter f xs) (filter f xs)) in
    elim (f x) as F [ true ↦ ap (λ (o : Option X). cond (g x) (Some x) o) (find_filtered f g xs) | false ↦ find_filtered f g xs ]

find_past : {X : Type 0} (t : X → Bool) (xs ys : List X) → Each (λ x. t x ≡ false) xs → find t (xs ++ ys) ≡ find t ys
find_past t [] ys h = refl
find_past {X} t (x ∷ xs) ys h = ap (λ (b : Bool). cond b (Some x) (find t (xs ++ ys))) h.0 ∙ find_past t xs ys h.1

all_true : {X : Type 0} (t : X → Bool) → ((x : X) → t x ≡ true) → (xs : List X) → list_all t xs ≡ true
all_true t h [] = refl
all_true t h (x ∷ xs) = λ i. h x i && all_true t h xs i

filter_whole : {X : Type 0} (xs : List X) → filter (λ x. true) xs ≡ xs
filter_whole [] = refl
filter_whole (x ∷ xs) = λ i. x ∷ filter_whole xs i

-- Pairs that are apart.

abbrev among : List Pair → Pair → Bool
among ps p = list_any (λ q. same_pair q p) ps

any_filter : (t f : Pair → Bool) (xs : List Pair) → list_any t xs ≡ false → list_any t (filter f xs) ≡ false
any_filter t f [] h = refl
any_filter t f (x ∷ xs) h =
    let both : (t x ≡ false) × (list_any t xs ≡ false) = or_parts _ _ h in
    elim (f x) as (λ b. list_any t (cond b (x ∷ filter f xs) (filter f xs)) ≡ false) [ true ↦ (λ i. both.0 i || any_filter t f xs both.1 i) | false ↦ any_filter t f xs both.1 ]

apart_filter : (f : Pair → Bool) (xs : List Pair) → AreApart xs → AreApart (filter f xs)
apart_filter f [] h = tt
apart_filter f (x ∷ xs) h =
    elim (f x) as (λ b. AreApart (cond b (x ∷ filter f xs) (filter f xs))) [ true ↦ (any_filter (same_pair x) f xs h.0, apart_filter f xs h.1) | false ↦ apart_filter f xs h.1 ]

apart_here : (done : List Pair) (p : Pair) (todo : List Pair) → AreApart (done ++ (p ∷ todo)) → among done p ≡ false
apart_here [] p todo a = refl
apart_here (d ∷ ds) p todo a =
    let later : (list_any (same_pair d) ds || (same_pair d p || list_any (same_pair d) todo)) ≡ false = sym (list_any-append (same_pair d) ds (p ∷ todo)) ∙ a.0 in
    let here : same_pair d p ≡ false = (or_parts _ _ (or_parts _ _ later).1).0 in
    λ i. here i || apart_here ds p todo a.1 i

members : (ps : List Pair) → Each (λ p. among ps p ≡ true) ps
members [] = tt
members (p ∷ ps) =
    (ap (λ (b : Bool). b || among ps p) (same_pair-refl p), Each-weaker (λ q. among ps q ≡ true) (λ q. among (p ∷ ps) q ≡ true) (λ q h. ap (λ (b : Bool). same_pair p q || b) h ∙ or_true (same_pair p q)) ps (members ps))

-- The first of the pairs that are left.
abbrev first_of : List Pair → Option Pair
first_of [] = None
first_of (p ∷ ps) = Some p

not_or : (a b : Bool) → not (a || b) ≡ (not a && not b)
not_or true b = refl
not_or false b = refl

and_true : (a : Bool) → (a && true) ≡ a
and_true true = refl
and_true false = refl

or_false : (a : Bool) → a ≡ (a || false)
or_false true = refl
or_false false = refl

-- The history h has gone on from start by rounds that claimed and used these pairs; the next claim has the number n.
record IsDrained (g : Ground) (start h : List StepRec) (done : List Pair) (n : ℕ) : Type 0 where
  pub same_commits : commits h ≡ commits start
  pub none_out : out h ≡ []
  pub next : given h + 1 ≡ n
  pub settles : (p : Pair) → settled g h p ≡ (settled g start p || among done p)

-- these pairs are done, those are left
record Splits (g : Ground) (start : List StepRec) (done todo : List Pair) : Type 0 where
  pub apart : AreApart (unsettled g start)
  pub both : unsettled g start ≡ done ++ todo

first_left : (done todo : List Pair) → AreApart (done ++ todo) → find (λ p. not (among done p)) todo ≡ first_of todo
first_left done [] a = refl
first_left done (p ∷ ps) a = ap (λ (b : Bool). cond (not b) (Some p) (find (λ q. not (among done q)) ps)) (apart_here done p ps a)

unsettled_is : {g : Ground} {start h : List StepRec} {done todo : List Pair} {n : ℕ} → IsDrained g start h done n → Splits g start done todo → least_unsettled g h ≡ first_of todo
unsettled_is {g} {start} {h} {done} {todo} d s =
    ap (λ (cs : List (List Edit)). find (λ p. not (settled g h p)) (pairs_in g (model_after g cs))) d.same_commits
    ∙ find_same (λ p. not (settled g h p)) (λ p. not (settled g start p) && not (among done p)) (λ p. ap not (d.settles p) ∙ not_or (settled g start p) (among done p)) (pairs_now g start)
    ∙ find_filtered (λ p. not (settled g start p)) (λ p. not (among done p)) (pairs_now g start)
    ∙ ap (λ (ps : List Pair). find (λ p. not (among done p)) ps) s.both
    ∙ find_past (λ p. not (among done p)) done todo (Each-weaker _ _ (λ p m. ap not m) done (members done))
    ∙ first_left done todo (subst AreApart s.both s.apart)

claimable_is : {g : Ground} {start h : List StepRec} {done todo : List Pair} {n : ℕ} → IsDrained g start h done n → Splits g start done todo → least_claimable g h ≡ first_of todo
claimable_is {g} {start} {h} d s =
    find_same (λ p. not (settled g h p) && not (is_out h p)) (λ p. not (settled g h p)) (λ p. ap (λ (cs : List Given). not (settled g h p) && not (list_any (λ c. same_pair c.pair p) cs)) d.none_out ∙ and_true (not (settled g h p))) (pairs_now g h)
    ∙ unsettled_is d s

claim_is : {g : Ground} {start h : List StepRec} {done todo : List Pair} {n : ℕ} → IsDrained g start h done n → Splits g start done todo → claim_reply g h ≡ claimed (first_of todo) n (revision start)
claim_is d s = λ i. claimed (claimable_is d s i) (d.next i) (length (d.same_commits i))

publish_is : {g : Ground} {start h : List StepRec} {done todo : List Pair} {n : ℕ} → IsDrained g start h done n → Splits g start done todo → publish_reply g h ≡ published (first_of todo) (revision start)
publish_is d s = λ i. published (unsettled_is d s i) (length (d.same_commits i))

-- Claims of the current revision.

last_most : (g : Ground) (cs : List (List Edit)) (k : Key) → last_of g cs k ≤ length cs
last_most g [] k = omega arith
last_most g (edits ∷ cs) k =
    let before : last_of g cs k ≤ length cs = last_most g cs k in
    elim (changes g.schema (model_after g cs) (apply g.schema (model_after g cs) edits) k) as (λ b. (if b then length cs + 1 else last_of g cs k) ≤ suc (length cs)) [ true ↦ omega arith | false ↦ omega (arith, before) ]

nothing_since : (g : Ground) (cs : List (List Edit)) (r : ℕ) (k : Key) → length cs ≡ r → nat_lt r (last_of g cs k) ≡ false
nothing_since g cs r k e = let le : last_of g cs k ≤ length cs = last_most g cs k in le-ltb _ _ (omega (arith, le, e))

abbrev claim_of : ℕ → Pair → ℕ → Given
claim_of n p r = record { number = n; actor = 0; pair = p; revision = r }

abbrev claim_made : ℕ → Pair → ℕ → List StepRec → List StepRec
claim_made n p r h = caller_entry Claim (Claimed n p r) ∷ h

abbrev round_made : ℕ → Pair → ℕ → List StepRec → List StepRec
round_made n p r h = caller_entry (Deliver n) Used ∷ claim_made n p r h

held_is : (h : List StepRec) (n : ℕ) (p : Pair) (r : ℕ) → out h ≡ [] → claim_numbered n (out (claim_made n p r h)) ≡ Some (claim_of n p r)
held_is h n p r e =
    ap (λ (cs : List Given). claim_numbered n (cs ++ claim_of n p r ∷ [])) e
    ∙ ap (λ (b : Bool). cond b (Some (claim_of n p r)) None) (eq-eqb n n refl)

deliver_is : (g : Ground) (h : List StepRec) (n : ℕ) (p : Pair) (r : ℕ) → revision h ≡ r → deliver_reply g (claim_made n p r h) (claim_of n p r) ≡ Used
deliver_is g h n p r e =
    ap (λ (o : Option Key). delivered o (last_change g (claim_made n p r h)))
    (find_never (changed_since g (claim_made n p r h) r) (λ k. nothing_since g (commits h) r k e) (need g.schema g.specs p (model_at g (claim_made n p r h) r)))

deliver_answers : (g : Ground) (h : List StepRec) (n : ℕ) (p : Pair) (r : ℕ) → out h ≡ [] → revision h ≡ r → MayFollow g (claim_made n p r h) (caller_entry (Deliver n) Used)
deliver_answers g h n p r o e = (claim_of n p r, record { is_held = held_is h n p r o; by = refl }, sym (deliver_is g h n p r e))

given_more : (e : StepRec) (h : List StepRec) → given (e ∷ h) ≡ cond (is_claimed e.reply) 1 0 + given h
given_more e h = sum_by-cons (λ (x : StepRec). cond (is_claimed x.reply) 1 0) e h

given_round : (h : List StepRec) (n : ℕ) (p : Pair) (r : ℕ) → given h + 1 ≡ n → given (round_made n p r h) + 1 ≡ n + 1
given_round h n p r e =
    let a : given (round_made n p r h) ≡ 0 + given (claim_made n p r h) = given_more (caller_entry (Deliver n) Used) (claim_made n p r h) in
    let b : given (claim_made n p r h) ≡ 1 + given h = given_more (caller_entry Claim (Claimed n p r)) h in
    omega (arith, a, b, e)

stands_now : (g : Ground) (h : List StepRec) (n : ℕ) (p : Pair) (r : ℕ) → revision h ≡ r → stands_by g (commits h) (claim_of n p r) ≡ true
stands_now g h n p r e = all_true _ (λ k. ap not (nothing_since g (commits h) r k e)) (need g.schema g.specs p (model_of g (commits h) r))

settles_more : (s a b : Bool) → ((s && true) || (a || b)) ≡ (a || (b || (s || false)))
settles_more true true b = refl
settles_more true false true = refl
settles_more true false false = refl
settles_more false true b = refl
settles_more false false true = refl
settles_more false false false = refl

settles_round : {g : Ground} {start h : List StepRec} {done : List Pair} {n : ℕ} (p : Pair) (r : ℕ) → revision h ≡ r → IsDrained g start h done n → (q : Pair) → settled g (round_made n p r h) q ≡ (settled g start q || among (done ++ p ∷ []) q)
settles_round {g} {start} {h} {done} {n} p r e d q =
    ap (λ (o : Option Given). settled_by g (commits h) (cons_option o (used h)) q) (held_is h n p r d.none_out)
    ∙ (λ i. (same_pair p q && stands_now g h n p r e i) || d.settles q i)
    ∙ settles_more (same_pair p q) (settled g start q) (among done q)
    ∙ ap (λ (b : Bool). settled g start q || b) (sym (list_any-append (λ x. same_pair x q) done (p ∷ [])))

drained_round : {g : Ground} {start h : List StepRec} {done : List Pair} {n : ℕ} (p : Pair) (r : ℕ) → revision h ≡ r → IsDrained g start h done n → IsDrained g start (round_made n p r h) (done ++ p ∷ []) (n + 1)
drained_round {g} {start} {h} {done} {n} p r e d =
    record {
      same_commits = d.same_commits;
      none_out = ap (λ (cs : List Given). without_claim n (cs ++ claim_of n p r ∷ [])) d.none_out ∙ ap (λ (b : Bool). cond (not b) (claim_of n p r ∷ []) []) (eq-eqb n n refl);
      next = given_round h n p r d.next;
      settles = settles_round p r e d;
    }

drained_idle : {g : Ground} {start h : List StepRec} {done : List Pair} {n : ℕ} → IsDrained g start h done n → IsDrained g start (caller_entry Claim Idle ∷ h) done n
drained_idle {g} {start} {h} {done} {n} d =
    record {
      same_commits = d.same_commits;
      none_out = d.none_out;
      next = let a : given (caller_entry Claim Idle ∷ h) ≡ 0 + given h = given_more (caller_entry Claim Idle) h in omega (arith, a, d.next);
      settles = d.settles;
    }

drained_revision : {g : Ground} {start h : List StepRec} {done : List Pair} {n : ℕ} → IsDrained g start h done n → revision h ≡ revision start
drained_revision d = ap (λ (cs : List (List Edit)). length cs) d.same_commits

splits_next : {g : Ground} {start : List StepRec} {done : List Pair} {p : Pair} {ps : List Pair} → Splits g start done (p ∷ ps) → Splits g start (done ++ p ∷ []) ps
splits_next {g} {start} {done} {p} {ps} s = record { apart = s.apart; both = s.both ∙ sym (append_assoc done (p ∷ []) ps) }

-- Entries one after the other.

-- these entries may follow the history, in this order
abbrev pub AllMayFollow : Ground → List StepRec → List StepRec → Type 0
AllMayFollow g h [] = Unit {0}
AllMayFollow g h (e ∷ es) = MayFollow g h e × AllMayFollow g (e ∷ h) es

follows : (g : Ground) (start h : List StepRec) (done todo : List Pair) (n : ℕ) → IsDrained g start h done n → Splits g start done todo → AllMayFollow g h (drain_from n (revision start) todo)
follows g start h done [] n d s = (sym (claim_is d s), (sym (publish_is (drained_idle d) s), tt))
follows g start h done (p ∷ ps) n d s = (
  sym (claim_is d s),
  (deliver_answers g h n p (revision start) d.none_out (drained_revision d), follows g start (round_made n p (revision start) h) (done ++ p ∷ []) ps (n + 1) (drained_round p (revision start) (drained_revision d) d) (splits_next s)),
)

-- a round that may be made is the one of the next pair
record IsNextRound (g : Ground) (h : List StepRec) (n : ℕ) (p : Pair) (r n' : ℕ) (p' : Pair) (r' : ℕ) (reply : Reply) (es : List StepRec) : Type 0 where
  pub same_number : n' ≡ n
  pub same_pairs : p' ≡ p
  pub same_revision : r' ≡ r
  pub is_used : reply ≡ Used
  pub rest : AllMayFollow g (round_made n p r h) es

next_round : {g : Ground} {start h : List StepRec} {done : List Pair} {p : Pair} {ps : List Pair} {n : ℕ} (n' : ℕ) (p' : Pair) (r' : ℕ) (reply : Reply) (es : List StepRec) → IsDrained g start h done n → Splits g start done (p ∷ ps) → AllMayFollow g h (caller_entry Claim (Claimed n' p' r') ∷ caller_entry (Deliver n') reply ∷ es) → IsNextRound g h n p (revision start) n' p' r' reply es
next_round {g} {start} {h} {done} {p} {ps} {n} n' p' r' reply es d s f =
    let told : Claimed n' p' r' ≡ Claimed n p (revision start) = f.0 ∙ claim_is d s in
    let a : n' ≡ n = cc in
    let b : p' ≡ p = cc in
    let c : r' ≡ revision start = cc in
    let F : ℕ → Pair → ℕ → Type 0 = λ x y z. AllMayFollow g (claim_made x y z h) (caller_entry (Deliver x) reply ∷ es) in
    let after : F n p (revision start) = subst (λ (x : ℕ). F x p (revision start)) a (subst (λ (y : Pair). F n' y (revision start)) b (subst (λ (z : ℕ). F n' p' z) c f.1)) in
    let used_it : reply ≡ Used = one_reply g (claim_made n p (revision start) h) 0 (Deliver n) reply Used after.0 (deliver_answers g h n p (revision start) d.none_out (drained_revision d)) in
    record {
      same_number = a;
      same_pairs = b;
      same_revision = c;
      is_used = used_it;
      rest = subst (λ (x : Reply). AllMayFollow g (caller_entry (Deliver n) x ∷ claim_made n p (revision start) h) es) used_it after.1;
    }

-- No other drain may follow.
only : (g : Ground) (start : List StepRec) {es : List StepRec} → IsDrain es → (h : List StepRec) (done todo : List Pair) (n : ℕ) → IsDrained g start h done n → Splits g start done todo → AllMayFollow g h es → es ≡ drain_from n (revision start) todo
only g start (stops {reply = reply}) h done [] n d s f =
    let told : reply ≡ Report (revision start) = f.1.0 ∙ publish_is (drained_idle d) s in
    λ i. caller_entry Claim Idle ∷ caller_entry Publish (told i) ∷ []
only g start (stops {reply = reply}) h done (p ∷ ps) n d s f =
    let told : Idle ≡ Claimed n p (revision start) = f.0 ∙ claim_is d s in absurd (cc)
only g start (goes_on {n = n'} {p = p'} {r = r'} {reply = reply} {es = es} t) h done [] n d s f =
    let told : Claimed n' p' r' ≡ Idle = f.0 ∙ claim_is d s in absurd (cc)
only g start (goes_on {n = n'} {p = p'} {r = r'} {reply = reply} {es = es} t) h done (p ∷ ps) n d s f =
    let k : IsNextRound g h n p (revision start) n' p' r' reply es = next_round n' p' r' reply es d s f in
    let more : es ≡ drain_from (n + 1) (revision start) ps = only g start t (round_made n p (revision start) h) (done ++ p ∷ []) ps (n + 1) (drained_round p (revision start) (drained_revision d) d) (splits_next s) k.rest in
    λ i. caller_entry Claim (Claimed (k.same_number i) (k.same_pairs i) (k.same_revision i)) ∷ caller_entry (Deliver (k.same_number i)) (k.is_used i) ∷ more i

drains : (n r : ℕ) (ps : List Pair) → IsDrain (drain_from n r ps)
drains n r [] = stops
drains n r (p ∷ ps) = goes_on (drains (n + 1) r ps)

-- Legal histories, the newest entry first.

pub turned : (e : StepRec) (es h : List StepRec) → reverse (e ∷ es) ++ h ≡ reverse es ++ (e ∷ h)
turned e es h = ap (λ (xs : List StepRec). xs ++ h) (reverse-append (e ∷ []) es) ∙ append_assoc (reverse es) (e ∷ []) h

legal_joined : (g : Ground) (h es : List StepRec) → Legal g h → AllMayFollow g h es → Legal g (reverse es ++ h)
legal_joined g h [] l f = l
legal_joined g h (e ∷ es) l f = subst (λ (xs : List StepRec). Legal g xs) (sym (turned e es h)) (legal_joined g (e ∷ h) es (f.0, l) f.1)

pub legal_older : (g : Ground) (xs h : List StepRec) → Legal g (xs ++ h) → Legal g h
legal_older g [] h l = l
legal_older g (x ∷ xs) h l = legal_older g xs h l.1

pub legal_split : (g : Ground) (h es : List StepRec) → Legal g (reverse es ++ h) → AllMayFollow g h es
legal_split g h [] l = tt
legal_split g h (e ∷ es) l =
    let k : Legal g (reverse es ++ (e ∷ h)) = subst (λ (xs : List StepRec). Legal g xs) (turned e es h) l in
    ((legal_older g (reverse es) (e ∷ h) k).0, legal_split g (e ∷ h) es k)

-- The laws.

drained_start : (g : Ground) (h : List StepRec) → out h ≡ [] → IsDrained g h h [] (given h + 1)
drained_start g h o = record { same_commits = refl; none_out = o; next = refl; settles = λ p. or_false (settled g h p) }

splits_start : (g : Ground) (h : List StepRec) → NumberedFrom 1 g.specs → IsModel g.first → Legal g h → Splits g h [] (unsettled g h)
splits_start g h k m l = record { apart = apart_filter _ _ (apart_pairs 1 g.specs (current g h) k (newest_model g (commits h) (all_models g h m l))); both = refl }

pub drain_follows : DrainFollows
drain_follows g h k m l o =
    let d : IsDrained g h h [] (given h + 1) = drained_start g h o in
    let s : Splits g h [] (unsettled g h) = splits_start g h k m l in (
      drains (given h + 1) (revision h) (unsettled g h),
      legal_joined g h (drain_after g h) l (follows g h h [] (unsettled g h) (given h + 1) d s),
      λ es t j. only g h t h [] (unsettled g h) (given h + 1) d s (legal_split g h es j),
    )

drain_first : (g : Ground) → drain_after g [] ≡ drain g
drain_first g = ap (λ (ps : List Pair). drain_from 1 0 ps) (filter_whole (pairs_in g g.first))

pub drain_of_file : DrainOfFile
drain_of_file g k m =
    let all : IsDrain (drain_after g []) × Legal g (reverse (drain_after g []) ++ []) × ((es : List StepRec) → IsDrain es → Legal g (reverse es ++ []) → es ≡ drain_after g []) = drain_follows g [] k m tt refl in (
      drains 1 0 (pairs_in g g.first),
      subst (λ (xs : List StepRec). Legal g (reverse xs)) (drain_first g) (subst (λ (xs : List StepRec). Legal g xs) (append-nil (reverse (drain_after g []))) all.1),
      λ es t j. all.2 es t (subst (λ (xs : List StepRec). Legal g xs) (sym (append-nil (reverse es))) j) ∙ drain_first g,
    )
