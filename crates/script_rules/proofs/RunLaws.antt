-- A run's drain is the one that may legally follow, and the output of a run of one `sync` is the report of the file.
use Rattle.std.proofs.Common.{◌≡◌, ℕ, zero, suc, ◌+◌, ◌*◌, ◌≤◌, ◌⊎◌, inl, inr, Bool, true, false, not, cond, nat_le, nat_lt, ◌==◌, List, [], ◌∷◌, ◌++◌, filter, flat_map, reverse, length, Option, Some, None, arith, refl, ap, sym, subst, ◌∙◌}
use Rattle.std.proofs.lemmas.Bool.{eq-eqb, le-leb, le-ltb}
use Rattle.std.proofs.lemmas.List.{append-nil, reverse-reverse}
use Rattle.ifc_base.specs.declared.value.Instance.{Instance}
use Rattle.audit_model.specs.declared.commit.Edit.{Edit}
use Rattle.audit_model.specs.declared.verdict.Pair.{Pair}
use Rattle.audit_model.specs.declared.step.Given.{Given}
use Rattle.audit_model.specs.declared.step.StepRec.{StepRec}
use Rattle.audit_model.specs.declared.step.Call.TheVariants.{Claim, Deliver, Publish}
use Rattle.audit_model.specs.declared.step.Reply.{Reply}
use Rattle.audit_model.specs.declared.step.Reply.TheVariants.{Claimed, Idle, Used, Report}
use Rattle.audit_model.specs.Models.{IsModel}
use Rattle.audit_model.specs.Pairs.{NumberedFrom}
use Rattle.audit_model.specs.Report.{audit_text}
use Rattle.audit_model.specs.History.{Ground, pairs_in, model_of, model_at, commits, revision, out, given, without_claim}
use Rattle.audit_model.specs.Machine.{Legal, Holds, deliver_reply, is_full, pairs_now}
use Rattle.audit_model.specs.Drain.{caller_entry, drain_from, drain, unsettled, drain_after}
use Rattle.script_rules.specs.ScriptLines.{free}
use Rattle.script_rules.specs.Serial.{Done, done, ended, with_room, given_to, with_delivery, after_delivery, after_claim, rounds, and_then, publish_done, drain_done}
use Rattle.script_rules.specs.Output.{entry_text, editor_text, editors, ends_phase, report_in, phase_text, with_entry, whole_phases, output}
use Rattle.script_rules.specs.RunLaws.{HasRoomToDrain, SyncDrainsFile, DrainIsDone, DrainEnds}
use Rattle.audit_model.proofs.DrainLaws.{drain_follows, drain_of_file, AllMayFollow, turned, legal_split}
use Rattle.audit_model.proofs.Tests.{Each, filter-length}

-- Rounds.

-- the drain with at most so many rounds before the Idle
abbrev drained : Ground → ℕ → List StepRec → Done
drained g m h = and_then (rounds g 0 (suc m) free h) (publish_done g)

has_room : (g : Ground) (h : List StepRec) (n : ℕ) → out h ≡ [] → length h + n ≤ g.limits.steps → is_full g h n ≡ false
has_room g h n o le =
    let none : length (out h) ≡ 0 = ap (λ (cs : List Given). length cs) o in
    le-ltb _ _ (omega (arith, none, le))

abbrev claim_made : ℕ → Pair → ℕ → List StepRec → List StepRec
claim_made n p r h = caller_entry Claim (Claimed n p r) ∷ h

abbrev round_made : ℕ → Pair → ℕ → List StepRec → List StepRec
round_made n p r h = caller_entry (Deliver n) Used ∷ claim_made n p r h

abbrev claim_of : ℕ → Pair → ℕ → Given
claim_of n p r = record { number = n; actor = 0; pair = p; revision = r }

out_round : (h : List StepRec) (n : ℕ) (p : Pair) (r : ℕ) → out h ≡ [] → out (round_made n p r h) ≡ []
out_round h n p r o =
    ap (λ (cs : List Given). without_claim n (cs ++ claim_of n p r ∷ [])) o
    ∙ ap (λ (b : Bool). cond (not b) (claim_of n p r ∷ []) []) (eq-eqb n n refl)

given_to_self : (c : Given) → c.actor ≡ 0 → given_to 0 (Some c) ≡ Some c
given_to_self c e = ap (λ (b : Bool). cond b (Some c) None) (eq-eqb c.actor 0 e)

delivery_is : (g : Ground) (h : List StepRec) (n : ℕ) (c : Given) → Holds h 0 n c → Used ≡ deliver_reply g h c → after_delivery g 0 n h ≡ caller_entry (Deliver n) Used ∷ h
delivery_is g h n c held told =
    ap (λ (o : Option Given). with_delivery g 0 n (given_to 0 o) h) held.is_held
    ∙ ap (λ (o : Option Given). with_delivery g 0 n o h) (given_to_self c held.by)
    ∙ ap (λ (reply : Reply). caller_entry (Deliver n) reply ∷ h) (sym told)

round_is : (g : Ground) (h : List StepRec) (n : ℕ) (p : Pair) (r m : ℕ) (es : List StepRec) → out h ≡ [] → length h + 2 ≤ g.limits.steps → AllMayFollow g h (caller_entry Claim (Claimed n p r) ∷ caller_entry (Deliver n) Used ∷ es) → drained g (suc m) h ≡ drained g m (round_made n p r h)
round_is g h n p r m es o room f =
    let more : List StepRec → Done = rounds g 0 (suc m) free in
    (λ i. and_then (cond (has_room g h 2 o room i) (ended h free) (after_claim g 0 (sym f.0 i) h free more)) (publish_done g))
    ∙ ap (λ (k : List StepRec). and_then (more k) (publish_done g)) (delivery_is g (claim_made n p r h) n f.1.0.0 f.1.0.1 f.1.0.2)

abbrev idle_made : List StepRec → List StepRec
idle_made h = caller_entry Claim Idle ∷ h

end_is : (g : Ground) (h : List StepRec) (m r : ℕ) → out h ≡ [] → length h + 2 ≤ g.limits.steps → AllMayFollow g h (caller_entry Claim Idle ∷ caller_entry Publish (Report r) ∷ []) → drained g m h ≡ done (caller_entry Publish (Report r) ∷ idle_made h) free
end_is g h m r o room f =
    let more : List StepRec → Done = rounds g 0 m free in
    (λ i. and_then (cond (has_room g h 2 o room i) (ended h free) (after_claim g 0 (sym f.0 i) h free more)) (publish_done g))
    ∙ (λ i. cond (has_room g (idle_made h) 1 o (omega (arith, room)) i) (ended (idle_made h) free) (done (caller_entry Publish (sym f.1.0 i) ∷ idle_made h) free))

drains_so : (g : Ground) (h : List StepRec) (n r m : ℕ) (todo : List Pair) → out h ≡ [] → length todo ≤ m → length h + 2 * length todo + 2 ≤ g.limits.steps → AllMayFollow g h (drain_from n r todo) → drained g m h ≡ done (reverse (drain_from n r todo) ++ h) free
drains_so g h n r m [] o le room f = end_is g h m r o (omega (arith, room)) f
drains_so g h n r zero (p ∷ ps) o le room f = absurd (omega (arith, le))
drains_so g h n r (suc m) (p ∷ ps) o le room f =
    let es : List StepRec = drain_from (n + 1) r ps in
    round_is g h n p r m es o (omega (arith, room)) f
    ∙ drains_so g (round_made n p r h) (n + 1) r m ps (out_round h n p r o) (omega (arith, le)) (omega (arith, room)) f.1.1
    ∙ ap (λ (xs : List StepRec). done xs free) (sym (turned (caller_entry Claim (Claimed n p r)) (caller_entry (Deliver n) Used ∷ es) h ∙ turned (caller_entry (Deliver n) Used) es (claim_made n p r h)))

pub drain_is_done : DrainIsDone
drain_is_done g h k m l o room =
    drains_so g h (given h + 1) (revision h) (length (pairs_now g h)) (unsettled g h) o (filter-length _ (pairs_now g h)) room (legal_split g h (drain_after g h) (drain_follows g h k m l o).1)

-- Rounds while there is room, by the pairs that are left to do.
abbrev worked : Ground → ℕ → ℕ → List Pair → List StepRec → Done
worked g n r [] h = with_room g 2 h free (done (idle_made h) free)
worked g n r (p ∷ ps) h = with_room g 2 h free (worked g (n + 1) r ps (round_made n p r h))

rounds_worked : (g : Ground) (h : List StepRec) (n r m : ℕ) (todo : List Pair) → out h ≡ [] → length todo ≤ m → AllMayFollow g h (drain_from n r todo) → rounds g 0 (suc m) free h ≡ worked g n r todo h
rounds_worked g h n r m [] o le f =
    let more : List StepRec → Done = rounds g 0 m free in
    ap (λ (reply : Reply). with_room g 2 h free (after_claim g 0 reply h free more)) (sym f.0)
rounds_worked g h n r zero (p ∷ ps) o le f = absurd (omega (arith, le))
rounds_worked g h n r (suc m) (p ∷ ps) o le f =
    let more : List StepRec → Done = rounds g 0 (suc m) free in
    ap (λ (reply : Reply). with_room g 2 h free (after_claim g 0 reply h free more)) (sym f.0)
    ∙ ap (λ (k : List StepRec). with_room g 2 h free (more k)) (delivery_is g (claim_made n p r h) n f.1.0.0 f.1.0.1 f.1.0.2)
    ∙ ap (λ (d : Done). with_room g 2 h free d) (rounds_worked g (round_made n p r h) (n + 1) r m ps (out_round h n p r o) (omega (arith, le)) f.1.1)

-- what was done ended before a call that would be answered Full, or leads to the history k
abbrev EndsAt : Done → List StepRec → Type 0
EndsAt d k = (d.full ≡ true) ⊎ (d ≡ done k free)

idle_room : (g : Ground) (h : List StepRec) → is_full g (idle_made h) 1 ≡ is_full g h 2
idle_room g h = ap (λ (n : ℕ). nat_lt g.limits.steps n) (omega arith)

idle_ends : (g : Ground) (h : List StepRec) (r : ℕ) (full : Bool) → is_full g h 2 ≡ full → AllMayFollow g h (caller_entry Claim Idle ∷ caller_entry Publish (Report r) ∷ []) → EndsAt (and_then (cond full (ended h free) (done (idle_made h) free)) (publish_done g)) (caller_entry Publish (Report r) ∷ idle_made h)
idle_ends g h r true e f = inl refl
idle_ends g h r false e f =
    inr (λ i. cond ((idle_room g h ∙ e) i) (ended (idle_made h) free) (done (caller_entry Publish (sym f.1.0 i) ∷ idle_made h) free))

worked_ends : (g : Ground) (h : List StepRec) (n r : ℕ) (todo : List Pair) → AllMayFollow g h (drain_from n r todo) → EndsAt (and_then (worked g n r todo h) (publish_done g)) (reverse (drain_from n r todo) ++ h)
worked_ends g h n r [] f = idle_ends g h r (is_full g h 2) refl f
worked_ends g h n r (p ∷ ps) f =
    let es : List StepRec = drain_from (n + 1) r ps in
    let rest : EndsAt (and_then (worked g (n + 1) r ps (round_made n p r h)) (publish_done g)) (reverse es ++ round_made n p r h) = worked_ends g (round_made n p r h) (n + 1) r ps f.1.1 in
    let turn : reverse (drain_from n r (p ∷ ps)) ++ h ≡ reverse es ++ round_made n p r h =
    turned (caller_entry Claim (Claimed n p r)) (caller_entry (Deliver n) Used ∷ es) h ∙ turned (caller_entry (Deliver n) Used) es (claim_made n p r h) in
    subst (λ (k : List StepRec). EndsAt (and_then (worked g n r (p ∷ ps) h) (publish_done g)) k) (sym turn)
    (elim (is_full g h 2) as (λ b. EndsAt (and_then (cond b (ended h free) (worked g (n + 1) r ps (round_made n p r h))) (publish_done g)) (reverse es ++ round_made n p r h)) [ true ↦ inl refl | false ↦ rest ])

pub drain_ends : DrainEnds
drain_ends g h k m l o =
    let f : AllMayFollow g h (drain_after g h) = legal_split g h (drain_after g h) (drain_follows g h k m l o).1 in
    let same : rounds g 0 (suc (length (pairs_now g h))) free h ≡ worked g (given h + 1) (revision h) (unsettled g h) h =
    rounds_worked g h (given h + 1) (revision h) (length (pairs_now g h)) (unsettled g h) o (filter-length _ (pairs_now g h)) f in
    subst (λ (d : Done). EndsAt (and_then d (publish_done g)) (reverse (drain_after g h) ++ h)) (sym same)
    (worked_ends g h (given h + 1) (revision h) (unsettled g h) f)

-- A script of one `sync`.

file_drained : (g : Ground) → NumberedFrom 1 g.specs → IsModel g.first → HasRoomToDrain g → drain_done g [] ≡ done (reverse (drain g) ++ []) free
file_drained g k m room =
    let legal : Legal g (reverse (drain g) ++ []) = subst (λ (xs : List StepRec). Legal g xs) (sym (append-nil (reverse (drain g)))) (drain_of_file g k m).1 in
    drains_so g [] 1 0 (length (pairs_in g g.first)) (pairs_in g g.first) refl (omega arith) (omega (arith, room)) (legal_split g [] (drain g) legal)

turned_twice : (es : List StepRec) → reverse (reverse es ++ []) ≡ es
turned_twice es = ap (λ (xs : List StepRec). reverse xs) (append-nil (reverse es)) ∙ reverse-reverse es

-- Its output.

one_phase : (n r : ℕ) (ps : List Pair) → whole_phases (drain_from n r ps) ≡ drain_from n r ps ∷ []
one_phase n r [] = refl
one_phase n r (p ∷ ps) = ap (λ (phases : List (List StepRec)). with_entry (caller_entry Claim (Claimed n p r)) false (with_entry (caller_entry (Deliver n) Used) false phases)) (one_phase (n + 1) r ps)

none_of : (who n r : ℕ) (ps : List Pair) → (0 == who) ≡ false → filter (λ e. e.actor == who) (drain_from n r ps) ≡ []
none_of who n r [] e = ap (λ (b : Bool). cond b (caller_entry Claim Idle ∷ cond b (caller_entry Publish (Report r) ∷ []) []) (cond b (caller_entry Publish (Report r) ∷ []) [])) e
none_of who n r (p ∷ ps) e =
    let rest : List StepRec = filter (λ e. e.actor == who) (drain_from (n + 1) r ps) in
    ap (λ (b : Bool). cond b (caller_entry Claim (Claimed n p r) ∷ cond b (caller_entry (Deliver n) Used ∷ rest) rest) (cond b (caller_entry (Deliver n) Used ∷ rest) rest)) e ∙ none_of who (n + 1) r ps e

no_lines : (g : Ground) (h : List StepRec) (n r : ℕ) (ps : List Pair) (ks : List ℕ) → Each (λ k. (0 == k) ≡ false) ks → flat_map (λ who. editor_text g h (drain_from n r ps) who) ks ≡ []
no_lines g h n r ps [] e = refl
no_lines g h n r ps (k ∷ ks) e =
    λ i. flat_map (λ x. entry_text g h x) (none_of k n r ps e.0 i) ++ no_lines g h n r ps ks e.1 i

one_report : (n r : ℕ) (ps : List Pair) → filter ends_phase (drain_from n r ps) ≡ caller_entry Publish (Report r) ∷ []
one_report n r [] = refl
one_report n r (p ∷ ps) = one_report (n + 1) r ps

first_model : (g : Ground) (cs : List (List Edit)) → model_of g cs 0 ≡ g.first
first_model g [] = refl
first_model g (edits ∷ cs) = let e : nat_le 0 (length cs) ≡ true = le-leb 0 (length cs) (omega arith) in rw e (first_model g cs)

apart_from_zero : Each (λ k. (0 == k) ≡ false) editors
apart_from_zero = (refl, (refl, (refl, (refl, (refl, (refl, (refl, (refl, (refl, (refl, (refl, (refl, (refl, (refl, (refl, (refl, tt))))))))))))))))

text_of_drain : (g : Ground) (h : List StepRec) (ps : List Pair) → phase_text g h (drain_from 1 0 ps) ≡ audit_text g.schema g.specs g.first 0
text_of_drain g h ps =
    (λ i. no_lines g h 1 0 ps editors apart_from_zero i ++ flat_map (λ e. report_in g h e.reply) (one_report 1 0 ps i))
    ∙ append-nil (audit_text g.schema g.specs (model_at g h 0) 0)
    ∙ ap (λ (m : List Instance). audit_text g.schema g.specs m 0) (first_model g (commits h))

output_of_drain : (g : Ground) → output g (drain g) ≡ audit_text g.schema g.specs g.first 0
output_of_drain g =
    ap (λ (phases : List (List StepRec)). flat_map (λ phase. phase_text g (reverse (drain g)) phase) phases) (one_phase 1 0 (pairs_in g g.first))
    ∙ append-nil (phase_text g (reverse (drain g)) (drain g))
    ∙ text_of_drain g (reverse (drain g)) (pairs_in g g.first)

pub sync_drains_file : SyncDrainsFile
sync_drains_file g k m room =
    let all : drain_done g [] ≡ done (reverse (drain g) ++ []) free = file_drained g k m room in
    let is_drain : reverse (drain_done g []).history ≡ drain g = ap (λ (d : Done). reverse d.history) all ∙ turned_twice (drain g) in (
      is_drain,
      ap (λ (d : Done). d.full) all,
      ap (λ (es : List StepRec). output g es) is_drain ∙ output_of_drain g,
    )
