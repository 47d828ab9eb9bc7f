-- What is told of the entries that lines and rounds make.
use Rattle.std.proofs.Common.{◌≡◌, ℕ, zero, suc, ◌<◌, ◌≤◌, Bool, true, false, not, cond, ◌&&◌, ◌==◌, nat_le, List, [], ◌∷◌, ◌++◌, flat_map, reverse, length, Option, Some, None, arith, refl, ap, sym, subst, ◌∙◌}
use Rattle.std.proofs.lemmas.Bool.{ne_eqb, eq-eqb, le-leb}
use Rattle.std.proofs.lemmas.Grind.{flat_map-append}
use Rattle.std.proofs.lemmas.List.{append-nil, append_assoc, reverse-append}
use Rattle.ifc_base.specs.declared.key.Key.{Key}
use Rattle.audit_model.specs.declared.commit.Edit.{Edit}
use Rattle.audit_model.specs.declared.commit.CommitRefusal.{CommitRefusal}
use Rattle.audit_model.specs.declared.verdict.Pair.{Pair}
use Rattle.audit_model.specs.declared.step.StepRec.{StepRec}
use Rattle.audit_model.specs.declared.step.Given.{Given}
use Rattle.audit_model.specs.declared.step.Call.TheVariants as calls
use Rattle.audit_model.specs.declared.step.Reply.{Reply}
use Rattle.audit_model.specs.declared.step.Reply.TheVariants.{Began, Accepted, Refused, Claimed, Idle, Used, Stale, Back, Pending, Report}
use Rattle.audit_model.specs.declared.script.Act.{Act}
use Rattle.audit_model.specs.declared.script.Act.TheVariants.{Begin, Change, Commit, Publish, Take, Give, Work}
use Rattle.audit_model.specs.History.{Ground, revision, out, claim_numbered}
use Rattle.audit_model.specs.Machine.{claim_reply, deliver_reply, commit_reply, claimed, delivered, committed, least_claimable, least_changed, is_full}
use Rattle.script_rules.specs.Output.{entry_text, is_report, report_in, ends_phase}
use Rattle.script_rules.specs.ScriptLines.{Place, entry, free}
use Rattle.script_rules.specs.Serial.{Done, done, ended, with_room, given_to, with_delivery, after_delivery, after_claim, rounds, commit_done, give_done, act_done}
use Rattle.script_rules.specs.Telling.{Told, told, told_more, is_of_one_editor}
use Rattle.serial_run.specs.Lines.{entry_line, entry_lines}
use Rattle.serial_run.specs.Quiet.{AreQuiet, GoesOn}

-- Quiet replies.

quiet_commit : (o : Option CommitRefusal) (r : ℕ) → is_report (committed o r) ≡ false
quiet_commit None r = refl
quiet_commit (Some why) r = refl

pub quiet_claim : (o : Option Pair) (n r : ℕ) → is_report (claimed o n r) ≡ false
quiet_claim None n r = refl
quiet_claim (Some p) n r = refl

quiet_delivery : (o : Option Key) (last : Key → ℕ) → is_report (delivered o last) ≡ false
quiet_delivery None last = refl
quiet_delivery (Some k) last = refl

-- Going on.

pub same : (who : ℕ) (h : List StepRec) → GoesOn who h h
same who h = ([], refl, tt)

pub one_more : (who : ℕ) (e : StepRec) (h : List StepRec) → e.actor ≡ who → is_report e.reply ≡ false → GoesOn who h (e ∷ h)
one_more who e h a q = (e ∷ [], refl, (a, q, tt))

quiet_both : (who : ℕ) (xs ys : List StepRec) → AreQuiet who xs → AreQuiet who ys → AreQuiet who (xs ++ ys)
quiet_both who [] ys a b = b
quiet_both who (x ∷ xs) ys a b = (a.0, a.1, quiet_both who xs ys a.2 b)

pub joined : (who : ℕ) (h k l : List StepRec) → GoesOn who h k → GoesOn who k l → GoesOn who h l
joined who h k l a b =
    (b.0 ++ a.0, b.1 ∙ ap (λ (es : List StepRec). b.0 ++ es) a.1 ∙ sym (append_assoc b.0 a.0 h), quiet_both who b.0 a.0 b.2 a.2)

pub roomy : (g : Ground) (who n : ℕ) (h : List StepRec) (p : Place) (d : Done) → GoesOn who h d.history → GoesOn who h (with_room g n h p d).history
roomy g who n h p d a = elim (is_full g h n) as (λ b. GoesOn who h (cond b (ended h p) d).history) [ true ↦ same who h | false ↦ a ]

delivered_if : (g : Ground) (who n : ℕ) (o : Option Given) (h : List StepRec) → GoesOn who h (with_delivery g who n o h)
delivered_if g who n None h = same who h
delivered_if g who n (Some c) h = one_more who _ h refl (quiet_delivery _ _)

delivery : (g : Ground) (who n : ℕ) (h : List StepRec) → GoesOn who h (after_delivery g who n h)
delivery g who n h = delivered_if g who n (given_to who (claim_numbered n (out h))) h

claim : (g : Ground) (who : ℕ) (reply : Reply) (h : List StepRec) (p : Place) (more : List StepRec → Done) → is_report reply ≡ false → ((k : List StepRec) → GoesOn who k (more k).history) → GoesOn who h (after_claim g who reply h p more).history
claim g who (Claimed n pair r) h p more q on =
    let first : List StepRec = entry who calls.Claim (Claimed n pair r) ∷ h in
    let next : List StepRec = after_delivery g who n first in
    joined who h next (more next).history (joined who h first next (one_more who _ h refl refl) (delivery g who n first)) (on next)
claim g who reply h p more q on = one_more who (entry who calls.Claim reply) h refl q

pub rounds_quiet : (g : Ground) (who n : ℕ) (p : Place) (h : List StepRec) → GoesOn who h (rounds g who n p h).history
rounds_quiet g who zero p h = same who h
rounds_quiet g who (suc n) p h =
    let d : Done = after_claim g who (claim_reply g h) h p (rounds g who n p) in
    roomy g who 2 h p d (claim g who (claim_reply g h) h p (rounds g who n p) (quiet_claim _ _ _) (λ k. rounds_quiet g who n p k))

commit_quiet : (g : Ground) (who : ℕ) (d : Option (ℕ × List Edit)) (p : Place) (h : List StepRec) → GoesOn who h (commit_done g who d p h).history
commit_quiet g who None p h = same who h
commit_quiet g who (Some d) p h = roomy g who 1 h p _ (one_more who _ h refl (quiet_commit _ _))

give_quiet : (g : Ground) (who : ℕ) (held : Option (Option ℕ)) (p : Place) (h : List StepRec) → GoesOn who h (give_done g who held p h).history
give_quiet g who None p h = same who h
give_quiet g who (Some None) p h = same who h
give_quiet g who (Some (Some n)) p h = delivery g who n h

abbrev pub publishes : Act → Bool
publishes Publish = true
publishes act = false

pub act_quiet : (g : Ground) (who : ℕ) (a : Act) (p : Place) (h : List StepRec) → publishes a ≡ false → GoesOn who h (act_done g who a p h).history
act_quiet g who Begin p h q = roomy g who 1 h p _ (one_more who _ h refl refl)
act_quiet g who (Change e) p h q = same who h
act_quiet g who Commit p h q = commit_quiet g who p.draft p h
act_quiet g who Publish p h q = absurd (cc)
act_quiet g who Take p h q = roomy g who 2 h p _ (one_more who _ h refl (quiet_claim _ _ _))
act_quiet g who Give p h q = give_quiet g who p.held p h
act_quiet g who (Work n) p h q = rounds_quiet g who n p h

-- What is told.

no_report : (g : Ground) (h : List StepRec) (r : Reply) → is_report r ≡ false → report_in g h r ≡ []
no_report g h (Began r) q = refl
no_report g h (Accepted r) q = refl
no_report g h (Refused why) q = refl
no_report g h (Claimed n p r) q = refl
no_report g h Idle q = refl
no_report g h Used q = refl
no_report g h (Stale k r) q = refl
no_report g h Back q = refl
no_report g h (Pending p) q = refl
no_report g h (Report r) q = absurd (cc)

-- an entry of editor 1 adds its line
pub told_line : (g : Ground) (e : StepRec) (h : List StepRec) → e.actor ≡ 1 → told g (e ∷ h) ≡ record { whole = (told g h).whole; lines = (told g h).lines ++ (entry_line g.limits e ++ report_in g (e ∷ h) e.reply) }
told_line g e h a =
    let other : (e.actor == 0) ≡ false = ne_eqb e.actor 0 (omega (arith, a)) in
    let rest : Told = record { whole = (told g h).whole; lines = (told g h).lines ++ entry_text g (e ∷ h) e } in
    λ i. cond (other i && is_report e.reply) (record { whole = (told g h).whole ++ (told g h).lines ++ report_in g (e ∷ h) e.reply; lines = [] }) (cond (other i) (told g h) rest)

entries_joined : (g : Ground) (e : StepRec) (es : List StepRec) → entry_lines g.limits (reverse (e ∷ es)) ≡ entry_lines g.limits (reverse es) ++ entry_line g.limits e
entries_joined g e es =
    ap (λ (xs : List StepRec). entry_lines g.limits xs) (reverse-append (e ∷ []) es)
    ∙ flat_map-append (λ (x : StepRec). entry_line g.limits x) (reverse es) (e ∷ [])
    ∙ ap (λ (xs : List ℕ). entry_lines g.limits (reverse es) ++ xs) (append-nil (entry_line g.limits e))

pub told_lines : (g : Ground) (es h : List StepRec) → AreQuiet 1 es → told g (es ++ h) ≡ record { whole = (told g h).whole; lines = (told g h).lines ++ entry_lines g.limits (reverse es) }
told_lines g [] h q = λ i. record { whole = (told g h).whole; lines = sym (append-nil (told g h).lines) i }
told_lines g (e ∷ es) h q =
    let rest : told g (es ++ h) ≡ record { whole = (told g h).whole; lines = (told g h).lines ++ entry_lines g.limits (reverse es) } = told_lines g es h q.2 in
    let bare : entry_line g.limits e ++ report_in g (e ∷ (es ++ h)) e.reply ≡ entry_line g.limits e =
    ap (λ (xs : List ℕ). entry_line g.limits e ++ xs) (no_report g (e ∷ (es ++ h)) e.reply q.1) ∙ append-nil (entry_line g.limits e) in
    told_line g e (es ++ h) q.0
    ∙ (λ i. record { whole = (rest i).whole; lines = (rest i).lines ++ bare i })
    ∙ (λ i. record { whole = (told g h).whole; lines = append_assoc (told g h).lines (entry_lines g.limits (reverse es)) (entry_line g.limits e) i })
    ∙ (λ i. record { whole = (told g h).whole; lines = (told g h).lines ++ sym (entries_joined g e es) i })

-- entries of actor 0 without a report tell nothing
pub told_nothing : (g : Ground) (es h : List StepRec) → AreQuiet 0 es → told g (es ++ h) ≡ told g h
told_nothing g [] h q = refl
told_nothing g (e ∷ es) h q =
    let here : (e.actor == 0) ≡ true = eq-eqb e.actor 0 q.0 in
    let whole : Told = record { whole = (told g (es ++ h)).whole ++ (told g (es ++ h)).lines ++ report_in g (e ∷ (es ++ h)) e.reply; lines = [] } in
    let other : Told = record { whole = (told g (es ++ h)).whole; lines = (told g (es ++ h)).lines ++ entry_text g (e ∷ (es ++ h)) e } in
    (λ i. cond (here i && q.1 i) whole (cond (here i) (told g (es ++ h)) other)) ∙ told_nothing g es h q.2

-- all entries are of actor 0 or editor 1
pub one_editor : (who : ℕ) (es h : List StepRec) → who ≤ 1 → AreQuiet who es → is_of_one_editor h ≡ true → is_of_one_editor (es ++ h) ≡ true
one_editor who [] h le q o = o
one_editor who (e ∷ es) h le q o =
    λ i. le-leb e.actor 1 (omega (arith, le, q.0)) i && one_editor who es h le q.2 o i
