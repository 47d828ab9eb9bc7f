-- The output of a history with the lines of one editor, told entry by entry.
use Rattle.std.proofs.Common.{◌≡◌, ℕ, zero, suc, ◌<◌, ◌≤◌, Bool, true, false, cond, nat_le, ◌==◌, List, [], ◌∷◌, ◌++◌, filter, flat_map, reverse, codes, Option, Some, None, arith, refl, ap, sym, subst, ◌∙◌}
use Rattle.std.specs.Fmt.{decimal}
use Rattle.std.proofs.lemmas.Bool.{and_parts, eqb-true, ne_eqb, leb-true}
use Rattle.std.proofs.lemmas.Grind.{flat_map-append}
use Rattle.std.proofs.lemmas.List.{append-nil, append_assoc, reverse-append, reverse-reverse}
use Rattle.ifc_base.specs.declared.key.Key.{Key}
use Rattle.audit_model.specs.declared.commit.CommitRefusal.{CommitRefusal}
use Rattle.audit_model.specs.declared.verdict.Pair.{Pair}
use Rattle.audit_model.specs.declared.step.StepRec.{StepRec}
use Rattle.audit_model.specs.declared.step.Call.{Call}
use Rattle.audit_model.specs.declared.step.Call.TheVariants.{Begin, Commit, Claim, Deliver, GiveBack, Publish}
use Rattle.audit_model.specs.declared.step.Reply.{Reply}
use Rattle.audit_model.specs.declared.step.Reply.TheVariants.{Began, Accepted, Refused, Claimed, Idle, Used, Stale, Back, Pending, Report}
use Rattle.audit_model.specs.History.{Ground, revision}
use Rattle.audit_model.specs.Machine.{Answers, MayFollow, Legal, committed, claimed, delivered, published}
use Rattle.script_rules.specs.Output.{entry_text, reply_text, editor_text, ends_phase, is_report, report_in, phase_text, with_entry, whole_phases}
use Rattle.audit_model.specs.Report.{audit_text, line}
use Rattle.script_rules.specs.Telling.{Told, told, told_more, is_of_one_editor}
use Rattle.script_rules.specs.RunLaws.{OutputIsTold}
use Rattle.audit_model.proofs.HistoryLaws.{earlier_models_stay}
use Rattle.audit_model.proofs.Tests.{Each}

-- The entries of a journal behind its last whole phase.

abbrev keep : List (List StepRec) → Bool → StepRec → List StepRec → List StepRec
keep [] false x xs = x ∷ xs
keep [] true x xs = xs
keep (p ∷ ps) b x xs = xs

abbrev behind : List StepRec → List StepRec
behind [] = []
behind (x ∷ xs) = keep (whole_phases xs) (ends_phase x) x (behind xs)

entry_end : (x : StepRec) (b : Bool) (ps : List (List StepRec)) (o : List StepRec) (e : StepRec) → with_entry x b (ps ++ (o ++ e ∷ []) ∷ []) ≡ with_entry x b ps ++ (keep ps b x o ++ e ∷ []) ∷ []
entry_end x true [] o e = refl
entry_end x false [] o e = refl
entry_end x true (p ∷ ps) o e = refl
entry_end x false (p ∷ ps) o e = refl

phases_end : (es : List StepRec) (e : StepRec) → ends_phase e ≡ true → whole_phases (es ++ e ∷ []) ≡ whole_phases es ++ (behind es ++ e ∷ []) ∷ []
phases_end [] e t = ap (λ (b : Bool). with_entry e b []) t
phases_end (x ∷ xs) e t =
    ap (λ (ps : List (List StepRec)). with_entry x (ends_phase x) ps) (phases_end xs e t) ∙ entry_end x (ends_phase x) (whole_phases xs) (behind xs) e

phases_on : (es : List StepRec) (e : StepRec) → ends_phase e ≡ false → whole_phases (es ++ e ∷ []) ≡ whole_phases es
phases_on [] e f = ap (λ (b : Bool). with_entry e b []) f
phases_on (x ∷ xs) e f = ap (λ (ps : List (List StepRec)). with_entry x (ends_phase x) ps) (phases_on xs e f)

keep_more : (ps : List (List StepRec)) (q : List StepRec) (b : Bool) (x : StepRec) (o : List StepRec) → keep (ps ++ q ∷ []) b x o ≡ o
keep_more [] q b x o = refl
keep_more (p ∷ ps) q b x o = refl

behind_end : (es : List StepRec) (e : StepRec) → ends_phase e ≡ true → behind (es ++ e ∷ []) ≡ []
behind_end [] e t = ap (λ (b : Bool). keep [] b e []) t
behind_end (x ∷ xs) e t =
    ap (λ (ps : List (List StepRec)). keep ps (ends_phase x) x (behind (xs ++ e ∷ []))) (phases_end xs e t)
    ∙ keep_more (whole_phases xs) (behind xs ++ e ∷ []) (ends_phase x) x (behind (xs ++ e ∷ []))
    ∙ behind_end xs e t

keep_on : (ps : List (List StepRec)) (b : Bool) (x : StepRec) (o : List StepRec) (e : StepRec) → keep ps b x (o ++ e ∷ []) ≡ keep ps b x o ++ e ∷ []
keep_on [] true x o e = refl
keep_on [] false x o e = refl
keep_on (p ∷ ps) b x o e = refl

behind_on : (es : List StepRec) (e : StepRec) → ends_phase e ≡ false → behind (es ++ e ∷ []) ≡ behind es ++ e ∷ []
behind_on [] e f = ap (λ (b : Bool). keep [] b e []) f
behind_on (x ∷ xs) e f =
    ap (λ (ps : List (List StepRec)). keep ps (ends_phase x) x (behind (xs ++ e ∷ []))) (phases_on xs e f)
    ∙ ap (λ (o : List StepRec). keep (whole_phases xs) (ends_phase x) x o) (behind_on xs e f)
    ∙ keep_on (whole_phases xs) (ends_phase x) x (behind xs) e

-- One more entry in a filtered list.

filter_with : {X : Type 0} (p : X → Bool) (xs : List X) (x : X) → p x ≡ true → filter p (xs ++ x ∷ []) ≡ filter p xs ++ x ∷ []
filter_with p [] x t = rw t refl
filter_with p (y ∷ ys) x t =
    ap (λ zs. cond (p y) (y ∷ zs) zs) (filter_with p ys x t)
    ∙ elim (p y) as (λ b. cond b (y ∷ (filter p ys ++ x ∷ [])) (filter p ys ++ x ∷ []) ≡ cond b (y ∷ filter p ys) (filter p ys) ++ x ∷ []) [ true ↦ refl | false ↦ refl ]

filter_without : {X : Type 0} (p : X → Bool) (xs : List X) (x : X) → p x ≡ false → filter p (xs ++ x ∷ []) ≡ filter p xs
filter_without p [] x f = rw f refl
filter_without p (y ∷ ys) x f = ap (λ zs. cond (p y) (y ∷ zs) zs) (filter_without p ys x f)

-- Reports are of revisions so far, so later entries don't change their texts.

abbrev IsEarly : ℕ → Reply → Type 0
IsEarly r (Report s) = s ≤ r
IsEarly r reply = Unit {0}

early_committed : (r s : ℕ) (o : Option CommitRefusal) → IsEarly r (committed o s)
early_committed r s None = tt
early_committed r s (Some why) = tt

early_claimed : (r n s : ℕ) (o : Option Pair) → IsEarly r (claimed o n s)
early_claimed r n s None = tt
early_claimed r n s (Some p) = tt

early_delivered : (r : ℕ) (last : Key → ℕ) (o : Option Key) → IsEarly r (delivered o last)
early_delivered r last None = tt
early_delivered r last (Some k) = tt

early_published : (r : ℕ) (o : Option Pair) → IsEarly r (published o r)
early_published r None = omega arith
early_published r (Some p) = tt

early_as : (r : ℕ) (reply told : Reply) → reply ≡ told → IsEarly r told → IsEarly r reply
early_as r reply told e k = subst (λ (x : Reply). IsEarly r x) (sym e) k

early_report : (g : Ground) (h : List StepRec) (actor : ℕ) (call : Call) (reply : Reply) → Answers g h actor call reply → IsEarly (revision h) reply
early_report g h actor Begin reply a = early_as (revision h) reply _ a tt
early_report g h actor (Commit base edits) reply a = early_as (revision h) reply _ a.1 (early_committed (revision h) _ _)
early_report g h actor Claim reply a = early_as (revision h) reply _ a (early_claimed (revision h) _ _ _)
early_report g h actor (Deliver n) reply a = early_as (revision h) reply _ a.2 (early_delivered (revision h) _ _)
early_report g h actor (GiveBack n) reply a = early_as (revision h) reply _ a.2 tt
early_report g h actor Publish reply a = early_as (revision h) reply _ a (early_published (revision h) _)

same_report : (g : Ground) (later h : List StepRec) (reply : Reply) → IsEarly (revision h) reply → report_in g (later ++ h) reply ≡ report_in g h reply
same_report g later h (Report r) e = ap (λ m. audit_text g.schema g.specs m r) (earlier_models_stay g later h r e)
same_report g later h (Began r) e = refl
same_report g later h (Accepted r) e = refl
same_report g later h (Refused why) e = refl
same_report g later h (Claimed n p r) e = refl
same_report g later h Idle e = refl
same_report g later h Used e = refl
same_report g later h (Stale k r) e = refl
same_report g later h Back e = refl
same_report g later h (Pending p) e = refl

-- What is told of a journal j whose entries are some of those of the history k.
record IsToldOf (g : Ground) (k j : List StepRec) (t : Told) : Type 0 where
  pub whole : flat_map (λ phase. phase_text g k phase) (whole_phases j) ≡ t.whole
  pub lines : editor_text g k (behind j) 1 ≡ t.lines
  pub others : (who : ℕ) → 1 < who → filter (λ e. e.actor == who) (behind j) ≡ []
  pub ends : filter ends_phase (behind j) ≡ []

no_others : (g : Ground) (k phase : List StepRec) (ks : List ℕ) → ((who : ℕ) → 1 < who → filter (λ e. e.actor == who) phase ≡ []) → Each (λ who. 1 < who) ks → flat_map (λ who. editor_text g k phase who) ks ≡ []
no_others g k phase [] f e = refl
no_others g k phase (who ∷ ks) f e = λ i. flat_map (λ x. entry_text g k x) (f who e.0 i) ++ no_others g k phase ks f e.1 i

abbrev other_editors : List ℕ
other_editors = 2 ∷ 3 ∷ 4 ∷ 5 ∷ 6 ∷ 7 ∷ 8 ∷ 9 ∷ 10 ∷ 11 ∷ 12 ∷ 13 ∷ 14 ∷ 15 ∷ 16 ∷ []

others_above : Each (λ who. 1 < who) other_editors
others_above = (omega arith, (omega arith, (omega arith, (omega arith, (omega arith, (omega arith, (omega arith, (omega arith, (omega arith, (omega arith, (omega arith, (omega arith, (omega arith, (omega arith, (omega arith, tt)))))))))))))))

-- the entry isn't of an editor with a number above 1
not_other : (e : StepRec) (who : ℕ) → e.actor ≤ 1 → 1 < who → (e.actor == who) ≡ false
not_other e who le lt = ne_eqb e.actor who (omega (arith, le, lt))

ending_text : (g : Ground) (k j : List StepRec) (e : StepRec) (t : Told) → IsToldOf g k j t → ends_phase e ≡ true → e.actor ≡ 0 → phase_text g k (behind j ++ e ∷ []) ≡ t.lines ++ report_in g k e.reply
ending_text g k j e t s is caller =
    let phase : List StepRec = behind j ++ e ∷ [] in
    let others : (who : ℕ) → 1 < who → filter (λ x. x.actor == who) phase ≡ [] =
    λ who lt. filter_without (λ x. x.actor == who) (behind j) e (not_other e who (omega (arith, caller)) lt) ∙ s.others who lt in
    let own : editor_text g k phase 1 ≡ t.lines =
    ap (λ (es : List StepRec). flat_map (λ x. entry_text g k x) es) (filter_without (λ x. x.actor == 1) (behind j) e (ne_eqb e.actor 1 (omega (arith, caller)))) ∙ s.lines in
    let last : filter ends_phase phase ≡ e ∷ [] = filter_with ends_phase (behind j) e is ∙ ap (λ (es : List StepRec). es ++ e ∷ []) s.ends in
    (λ i. (own i ++ no_others g k phase other_editors others others_above i) ++ flat_map (λ x. report_in g k x.reply) (last i))
    ∙ (λ i. append-nil t.lines i ++ append-nil (report_in g k e.reply) i)

step_end : (g : Ground) (k j : List StepRec) (e : StepRec) (t : Told) → IsToldOf g k j t → ends_phase e ≡ true → e.actor ≡ 0 → IsToldOf g k (j ++ e ∷ []) (record { whole = t.whole ++ t.lines ++ report_in g k e.reply; lines = [] })
step_end g k j e t s is caller =
    let text : List StepRec → List ℕ = λ phase. phase_text g k phase in
    let last : List StepRec = behind j ++ e ∷ [] in
    record {
      whole =
          ap (λ (ps : List (List StepRec)). flat_map text ps) (phases_end j e is)
          ∙ flat_map-append text (whole_phases j) (last ∷ [])
          ∙ (λ i. s.whole i ++ (ending_text g k j e t s is caller i ++ []))
          ∙ ap (λ (xs : List ℕ). t.whole ++ xs) (append-nil (t.lines ++ report_in g k e.reply))
          ∙ sym (append_assoc t.whole t.lines (report_in g k e.reply));
      lines = ap (λ (es : List StepRec). editor_text g k es 1) (behind_end j e is);
      others = λ who lt. ap (λ (es : List StepRec). filter (λ x. x.actor == who) es) (behind_end j e is);
      ends = ap (λ (es : List StepRec). filter ends_phase es) (behind_end j e is);
    }

step_caller : (g : Ground) (k j : List StepRec) (e : StepRec) (t : Told) → IsToldOf g k j t → ends_phase e ≡ false → e.actor ≡ 0 → IsToldOf g k (j ++ e ∷ []) t
step_caller g k j e t s not caller =
    record {
      whole = ap (λ (ps : List (List StepRec)). flat_map (λ phase. phase_text g k phase) ps) (phases_on j e not) ∙ s.whole;
      lines =
          ap (λ (es : List StepRec). editor_text g k es 1) (behind_on j e not)
          ∙ ap (λ (es : List StepRec). flat_map (λ x. entry_text g k x) es) (filter_without (λ x. x.actor == 1) (behind j) e (ne_eqb e.actor 1 (omega (arith, caller))))
          ∙ s.lines;
      others = λ who lt.
          ap (λ (es : List StepRec). filter (λ x. x.actor == who) es) (behind_on j e not)
          ∙ filter_without (λ x. x.actor == who) (behind j) e (not_other e who (omega (arith, caller)) lt)
          ∙ s.others who lt;
      ends = ap (λ (es : List StepRec). filter ends_phase es) (behind_on j e not) ∙ filter_without ends_phase (behind j) e not ∙ s.ends;
    }

step_editor : (g : Ground) (k j : List StepRec) (e : StepRec) (t : Told) → IsToldOf g k j t → ends_phase e ≡ false → e.actor ≡ 1 → IsToldOf g k (j ++ e ∷ []) (record { whole = t.whole; lines = t.lines ++ entry_text g k e })
step_editor g k j e t s not one =
    let text : StepRec → List ℕ = λ x. entry_text g k x in
    record {
      whole = ap (λ (ps : List (List StepRec)). flat_map (λ phase. phase_text g k phase) ps) (phases_on j e not) ∙ s.whole;
      lines =
          ap (λ (es : List StepRec). editor_text g k es 1) (behind_on j e not)
          ∙ ap (λ (es : List StepRec). flat_map text es) (filter_with (λ x. x.actor == 1) (behind j) e (rw one refl))
          ∙ flat_map-append text (filter (λ x. x.actor == 1) (behind j)) (e ∷ [])
          ∙ (λ i. s.lines i ++ append-nil (entry_text g k e) i);
      others = λ who lt.
          ap (λ (es : List StepRec). filter (λ x. x.actor == who) es) (behind_on j e not)
          ∙ filter_without (λ x. x.actor == who) (behind j) e (not_other e who (omega (arith, one)) lt)
          ∙ s.others who lt;
      ends = ap (λ (es : List StepRec). filter ends_phase es) (behind_on j e not) ∙ filter_without ends_phase (behind j) e not ∙ s.ends;
    }

actor_in : (n : ℕ) (b : Bool) → n ≤ 1 → (n == 0) ≡ b → cond b (n ≡ 0) (n ≡ 1)
actor_in n true le e = eqb-true n 0 e
actor_in zero false le e = absurd (cc)
actor_in (suc zero) false le e = refl
actor_in (suc (suc n)) false le e = absurd (omega (arith, le))

step_on : (g : Ground) (k j : List StepRec) (e : StepRec) (t : Told) (b : Bool) → IsToldOf g k j t → ends_phase e ≡ false → e.actor ≤ 1 → (e.actor == 0) ≡ b → IsToldOf g k (j ++ e ∷ []) (cond b t (record { whole = t.whole; lines = t.lines ++ entry_text g k e }))
step_on g k j e t true s not le is = step_caller g k j e t s not (actor_in e.actor true le is)
step_on g k j e t false s not le is = step_editor g k j e t s not (actor_in e.actor false le is)

step_told : (g : Ground) (k j : List StepRec) (e : StepRec) (t : Told) (b : Bool) → IsToldOf g k j t → ends_phase e ≡ b → e.actor ≤ 1 →
    IsToldOf g k (j ++ e ∷ []) (cond b (record { whole = t.whole ++ t.lines ++ report_in g k e.reply; lines = [] }) (cond (e.actor == 0) t (record { whole = t.whole; lines = t.lines ++ entry_text g k e })))
step_told g k j e t true s is le = step_end g k j e t s is (eqb-true e.actor 0 (and_parts (e.actor == 0) (is_report e.reply) is).0)
step_told g k j e t false s is le = step_on g k j e t (e.actor == 0) s is le refl

-- the same, by the history that ends with the entry
step_here : (g : Ground) (later h j : List StepRec) (e : StepRec) (t : Told) → IsToldOf g (later ++ (e ∷ h)) j t → MayFollow g h e → e.actor ≤ 1 → IsToldOf g (later ++ (e ∷ h)) (j ++ e ∷ []) (told_more g (e ∷ h) e t)
step_here g later h j e t s m le =
    let early : IsEarly (revision h) e.reply = early_report g h e.actor e.call e.reply m in
    let after : report_in g ((later ++ e ∷ []) ++ h) e.reply ≡ report_in g h e.reply = same_report g (later ++ e ∷ []) h e.reply early in
    let here : report_in g (e ∷ h) e.reply ≡ report_in g h e.reply = same_report g (e ∷ []) h e.reply early in
    let same : report_in g (later ++ (e ∷ h)) e.reply ≡ report_in g (e ∷ h) e.reply =
    ap (λ (k : List StepRec). report_in g k e.reply) (sym (append_assoc later (e ∷ []) h)) ∙ after ∙ sym here in
    subst (λ (report : List ℕ). IsToldOf g (later ++ (e ∷ h)) (j ++ e ∷ []) (cond (ends_phase e) (record { whole = t.whole ++ t.lines ++ report; lines = [] })
    (cond (e.actor == 0) t (record { whole = t.whole; lines = t.lines ++ (line (decimal e.actor ++ codes " " ++ reply_text g.limits e.reply) ++ report) }))))
    same (step_told g (later ++ (e ∷ h)) j e t (ends_phase e) s refl le)

turned : (e : StepRec) (h : List StepRec) → reverse (e ∷ h) ≡ reverse h ++ e ∷ []
turned e h = reverse-append (e ∷ []) h

all_told : (g : Ground) (later h : List StepRec) → Legal g h → is_of_one_editor h ≡ true → IsToldOf g (later ++ h) (reverse h) (told g h)
all_told g later [] l a = record { whole = refl; lines = refl; others = λ who lt. refl; ends = refl }
all_told g later (e ∷ h) l a =
    let parts : (nat_le e.actor 1 ≡ true) × (is_of_one_editor h ≡ true) = and_parts (nat_le e.actor 1) (is_of_one_editor h) a in
    let rest : IsToldOf g ((later ++ e ∷ []) ++ h) (reverse h) (told g h) = all_told g (later ++ e ∷ []) h l.1 parts.1 in
    let here : IsToldOf g (later ++ (e ∷ h)) (reverse h) (told g h) = subst (λ (k : List StepRec). IsToldOf g k (reverse h) (told g h)) (append_assoc later (e ∷ []) h) rest in
    subst (λ (j : List StepRec). IsToldOf g (later ++ (e ∷ h)) j (told g (e ∷ h))) (sym (turned e h))
    (step_here g later h (reverse h) e (told g h) here l.0 (leb-true e.actor 1 parts.0))

pub output_is_told : OutputIsTold
output_is_told g h l a =
    ap (λ (k : List StepRec). flat_map (λ phase. phase_text g k phase) (whole_phases (reverse h))) (reverse-reverse h) ∙ (all_told g [] h l a).whole
