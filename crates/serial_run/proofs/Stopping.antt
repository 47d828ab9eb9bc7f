-- The journal of a script of one editor that was stopped: some phases are whole, and of the next a front was done.
use Rattle.std.proofs.Common.{◌≡◌, ℕ, zero, suc, ◌<◌, ◌+◌, Bool, true, false, cond, List, [], ◌∷◌, ◌++◌, length, length-append, reverse, Option, Some, None, ◌⊎◌, inl, inr, is_some, arith, refl, ap, sym, subst, ◌∙◌}
use Rattle.std.proofs.lemmas.Bool.{not-true}
use Rattle.audit_model.proofs.DrainLaws.{turned}
use Rattle.std.proofs.lemmas.List.{append-nil, nil_from_length, reverse-reverse}
use Rattle.audit_model.specs.declared.commit.Edit.{Edit}
use Rattle.audit_model.specs.declared.verdict.Pair.{Pair}
use Rattle.audit_model.specs.declared.step.StepRec.{StepRec}
use Rattle.audit_model.specs.declared.step.Given.{Given}
use Rattle.audit_model.specs.declared.step.Call.TheVariants as calls
use Rattle.audit_model.specs.declared.step.Reply.{Reply}
use Rattle.audit_model.specs.declared.step.Reply.TheVariants.{Claimed, Idle, Back}
use Rattle.audit_model.specs.declared.script.Act.{Act}
use Rattle.audit_model.specs.declared.script.Act.TheVariants.{Begin, Change, Commit, Publish, Take, Give, Work}
use Rattle.audit_model.specs.declared.script.ScriptLine.{ScriptLine}
use Rattle.audit_model.specs.declared.script.Phase.{Phase}
use Rattle.audit_model.specs.Models.{IsModel}
use Rattle.audit_model.specs.Pairs.{NumberedFrom}
use Rattle.audit_model.specs.History.{Ground, revision, given, out, claim_numbered}
use Rattle.audit_model.specs.Machine.{Legal, claim_reply, claimed, publish_reply, least_claimable, is_full, pairs_now}
use Rattle.script_rules.specs.ScriptLines.{Place, place, free, entry, Rounds, Does, own}
use Rattle.script_rules.specs.ScriptOrder.{IsOrderly, AreOrderly, may_come}
use Rattle.script_rules.specs.Serial.{Done, done, ended, with_room, given_to, with_delivery, after_delivery, after_claim, rounds, commit_done, give_done, act_done, publish_done, drain_done, Run, fresh, moved, lines_run, sync_run, phases_run}
use Rattle.script_rules.proofs.RunLegal.{serial_is_legal}
use Rattle.serial_run.specs.Growth.{IsLater, returns, returned}
use Rattle.serial_run.specs.Stopped.{held_number, StopsInRounds, StopsInLine, StopsFrom, StopsInDrain, back_of, AreStopped, StopIsPhased}
use Rattle.serial_run.proofs.Growing.{joined, lines_grow, sync_grows, phases_grow, rounds_grow}
use Rattle.serial_run.proofs.Turning.{none_left}
use Rattle.serial_run.proofs.Phasing.{lines_full, sync_full, sync_on, phases_full}
use Rattle.serial_run.proofs.Following.{turned_both, legal_before, HeldIn, deliver_entry, delivery_is, turns_first, rounds_first, Goes, act_goes, none_yet, drafts, holds, own_first, line_is, order_on, AreFollowed, lines_follow, IsPhased, phase_on}

-- Histories of which one goes on from the other.

between : (h f : List StepRec) → IsLater h f → IsLater f h → f ≡ h
between h f a b =
    let fewer : length f ≡ length a.0 + length h = ap (λ (xs : List StepRec). length xs) a.1 ∙ length-append a.0 h in
    let more : length h ≡ length b.0 + length f = ap (λ (xs : List StepRec). length xs) b.1 ∙ length-append b.0 f in
    a.1 ∙ ap (λ (xs : List StepRec). xs ++ h) (nil_from_length a.0 (omega (arith, fewer, more)))

abbrev tail_of : List StepRec → List StepRec
tail_of [] = []
tail_of (x ∷ xs) = xs

compared : (xs ys f m : List StepRec) → xs ++ f ≡ ys ++ m → IsLater f m ⊎ IsLater m f
compared [] ys f m e = inr (ys, e)
compared (x ∷ xs) [] f m e = inl (x ∷ xs, sym e)
compared (x ∷ xs) (y ∷ ys) f m e = compared xs ys f m (ap tail_of e)

-- of two fronts of a history one goes on from the other
compare : (f m k : List StepRec) → IsLater f k → IsLater m k → IsLater f m ⊎ IsLater m f
compare f m k a b = compared a.0 b.0 f m (sym a.1 ∙ b.1)

behind_first : (e : StepRec) (h f xs : List StepRec) → IsLater h f → e ∷ h ≡ xs ++ f → (f ≡ h) ⊎ (f ≡ e ∷ h)
behind_first e h f [] a eq = inr (sym eq)
behind_first e h f (x ∷ xs) a eq = inl (between h f a (xs, ap tail_of eq))

one_entry : (e : StepRec) (h f : List StepRec) → IsLater h f → IsLater f (e ∷ h) → (f ≡ h) ⊎ (f ≡ e ∷ h)
one_entry e h f a b = behind_first e h f b.0 a b.1

behind_second : (y x : StepRec) (h f ys : List StepRec) → IsLater h f → y ∷ x ∷ h ≡ ys ++ f → ((f ≡ h) ⊎ (f ≡ x ∷ h)) ⊎ (f ≡ y ∷ x ∷ h)
behind_second y x h f [] a eq = inr (sym eq)
behind_second y x h f (z ∷ zs) a eq = inl (one_entry x h f a (zs, ap tail_of eq))

two_entries : (y x : StepRec) (h f : List StepRec) → IsLater h f → IsLater f (y ∷ x ∷ h) → ((f ≡ h) ⊎ (f ≡ x ∷ h)) ⊎ (f ≡ y ∷ x ∷ h)
two_entries y x h f a b = behind_second y x h f b.0 a b.1

-- The claim that is held is the only one that is out.

abbrev OutIs : ℕ → Option ℕ → List Given → Type 0
OutIs who None cs = cs ≡ []
OutIs who (Some n) cs = (c : Given) × (cs ≡ c ∷ []) × (c.number ≡ n) × (c.actor ≡ who)

held_out : (who : ℕ) (cs : List Given) (o : Option (Option ℕ)) → HeldIn who cs o → OutIs who (held_number o) cs
held_out who cs None k = k
held_out who cs (Some None) k = k
held_out who cs (Some (Some n)) k = k

not_held : (o : Option (Option ℕ)) → is_some o ≡ false → held_number o ≡ None
not_held None e = refl
not_held (Some x) e = absurd (cc)

-- Rounds.

abbrev claim_step : ℕ → ℕ → Pair → ℕ → StepRec
claim_step who number pair r = entry who calls.Claim (Claimed number pair r)

abbrev claim_given : ℕ → ℕ → Pair → ℕ → Given
claim_given who number pair r = record { number = number; actor = who; pair = pair; revision = r }

abbrev InRounds : ℕ → ℕ → List StepRec → Option ℕ → Type 0
InRounds who n es held = StopsInRounds who n es held ⊎ (Rounds who n es × (held ≡ None))

-- f goes on from h by some of n rounds
record CutRounds (who n : ℕ) (h f : List StepRec) : Type 0 where
  pub entries : List StepRec
  pub history : f ≡ reverse entries ++ h
  pub held : Option ℕ
  pub part : InRounds who n entries held
  pub out_is : OutIs who held (out f)

no_part : (who n : ℕ) → InRounds who n [] None
no_part who zero = inr (inl refl, refl)
no_part who (suc n) = let less : 0 < suc n = omega arith in inl (0, [], less, refl, inl (refl, refl))

no_round : (who n : ℕ) (h f : List StepRec) → out h ≡ [] → f ≡ h → CutRounds who n h f
no_round who n h f o e = record { entries = []; history = e; held = None; part = no_part who n; out_is = ap (λ (x : List StepRec). out x) e ∙ o }

only_claim : (who n number : ℕ) (pair : Pair) (r : ℕ) (h f : List StepRec) → out h ≡ [] → f ≡ claim_step who number pair r ∷ h → CutRounds who (suc n) h f
only_claim who n number pair r h f o e =
    let less : 0 < suc n = omega arith in
    let one : out (claim_step who number pair r ∷ h) ≡ claim_given who number pair r ∷ [] = ap (λ (xs : List Given). xs ++ claim_given who number pair r ∷ []) o in
    record {
      entries = claim_step who number pair r ∷ [];
      history = e;
      held = Some number;
      part = inl (0, [], less, refl, inr (number, pair, r, refl, refl));
      out_is = (claim_given who number pair r, ap (λ (x : List StepRec). out x) e ∙ one, refl, refl);
    }

only_idle : (who n : ℕ) (h f : List StepRec) → out h ≡ [] → f ≡ entry who calls.Claim Idle ∷ h → CutRounds who (suc n) h f
only_idle who n h f o e =
    let less : 0 < suc n = omega arith in
    record { entries = entry who calls.Claim Idle ∷ []; history = e; held = None; part = inr (inr (0, [], less, refl, refl), refl); out_is = ap (λ (x : List StepRec). out x) e ∙ o }

-- the entries of one round, and more behind them
abbrev round_then : ℕ → ℕ → Pair → ℕ → Reply → List StepRec → List StepRec
round_then who number pair r reply es = claim_step who number pair r ∷ entry who (calls.Deliver number) reply ∷ es

abbrev StopsBehind : ℕ → List StepRec → List StepRec → Option ℕ → Type 0
StopsBehind who some es held =
    ((es ≡ some) × (held ≡ None))
    ⊎ ((number : ℕ) × (pair : Pair) × (at : ℕ) × (es ≡ some ++ entry who calls.Claim (Claimed number pair at) ∷ []) × (held ≡ Some number))

stops_later : (who number : ℕ) (pair : Pair) (r : ℕ) (reply : Reply) (some es : List StepRec) (held : Option ℕ) → StopsBehind who some es held → StopsBehind who (round_then who number pair r reply some) (round_then who number pair r reply es) held
stops_later who number pair r reply some es held (inl k) = inl (ap (λ (xs : List StepRec). round_then who number pair r reply xs) k.0, k.1)
stops_later who number pair r reply some es held (inr k) = inr (k.0, k.1, k.2, ap (λ (xs : List StepRec). round_then who number pair r reply xs) k.3, k.4)

stops_first : (who n number : ℕ) (pair : Pair) (r : ℕ) (reply : Reply) (es : List StepRec) (held : Option ℕ) → InRounds who n es held → InRounds who (suc n) (round_then who number pair r reply es) held
stops_first who n number pair r reply es held (inr k) = inr (rounds_first who n number pair r reply es k.0, k.1)
stops_first who n number pair r reply es held (inl k) =
    let less : k.0 < n = k.2 in
    inl (suc k.0, round_then who number pair r reply k.1, omega (arith, less), turns_first who k.0 number pair r reply k.1 k.3, stops_later who number pair r reply k.1 es held k.4)

-- what holds of each front of what these rounds lead to
abbrev Cuts : ℕ → ℕ → (List StepRec → Done) → Type 0
Cuts who n more = (h f : List StepRec) → out h ≡ [] → IsLater h f → IsLater f (more h).history → CutRounds who n h f

later_round : (who n number : ℕ) (pair : Pair) (r : ℕ) (reply : Reply) (h f : List StepRec) → CutRounds who n (entry who (calls.Deliver number) reply ∷ claim_step who number pair r ∷ h) f → CutRounds who (suc n) h f
later_round who n number pair r reply h f w =
    let first : StepRec = claim_step who number pair r in
    let second : StepRec = entry who (calls.Deliver number) reply in
    record {
      entries = first ∷ second ∷ w.entries;
      history = w.history ∙ sym (turned first (second ∷ w.entries) h ∙ turned second w.entries (first ∷ h));
      held = w.held;
      part = stops_first who n number pair r reply w.entries w.held w.part;
      out_is = w.out_is;
    }

within_round : (who n number : ℕ) (pair : Pair) (r : ℕ) (reply : Reply) (h f : List StepRec) → out h ≡ [] → (IsLater (entry who (calls.Deliver number) reply ∷ claim_step who number pair r ∷ h) f → CutRounds who (suc n) h f) →
    ((f ≡ h) ⊎ (f ≡ claim_step who number pair r ∷ h)) ⊎ (f ≡ entry who (calls.Deliver number) reply ∷ claim_step who number pair r ∷ h) → CutRounds who (suc n) h f
within_round who n number pair r reply h f o on (inl (inl e)) = no_round who (suc n) h f o e
within_round who n number pair r reply h f o on (inl (inr e)) = only_claim who n number pair r h f o e
within_round who n number pair r reply h f o on (inr e) = on ([], e)

round_or_later : (who n number : ℕ) (pair : Pair) (r : ℕ) (reply : Reply) (h f : List StepRec) → out h ≡ [] → IsLater h f → (IsLater (entry who (calls.Deliver number) reply ∷ claim_step who number pair r ∷ h) f → CutRounds who (suc n) h f) →
    IsLater f (entry who (calls.Deliver number) reply ∷ claim_step who number pair r ∷ h) ⊎ IsLater (entry who (calls.Deliver number) reply ∷ claim_step who number pair r ∷ h) f → CutRounds who (suc n) h f
round_or_later who n number pair r reply h f o since on (inl early) =
    within_round who n number pair r reply h f o on (two_entries (entry who (calls.Deliver number) reply) (claim_step who number pair r) h f since early)
round_or_later who n number pair r reply h f o since on (inr later) = on later

round_cut : (g : Ground) (who n : ℕ) (number : ℕ) (pair : Pair) (r : ℕ) (more : List StepRec → Done) → Cuts who n more → ((k : List StepRec) → IsLater k (more k).history) → (h f : List StepRec) → out h ≡ [] → IsLater h f →
    IsLater f (more (after_delivery g who number (claim_step who number pair r ∷ h))).history → CutRounds who (suc n) h f
round_cut g who n number pair r more on grows h f o since within =
    let first : StepRec = claim_step who number pair r in
    let c : Given = claim_given who number pair r in
    let one : out (first ∷ h) ≡ c ∷ [] = ap (λ (xs : List Given). xs ++ c ∷ []) o in
    let second : StepRec = deliver_entry g who number (first ∷ h) c in
    let is : after_delivery g who number (first ∷ h) ≡ second ∷ first ∷ h = delivery_is g who number (first ∷ h) c one refl refl in
    let here : IsLater f (more (second ∷ first ∷ h)).history = subst (λ (k : List StepRec). IsLater f (more k).history) is within in
    let none : out (second ∷ first ∷ h) ≡ [] = none_left number (out (first ∷ h)) c one refl in
    round_or_later who n number pair r second.reply h f o since
    (λ later. later_round who n number pair r second.reply h f (on (second ∷ first ∷ h) f none later here))
    (compare f (second ∷ first ∷ h) (more (second ∷ first ∷ h)).history here (grows (second ∷ first ∷ h)))

idle_cut : (who n : ℕ) (h f : List StepRec) → out h ≡ [] → (f ≡ h) ⊎ (f ≡ entry who calls.Claim Idle ∷ h) → CutRounds who (suc n) h f
idle_cut who n h f o (inl e) = no_round who (suc n) h f o e
idle_cut who n h f o (inr e) = only_idle who n h f o e

claim_cut : (g : Ground) (who n : ℕ) (p : Place) (o : Option Pair) (number r : ℕ) (more : List StepRec → Done) → Cuts who n more → ((k : List StepRec) → IsLater k (more k).history) → (h f : List StepRec) → out h ≡ [] → IsLater h f →
    IsLater f (after_claim g who (claimed o number r) h p more).history → CutRounds who (suc n) h f
claim_cut g who n p None number r more on grows h f o since within = idle_cut who n h f o (one_entry (entry who calls.Claim Idle) h f since within)
claim_cut g who n p (Some pair) number r more on grows h f o since within = round_cut g who n number pair r more on grows h f o since within

-- a front of what stands where there was room, else of the history before it
roomy_cut : (F : Type 0) (g : Ground) (n : ℕ) (h f : List StepRec) (p : Place) (d : Done) → IsLater h f → (f ≡ h → F) → (IsLater f d.history → F) → IsLater f (with_room g n h p d).history → F
roomy_cut F g n h f p d since none some =
    elim (is_full g h n) as (λ b. IsLater f (cond b (ended h p) d).history → F) [ true ↦ λ within. none (between h f since within) | false ↦ some ]

rounds_cut : (g : Ground) (who n : ℕ) (p : Place) → Cuts who n (rounds g who n p)
rounds_cut g who zero p h f o since within = no_round who zero h f o (between h f since within)
rounds_cut g who (suc n) p h f o since within =
    roomy_cut (CutRounds who (suc n) h f) g 2 h f p (after_claim g who (claim_reply g h) h p (rounds g who n p)) since (no_round who (suc n) h f o)
    (claim_cut g who n p (least_claimable g h) (given h + 1) (revision h) (rounds g who n p) (rounds_cut g who n p) (rounds_grow g who n p) h f o since)
    within

-- Lines.

abbrev InLine : ℕ → Act → Place → List StepRec → Option ℕ → Type 0
InLine who a p es held =
    ((es ≡ []) × (held ≡ held_number p.held))
    ⊎ (StopsInLine who a es held
    ⊎ ((q : Place) × Does who a p es q × (held ≡ held_number q.held)))

-- f goes on from h by nothing of the line, by a part of it, or by the whole line
record CutLine (who : ℕ) (a : Act) (p : Place) (h f : List StepRec) : Type 0 where
  pub entries : List StepRec
  pub history : f ≡ reverse entries ++ h
  pub held : Option ℕ
  pub part : InLine who a p entries held
  pub out_is : OutIs who held (out f)

no_line : (who : ℕ) (a : Act) (p : Place) (h f : List StepRec) → HeldIn who (out h) p.held → f ≡ h → CutLine who a p h f
no_line who a p h f k e =
    record { entries = []; history = e; held = held_number p.held; part = inl (refl, refl); out_is = subst (λ (x : List StepRec). OutIs who (held_number p.held) (out x)) (sym e) (held_out who (out h) p.held k) }

whole_line : (who : ℕ) (a : Act) (p : Place) (h f : List StepRec) (d : Done) → Goes who a p h d → f ≡ d.history → CutLine who a p h f
whole_line who a p h f d k e = record {
  entries = k.entries;
  history = e ∙ k.history;
  held = held_number d.place.held;
  part = inr (inr (d.place, k.does, refl));
  out_is = subst (λ (x : List StepRec). OutIs who (held_number d.place.held) (out x)) (sym e) (held_out who (out d.history) d.place.held k.held);
}

-- what was done adds nothing, or one entry and isn't full
abbrev AddsOne : List StepRec → Done → Type 0
AddsOne h d = (d.history ≡ h) ⊎ ((e : StepRec) × (d.history ≡ e ∷ h) × (d.full ≡ false))

roomy_one : (g : Ground) (n : ℕ) (h : List StepRec) (p : Place) (d : Done) → AddsOne h d → AddsOne h (with_room g n h p d)
roomy_one g n h p d k = elim (is_full g h n) as (λ b. AddsOne h (cond b (ended h p) d)) [ true ↦ inl refl | false ↦ k ]

delivery_one : (g : Ground) (who n : ℕ) (o : Option Given) (h : List StepRec) (q : Place) → AddsOne h (done (with_delivery g who n o h) q)
delivery_one g who n None h q = inl refl
delivery_one g who n (Some c) h q = inr (deliver_entry g who n h c, refl, refl)

commit_one : (g : Ground) (who : ℕ) (o : Option (ℕ × List Edit)) (p : Place) (h : List StepRec) → AddsOne h (commit_done g who o p h)
commit_one g who None p h = inl refl
commit_one g who (Some d) p h = roomy_one g 1 h p _ (inr (_, refl, refl))

give_one : (g : Ground) (who : ℕ) (o : Option (Option ℕ)) (p : Place) (h : List StepRec) → AddsOne h (give_done g who o p h)
give_one g who None p h = inl refl
give_one g who (Some None) p h = inl refl
give_one g who (Some (Some n)) p h = delivery_one g who n (given_to who (claim_numbered n (out h))) h (place p.draft None)

one_cut : (who : ℕ) (a : Act) (p : Place) (h f : List StepRec) (d : Done) → HeldIn who (out h) p.held → (d.full ≡ false → Goes who a p h d) → IsLater h f → IsLater f d.history → AddsOne h d → CutLine who a p h f
one_cut who a p h f d k goes since within (inl e) = no_line who a p h f k (between h f since (subst (λ (x : List StepRec). IsLater f x) e within))
one_cut who a p h f d k goes since within (inr e) = cases (one_entry e.0 h f since (subst (λ (x : List StepRec). IsLater f x) e.1 within)) where
  cases : (f ≡ h) ⊎ (f ≡ e.0 ∷ h) → CutLine who a p h f
  cases (inl none) = no_line who a p h f k none
  cases (inr whole) = whole_line who a p h f d (goes e.2) (whole ∙ sym e.1)

work_cut : (who n : ℕ) (p : Place) (h f : List StepRec) → is_some p.held ≡ false → CutRounds who n h f → CutLine who (Work n) p h f
work_cut who n p h f none w = record { entries = w.entries; history = w.history; held = w.held; part = part w.entries w.held w.part; out_is = w.out_is } where
  part : (es : List StepRec) (held : Option ℕ) → InRounds who n es held → InLine who (Work n) p es held
  part es held (inl k) = inr (inl k)
  part es held (inr k) = inr (inr (p, (k.0, refl), k.1 ∙ sym (not_held p.held none)))

act_cut : (g : Ground) (who : ℕ) (a : Act) (p : Place) (h f : List StepRec) → may_come (is_some p.draft) (is_some p.held) a ≡ true → HeldIn who (out h) p.held → IsLater h f → IsLater f (act_done g who a p h).history → CutLine who a p h f
act_cut g who Begin p h f may k since within = one_cut who Begin p h f (act_done g who Begin p h) k (act_goes g who Begin p h may k) since within (roomy_one g 1 h p _ (inr (_, refl, refl)))
act_cut g who (Change e) p h f may k since within = no_line who (Change e) p h f k (between h f since within)
act_cut g who Commit p h f may k since within = one_cut who Commit p h f (act_done g who Commit p h) k (act_goes g who Commit p h may k) since within (commit_one g who p.draft p h)
act_cut g who Publish p h f may k since within = one_cut who Publish p h f (act_done g who Publish p h) k (act_goes g who Publish p h may k) since within (roomy_one g 1 h p _ (inr (_, refl, refl)))
act_cut g who Take p h f may k since within = one_cut who Take p h f (act_done g who Take p h) k (act_goes g who Take p h may k) since within (roomy_one g 2 h p _ (inr (_, refl, refl)))
act_cut g who Give p h f may k since within = one_cut who Give p h f (act_done g who Give p h) k (act_goes g who Give p h may k) since within (give_one g who p.held p h)
act_cut g who (Work n) p h f may k since within = work_cut who n p h f (not-true (is_some p.held) may) (rounds_cut g who n p h f (none_yet who h p may k) since within)

-- f goes on from h by a front of these lines of editor 1, who was at the place p
record CutLines (p : Place) (ls : List ScriptLine) (h f : List StepRec) : Type 0 where
  pub entries : List StepRec
  pub history : f ≡ reverse entries ++ h
  pub held : Option ℕ
  pub stops : StopsFrom 1 p (own 1 ls) entries held
  pub out_is : OutIs 1 held (out f)

stops_at_once : (who : ℕ) (p : Place) (acts : List Act) (held : Option ℕ) → held ≡ held_number p.held → StopsFrom who p acts [] held
stops_at_once who p [] held e = (refl, e)
stops_at_once who p (a ∷ acts) held e = inl (refl, e)

no_lines : (p : Place) (ls : List ScriptLine) (h f : List StepRec) → HeldIn 1 (out h) p.held → f ≡ h → CutLines p ls h f
no_lines p ls h f k e = record {
  entries = [];
  history = e;
  held = held_number p.held;
  stops = stops_at_once 1 p (own 1 ls) (held_number p.held) refl;
  out_is = subst (λ (x : List StepRec). OutIs 1 (held_number p.held) (out x)) (sym e) (held_out 1 (out h) p.held k);
}

stops_here : (p : Place) (a : Act) (acts : List Act) (es : List StepRec) (held : Option ℕ) → InLine 1 a p es held → StopsFrom 1 p (a ∷ acts) es held
stops_here p a acts es held (inl k) = inl k
stops_here p a acts es held (inr (inl k)) = inr (inl k)
stops_here p a acts es held (inr (inr k)) = inr (inr (k.0, es, [], sym (append-nil es), k.1, stops_at_once 1 k.0 acts held k.2))

line_alone : (p : Place) (l : ScriptLine) (ls : List ScriptLine) (h f : List StepRec) → l.editor ≡ 1 → CutLine 1 l.act p h f → CutLines p (l ∷ ls) h f
line_alone p l ls h f one k = record {
  entries = k.entries;
  history = k.history;
  held = k.held;
  stops = subst (λ (acts : List Act). StopsFrom 1 p acts k.entries k.held) (sym (own_first l ls one)) (stops_here p l.act (own 1 ls) k.entries k.held k.part);
  out_is = k.out_is;
}

line_and_more : (p : Place) (l : ScriptLine) (ls : List ScriptLine) (h f : List StepRec) (d : Done) → l.editor ≡ 1 → Goes 1 l.act p h d → CutLines d.place ls d.history f → CutLines p (l ∷ ls) h f
line_and_more p l ls h f d one k rest = record {
  entries = k.entries ++ rest.entries;
  history = rest.history ∙ ap (λ (x : List StepRec). reverse rest.entries ++ x) k.history ∙ sym (turned_both k.entries rest.entries h);
  held = rest.held;
  stops = subst (λ (acts : List Act). StopsFrom 1 p acts (k.entries ++ rest.entries) rest.held) (sym (own_first l ls one)) (inr (inr (d.place, k.entries, rest.entries, refl, k.does, rest.stops)));
  out_is = rest.out_is;
}

-- a front of a course that may have ended, or what goes on from it
split_by : (R A B : Type 0) (full : Bool) → (A → R) → (full ≡ true → A) → (full ≡ false → B → R) → A ⊎ B → R
split_by R A B true here last on k = here (last refl)
split_by R A B false here last on (inl a) = here a
split_by R A B false here last on (inr b) = on refl b

abbrev CutsLines : Ground → List ScriptLine → Type 0
CutsLines g ls = (s : Run) (f : List StepRec) → HeldIn 1 (out s.history) (s.places 1).held → IsOrderly 1 (drafts (s.places 1)) (holds (s.places 1)) ls → IsLater s.history f → IsLater f (lines_run g ls s).history → CutLines (s.places 1) ls s.history f

going_cut : (g : Ground) (l : ScriptLine) (ls : List ScriptLine) (s : Run) (f : List StepRec) (b : Bool) → s.full ≡ b → CutsLines g ls → HeldIn 1 (out s.history) (s.places 1).held → IsOrderly 1 (drafts (s.places 1)) (holds (s.places 1)) (l ∷ ls) → IsLater s.history f → IsLater f (lines_run g (l ∷ ls) s).history → CutLines (s.places 1) (l ∷ ls) s.history f
going_cut g l ls s f true full on k o since within =
    no_lines (s.places 1) (l ∷ ls) s.history f k (between s.history f since (subst (λ (u : Run). IsLater f u.history) (lines_full g (l ∷ ls) s full) within))
going_cut g l ls s f false going on k o since within =
    let d : Done = act_done g 1 l.act (s.places 1) s.history in
    let t : Run = moved 1 s d in
    let here : IsLater f (lines_run g ls t).history = subst (λ (u : Run). IsLater f (lines_run g ls u).history) (line_is g l s going o.0) within in
    split_by (CutLines (s.places 1) (l ∷ ls) s.history f) (IsLater f d.history) (IsLater d.history f) d.full
    (λ early. line_alone (s.places 1) l ls s.history f o.0 (act_cut g 1 l.act (s.places 1) s.history f o.1 k since early))
    (λ full. subst (λ (u : Run). IsLater f u.history) (lines_full g ls t full) here)
    (λ going later.
    let one : Goes 1 l.act (s.places 1) s.history d = act_goes g 1 l.act (s.places 1) s.history o.1 k going in
    line_and_more (s.places 1) l ls s.history f d o.0 one (on t f one.held (order_on l.act (s.places 1) d.place one.entries ls one.does o.2) later here))
    (compare f d.history (lines_run g ls t).history here (lines_grow g ls t))

lines_cut : (g : Ground) (ls : List ScriptLine) → CutsLines g ls
lines_cut g [] s f k o since within = no_lines (s.places 1) [] s.history f k (between s.history f since within)
lines_cut g (l ∷ ls) s f k o since within = going_cut g l ls s f s.full refl (lines_cut g ls) k o since within

-- Drains.

-- f goes on from h by a front of a drain, without its report
record CutDrain (h f : List StepRec) : Type 0 where
  pub entries : List StepRec
  pub history : f ≡ reverse entries ++ h
  pub held : Option ℕ
  pub stops : StopsInDrain entries held
  pub out_is : OutIs 0 held (out f)

abbrev DrainCut : List StepRec → List StepRec → Done → Type 0
DrainCut h f d = CutDrain h f ⊎ ((f ≡ d.history) × (d.full ≡ false))

rounds_only : (n : ℕ) (h f : List StepRec) → CutRounds 0 n h f → CutDrain h f
rounds_only n h f w = record { entries = w.entries; history = w.history; held = w.held; stops = (n, w.part); out_is = w.out_is }

report_or_not : (e : StepRec) (h k f : List StepRec) (d : Done) (xs : List StepRec) → d ≡ done (e ∷ k) free → e ∷ k ≡ xs ++ f → (IsLater f k → CutDrain h f) → DrainCut h f d
report_or_not e h k f d [] is eq some = inr (sym (ap (λ (x : Done). x.history) is ∙ eq), ap (λ (x : Done). x.full) is)
report_or_not e h k f d (x ∷ xs) is eq some = inl (some (xs, ap tail_of eq))

publish_cut : (g : Ground) (h k f : List StepRec) (e : StepRec) → (IsLater f k → CutDrain h f) → IsLater f (with_room g 1 k free (done (e ∷ k) free)).history → DrainCut h f (with_room g 1 k free (done (e ∷ k) free))
publish_cut g h k f e some =
    elim (is_full g k 1) as (λ b. IsLater f (cond b (ended k free) (done (e ∷ k) free)).history → DrainCut h f (cond b (ended k free) (done (e ∷ k) free))) [
      | true ↦ λ within. inl (some within)
      | false ↦ λ within. report_or_not e h k f (done (e ∷ k) free) within.0 refl within.1 some
    ]

drain_cut : (g : Ground) (h f : List StepRec) → out h ≡ [] → IsLater h f → IsLater f (drain_done g h).history → DrainCut h f (drain_done g h)
drain_cut g h f o since =
    let n : ℕ = suc (length (pairs_now g h)) in
    let d : Done = rounds g 0 n free h in
    let some : IsLater f d.history → CutDrain h f = λ within. rounds_only n h f (rounds_cut g 0 n free h f o since within) in
    elim d.full as (λ b. IsLater f (cond b d (publish_done g d.history)).history → DrainCut h f (cond b d (publish_done g d.history))) [
      | true ↦ λ within. inl (some within)
      | false ↦ publish_cut g h d.history f (entry 0 calls.Publish (publish_reply g d.history)) some
    ]

-- Returns.

-- the claim that is held is given back, and no other is out
given_back : (who : ℕ) (held : Option ℕ) (f : List StepRec) → OutIs who held (out f) → (returned f ≡ back_of who held ++ f) × (out (returned f) ≡ [])
given_back who None f k = let is : returned f ≡ f = ap (λ (cs : List Given). returns cs ++ f) k in (is, ap (λ (h : List StepRec). out h) is ∙ k)
given_back who (Some n) f k =
    let c : Given = k.0 in
    let is : returned f ≡ entry c.actor (calls.GiveBack c.number) Back ∷ f = ap (λ (cs : List Given). returns cs ++ f) k.1 in
    let named : entry c.actor (calls.GiveBack c.number) Back ∷ f ≡ entry who (calls.GiveBack n) Back ∷ f = (λ i. entry (k.3 i) (calls.GiveBack (k.2 i)) Back ∷ f) in
    (is ∙ named, ap (λ (h : List StepRec). out h) (is ∙ named) ∙ none_left n (out f) c k.1 k.2)

back_alone : (who : ℕ) (held : Option ℕ) → reverse (back_of who held) ≡ back_of who held
back_alone who None = refl
back_alone who (Some n) = refl

-- entries of a front in the order of the journal, and behind them the return
returned_is : (who : ℕ) (held : Option ℕ) (es h f : List StepRec) → f ≡ reverse es ++ h → returned f ≡ back_of who held ++ f → returned f ≡ reverse (es ++ back_of who held) ++ h
returned_is who held es h f is back =
    back ∙ ap (λ (x : List StepRec). back_of who held ++ x) is ∙ ap (λ (x : List StepRec). x ++ (reverse es ++ h)) (sym (back_alone who held)) ∙ sym (turned_both es (back_of who held) h)

-- Phases.

-- f goes on from h by some whole phases and a front of the next; then what is held is given back
record CutPhases (ps : List Phase) (h f : List StepRec) : Type 0 where
  pub entries : List StepRec
  pub history : returned f ≡ reverse entries ++ h
  pub stopped : AreStopped ps entries
  pub none_out : out (returned f) ≡ []

in_lines : (p : Phase) (ps : List Phase) (h f : List StepRec) → CutLines free p.lines h f → CutPhases (p ∷ ps) h f
in_lines p ps h f k =
    let back : (returned f ≡ back_of 1 k.held ++ f) × (out (returned f) ≡ []) = given_back 1 k.held f k.out_is in
    record {
      entries = k.entries ++ back_of 1 k.held;
      history = returned_is 1 k.held k.entries h f k.history back.0;
      stopped = inl (record { own_entries = k.entries; held = k.held; split = refl; stops = k.stops });
      none_out = back.1;
    }

in_drain : (p : Phase) (ps : List Phase) (h f : List StepRec) (u : Run) → AreFollowed free p.lines h u → CutDrain u.history f → CutPhases (p ∷ ps) h f
in_drain p ps h f u a k =
    let back : (returned f ≡ back_of 0 k.held ++ f) × (out (returned f) ≡ []) = given_back 0 k.held f k.out_is in
    let last : List StepRec = k.entries ++ back_of 0 k.held in
    record {
      entries = a.entries ++ last;
      history = returned_is 0 k.held k.entries u.history f k.history back.0 ∙ ap (λ (x : List StepRec). reverse last ++ x) a.history ∙ sym (turned_both a.entries last h);
      stopped = inr (inl (record { own_entries = a.entries; last = k.entries; held = k.held; split = refl; follows = (a.last, a.follows); stops = k.stops }));
      none_out = back.1;
    }

whole_and_more : (p : Phase) (ps : List Phase) (h f : List StepRec) (u : Run) → IsPhased p.lines h u → CutPhases ps u.history f → CutPhases (p ∷ ps) h f
whole_and_more p ps h f u a k = record {
  entries = a.entries ++ k.entries;
  history = k.history ∙ ap (λ (x : List StepRec). reverse k.entries ++ x) a.history ∙ sym (turned_both a.entries k.entries h);
  stopped = inr (inr (a.entries, k.entries, refl, a.phase, k.stopped));
  none_out = k.none_out;
}

no_phases : (ps : List Phase) (h f : List StepRec) → out h ≡ [] → f ≡ h → CutPhases ps h f
no_phases [] h f o e =
    let k : OutIs 1 None (out f) = ap (λ (x : List StepRec). out x) e ∙ o in
    let back : (returned f ≡ f) × (out (returned f) ≡ []) = given_back 1 None f k in
    record { entries = []; history = back.0 ∙ e; stopped = refl; none_out = back.1 }
no_phases (p ∷ ps) h f o e = in_lines p ps h f (no_lines free p.lines h f o e)

drain_or_later : (R : Type 0) (h f : List StepRec) (d : Done) (u : Run) → u.history ≡ d.history → u.full ≡ d.full → (CutDrain h f → R) → (u.full ≡ false → IsLater u.history f → R) → DrainCut h f d → R
drain_or_later R h f d u history full here on (inl k) = here k
drain_or_later R h f d u history full here on (inr k) = on (full ∙ k.1) ([], k.0 ∙ sym history)

-- behind the lines of a phase: in its drain, or behind it
drain_phase : (g : Ground) (p : Phase) (ps : List Phase) (h f : List StepRec) (t : Run) → t.full ≡ false → AreFollowed free p.lines h t → IsLater t.history f → IsLater f (phases_run g ps (sync_run g t)).history →
    ((sync_run g t).full ≡ false → IsLater (sync_run g t).history f → CutPhases (p ∷ ps) h f) → CutPhases (p ∷ ps) h f
drain_phase g p ps h f t going a since within on =
    let u : Run = sync_run g t in
    let w : Run = phases_run g ps u in
    let d : Done = drain_done g t.history in
    let is : u ≡ moved 0 t d = sync_on g t going in
    split_by (CutPhases (p ∷ ps) h f) (IsLater f u.history) (IsLater u.history f) u.full
    (λ early. drain_or_later (CutPhases (p ∷ ps) h f) t.history f d u (ap (λ (x : Run). x.history) is) (ap (λ (x : Run). x.full) is) (in_drain p ps h f t a) on
    (drain_cut g t.history f a.none_out since (subst (λ (x : Run). IsLater f x.history) is early)))
    (λ full. subst (λ (x : Run). IsLater f x.history) (phases_full g ps u full) within)
    on
    (compare f u.history w.history within (phases_grow g ps u))

phases_cut : (g : Ground) (ps : List Phase) (s : Run) (f : List StepRec) → NumberedFrom 1 g.specs → IsModel g.first → s.places 1 ≡ free → out s.history ≡ [] → AreOrderly 1 ps →
    Legal g (phases_run g ps s).history → IsLater s.history f → IsLater f (phases_run g ps s).history → CutPhases ps s.history f
phases_cut g [] s f numbered ascending at o order legal since within = no_phases [] s.history f o (between s.history f since within)
phases_cut g (p ∷ ps) s f numbered ascending at o order legal since within =
    let t : Run = lines_run g p.lines s in
    let u : Run = sync_run g t in
    let w : Run = phases_run g ps u in
    let k : HeldIn 1 (out s.history) (s.places 1).held = subst (λ (q : Place). HeldIn 1 (out s.history) q.held) (sym at) o in
    let here : IsOrderly 1 (drafts (s.places 1)) (holds (s.places 1)) p.lines = subst (λ (q : Place). IsOrderly 1 (drafts q) (holds q) p.lines) (sym at) order.0 in
    let legal_here : Legal g u.history = legal_before g u.history w.history (phases_grow g ps u) legal in
    split_by (CutPhases (p ∷ ps) s.history f) (IsLater f t.history) (IsLater t.history f) t.full
    (λ early. in_lines p ps s.history f (subst (λ (q : Place). CutLines q p.lines s.history f) at (lines_cut g p.lines s f k here since early)))
    (λ full. subst (λ (x : Run). IsLater f x.history) (ap (λ (x : Run). phases_run g ps x) (sync_full g t full) ∙ phases_full g ps t full) within)
    (λ going later.
    drain_phase g p ps s.history f t going (subst (λ (q : Place). AreFollowed q p.lines s.history t) at (lines_follow g p.lines s k here going)) later within
    (λ on behind.
    let one : IsPhased p.lines s.history u = phase_on g p.lines s numbered ascending at o order.0 legal_here on in
    whole_and_more p ps s.history f u one (phases_cut g ps u f numbered ascending one.at_rest one.none_out order.1 legal behind within)))
    (compare f t.history w.history within (joined t.history u.history w.history (sync_grows g t) (phases_grow g ps u)))

pub stop_is_phased : StopIsPhased
stop_is_phased g phases journal numbered ascending order cut =
    let w : Run = phases_run g phases fresh in
    let legal : Legal g w.history = subst (λ (h : List StepRec). Legal g h) (reverse-reverse w.history) (serial_is_legal g phases) in
    let k : CutPhases phases [] cut.front = phases_cut g phases fresh cut.front numbered ascending refl refl order legal (cut.front, sym (append-nil cut.front)) cut.within in
    let is : journal ≡ k.entries = sym (reverse-reverse journal) ∙ ap (λ (h : List StepRec). reverse h) (cut.back ∙ k.history ∙ append-nil (reverse k.entries)) ∙ reverse-reverse k.entries in
    (subst (λ (es : List StepRec). AreStopped phases es) (sym is) k.stopped, ap (λ (h : List StepRec). out h) cut.back ∙ k.none_out)
