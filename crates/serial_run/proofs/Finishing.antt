-- A whole run of a script.
use Rattle.std.proofs.Common.{◌≡◌, ℕ, ◌<◌, ◌≤◌, ◌+◌, ◌-◌, Bool, true, false, cond, ◌==◌, List, [], ◌∷◌, ◌++◌, take, drop, length, length-append, reverse, codes, Option, Some, None, arith, refl, ap, sym, subst, ◌∙◌}
use Rattle.std.specs.Option.{option_map}
use Rattle.std.specs.Fmt.{decimal}
use Rattle.std.proofs.Math.Seq.{drop-append_seam}
use Rattle.std.proofs.lemmas.Bool.{true≢false}
use Rattle.std.proofs.lemmas.List.{append-nil, append_assoc, reverse-append, reverse-reverse}
use Rattle.ifc_base.specs.declared.value.Instance.{Instance}
use Rattle.shelf_io.specs.Pieces.{Appended}
use Rattle.schema_table.specs.Schema.{Schema}
use Rattle.audit_model.specs.declared.specification.Specification.{Specification}
use Rattle.audit_model.specs.declared.step.StepRec.{StepRec}
use Rattle.audit_model.specs.declared.script.Phase.{Phase}
use Rattle.audit_model.specs.History.{Ground, out}
use Rattle.audit_model.specs.Machine.{Legal}
use Rattle.script_rules.specs.Output.{ends_phase, entry_text, report_in, output}
use Rattle.audit_model.specs.Report.{audit_text, report_text, all_pass, line, pass_word, tallies_lines}
use Rattle.script_rules.specs.RunLaws.{OutputIsTold}
use Rattle.audit_model.specs.Scratch.{scratch}
use Rattle.script_rules.specs.ScriptLines.{free}
use Rattle.script_rules.specs.ScriptOrder.{AreOrderly}
use Rattle.script_rules.specs.Serial.{Run, fresh, lines_run, sync_run, phases_run, serial}
use Rattle.script_rules.specs.Telling.{Told, told, is_of_one_editor}
use Rattle.audit_core.specs.Cores.{CoreView}
use Rattle.serial_run.specs.Growth.{IsLater, returns, returned}
use Rattle.serial_run.specs.Turns.{IsFree}
use Rattle.model_view.specs.declared.answers.Halt.{Halt}
use Rattle.model_view.specs.declared.answers.Halt.TheVariants as halt
use Rattle.serial_run.specs.declared.run.End.{End}
use Rattle.serial_run.specs.declared.run.End.TheVariants as ending
use Rattle.serial_run.specs.declared.run.Ran.{Ran}
use Rattle.serial_run.specs.Course.{IsStopped, IfFull}
use Rattle.serial_run.specs.Running.{AtRun, IsPhase, done_of}
use Rattle.serial_run.specs.Runs.{ends, ends_pass, script_history, IsWhole, IsEndedBy, IsRan}
use Rattle.serial_run.proofs.Growing.{joined, lines_grow, sync_grows, phases_grow}
use Rattle.serial_run.proofs.Phasing.{if_full, phases_full}
use Rattle.serial_run.proofs.Counting.{Adds, adds_joined, lines_add, sync_adds, full_sync_adds, returned_adds, front_ends, front_alone, later_whole}

-- What is written.

pub appended_none : (old : Option (List ℕ)) → Appended old old []
appended_none None = refl
appended_none (Some w) = ap (λ (xs : List ℕ). Some xs) (sym (append-nil w))

pub appended_both : (old mid new : Option (List ℕ)) (xs ys : List ℕ) → Appended old mid xs → Appended mid new ys → Appended old new (xs ++ ys)
appended_both None mid new xs ys a b = b ∙ ap (λ (o : Option (List ℕ)). option_map (λ w. w ++ ys) o) a
appended_both (Some w) mid new xs ys a b = b ∙ ap (λ (o : Option (List ℕ)). option_map (λ w. w ++ ys) o) a ∙ ap (λ (xs : List ℕ). Some xs) (append_assoc w xs ys)

-- The last line.

last_nine : (xs ys : List ℕ) → length ys ≡ 9 → drop (length (xs ++ ys) - 9) (xs ++ ys) ≡ ys
last_nine xs ys nine = let total : length (xs ++ ys) - 9 ≡ length xs = omega (arith, length-append xs ys, nine) in rw total (drop-append_seam xs ys)

ends_as : (front : List ℕ) (passed : Bool) → ends_pass (front ++ line (codes "end " ++ pass_word passed)) ≡ passed
unfolding ends_pass
ends_as front true = rw (last_nine front (line (codes "end pass")) refl) refl
ends_as front false = rw (last_nine front (line (codes "end fail")) refl) refl

audit_ends : (front : List ℕ) (s : Schema) (specs : List Specification) (m : List Instance) (r : ℕ) → ends_pass (front ++ audit_text s specs m r) ≡ all_pass (scratch s specs m)
unfolding report_text
audit_ends front s specs m r =
    ap (λ (xs : List ℕ). ends_pass xs) (sym (append_assoc front (line (codes "report " ++ decimal r) ++ tallies_lines 1 (scratch s specs m)) (line (codes "end " ++ pass_word (all_pass (scratch s specs m))))))
    ∙ ends_as (front ++ (line (codes "report " ++ decimal r) ++ tallies_lines 1 (scratch s specs m))) (all_pass (scratch s specs m))

-- whether the text of all phases passes is said by that of the last
pub passes_as : {s : Run} {old new : CoreView} {text : List ℕ} (before : List ℕ) → IsPhase s old new text → ends_pass text ≡ ends_pass (before ++ text)
passes_as {old = old} {text = text} before k =
    let report : List ℕ = audit_text old.ground.schema old.ground.specs k.model k.revision in
    let is : text ≡ k.lines ++ report = k.text_is ∙ ap (λ (xs : List ℕ). k.lines ++ xs) k.report_is in
    ap (λ (xs : List ℕ). ends_pass xs) is ∙ audit_ends k.lines old.ground.schema old.ground.specs k.model k.revision
    ∙ sym (ap (λ (xs : List ℕ). ends_pass (before ++ xs)) is ∙ ap (λ (xs : List ℕ). ends_pass xs) (sym (append_assoc before k.lines report)) ∙ audit_ends (before ++ k.lines) old.ground.schema old.ground.specs k.model k.revision)

-- Phases so far.

pub record AreRunning (g : Ground) (all rest : List Phase) (core : CoreView) (old now : Option (List ℕ)) (before faults : ℕ) (was is : ℕ → Type 0) (passed : Bool) : Type 0 where
  pub ground : core.ground ≡ g
  pub run : Run
  pub at : AtRun run core free
  pub free : IsFree core
  pub order : AreOrderly 1 rest
  pub course : phases_run g all fresh ≡ phases_run g rest run
  pub written : Appended old now (told g core.history).whole
  pub none : (told g core.history).lines ≡ []
  pub alone : is_of_one_editor core.history ≡ true
  pub passes : passed ≡ ends_pass (told g core.history).whole
  pub calm : faults ≡ before
  pub left : (more : ℕ) → was (length (told g core.history).whole + more) → is more

no_end : ends_pass [] ≡ false
unfolding ends_pass
no_end = refl

pub running_starts : (core : CoreView) (all rest : List Phase) (old : Option (List ℕ)) (before : ℕ) (was : ℕ → Type 0) → rest ≡ all → core.history ≡ [] → AreOrderly 1 all → AreRunning core.ground all rest core old old before before was was false
running_starts core all rest old before was e new order = record {
  ground = refl;
  run = fresh;
  at = record { history = sym new; going = refl; place_is = refl };
  free = record { legal = rw new tt; none_out = ap (λ (h : List StepRec). out h) new };
  order = subst (λ (ps : List Phase). AreOrderly 1 ps) (sym e) order;
  course = ap (λ (ps : List Phase). phases_run core.ground ps fresh) (sym e);
  written = rw new (appended_none old);
  none = ap (λ (h : List StepRec). (told core.ground h).lines) new;
  alone = ap (λ (h : List StepRec). is_of_one_editor h) new;
  passes = sym (ap (λ (h : List StepRec). ends_pass (told core.ground h).whole) new ∙ no_end);
  calm = refl;
  left = λ more sure. subst was (ap (λ (h : List StepRec). length (told core.ground h).whole + more) new ∙ (let z : 0 + more ≡ more = omega arith in z)) sure;
}

pub next_phase : {g : Ground} {all : List Phase} {core : CoreView} {old now : Option (List ℕ)} {before faults : ℕ} {was is : ℕ → Type 0} {passed : Bool} (turned ps : List Phase) (p : Phase) → turned ≡ ps ++ p ∷ [] → AreRunning g all (reverse turned) core old now before faults was is passed → AreRunning g all (p ∷ reverse ps) core old now before faults was is passed
next_phase {g = g} {all = all} {core = core} {old = old} {now = now} {before = before} {faults = faults} {was = was} {is = is} {passed = passed} turned ps p e k =
    subst (λ (rest : List Phase). AreRunning g all rest core old now before faults was is passed) (ap (λ (qs : List Phase). reverse qs) e ∙ reverse-append ps (p ∷ [])) k

-- what the phase leaves of the text
whole_after : {s : Run} {old new : CoreView} {text : List ℕ} (g : Ground) → old.ground ≡ g → (told g old.history).lines ≡ [] → IsPhase s old new text → (told g new.history).whole ≡ (told g old.history).whole ++ text
whole_after {old = old} {new = new} {text = text} g e none k =
    (λ i. (told (sym (k.reached.ground ∙ e) i) new.history).whole)
    ∙ k.whole ((λ i. (told (e i) old.history).lines) ∙ none)
    ∙ (λ i. (told (e i) old.history).whole ++ text)

pub running_on : {g : Ground} {all : List Phase} {core new : CoreView} {old now written : Option (List ℕ)} {before faults counted : ℕ} {was is will : ℕ → Type 0} {passed : Bool} (p : Phase) (rest : List Phase) (text : List ℕ) (passes : Bool) → (k : AreRunning g all (p ∷ rest) core old now before faults was is passed) → IsPhase (sync_run core.ground (lines_run core.ground p.lines k.run)) core new text →
    Appended now written text → counted ≡ faults → ((more : ℕ) → is (length text + more) → will more) → passes ≡ ends_pass text → AreRunning g all rest new old written before counted was will passes
running_on {g = g} {all = all} {core = core} {new = new} {old = old} {now = now} {written = written} {was = was} {is = is} {will = will} p rest text passes k d w calm left passed_is =
    let grown : (told g new.history).whole ≡ (told g core.history).whole ++ text = whole_after g k.ground k.none d in
    let run : Run = sync_run g (lines_run g p.lines k.run) in
    record {
      ground = d.reached.ground ∙ k.ground;
      run = run;
      at = subst (λ (x : Ground). AtRun (sync_run x (lines_run x p.lines k.run)) new free) k.ground d.reached.at;
      free = d.reached.free;
      order = k.order.1;
      course = k.course;
      written = rw grown (appended_both old now written (told g core.history).whole text k.written w);
      none = (λ i. (told (sym (d.reached.ground ∙ k.ground) i) new.history).lines) ∙ d.none;
      alone = d.alone k.alone;
      passes = passed_is ∙ passes_as (told g core.history).whole d ∙ ap (λ (xs : List ℕ). ends_pass xs) (sym grown);
      calm = calm ∙ k.calm;
      left = λ more sure.
          let long : length (told g new.history).whole + more ≡ length (told g core.history).whole + (length text + more) = omega (arith, ap (λ (xs : List ℕ). length xs) grown, length-append (told g core.history).whole text) in
          left more (k.left (length text + more) (subst was long sure));
    }

-- Ends.

pub none_left : {X : Type 0} (xs : List X) (n : ℕ) → length xs ≡ n → (0 < n → false ≡ true) → reverse xs ≡ []
none_left [] n e f = refl
none_left (x ∷ xs) n e f = absurd (true≢false (sym (f (omega (arith, e)))))

-- the output of a journal, by what was told
output_of : (g : Ground) (h j : List StepRec) → OutputIsTold → j ≡ reverse h → Legal g h → is_of_one_editor h ≡ true → output g j ≡ (told g h).whole
output_of g h j law e l o = ap (λ (xs : List StepRec). output g xs) e ∙ law g h l o

turned_back : (h j : List StepRec) → j ≡ reverse h → reverse j ≡ h
turned_back h j e = ap (λ (xs : List StepRec). reverse xs) e ∙ reverse-reverse h

ended_as : (g : Ground) (all : List Phase) (old now : Option (List ℕ)) (journal : List StepRec) (passed : Bool) → IsWhole g all old now journal → passed ≡ ends_pass (output g journal) → IsEndedBy g all old now journal (cond passed ending.Passed ending.Failed)
ended_as g all old now journal true w p = (w, sym p)
ended_as g all old now journal false w p = (w, sym p)

pub run_done : {g : Ground} {all : List Phase} {core : CoreView} {old now : Option (List ℕ)} {before faults : ℕ} {was is : ℕ → Type 0} {passed : Bool} (rest : List Phase) (ran : Ran) (end : End) → OutputIsTold → AreRunning g all rest core old now before faults was is passed → rest ≡ [] → ran.journal ≡ reverse core.history → ran.end ≡ end → end ≡ cond passed ending.Passed ending.Failed → IsRan g all old now ran
run_done {g = g} {all = all} {core = core} {old = old} {now = now} {passed = passed} rest ran end law k none journal end_is by =
    let whole : phases_run g all fresh ≡ k.run = k.course ∙ ap (λ (ps : List Phase). phases_run g ps k.run) none in
    let legal : Legal g core.history = subst (λ (x : Ground). Legal x core.history) k.ground k.free.legal in
    let text : output g ran.journal ≡ (told g core.history).whole = output_of g core.history ran.journal law journal legal k.alone in
    let w : IsWhole g all old now ran.journal = record {
      not_full = ap (λ (u : Run). u.full) whole ∙ k.at.going;
      journal_is = journal ∙ ap (λ (h : List StepRec). reverse h) (sym (ap (λ (u : Run). u.history) whole ∙ k.at.history));
      text = rw text k.written;
    } in
    record {
      legal = rw (turned_back core.history ran.journal journal) legal;
      ended = subst (λ (x : End). IsEndedBy g all old now ran.journal x) (sym (end_is ∙ by)) (ended_as g all old now ran.journal passed w (k.passes ∙ ap (λ (xs : List ℕ). ends_pass xs) (sym text)));
    }

-- What a stop within a phase says of the whole script.
record IsStoppedRun (g : Ground) (all : List Phase) (core new : CoreView) (run : Run) (why : Halt) : Type 0 where
  pub legal : Legal g new.history
  pub front : List StepRec
  pub since : IsLater core.history front
  pub here : IsLater front run.history
  pub within : IsLater front (script_history g all)
  pub at_full : IfFull why (done_of run) front
  pub whole_full : IfFull why (done_of (phases_run g all fresh)) front
  pub back : new.history ≡ returned front

stopped_run : {g : Ground} {all : List Phase} {core : CoreView} {old now : Option (List ℕ)} {before faults : ℕ} {was is : ℕ → Type 0} {passed : Bool} (new : CoreView) (p : Phase) (rest : List Phase) (why : Halt) → (k : AreRunning g all (p ∷ rest) core old now before faults was is passed) → IsStopped why (done_of (sync_run core.ground (lines_run core.ground p.lines k.run))) core new → IsStoppedRun g all core new (sync_run g (lines_run g p.lines k.run)) why
stopped_run {g = g} {all = all} {core = core} new p rest why k stop =
    let run : Run = sync_run g (lines_run g p.lines k.run) in
    let s : IsStopped why (done_of run) core new = subst (λ (x : Ground). IsStopped why (done_of (sync_run x (lines_run x p.lines k.run))) core new) k.ground stop in
    let whole : phases_run g all fresh ≡ phases_run g rest run = k.course in
    let later : IsLater run.history (phases_run g rest run).history = phases_grow g rest run in
    record {
      legal = subst (λ (x : Ground). Legal x new.history) (s.ground ∙ k.ground) s.legal;
      front = s.front;
      since = s.since;
      here = s.within;
      within = rw (ap (λ (u : Run). u.history) whole) (joined s.front run.history (phases_run g rest run).history s.within later);
      at_full = s.at_full;
      whole_full = rw whole (if_full why (done_of run) (phases_run g rest run) s.front s.at_full (λ f. let e : phases_run g rest run ≡ run = phases_full g rest run f in (ap (λ (u : Run). u.full) e ∙ f, ap (λ (u : Run). u.history) e)));
      back = s.back;
    }

-- the entries up to the end of the phase
phase_adds : {g : Ground} {all : List Phase} {core : CoreView} {old now : Option (List ℕ)} {before faults : ℕ} {was is : ℕ → Type 0} {passed : Bool} (p : Phase) (rest : List Phase) → (k : AreRunning g all (p ∷ rest) core old now before faults was is passed) → Adds 1 core.history (sync_run g (lines_run g p.lines k.run)).history
phase_adds {g = g} {core = core} p rest k =
    let t : Run = lines_run g p.lines k.run in
    subst (λ (h : List StepRec). Adds 1 h (sync_run g t).history) k.at.history (adds_joined 0 1 k.run.history t.history (sync_run g t).history (lines_add g p.lines false false k.run k.order.0) (sync_adds g t))

full_adds : {g : Ground} {all : List Phase} {core : CoreView} {old now : Option (List ℕ)} {before faults : ℕ} {was is : ℕ → Type 0} {passed : Bool} (p : Phase) (rest : List Phase) → (k : AreRunning g all (p ∷ rest) core old now before faults was is passed) → (sync_run g (lines_run g p.lines k.run)).full ≡ true → Adds 0 core.history (sync_run g (lines_run g p.lines k.run)).history
full_adds {g = g} {core = core} p rest k f =
    let t : Run = lines_run g p.lines k.run in
    subst (λ (h : List StepRec). Adds 0 h (sync_run g t).history) k.at.history (adds_joined 0 0 k.run.history t.history (sync_run g t).history (lines_add g p.lines false false k.run k.order.0) (full_sync_adds g t f))

later_returned : (h : List StepRec) → IsLater h (returned h)
later_returned h = (returns (out h), refl)

pub run_full : {g : Ground} {all : List Phase} {core : CoreView} {old now : Option (List ℕ)} {before faults : ℕ} {was is : ℕ → Type 0} {passed : Bool} (new : CoreView) (p : Phase) (rest : List Phase) (ran : Ran) (why : Halt) → why ≡ halt.Full → OutputIsTold → (k : AreRunning g all (p ∷ rest) core old now before faults was is passed) → IsStopped why (done_of (sync_run core.ground (lines_run core.ground p.lines k.run))) core new → ran.journal ≡ reverse new.history → ran.end ≡ ending.Full → IsRan g all old now ran
run_full {g = g} {all = all} {core = core} {old = old} {now = now} new p rest ran why why_is law k given journal end_is =
    let run : Run = sync_run g (lines_run g p.lines k.run) in
    let stop : IsStopped halt.Full (done_of (sync_run core.ground (lines_run core.ground p.lines k.run))) core new = subst (λ (x : Halt). IsStopped x (done_of (sync_run core.ground (lines_run core.ground p.lines k.run))) core new) why_is given in
    let s : IsStoppedRun g all core new run halt.Full = stopped_run new p rest halt.Full k stop in
    let a : Adds 0 core.history run.history = full_adds p rest k s.at_full.0 in
    let front_is : s.front ≡ run.history = s.at_full.1 in
    let alone : is_of_one_editor s.front ≡ true = rw front_is (a.alone k.alone) in
    let back : Adds 0 s.front new.history = subst (λ (h : List StepRec). Adds 0 s.front h) (sym s.back) (returned_adds s.front alone) in
    let few : ends new.history ≤ ends core.history = omega (arith, back.few, a.few, ap (λ (h : List StepRec). ends h) front_is) in
    let later : IsLater core.history new.history = subst (λ (h : List StepRec). IsLater core.history h) (sym s.back) (joined core.history s.front (returned s.front) s.since (later_returned s.front)) in
    let text : output g ran.journal ≡ (told g core.history).whole = output_of g new.history ran.journal law journal s.legal (back.alone alone) ∙ later_whole g core.history new.history later few in
    record {
      legal = rw (turned_back new.history ran.journal journal) s.legal;
      ended = subst (λ (x : End). IsEndedBy g all old now ran.journal x) (sym end_is) (record {
        full = s.whole_full.0;
        back = turned_back new.history ran.journal journal ∙ s.back ∙ ap (λ (h : List StepRec). returned h) s.whole_full.1;
        text = rw text k.written;
      });
    }

pub run_left : {g : Ground} {all : List Phase} {core : CoreView} {old now : Option (List ℕ)} {before faults : ℕ} {was is : ℕ → Type 0} {passed : Bool} (new : CoreView) (p : Phase) (rest : List Phase) (ran : Ran) (why : Halt) → why ≡ halt.Memory → OutputIsTold → (k : AreRunning g all (p ∷ rest) core old now before faults was is passed) → IsStopped why (done_of (sync_run core.ground (lines_run core.ground p.lines k.run))) core new → ran.journal ≡ reverse new.history → ran.end ≡ ending.Memory → IsRan g all old now ran
run_left {g = g} {all = all} {core = core} {old = old} {now = now} new p rest ran why why_is law k given journal end_is =
    let run : Run = sync_run g (lines_run g p.lines k.run) in
    let stop : IsStopped halt.Memory (done_of (sync_run core.ground (lines_run core.ground p.lines k.run))) core new = subst (λ (x : Halt). IsStopped x (done_of (sync_run core.ground (lines_run core.ground p.lines k.run))) core new) why_is given in
    let s : IsStoppedRun g all core new run halt.Memory = stopped_run new p rest halt.Memory k stop in
    let a : Adds 1 core.history run.history = phase_adds p rest k in
    let alone : is_of_one_editor s.front ≡ true = front_alone s.front run.history s.here (a.alone k.alone) in
    let back : Adds 0 s.front new.history = subst (λ (h : List StepRec). Adds 0 s.front h) (sym s.back) (returned_adds s.front alone) in
    let front : ends s.front ≤ ends run.history = front_ends s.front run.history s.here in
    let later : IsLater core.history new.history = subst (λ (h : List StepRec). IsLater core.history h) (sym s.back) (joined core.history s.front (returned s.front) s.since (later_returned s.front)) in
    let turned : reverse ran.journal ≡ new.history = turned_back new.history ran.journal journal in
    let legal : Legal g core.history = subst (λ (x : Ground). Legal x core.history) k.ground k.free.legal in
    record {
      legal = rw turned s.legal;
      ended = subst (λ (x : End). IsEndedBy g all old now ran.journal x) (sym end_is) (record {
        cut = record { front = s.front; within = s.within; back = turned ∙ s.back };
        early = core.history;
        later = rw turned later;
        few = rw turned (omega (arith, back.few, a.few, front));
        written = rw (output_of g core.history (reverse core.history) law refl legal k.alone) k.written;
      });
    }

pub run_unwritten : {g : Ground} {all : List Phase} {core : CoreView} {old now : Option (List ℕ)} {before faults : ℕ} {was is : ℕ → Type 0} {passed : Bool} (new : CoreView) (written : Option (List ℕ)) (p : Phase) (rest : List Phase) (text : List ℕ) (count : ℕ) (ran : Ran) → OutputIsTold → (k : AreRunning g all (p ∷ rest) core old now before faults was is passed) → IsPhase (sync_run core.ground (lines_run core.ground p.lines k.run)) core new text → count < length text → Appended now written (take count text) → ran.journal ≡ reverse new.history → ran.end ≡ ending.Unwritten → IsRan g all old written ran
run_unwritten {g = g} {all = all} {core = core} {old = old} {now = now} new written p rest text count ran law k d short w journal end_is =
    let run : Run = sync_run g (lines_run g p.lines k.run) in
    let at : AtRun run new free = subst (λ (x : Ground). AtRun (sync_run x (lines_run x p.lines k.run)) new free) k.ground d.reached.at in
    let a : Adds 1 core.history new.history = subst (λ (h : List StepRec). Adds 1 core.history h) at.history (phase_adds p rest k) in
    let turned : reverse ran.journal ≡ new.history = turned_back new.history ran.journal journal in
    let before : Legal g core.history = subst (λ (x : Ground). Legal x core.history) k.ground k.free.legal in
    let legal : Legal g new.history = subst (λ (x : Ground). Legal x new.history) (d.reached.ground ∙ k.ground) d.reached.free.legal in
    let early : output g (reverse core.history) ≡ (told g core.history).whole = output_of g core.history (reverse core.history) law refl before k.alone in
    let grown : (told g new.history).whole ≡ (told g core.history).whole ++ text = whole_after g k.ground k.none d in
    let since : IsLater core.history new.history = subst (λ (h : List StepRec). IsLater h new.history) k.at.history (subst (λ (h : List StepRec). IsLater k.run.history h) at.history (joined k.run.history (lines_run g p.lines k.run).history run.history (lines_grow g p.lines k.run) (sync_grows g (lines_run g p.lines k.run)))) in
    record {
      legal = rw turned legal;
      ended = subst (λ (x : End). IsEndedBy g all old written ran.journal x) (sym end_is) (record {
        within = subst (λ (u : Run). IsLater (reverse ran.journal) u.history) (sym k.course) (rw turned (subst (λ (h : List StepRec). IsLater h (phases_run g rest run).history) at.history (phases_grow g rest run)));
        early = core.history;
        later = rw turned since;
        ended = rw turned d.ended;
        none_out = rw turned d.reached.free.none_out;
        few = rw turned a.few;
        last = text;
        split = output_of g new.history ran.journal law journal legal (a.alone k.alone) ∙ grown ∙ ap (λ (xs : List ℕ). xs ++ text) (sym early);
        count = count;
        short = short;
        written = rw early (appended_both old now written (told g core.history).whole (take count text) k.written w);
      });
    }

-- The output of the whole script is that of some of its phases and more.

whole_more : (g : Ground) (e : StepRec) (h : List StepRec) → (ys : List ℕ) × ((told g (e ∷ h)).whole ≡ (told g h).whole ++ ys)
whole_more g e h =
    let t : Told = told g h in
    let last : Told = record { whole = t.whole ++ t.lines ++ report_in g (e ∷ h) e.reply; lines = [] } in
    let other : Told = record { whole = t.whole; lines = t.lines ++ entry_text g (e ∷ h) e } in
    let stays : (u : Told) → u.whole ≡ t.whole → (ys : List ℕ) × (u.whole ≡ t.whole ++ ys) = λ u is. ([], is ∙ sym (append-nil t.whole)) in
    let quiet : (cond (e.actor == 0) t other).whole ≡ t.whole = elim (e.actor == 0) as (λ b. (cond b t other).whole ≡ t.whole) [ true ↦ refl | false ↦ refl ] in
    elim (ends_phase e) as (λ b. (ys : List ℕ) × ((cond b last (cond (e.actor == 0) t other)).whole ≡ t.whole ++ ys)) [
      | true ↦ (t.lines ++ report_in g (e ∷ h) e.reply, append_assoc t.whole t.lines (report_in g (e ∷ h) e.reply))
      | false ↦ stays (cond (e.actor == 0) t other) quiet
    ]

whole_grows : (g : Ground) (es h : List StepRec) → (ys : List ℕ) × ((told g (es ++ h)).whole ≡ (told g h).whole ++ ys)
whole_grows g [] h = ([], sym (append-nil (told g h).whole))
whole_grows g (e ∷ es) h =
    let rest : (ys : List ℕ) × ((told g (es ++ h)).whole ≡ (told g h).whole ++ ys) = whole_grows g es h in
    let one : (ys : List ℕ) × ((told g (e ∷ (es ++ h))).whole ≡ (told g (es ++ h)).whole ++ ys) = whole_more g e (es ++ h) in
    (rest.0 ++ one.0, one.1 ∙ ap (λ (xs : List ℕ). xs ++ one.0) rest.1 ∙ append_assoc (told g h).whole rest.0 one.0)

phases_alone : (g : Ground) (ps : List Phase) (s : Run) → AreOrderly 1 ps → is_of_one_editor s.history ≡ true → is_of_one_editor (phases_run g ps s).history ≡ true
phases_alone g [] s o a = a
phases_alone g (p ∷ ps) s o a =
    let t : Run = lines_run g p.lines s in
    phases_alone g ps (sync_run g t) o.1 ((adds_joined 0 1 s.history t.history (sync_run g t).history (lines_add g p.lines false false s o.0) (sync_adds g t)).alone a)

pub unwritten_sure : {g : Ground} {all : List Phase} {core : CoreView} {old now : Option (List ℕ)} {before faults : ℕ} {was is : ℕ → Type 0} {passed : Bool} (new : CoreView) (p : Phase) (rest : List Phase) (text : List ℕ) → OutputIsTold → Legal g (reverse (serial g all)) → AreOrderly 1 all → (k : AreRunning g all (p ∷ rest) core old now before faults was is passed) → IsPhase (sync_run core.ground (lines_run core.ground p.lines k.run)) core new text → (more : ℕ) → was (length (output g (serial g all)) + more) → (extra : ℕ) × is (length text + extra)
unwritten_sure {g = g} {all = all} {core = core} {was = was} new p rest text law legal order k d more sure =
    let h : List StepRec = script_history g all in
    let run : Run = sync_run g (lines_run g p.lines k.run) in
    let at : AtRun run new free = subst (λ (x : Ground). AtRun (sync_run x (lines_run x p.lines k.run)) new free) k.ground d.reached.at in
    let lawful : Legal g h = subst (λ (x : List StepRec). Legal g x) (reverse-reverse h) legal in
    let whole : output g (serial g all) ≡ (told g h).whole = law g h lawful (phases_alone g all fresh order refl) in
    let later : IsLater new.history h = subst (λ (u : Run). IsLater new.history u.history) (sym k.course) (subst (λ (x : List StepRec). IsLater x (phases_run g rest run).history) at.history (phases_grow g rest run)) in
    let rest_text : (ys : List ℕ) × ((told g (later.0 ++ new.history)).whole ≡ (told g new.history).whole ++ ys) = whole_grows g later.0 new.history in
    let all_text : output g (serial g all) ≡ ((told g core.history).whole ++ text) ++ rest_text.0 =
    whole ∙ ap (λ (x : List StepRec). (told g x).whole) later.1 ∙ rest_text.1 ∙ ap (λ (xs : List ℕ). xs ++ rest_text.0) (whole_after g k.ground k.none d) in
    let extra : ℕ = length rest_text.0 + more in
    let long : length (output g (serial g all)) + more ≡ length (told g core.history).whole + (length text + extra) =
    omega (arith, ap (λ (xs : List ℕ). length xs) all_text, length-append ((told g core.history).whole ++ text) rest_text.0, length-append (told g core.history).whole text) in
    (extra, k.left (length text + extra) (subst was long sure))
