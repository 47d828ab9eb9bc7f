-- A phase, from its lines to its report.
use Rattle.std.proofs.Common.{◌≡◌, ℕ, false, List, [], ◌++◌, Ok, refl, ap, sym, subst, ◌∙◌}
use Rattle.std.proofs.lemmas.List.{append_assoc}
use Rattle.audit_model.specs.declared.step.StepRec.{StepRec}
use Rattle.audit_model.specs.declared.step.Given.{Given}
use Rattle.audit_model.specs.declared.script.ScriptLine.{ScriptLine}
use Rattle.script_rules.specs.ScriptLines.{free}
use Rattle.script_rules.specs.Serial.{Done, drain_done, Run, moved, lines_run, sync_run}
use Rattle.script_rules.specs.Telling.{told}
use Rattle.model_view.specs.declared.answers.Halt.{Halt}
use Rattle.model_view.specs.declared.answers.Halt.TheVariants as halt
use Rattle.audit_core.specs.Cores.{CoreView}
use Rattle.serial_run.specs.Growth.{IsLater, returns}
use Rattle.serial_run.specs.Course.{IsStopped}
use Rattle.serial_run.specs.Running.{AtRun, Drains, IsPhase, IsReached, Tells, done_of}
use Rattle.serial_run.proofs.Growing.{same, lines_grow, sync_grows, drain_grows}
use Rattle.serial_run.proofs.Phasing.{stop_later, sync_full, sync_on}

-- a run that has come to this core
pub any_run : CoreView → Run
any_run core = record { history = core.history; places = λ who. free; full = false }

pub at_any : (core : CoreView) → AtRun (any_run core) core free
unfolding any_run
at_any core = record { history = refl; going = refl; place_is = refl }

-- a stop within the lines
pub stopped_in_lines : {old : CoreView} (new : CoreView) (why : Halt) (t : Run) → IsLater old.history t.history → IsStopped why (done_of t) old new → IsStopped why (done_of (sync_run old.ground t)) old new
stopped_in_lines {old = old} new why t since k =
    stop_later (done_of t) (sync_run old.ground t) refl (same old.history) (sync_grows old.ground t)
    (λ f. let e : sync_run old.ground t ≡ t = sync_full old.ground t f in (ap (λ (u : Run). u.full) e ∙ f, ap (λ (u : Run). u.history) e)) k

since_lines : {old mid : CoreView} (s : Run) (lines : List ScriptLine) → AtRun s old free → IsReached (lines_run old.ground lines s) old mid → IsLater old.history mid.history
since_lines {old = old} {mid = mid} s lines a r =
    subst (λ (h : List StepRec). IsLater h mid.history) a.history (subst (λ (h : List StepRec). IsLater s.history h) r.at.history (lines_grow old.ground lines s))

drained_run : {old mid : CoreView} (t : Run) → IsReached t old mid → sync_run old.ground t ≡ moved 0 t (drain_done mid.ground mid.history)
drained_run {old = old} t r = sync_on old.ground t r.at.going ∙ (λ i. moved 0 t (drain_done (sym r.ground i) (r.at.history i)))

-- a stop within the drain
pub stopped_in_drain : {old mid : CoreView} (new : CoreView) (why : Halt) (s : Run) (lines : List ScriptLine) → AtRun s old free → IsReached (lines_run old.ground lines s) old mid → IsStopped why (drain_done mid.ground mid.history) mid new → IsStopped why (done_of (sync_run old.ground (lines_run old.ground lines s))) old new
stopped_in_drain {old = old} {mid = mid} new why s lines a r k =
    let t : Run = lines_run old.ground lines s in
    let d : Done = drain_done mid.ground mid.history in
    let e : sync_run old.ground t ≡ moved 0 t d = drained_run t r in
    stop_later d (sync_run old.ground t) r.ground (since_lines s lines a r) (rw (ap (λ (u : Run). u.history) e) (same d.history))
    (λ f. (ap (λ (u : Run). u.full) e ∙ f, ap (λ (u : Run). u.history) e)) k

-- the phase is done
pub phase_done : {old mid new : CoreView} (first report text : List ℕ) (s : Run) (lines : List ScriptLine) → IsReached (lines_run old.ground lines s) old mid → Tells old mid [] first → Drains (drain_done mid.ground mid.history) mid new (Ok report) → text ≡ first ++ report → IsPhase (sync_run old.ground (lines_run old.ground lines s)) old new text
phase_done {old = old} {mid = mid} {new = new} first report text s lines r tells d is =
    let t : Run = lines_run old.ground lines s in
    let e : sync_run old.ground t ≡ moved 0 t (drain_done mid.ground mid.history) = drained_run t r in
    record {
      reached = record {
        ground = d.2 ∙ r.ground;
        at = record {
          history = ap (λ (u : Run). u.history) e ∙ d.0;
          going = ap (λ (u : Run). u.full) e ∙ d.1;
          place_is = ap (λ (u : Run). u.places 1) e ∙ r.at.place_is;
        };
        free = d.3;
      };
      lines = first;
      report = report;
      text_is = is;
      model = d.4.model;
      revision = d.4.revision;
      report_is = d.4.report_is ∙ (λ i. Rattle.audit_model.specs.Report.audit_text (r.ground i).schema (r.ground i).specs d.4.model d.4.revision);
      whole = λ none.
          d.4.whole
          ∙ (λ i. tells.whole i ++ sym (tells.lines (sym none)) i ++ report)
          ∙ append_assoc (told old.ground old.history).whole first report
          ∙ ap (λ (xs : List ℕ). (told old.ground old.history).whole ++ xs) (sym is);
      none = d.4.lines;
      ended = d.4.ended;
      alone = λ o. d.4.alone (tells.alone o);
    }

-- memory was wanting for its text
pub phase_unmade : {old mid new : CoreView} {report : List ℕ} (s : Run) (lines : List ScriptLine) → AtRun s old free → IsReached (lines_run old.ground lines s) old mid → Drains (drain_done mid.ground mid.history) mid new (Ok report) → IsStopped halt.Memory (done_of (sync_run old.ground (lines_run old.ground lines s))) old new
phase_unmade {old = old} {mid = mid} {new = new} s lines a r d =
    let e : sync_run old.ground (lines_run old.ground lines s) ≡ moved 0 (lines_run old.ground lines s) (drain_done mid.ground mid.history) = drained_run (lines_run old.ground lines s) r in
    let since : IsLater mid.history new.history = subst (λ (h : List StepRec). IsLater mid.history h) d.0 (drain_grows mid.ground mid.history) in
    record {
      ground = d.2 ∙ r.ground;
      legal = d.3.legal;
      front = new.history;
      since = Rattle.serial_run.proofs.Growing.joined old.history mid.history new.history (since_lines s lines a r) since;
      within = rw (ap (λ (u : Run). u.history) e ∙ d.0) (same new.history);
      at_full = tt;
      back = sym (ap (λ (cs : List Given). returns cs ++ new.history) d.3.none_out);
    }
