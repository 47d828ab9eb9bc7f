-- The lines of a phase.
use Rattle.std.proofs.Common.{◌≡◌, ℕ, ◌+◌, Bool, true, false, cond, not, List, [], ◌∷◌, ◌++◌, reverse, Option, Some, None, Ok, is_some, refl, ap, sym, subst, ◌∙◌}
use Rattle.std.proofs.lemmas.Bool.{eq-eqb}
use Rattle.std.proofs.lemmas.List.{reverse-append}
use Rattle.audit_model.specs.declared.commit.Edit.{Edit}
use Rattle.audit_model.specs.declared.step.StepRec.{StepRec}
use Rattle.audit_model.specs.declared.step.Given.{Given}
use Rattle.audit_model.specs.declared.step.Call.TheVariants as calls
use Rattle.audit_model.specs.declared.script.Act.{Act}
use Rattle.audit_model.specs.declared.script.Act.TheVariants.{Begin, Change, Commit, Publish, Take, Give, Work}
use Rattle.audit_model.specs.declared.script.ScriptLine.{ScriptLine}
use Rattle.audit_model.specs.declared.script.Phase.{Phase}
use Rattle.audit_model.specs.History.{Ground, out}
use Rattle.audit_model.specs.Machine.{is_full}
use Rattle.script_rules.specs.ScriptLines.{Place, place, free, drafted}
use Rattle.script_rules.specs.ScriptOrder.{IsOrderly, drafts_after, holds_after}
use Rattle.script_rules.specs.Serial.{Done, ended, with_room, act_done, commit_done, give_done, rounds, Run, moved, placed, line_run, lines_run, sync_run, phases_run, drain_done}
use Rattle.script_rules.specs.Telling.{told, is_of_one_editor}
use Rattle.model_view.specs.Views.{DraftView}
use Rattle.model_view.specs.declared.answers.Halt.{Halt}
use Rattle.model_view.specs.declared.answers.Halt.TheVariants as halt
use Rattle.audit_core.specs.Cores.{CoreView}
use Rattle.serial_run.specs.declared.editor.Editor.{Editor}
use Rattle.serial_run.specs.declared.editor.Held.{Held}
use Rattle.serial_run.specs.declared.editor.Held.TheVariants as held
use Rattle.serial_run.specs.Growth.{IsLater, returns}
use Rattle.serial_run.specs.Editing.{WorksIn, draft_of, held_of, place_of, is_drafting, is_holding}
use Rattle.serial_run.specs.Course.{IsReturned, IsStopped, IfFull}
use Rattle.serial_run.specs.Turns.{IsFree}
use Rattle.serial_run.specs.Running.{AtRun, IsReached, Steps, Tells, done_of}
use Rattle.serial_run.proofs.Growing.{same, joined, act_grows, lines_grow}
use Rattle.serial_run.proofs.Acting.{rounds_place, nothing, holds_nothing}

-- What a line leaves open.

record Leaves (a : Act) (p q : Place) : Type 0 where
  pub draft : is_some q.draft ≡ drafts_after (is_some p.draft) a
  pub held : is_some q.held ≡ holds_after (is_some p.held) a

-- a course with room leaves what it leaves
with_room_leaves : (g : Ground) (n : ℕ) (h : List StepRec) (a : Act) (p : Place) (d : Done) → Leaves a p d.place → (with_room g n h p d).full ≡ false → Leaves a p (with_room g n h p d).place
with_room_leaves g n h a p d k not =
    let F : Bool → Type 0 = λ b. (cond b (ended h p) d).full ≡ false → Leaves a p (cond b (ended h p) d).place in
    let all : F (is_full g h n) = elim (is_full g h n) as F [ true ↦ λ e. absurd (cc) | false ↦ λ e. k ] in
    all not

pub drafted_some : (e : Edit) (o : Option (ℕ × List Edit)) → is_some (drafted e o) ≡ is_some o
drafted_some e None = refl
drafted_some e (Some d) = refl

commit_leaves : (g : Ground) (who : ℕ) (o : Option (ℕ × List Edit)) (p : Place) (h : List StepRec) → p.draft ≡ o → (commit_done g who o p h).full ≡ false → Leaves Commit p (commit_done g who o p h).place
commit_leaves g who None p h e not = record { draft = ap (λ (x : Option (ℕ × List Edit)). is_some x) e; held = refl }
commit_leaves g who (Some d) p h e not = with_room_leaves g 1 h Commit p _ (record { draft = refl; held = refl }) not

give_leaves : (g : Ground) (who : ℕ) (o : Option (Option ℕ)) (p : Place) (h : List StepRec) → Leaves Give p (give_done g who o p h).place
give_leaves g who None p h = record { draft = refl; held = refl }
give_leaves g who (Some None) p h = record { draft = refl; held = refl }
give_leaves g who (Some (Some n)) p h = record { draft = refl; held = refl }

act_leaves : (g : Ground) (who : ℕ) (a : Act) (p : Place) (h : List StepRec) → (act_done g who a p h).full ≡ false → Leaves a p (act_done g who a p h).place
act_leaves g who Begin p h not = with_room_leaves g 1 h Begin p _ (record { draft = refl; held = refl }) not
act_leaves g who (Change e) p h not = record { draft = drafted_some e p.draft; held = refl }
act_leaves g who Commit p h not = commit_leaves g who p.draft p h refl not
act_leaves g who Publish p h not = with_room_leaves g 1 h Publish p _ (record { draft = refl; held = refl }) not
act_leaves g who Take p h not = with_room_leaves g 2 h Take p _ (record { draft = refl; held = refl }) not
act_leaves g who Give p h not = give_leaves g who p.held p h
act_leaves g who (Work n) p h not =
    let e : (rounds g who n p h).place ≡ p = rounds_place g who n p h in
    record { draft = ap (λ (q : Place). is_some q.draft) e; held = ap (λ (q : Place). is_some q.held) e }

drafting_is : (o : Option DraftView) → is_drafting o ≡ is_some (draft_of o)
drafting_is None = refl
drafting_is (Some d) = refl

holding_is : (x : Held) → is_holding x ≡ is_some (held_of x)
holding_is held.Nothing = refl
holding_is held.Idle = refl
holding_is (held.Found f) = refl

-- Lines so far.

-- Some of all lines were done, and these are left.
pub record AreLines (begun now : CoreView) (all rest : List ScriptLine) (e : Editor) (before after : List ℕ) : Type 0 where
  pub ground : now.ground ≡ begun.ground
  pub works : WorksIn now 1 e
  pub order : IsOrderly 1 (is_drafting e.draft) (is_holding e.held) rest
  pub since : IsLater begun.history now.history
  pub tells : Tells begun now before after
  pub course : (s : Run) → AtRun s begun free → (t : Run) × AtRun t now (place_of e) × (lines_run begun.ground all s ≡ lines_run begun.ground rest t)

abbrev pub idle_editor : Editor
idle_editor = record { draft = None; held = held.Nothing }

pub tells_nothing : (core : CoreView) (before : List ℕ) → Tells core core before before
tells_nothing core before = record { lines = λ e. e; whole = refl; alone = λ o. o }

tells_joined : {a b c : CoreView} {before mid after : List ℕ} → Tells a b before mid → Tells b c mid after → Tells a c before after
tells_joined x y = record { lines = λ e. y.lines (x.lines e); whole = y.whole ∙ x.whole; alone = λ o. y.alone (x.alone o) }

pub lines_start : {core : CoreView} (lines rest : List ScriptLine) (before : List ℕ) → rest ≡ lines → IsFree core → IsOrderly 1 false false lines → AreLines core core lines rest idle_editor before before
lines_start {core = core} lines rest before e f order = record {
  ground = refl;
  works = record { draft = tt; holds = record { legal = f.legal; ready = tt; out_is = f.none_out } };
  order = subst (λ (xs : List ScriptLine). IsOrderly 1 false false xs) (sym e) order;
  since = same core.history;
  tells = tells_nothing core before;
  course = λ s a. (s, a, ap (λ (xs : List ScriptLine). lines_run core.ground xs s) (sym e));
}

order_on : (e f : Editor) (x : ScriptLine) (rest : List ScriptLine) → Leaves x.act (place_of e) (place_of f) → IsOrderly 1 (is_drafting e.draft) (is_holding e.held) (x ∷ rest) → IsOrderly 1 (is_drafting f.draft) (is_holding f.held) rest
order_on e f x rest k order =
    let drafts : drafts_after (is_drafting e.draft) x.act ≡ is_drafting f.draft =
    ap (λ (b : Bool). drafts_after b x.act) (drafting_is e.draft) ∙ sym k.draft ∙ sym (drafting_is f.draft) in
    let holds : holds_after (is_holding e.held) x.act ≡ is_holding f.held =
    ap (λ (b : Bool). holds_after b x.act) (holding_is e.held) ∙ sym k.held ∙ sym (holding_is f.held) in
    subst (λ (b : Bool). IsOrderly 1 b (is_holding f.held) rest) drafts (subst (λ (b : Bool). IsOrderly 1 (drafts_after (is_drafting e.draft) x.act) b rest) holds order.2)

-- the run after the line, by what the line leads to
line_is : (g : Ground) (x : ScriptLine) (t : Run) (k : Ground) (h : List StepRec) (p : Place) → k ≡ g → t.full ≡ false → x.editor ≡ 1 → t.places 1 ≡ p → t.history ≡ h → line_run g x t ≡ moved x.editor t (act_done k 1 x.act p h)
line_is g x t k h p same_ground going one place_is history =
    let at : t.places x.editor ≡ p = ap (λ (n : ℕ). t.places n) one ∙ place_is in
    (λ i. cond (going i) t (moved x.editor t (act_done (sym same_ground i) (one i) x.act (at i) (history i))))

moved_at : (x : ScriptLine) (t : Run) (d : Done) → x.editor ≡ 1 → placed x.editor d.place t.places 1 ≡ d.place
moved_at x t d one = ap (λ (b : Bool). cond b d.place (t.places 1)) (eq-eqb 1 x.editor (sym one))

pub lines_on : {begun old new : CoreView} {all : List ScriptLine} {e f : Editor} {before mid after : List ℕ} (x : ScriptLine) (rest : List ScriptLine) → AreLines begun old all (x ∷ rest) e before mid → Steps (act_done old.ground 1 x.act (place_of e) old.history) old new mid after (Ok f) → AreLines begun new all rest f before after
lines_on {begun = begun} {old = old} {new = new} {all = all} {e = e} {f = f} x rest k s =
    let d : Done = act_done old.ground 1 x.act (place_of e) old.history in
    let leaves : Leaves x.act (place_of e) (place_of f) = subst (λ (q : Place). Leaves x.act (place_of e) q) s.0.place_is (act_leaves old.ground 1 x.act (place_of e) old.history s.0.not_full) in
    let grown : IsLater old.history new.history = subst (λ (h : List StepRec). IsLater old.history h) s.0.history (act_grows old.ground 1 x.act (place_of e) old.history) in
    record {
      ground = s.0.ground ∙ k.ground;
      works = s.0.works;
      order = order_on e f x rest leaves k.order;
      since = joined begun.history old.history new.history k.since grown;
      tells = tells_joined k.tells s.1;
      course = λ r a.
          let t : Run = (k.course r a).0 in
          let at : AtRun t old (place_of e) = (k.course r a).1 in
          let is : line_run begun.ground x t ≡ moved x.editor t d = line_is begun.ground x t old.ground old.history (place_of e) k.ground at.going k.order.0 at.place_is at.history in (
            line_run begun.ground x t,
            record {
              history = ap (λ (u : Run). u.history) is ∙ s.0.history;
              going = ap (λ (u : Run). u.full) is ∙ s.0.not_full;
              place_is = ap (λ (u : Run). u.places 1) is ∙ moved_at x t d k.order.0 ∙ s.0.place_is;
            },
            (k.course r a).2,
          );
    }

-- Stops.

line_full : (g : Ground) (x : ScriptLine) (s : Run) → s.full ≡ true → line_run g x s ≡ s
line_full g x s e = ap (λ (b : Bool). cond b s (moved x.editor s (act_done g x.editor x.act (s.places x.editor) s.history))) e

pub lines_full : (g : Ground) (xs : List ScriptLine) (s : Run) → s.full ≡ true → lines_run g xs s ≡ s
lines_full g [] s e = refl
lines_full g (x ∷ xs) s e = ap (λ (t : Run). lines_run g xs t) (line_full g x s e) ∙ lines_full g xs s e

pub sync_full : (g : Ground) (s : Run) → s.full ≡ true → sync_run g s ≡ s
sync_full g s e = ap (λ (b : Bool). cond b s (moved 0 s (drain_done g s.history))) e

-- a run that goes on drains
pub sync_on : (g : Ground) (s : Run) → s.full ≡ false → sync_run g s ≡ moved 0 s (drain_done g s.history)
sync_on g s e = ap (λ (b : Bool). cond b s (moved 0 s (drain_done g s.history))) e

pub phases_full : (g : Ground) (ps : List Phase) (s : Run) → s.full ≡ true → phases_run g ps s ≡ s
phases_full g [] s e = refl
phases_full g (p ∷ ps) s e =
    ap (λ (t : Run). phases_run g ps t) (ap (λ (t : Run). sync_run g t) (lines_full g p.lines s e) ∙ sync_full g s e) ∙ phases_full g ps s e

pub if_full : (why : Halt) (d : Done) (whole : Run) (front : List StepRec) → IfFull why d front → (d.full ≡ true → (whole.full ≡ true) × (whole.history ≡ d.history)) → IfFull why (done_of whole) front
if_full halt.Full d whole front k f = let w : (whole.full ≡ true) × (whole.history ≡ d.history) = f k.0 in (w.0, k.1 ∙ sym w.1)
if_full halt.Memory d whole front k f = tt

-- a stop on the way to d is one on the way to where d's run leads
pub stop_later : {begun old new : CoreView} {why : Halt} (d : Done) (whole : Run) → old.ground ≡ begun.ground → IsLater begun.history old.history → IsLater d.history whole.history → (d.full ≡ true → (whole.full ≡ true) × (whole.history ≡ d.history)) → IsStopped why d old new → IsStopped why (done_of whole) begun new
stop_later {begun = begun} {old = old} {why = why} d whole g since later f k = record {
  ground = k.ground ∙ g;
  legal = k.legal;
  front = k.front;
  since = joined begun.history old.history k.front since k.since;
  within = joined k.front d.history whole.history k.within later;
  at_full = if_full why d whole k.front k.at_full f;
  back = k.back;
}

pub lines_stopped : {begun old : CoreView} (new : CoreView) {all : List ScriptLine} {e : Editor} {before mid : List ℕ} (why : Halt) (x : ScriptLine) (rest : List ScriptLine) → AreLines begun old all (x ∷ rest) e before mid → IsStopped why (act_done old.ground 1 x.act (place_of e) old.history) old new →
    (s : Run) → AtRun s begun free → IsStopped why (done_of (lines_run begun.ground all s)) begun new
lines_stopped {begun = begun} {old = old} new {all = all} {e = e} why x rest k stop s a =
    let d : Done = act_done old.ground 1 x.act (place_of e) old.history in
    let t : Run = (k.course s a).0 in
    let at : AtRun t old (place_of e) = (k.course s a).1 in
    let next : Run = line_run begun.ground x t in
    let is : next ≡ moved x.editor t d = line_is begun.ground x t old.ground old.history (place_of e) k.ground at.going k.order.0 at.place_is at.history in
    let whole : lines_run begun.ground all s ≡ lines_run begun.ground rest next = (k.course s a).2 in
    let later : IsLater d.history (lines_run begun.ground rest next).history = subst (λ (h : List StepRec). IsLater h (lines_run begun.ground rest next).history) (ap (λ (u : Run). u.history) is) (lines_grow begun.ground rest next) in
    let full : d.full ≡ true → ((lines_run begun.ground rest next).full ≡ true) × ((lines_run begun.ground rest next).history ≡ d.history) =
    λ f.
    let at_end : lines_run begun.ground rest next ≡ next = lines_full begun.ground rest next (ap (λ (u : Run). u.full) is ∙ f) in
    (ap (λ (u : Run). u.full) (at_end ∙ is) ∙ f, ap (λ (u : Run). u.history) (at_end ∙ is)) in
    subst (λ (u : Run). IsStopped why (done_of u) begun new) (sym whole) (stop_later d (lines_run begun.ground rest next) k.ground k.since later full stop)

-- The end.

tells_same : {a b c : CoreView} {before after : List ℕ} → c.ground ≡ b.ground → c.history ≡ b.history → Tells a b before after → Tells a c before after
tells_same {b = b} {c = c} g h k = record {
  lines = λ e. k.lines e ∙ (λ i. (told (sym g i) (sym h i)).lines);
  whole = (λ i. (told (g i) (h i)).whole) ∙ k.whole;
  alone = λ o. subst (λ (xs : List StepRec). is_of_one_editor xs ≡ true) (sym h) (k.alone o);
}

at_rest : (e : Editor) → is_drafting e.draft ≡ false → is_holding e.held ≡ false → place_of e ≡ free
at_rest e a b = (λ i. place (no_draft e.draft a i) (held_of (nothing e.held b i))) where
  no_draft : (o : Option DraftView) → is_drafting o ≡ false → draft_of o ≡ None
  no_draft None e = refl
  no_draft (Some d) e = absurd (cc)

pub lines_end : {begun old new : CoreView} {all : List ScriptLine} {e : Editor} {before after : List ℕ} (rest : List ScriptLine) → rest ≡ [] → AreLines begun old all rest e before after → IsReturned old new →
    (s : Run) → AtRun s begun free → IsReached (lines_run begun.ground all s) begun new × Tells begun new before after
lines_end {begun = begun} {old = old} {new = new} {all = all} {e = e} rest none k r s a =
    let order : IsOrderly 1 (is_drafting e.draft) (is_holding e.held) [] = subst (λ (xs : List ScriptLine). IsOrderly 1 (is_drafting e.draft) (is_holding e.held) xs) none k.order in
    let f : IsFree old = holds_nothing e.held (nothing e.held order.1) k.works.holds in
    let same_history : new.history ≡ old.history = r.history ∙ ap (λ (cs : List Given). returns cs ++ old.history) f.none_out in
    let t : Run = (k.course s a).0 in
    let at : AtRun t old (place_of e) = (k.course s a).1 in
    let whole : lines_run begun.ground all s ≡ t = (k.course s a).2 ∙ ap (λ (xs : List ScriptLine). lines_run begun.ground xs t) none in (
      record {
        ground = r.ground ∙ k.ground;
        at = record {
          history = ap (λ (u : Run). u.history) whole ∙ at.history ∙ sym same_history;
          going = ap (λ (u : Run). u.full) whole ∙ at.going;
          place_is = ap (λ (u : Run). u.places 1) whole ∙ at.place_is ∙ at_rest e order.0 order.1;
        };
        free = record { legal = r.legal; none_out = ap (λ (h : List StepRec). out h) same_history ∙ f.none_out };
      },
      tells_same r.ground same_history k.tells,
    )

-- the next line is taken from the end of the turned list
pub next_line : {begun now : CoreView} {all : List ScriptLine} {e : Editor} {before after : List ℕ} (turned xs : List ScriptLine) (x : ScriptLine) → turned ≡ xs ++ x ∷ [] → AreLines begun now all (reverse turned) e before after → AreLines begun now all (x ∷ reverse xs) e before after
next_line {begun = begun} {now = now} {all = all} {e = e} {before = before} {after = after} turned xs x is k =
    subst (λ (rest : List ScriptLine). AreLines begun now all rest e before after) (ap (λ (ys : List ScriptLine). reverse ys) is ∙ reverse-append xs (x ∷ [])) k
