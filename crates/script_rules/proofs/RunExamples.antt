-- The definitions of runs computed on small scripts: the output of each, where Full is met, and what an editor's lines make.
use Rattle.std.proofs.Common.{◌≡◌, ℕ, true, false, List, [], ◌∷◌, ◌++◌, map, filter, length, ◌==◌, Some, None, inr, arith, refl, codes}
use Rattle.ifc_base.specs.declared.value.Instance.{Instance}
use Rattle.audit_model.specs.declared.facet.Facet.{Facet}
use Rattle.audit_model.specs.declared.facet.Facet.TheVariants.{Entity}
use Rattle.audit_model.specs.declared.specification.Cardinality.TheVariants as cardinality
use Rattle.audit_model.specs.declared.specification.Occurs.TheVariants as occurrence
use Rattle.audit_model.specs.declared.specification.Specification.{Specification}
use Rattle.audit_model.specs.declared.commit.Edit.TheVariants.{Add, Remove}
use Rattle.audit_model.specs.declared.step.Call.TheVariants as calls
use Rattle.audit_model.specs.declared.step.Reply.{Reply}
use Rattle.audit_model.specs.declared.step.Reply.TheVariants.{Began, Accepted, Refused, Claimed, Idle, Used, Stale, Back}
use Rattle.ifc_base.specs.declared.key.Role.TheVariants as role
use Rattle.ifc_base.specs.declared.key.Key.TheVariants.{Refs}
use Rattle.schema_table.specs.declared.fault.InstanceFault.TheVariants.{UnknownEntity, AbstractEntity, ParamCount, MisplacedDerived}
use Rattle.audit_model.specs.declared.commit.EditFault.TheVariants.{IdTaken, NoInstance, NoAttribute, Schema, TooManyInstances}
use Rattle.audit_model.specs.declared.commit.CommitRefusal.TheVariants.{RevisionsFull, Edit as EditRefused, Dangling}
use Rattle.audit_model.specs.declared.step.StepRec.{StepRec}
use Rattle.script_rules.specs.ScriptLines.{place, free, entry, Follows}
use Rattle.audit_model.specs.declared.script.Act.{Act}
use Rattle.audit_model.specs.declared.script.Act.TheVariants.{Begin, Change, Commit, Publish, Take, Give, Work}
use Rattle.audit_model.specs.declared.script.Phase.{Phase}
use Rattle.audit_model.specs.Scratch.{scratch}
use Rattle.audit_model.specs.Report.{line, report_text}
use Rattle.std.specs.Fmt.{digits}
use Rattle.std.proofs.Math.Utf8.{encode}
use Rattle.audit_model.specs.Keys.{changes}
use Rattle.audit_model.specs.Needs.{need}
use Rattle.audit_model.specs.Verdicts.{verdict_of}
use Rattle.restrictions.specs.Admitting.{admits_text}
use Rattle.schema_table.specs.Schema as schema
use Rattle.schema_table.specs.Schema.{attributes, place_of}
use Rattle.schema_table.specs.Faults.{instance_fault}
use Rattle.audit_model.specs.Judging.{judge}
use Rattle.audit_model.specs.History.{Ground}
use Rattle.script_rules.specs.Serial.{serial, meets_full}
use Rattle.script_rules.specs.Output.{reply_text, output}
use Rattle.restrictions.specs.declared.condition.Condition.TheVariants.{Simple}

abbrev wall : ℕ → Instance
wall id = record { id = id; entity = codes "IFCWALL"; params = [] }

-- a schema in which walls and groups have no attributes
abbrev walls_and_groups : schema.Schema
walls_and_groups = record { name = codes "IFCWALL"; parent = None; is_abstract = false; own = []; derived = [] } ∷ record { name = codes "IFCGROUP"; parent = None; is_abstract = false; own = []; derived = [] } ∷ []

abbrev is_wall : Facet
is_wall = Entity (record { name = Simple (codes "IFCWALL"); predefined = None })

abbrev walls_are_walls : Specification
walls_are_walls = record { number = 1; for_model = true; occurs = occurrence.Optional; applicability = is_wall ∷ []; requirements = record { facet = is_wall; cardinality = cardinality.Required } ∷ [] }

-- two walls, and room for so many steps
abbrev two_walls : ℕ → Ground
two_walls steps = record { schema = walls_and_groups; specs = walls_are_walls ∷ []; first = wall 10 ∷ wall 11 ∷ []; limits = record { steps = steps; revisions = 10; instances = 4 } }

-- one phase, of these lines of one editor
abbrev phase : ℕ → List Act → Phase
phase who acts = record { lines = map (λ a. record { editor = who; act = a }) acts }

abbrev lines : List (List ℕ) → List ℕ
lines [] = []
lines (l ∷ ls) = line l ++ lines ls

abbrev texts : Ground → List Phase → List ℕ
texts g phases = output g (serial g phases)

sync_alone : texts (two_walls 100) (phase 1 [] ∷ []) ≡ lines (codes "report 0" ∷ codes "spec 1 pass applicable 2 failed 0" ∷ codes "end pass" ∷ [])
unfolding judge changes need scratch report_text digits instance_fault attributes place_of admits_text verdict_of
sync_alone = refl

change_back : texts (two_walls 100) (phase 1 (Take ∷ Begin ∷ Change (Remove 10) ∷ Commit ∷ Begin ∷ Change (Add (wall 10)) ∷ Commit ∷ Give ∷ []) ∷ []) ≡
    lines (codes "1 take 1 #10 0" ∷ codes "1 open 0" ∷ codes "1 commit 1" ∷ codes "1 open 1" ∷ codes "1 commit 2" ∷ codes "1 give stale inst #10 2" ∷ codes "report 2" ∷ codes "spec 1 pass applicable 2 failed 0" ∷ codes "end pass" ∷ [])
unfolding judge changes need scratch report_text digits instance_fault attributes place_of admits_text verdict_of
change_back = refl

unrelated_change : texts (two_walls 100) (phase 1 (Take ∷ Begin ∷ Change (Remove 11) ∷ Commit ∷ Give ∷ []) ∷ []) ≡
    lines (codes "1 take 1 #10 0" ∷ codes "1 open 0" ∷ codes "1 commit 1" ∷ codes "1 give used" ∷ codes "report 1" ∷ codes "spec 1 pass applicable 1 failed 0" ∷ codes "end pass" ∷ [])
unfolding judge changes need scratch report_text digits instance_fault attributes place_of admits_text verdict_of
unrelated_change = refl

pending : texts (two_walls 100) (phase 1 (Publish ∷ []) ∷ []) ≡ lines (codes "1 pending 1 #10" ∷ codes "report 0" ∷ codes "spec 1 pass applicable 2 failed 0" ∷ codes "end pass" ∷ [])
unfolding judge changes need scratch report_text digits instance_fault attributes place_of admits_text verdict_of
pending = refl

-- two editors in turn: the output has the lines of editor 1 first
two_editors : texts (two_walls 100) (record { lines = (record { editor = 2; act = Begin }) ∷ (record { editor = 1; act = Begin }) ∷ (record { editor = 2; act = Change (Remove 11) }) ∷ (record { editor = 2; act = Commit }) ∷ (record { editor = 1; act = Change (Remove 11) }) ∷ (record { editor = 1; act = Commit }) ∷ [] } ∷ []) ≡
    lines (codes "1 open 0" ∷ codes "1 refused 1 conflict #11 1" ∷ codes "2 open 0" ∷ codes "2 commit 1" ∷ codes "report 1" ∷ codes "spec 1 pass applicable 1 failed 0" ∷ codes "end pass" ∷ [])
unfolding judge changes need scratch report_text digits instance_fault attributes place_of admits_text verdict_of
two_editors = refl

-- `work` stops at an Idle, and `publish` has its report in the output
work_and_publish : texts (two_walls 100) (phase 1 (Work 5 ∷ Publish ∷ []) ∷ []) ≡
    lines (codes "1 take 1 #10 0" ∷ codes "1 give used" ∷ codes "1 take 1 #11 0" ∷ codes "1 give used" ∷ codes "1 idle" ∷ codes "1 published" ∷ codes "report 0" ∷ codes "spec 1 pass applicable 2 failed 0" ∷ codes "end pass"
    ∷ codes "report 0" ∷ codes "spec 1 pass applicable 2 failed 0" ∷ codes "end pass" ∷ [])
unfolding judge changes need scratch report_text digits instance_fault attributes place_of admits_text verdict_of
work_and_publish = refl

-- `work 2` makes no third claim, and a `give` after an Idle makes no entry
give_after_idle : texts (two_walls 100) (phase 1 (Work 2 ∷ Take ∷ Give ∷ []) ∷ []) ≡
    lines (codes "1 take 1 #10 0" ∷ codes "1 give used" ∷ codes "1 take 1 #11 0" ∷ codes "1 give used" ∷ codes "1 idle" ∷ codes "report 0" ∷ codes "spec 1 pass applicable 2 failed 0" ∷ codes "end pass" ∷ [])
unfolding judge changes need scratch report_text digits instance_fault attributes place_of admits_text verdict_of
give_after_idle = refl

two_phases : texts (two_walls 100) (phase 1 [] ∷ phase 3 (Begin ∷ Change (Remove 10) ∷ Commit ∷ []) ∷ []) ≡
    lines (codes "report 0" ∷ codes "spec 1 pass applicable 2 failed 0" ∷ codes "end pass" ∷ codes "3 open 0" ∷ codes "3 commit 1" ∷ codes "report 1" ∷ codes "spec 1 pass applicable 1 failed 0" ∷ codes "end pass" ∷ [])
unfolding judge changes need scratch report_text digits instance_fault attributes place_of admits_text verdict_of
two_phases = refl

-- A drain of two pairs needs room for six entries. With five it ends before the third claim, and no phase is whole.
room_for_six : meets_full (two_walls 6) (phase 1 [] ∷ []) ≡ false
unfolding judge changes need instance_fault attributes place_of admits_text verdict_of
room_for_six = refl

full_at_five : (meets_full (two_walls 5) (phase 1 [] ∷ []) ≡ true) × (length (serial (two_walls 5) (phase 1 [] ∷ [])) ≡ 4) × (texts (two_walls 5) (phase 1 [] ∷ []) ≡ [])
unfolding judge changes need scratch report_text digits instance_fault attributes place_of admits_text verdict_of
full_at_five = (refl, refl, refl)

-- a claim that is out keeps room for its own end
claim_keeps_room : (meets_full (two_walls 3) (phase 1 (Take ∷ Begin ∷ Publish ∷ []) ∷ []) ≡ true) × (map (λ e. e.reply) (serial (two_walls 3) (phase 1 (Take ∷ Begin ∷ Publish ∷ []) ∷ [])) ≡ Claimed 1 (record { spec = 1; elem = 10 }) 0 ∷ Began 0 ∷ [])
unfolding judge changes need instance_fault attributes place_of admits_text verdict_of
claim_keeps_room = (refl, refl)

-- What an editor's lines make stands in the relation to them.

abbrev some_acts : List Act
some_acts = Begin ∷ Change (Remove 11) ∷ Commit ∷ Work 3 ∷ []

abbrev one_round : List StepRec
one_round = entry 1 calls.Claim (Claimed 1 (record { spec = 1; elem = 10 }) 1) ∷ entry 1 (calls.Deliver 1) Used ∷ []

abbrev worked : List StepRec
worked = one_round ++ entry 1 calls.Claim Idle ∷ []

abbrev their_entries : List StepRec
their_entries = entry 1 calls.Begin (Began 0) ∷ entry 1 (calls.Commit 0 (Remove 11 ∷ [])) (Accepted 1) ∷ worked

are_their_entries : filter (λ e. e.actor == 1) (serial (two_walls 100) (phase 1 some_acts ∷ [])) ≡ their_entries
unfolding judge changes need instance_fault attributes place_of admits_text verdict_of
are_their_entries = refl

they_follow : Follows 1 some_acts their_entries
they_follow = (
  free,
  (
    place (Some (0, [])) None,
    entry 1 calls.Begin (Began 0) ∷ [],
    entry 1 (calls.Commit 0 (Remove 11 ∷ [])) (Accepted 1) ∷ worked,
    refl,
    (0, refl, refl),
    (
      place (Some (0, Remove 11 ∷ [])) None,
      [],
      entry 1 (calls.Commit 0 (Remove 11 ∷ [])) (Accepted 1) ∷ worked,
      refl,
      (refl, refl),
      (
        free,
        entry 1 (calls.Commit 0 (Remove 11 ∷ [])) (Accepted 1) ∷ [],
        worked,
        refl,
        (Accepted 1, refl, refl),
        (
          free,
          worked,
          [],
          refl,
          (inr (1, one_round, omega arith, ([], 1, record { spec = 1; elem = 10 }, 1, Used, refl, refl), refl), refl),
          (refl, refl),
        ),
      ),
    ),
  ),
)

-- The words of replies that these scripts don't have.

abbrev words : Reply → List ℕ
words reply = reply_text (record { steps = 100; revisions = 10; instances = 4 }) reply

refusals_read : (words (Refused RevisionsFull) ≡ codes "refused revisions 10")
    × (words (Refused (EditRefused 2 (IdTaken 10))) ≡ codes "refused 2 taken #10")
    × (words (Refused (EditRefused 1 (NoInstance 7))) ≡ codes "refused 1 missing #7")
    × (words (Refused (EditRefused 1 (NoAttribute 7 (codes "Name")))) ≡ codes "refused 1 attribute #7 Name")
    × (words (Refused (EditRefused 1 TooManyInstances)) ≡ codes "refused 1 instances 4")
    × (words (Refused (Dangling 12 98)) ≡ codes "refused dangling from #12 to #98")
unfolding digits encode
refusals_read = (refl, refl, refl, refl, refl, refl)

schema_refusals_read : (words (Refused (EditRefused 1 (Schema 7 (UnknownEntity (codes "IFCX"))))) ≡ codes "refused 1 schema #7 unknown IFCX")
    × (words (Refused (EditRefused 1 (Schema 7 (AbstractEntity (codes "IFCROOT"))))) ≡ codes "refused 1 schema #7 abstract IFCROOT")
    × (words (Refused (EditRefused 1 (Schema 7 (ParamCount 3 9)))) ≡ codes "refused 1 schema #7 count 3 9")
    × (words (Refused (EditRefused 1 (Schema 7 (MisplacedDerived 2)))) ≡ codes "refused 1 schema #7 derived 2")
unfolding digits encode
schema_refusals_read = (refl, refl, refl, refl)

others_read : (words (Stale (Refs 10 role.Kind) 3) ≡ codes "give stale refs #10 type 3") × (words Back ≡ codes "back")
unfolding digits
others_read = (refl, refl)
