-- The text that a history has as the output of a run: phase by phase the lines of editor 1's entries in order, then those of editor 2
-- and so on to editor 16, and then the text of the report that ends the phase.
use Rattle.std.specs.Prelude.{ℕ, Bool, true, false, ◌&&◌, ◌==◌, List, [], ◌∷◌, ◌++◌, filter, flat_map, reverse, codes, encode_utf8_all}
use Rattle.std.specs.Fmt.{decimal}
use Rattle.ifc_base.specs.declared.key.Role.{Role}
use Rattle.ifc_base.specs.declared.key.Role.TheVariants as role
use Rattle.ifc_base.specs.declared.key.Key.{Key}
use Rattle.ifc_base.specs.declared.key.Key.TheVariants.{Inst, Refs}
use Rattle.schema_table.specs.declared.fault.InstanceFault.{InstanceFault}
use Rattle.schema_table.specs.declared.fault.InstanceFault.TheVariants.{UnknownEntity, AbstractEntity, ParamCount, MisplacedDerived}
use Rattle.audit_model.specs.declared.commit.EditFault.{EditFault}
use Rattle.audit_model.specs.declared.commit.EditFault.TheVariants.{Conflict, IdTaken, NoInstance, NoAttribute, Schema, TooManyInstances}
use Rattle.audit_model.specs.declared.commit.CommitRefusal.{CommitRefusal}
use Rattle.audit_model.specs.declared.commit.CommitRefusal.TheVariants.{RevisionsFull, Edit as EditRefused, Dangling}
use Rattle.audit_model.specs.declared.step.Limits.{Limits}
use Rattle.audit_model.specs.declared.step.Reply.{Reply}
use Rattle.audit_model.specs.declared.step.Reply.TheVariants.{Began, Accepted, Refused, Claimed, Idle, Used, Stale, Back, Pending, Report}
use Rattle.audit_model.specs.declared.step.StepRec.{StepRec}
use Rattle.audit_model.specs.Report.{line, audit_text}
use Rattle.audit_model.specs.History.{Ground, model_at}

-- the word of a role
abbrev pub role_word : Role → List ℕ
role_word role.Properties = codes "properties"
role_word role.Kind = codes "type"
role_word role.Classification = codes "classification"
role_word role.Material = codes "material"
role_word role.Aggregates = codes "aggregates"
role_word role.Nests = codes "nests"
role_word role.Contained = codes "contained"
role_word role.Group = codes "group"
role_word role.Voids = codes "voids"
role_word role.Fills = codes "fills"

-- ` #N`
abbrev pub an_id : ℕ → List ℕ
an_id id = codes " #" ++ decimal id

-- a number, a blank before it
abbrev pub a_number : ℕ → List ℕ
a_number n = codes " " ++ decimal n

-- ` unknown NAME`, ` abstract NAME`, ` count FOUND WANTED` or ` derived PLACE`
abbrev pub instance_fault_text : InstanceFault → List ℕ
instance_fault_text (UnknownEntity name) = codes " unknown " ++ encode_utf8_all name
instance_fault_text (AbstractEntity name) = codes " abstract " ++ encode_utf8_all name
instance_fault_text (ParamCount found wanted) = codes " count" ++ a_number found ++ a_number wanted
instance_fault_text (MisplacedDerived at) = codes " derived" ++ a_number at

-- ` conflict #N R`, ` taken #N`, ` missing #N`, ` attribute #N NAME`, ` schema #N ..` or ` instances LIMIT`
abbrev pub edit_fault_text : Limits → EditFault → List ℕ
edit_fault_text limits (Conflict id r) = codes " conflict" ++ an_id id ++ a_number r
edit_fault_text limits (IdTaken id) = codes " taken" ++ an_id id
edit_fault_text limits (NoInstance id) = codes " missing" ++ an_id id
edit_fault_text limits (NoAttribute id attr) = codes " attribute" ++ an_id id ++ codes " " ++ encode_utf8_all attr
edit_fault_text limits (Schema id fault) = codes " schema" ++ an_id id ++ instance_fault_text fault
edit_fault_text limits TooManyInstances = codes " instances" ++ a_number limits.instances

-- `refused revisions LIMIT`, `refused E ..` or `refused dangling from #A to #B`
abbrev pub refusal_text : Limits → CommitRefusal → List ℕ
refusal_text limits RevisionsFull = codes "refused revisions" ++ a_number limits.revisions
refusal_text limits (EditRefused number fault) = codes "refused" ++ a_number number ++ edit_fault_text limits fault
refusal_text limits (Dangling from to) = codes "refused dangling from" ++ an_id from ++ codes " to" ++ an_id to

-- `inst #N` or `refs #N WORD`
abbrev pub key_text : Key → List ℕ
key_text (Inst id) = codes "inst" ++ an_id id
key_text (Refs id r) = codes "refs" ++ an_id id ++ codes " " ++ role_word r

-- the words for a reply
abbrev pub reply_text : Limits → Reply → List ℕ
reply_text limits (Began r) = codes "open" ++ a_number r
reply_text limits (Accepted r) = codes "commit" ++ a_number r
reply_text limits (Refused refusal) = refusal_text limits refusal
reply_text limits (Claimed number pair r) = codes "take" ++ a_number pair.spec ++ an_id pair.elem ++ a_number r
reply_text limits Idle = codes "idle"
reply_text limits Used = codes "give used"
reply_text limits (Stale key r) = codes "give stale " ++ key_text key ++ a_number r
reply_text limits Back = codes "back"
reply_text limits (Pending pair) = codes "pending" ++ a_number pair.spec ++ an_id pair.elem
reply_text limits (Report r) = codes "published"

-- The text of the report that a reply gives; none for any other reply. The history h, with the newest entry first, says which model
-- each revision is.
abbrev pub report_in : Ground → List StepRec → Reply → List ℕ
report_in g h (Report r) = audit_text g.schema g.specs (model_at g h r) r
report_in g h reply = []

-- the line of an editor's entry: its number, a blank and the words for the reply; after a publish the report
abbrev pub entry_text : Ground → List StepRec → StepRec → List ℕ
entry_text g h e = line (decimal e.actor ++ codes " " ++ reply_text g.limits e.reply) ++ report_in g h e.reply

-- the lines of one editor in a phase
abbrev pub editor_text : Ground → List StepRec → List StepRec → ℕ → List ℕ
editor_text g h phase who = flat_map (λ e. entry_text g h e) (filter (λ e. e.actor == who) phase)

-- the numbers of the editors
abbrev pub editors : List ℕ
editors = 1 ∷ 2 ∷ 3 ∷ 4 ∷ 5 ∷ 6 ∷ 7 ∷ 8 ∷ 9 ∷ 10 ∷ 11 ∷ 12 ∷ 13 ∷ 14 ∷ 15 ∷ 16 ∷ []

abbrev pub is_report : Reply → Bool
is_report (Report r) = true
is_report reply = false

-- a report that was given to actor 0 ends a phase
abbrev pub ends_phase : StepRec → Bool
ends_phase e = (e.actor == 0) && is_report e.reply

-- the lines of the editors, one editor after the other, and then the report
abbrev pub phase_text : Ground → List StepRec → List StepRec → List ℕ
phase_text g h phase = flat_map (λ who. editor_text g h phase who) editors ++ flat_map (λ e. report_in g h e.reply) (filter ends_phase phase)

abbrev pub with_entry : StepRec → Bool → List (List StepRec) → List (List StepRec)
with_entry e true phases = (e ∷ []) ∷ phases
with_entry e false [] = []
with_entry e false (phase ∷ phases) = (e ∷ phase) ∷ phases

-- The phases of a journal, each up to and with the next report to actor 0. Entries behind the last such report are of no whole phase.
abbrev pub whole_phases : List StepRec → List (List StepRec)
whole_phases [] = []
whole_phases (e ∷ es) = with_entry e (ends_phase e) (whole_phases es)

-- the text of the whole phases of a journal
abbrev pub output : Ground → List StepRec → List ℕ
output g journal = flat_map (λ phase. phase_text g (reverse journal) phase) (whole_phases journal)
