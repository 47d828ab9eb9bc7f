-- The definitions computed on small runs: what each call of a list of calls is answered.
use Rattle.std.proofs.Common.{◌≡◌, ℕ, true, false, List, [], ◌∷◌, map, Option, Some, None, refl, codes, rules}
use Rattle.ifc_base.specs.declared.value.Instance.{Instance}
use Rattle.ifc_base.specs.declared.value.Value.{Value}
use Rattle.ifc_base.specs.declared.key.Key.TheVariants.{Inst}
use Rattle.ifc_base.specs.Tree.{text_value, ref_value, list_value, typed_value}
use Rattle.audit_model.specs.declared.facet.Facet.{Facet}
use Rattle.audit_model.specs.declared.facet.Facet.TheVariants.{Entity}
use Rattle.audit_model.specs.declared.specification.Cardinality.TheVariants as cardinality
use Rattle.audit_model.specs.declared.specification.Occurs.TheVariants as occurrence
use Rattle.audit_model.specs.declared.specification.Specification.{Specification}
use Rattle.audit_model.specs.declared.commit.Edit.TheVariants.{Add, Set, Remove}
use Rattle.audit_model.specs.declared.commit.EditFault.TheVariants.{Conflict, IdTaken, NoInstance, NoAttribute, TooManyInstances}
use Rattle.audit_model.specs.declared.commit.CommitRefusal.TheVariants.{RevisionsFull, Edit as EditRefused, Dangling}
use Rattle.audit_model.specs.declared.verdict.Pair.{Pair}
use Rattle.audit_model.specs.declared.step.Given.{Given}
use Rattle.audit_model.specs.declared.step.Limits.{Limits}
use Rattle.audit_model.specs.declared.step.Call.{Call}
use Rattle.audit_model.specs.declared.step.Call.TheVariants.{Begin, Commit, Claim, Deliver, GiveBack, Publish}
use Rattle.audit_model.specs.declared.step.Reply.{Reply}
use Rattle.audit_model.specs.declared.step.Reply.TheVariants.{Began, Accepted, Refused, Claimed, Idle, Used, Stale, Back, Pending, Report}
use Rattle.audit_model.specs.declared.step.StepRec.{StepRec}
use Rattle.audit_model.specs.Keys.{changes}
use Rattle.audit_model.specs.Needs.{need}
use Rattle.audit_model.specs.Verdicts.{verdict_of}
use Rattle.restrictions.specs.Admitting.{admits_text}
use Rattle.schema_table.specs.Schema.{Schema, attributes, place_of}
use Rattle.schema_table.specs.Faults.{instance_fault}
use Rattle.audit_model.specs.Judging.{judge, dangling}
use Rattle.ifc_base.specs.Refs.{refs_of}
use Rattle.ifc_base.specs.declared.value.ValueNode.{the_lemmas}
use Rattle.audit_model.specs.History.{Ground, revision, out, claim_numbered}
use Rattle.audit_model.specs.Machine.{claim_reply, deliver_reply, publish_reply, commit_reply, is_full}
use Rattle.audit_model.specs.Drain.{drain}
use Rattle.restrictions.specs.declared.condition.Condition.TheVariants.{Simple}

-- Runs.

abbrev delivery : Ground → List StepRec → Option Given → Reply
delivery g h None = Idle
delivery g h (Some c) = deliver_reply g h c

-- the reply of a call; of a delivery that names no claim out, Idle
abbrev reply_of : Ground → List StepRec → Call → Reply
reply_of g h Begin = Began (revision h)
reply_of g h (Commit base edits) = commit_reply g h base edits
reply_of g h Claim = claim_reply g h
reply_of g h (Deliver n) = delivery g h (claim_numbered n (out h))
reply_of g h (GiveBack n) = Back
reply_of g h Publish = publish_reply g h

-- the replies to these calls of one actor, after the history h
abbrev replies : Ground → List StepRec → List Call → List Reply
replies g h [] = []
replies g h (c ∷ cs) = reply_of g h c ∷ replies g (record { actor = 1; call = c; reply = reply_of g h c } ∷ h) cs

-- The walls and the specification of the worked runs.

abbrev wall : ℕ → List Value → Instance
wall id params = record { id = id; entity = codes "IFCWALL"; params = params }

abbrev group : ℕ → List Value → Instance
group id params = record { id = id; entity = codes "IFCGROUP"; params = params }

-- a schema in which walls and groups have no attributes
abbrev walls_and_groups : Schema
walls_and_groups = record { name = codes "IFCWALL"; parent = None; is_abstract = false; own = []; derived = [] } ∷ record { name = codes "IFCGROUP"; parent = None; is_abstract = false; own = []; derived = [] } ∷ []

abbrev is_wall : Facet
is_wall = Entity (record { name = Simple (codes "IFCWALL"); predefined = None })

abbrev walls_are_walls : Specification
walls_are_walls = record { number = 1; for_model = true; occurs = occurrence.Optional; applicability = is_wall ∷ []; requirements = record { facet = is_wall; cardinality = cardinality.Required } ∷ [] }

abbrev on : Limits → List Instance → Ground
on limits first = record { schema = walls_and_groups; specs = walls_are_walls ∷ []; first = first; limits = limits }

abbrev ample : Limits
ample = record { steps = 1000; revisions = 10; instances = 4 }

abbrev two_walls : List Instance
two_walls = wall 10 [] ∷ wall 11 [] ∷ []

abbrev pair : ℕ → Pair
pair id = record { spec = 1; elem = id }

-- Claims and publishing.

change_back_is_a_change : replies (on ample two_walls) [] (Claim ∷ Begin ∷ Commit 0 (Remove 10 ∷ []) ∷ Begin ∷ Commit 1 (Add (wall 10 []) ∷ []) ∷ Deliver 1 ∷ Claim ∷ Deliver 2 ∷ Claim ∷ Deliver 3 ∷ Claim ∷ Publish ∷ []) ≡
    Claimed 1 (pair 10) 0 ∷ Began 0 ∷ Accepted 1 ∷ Began 1 ∷ Accepted 2 ∷ Stale (Inst 10) 2 ∷ Claimed 2 (pair 10) 2 ∷ Used ∷ Claimed 3 (pair 11) 2 ∷ Used ∷ Idle ∷ Report 2 ∷ []
unfolding judge changes need instance_fault attributes place_of admits_text verdict_of
change_back_is_a_change = refl

unrelated_change_is_used : replies (on ample two_walls) [] (Claim ∷ Begin ∷ Commit 0 (Remove 11 ∷ []) ∷ Deliver 1 ∷ Claim ∷ Publish ∷ []) ≡ Claimed 1 (pair 10) 0 ∷ Began 0 ∷ Accepted 1 ∷ Used ∷ Idle ∷ Report 1 ∷ []
unfolding judge changes need instance_fault attributes place_of admits_text verdict_of
unrelated_change_is_used = refl

pending_then_published : replies (on ample two_walls) [] (Publish ∷ Claim ∷ Deliver 1 ∷ Claim ∷ Publish ∷ Deliver 2 ∷ Publish ∷ []) ≡ Pending (pair 10) ∷ Claimed 1 (pair 10) 0 ∷ Used ∷ Claimed 2 (pair 11) 0 ∷ Pending (pair 11) ∷ Used ∷ Report 0 ∷ []
unfolding judge changes need instance_fault attributes place_of admits_text verdict_of
pending_then_published = refl

claims_in_order : replies (on ample two_walls) [] (Claim ∷ GiveBack 1 ∷ Claim ∷ Claim ∷ Claim ∷ []) ≡ Claimed 1 (pair 10) 0 ∷ Back ∷ Claimed 2 (pair 10) 0 ∷ Claimed 3 (pair 11) 0 ∷ Idle ∷ []
unfolding judge changes need instance_fault attributes place_of admits_text verdict_of
claims_in_order = refl

-- a removed element's pair isn't waited for, and a changed one is unsettled again
settled_again : replies (on ample two_walls) [] (Claim ∷ Deliver 1 ∷ Commit 0 (Remove 11 ∷ []) ∷ Publish ∷ Commit 1 (Remove 10 ∷ []) ∷ Publish ∷ Commit 2 (Add (wall 10 []) ∷ []) ∷ Publish ∷ []) ≡
    Claimed 1 (pair 10) 0 ∷ Used ∷ Accepted 1 ∷ Report 1 ∷ Accepted 2 ∷ Report 2 ∷ Accepted 3 ∷ Pending (pair 10) ∷ []
unfolding judge changes need instance_fault attributes place_of admits_text verdict_of
settled_again = refl

-- an instance that is removed and added again in one commit isn't changed
removed_and_added : replies (on ample (wall 10 [] ∷ [])) [] (Claim ∷ Deliver 1 ∷ Commit 0 (Remove 10 ∷ Add (wall 10 []) ∷ []) ∷ Publish ∷ []) ≡ Claimed 1 (pair 10) 0 ∷ Used ∷ Accepted 1 ∷ Report 1 ∷ []
unfolding judge changes need instance_fault attributes place_of admits_text verdict_of
removed_and_added = refl

drain_of_two_walls : map (λ e. e.reply) (drain (on ample two_walls)) ≡ Claimed 1 (pair 10) 0 ∷ Used ∷ Claimed 2 (pair 11) 0 ∷ Used ∷ Idle ∷ Report 0 ∷ []
unfolding admits_text
drain_of_two_walls = refl

full_at_one_step : (is_full (on (record { steps = 1; revisions = 1; instances = 2 }) two_walls) [] 2 ≡ true) × (is_full (on (record { steps = 1; revisions = 1; instances = 2 }) two_walls) [] 1 ≡ false) × (is_full (on (record { steps = 1; revisions = 1; instances = 2 }) two_walls) (record { actor = 1; call = Begin; reply = Began 0 } ∷ []) 1 ≡ true)
full_at_one_step = (refl, refl, refl)

-- Commits.

conflict_between_editors : replies (on ample two_walls) [] (Commit 0 (Remove 11 ∷ []) ∷ Commit 0 (Remove 10 ∷ Remove 11 ∷ []) ∷ Commit 0 (Remove 10 ∷ []) ∷ []) ≡ Accepted 1 ∷ Refused (EditRefused 2 (Conflict 11 1)) ∷ Accepted 2 ∷ []
unfolding judge changes need instance_fault attributes place_of admits_text verdict_of
conflict_between_editors = refl

refused_edits : replies (on ample two_walls) [] (Commit 0 (Add (group 10 []) ∷ []) ∷ Commit 0 (Add (group 20 []) ∷ Remove 20 ∷ Remove 20 ∷ []) ∷ Commit 0 (Add (group 20 []) ∷ Set 10 (codes "Name") (text_value (codes "X")) ∷ []) ∷ Commit 0 [] ∷ []) ≡
    Refused (EditRefused 1 (IdTaken 10)) ∷ Refused (EditRefused 3 (NoInstance 20)) ∷ Refused (EditRefused 2 (NoAttribute 10 (codes "Name"))) ∷ Accepted 1 ∷ []
unfolding judge changes need instance_fault attributes place_of admits_text verdict_of
refused_edits = refl

limits_of_commits : replies (on (record { steps = 1000; revisions = 1; instances = 2 }) two_walls) [] (Commit 0 (Add (group 20 []) ∷ []) ∷ Commit 0 (Remove 10 ∷ Add (group 20 []) ∷ []) ∷ Commit 1 [] ∷ []) ≡ Refused (EditRefused 1 TooManyInstances) ∷ Accepted 1 ∷ Refused RevisionsFull ∷ []
unfolding judge changes need instance_fault attributes place_of admits_text verdict_of
limits_of_commits = refl

-- References. Within lists and typed parameters they count.

abbrev several : Value
several = list_value (ref_value 30 ∷ typed_value (codes "T") (ref_value 22) ∷ [])

refs_of_several : refs_of several ≡ 30 ∷ 22 ∷ []
refs_of_several = search (rules, the_lemmas)

-- of several that dangle, the least is told
dangling_refused : dangling (group 20 (several ∷ []) ∷ group 22 [] ∷ group 30 [] ∷ []) (group 20 (several ∷ []) ∷ []) ≡ Some (Dangling 20 22)
dangling_refused = rw refs_of_several refl

refs_of_one : (id : ℕ) → refs_of (ref_value id) ≡ id ∷ []
refs_of_one id = search (rules, the_lemmas)

-- a reference that dangled in the file may stay
missing_in_the_file : dangling (wall 10 [] ∷ group 12 (ref_value 99 ∷ []) ∷ []) (group 12 (ref_value 99 ∷ []) ∷ []) ≡ None
missing_in_the_file = rw (refs_of_one 99) refl

-- a further one may not come, be it of the same instance or to the same id
another_missing : dangling (group 12 (ref_value 99 ∷ []) ∷ []) (group 12 (ref_value 99 ∷ ref_value 98 ∷ []) ∷ []) ≡ Some (Dangling 12 98)
another_missing = rw (refs_of_one 99, refs_of_one 98) refl

missing_for_another : dangling (group 12 (ref_value 99 ∷ []) ∷ []) (group 12 (ref_value 99 ∷ []) ∷ group 13 (ref_value 99 ∷ []) ∷ []) ≡ Some (Dangling 13 99)
missing_for_another = rw (refs_of_one 99) refl

-- a reference that was fine dangles where its target is removed
target_removed : dangling (group 12 (ref_value 22 ∷ []) ∷ group 22 [] ∷ []) (group 12 (ref_value 22 ∷ []) ∷ []) ≡ Some (Dangling 12 22)
target_removed = rw (refs_of_one 22) refl
