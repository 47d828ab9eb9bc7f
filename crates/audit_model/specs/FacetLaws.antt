-- Laws of facets, verdicts and needs, each the contract of a function without a body.
use Rattle.std.specs.Prelude.{◌≡◌, ℕ, true, false, List, [], ◌∷◌, filter, Some}
use Rattle.std.specs.List.{list_any}
use Rattle.ifc_base.specs.declared.value.Instance.{Instance}
use Rattle.ifc_base.specs.declared.key.Key.{Key}
use Rattle.ifc_base.specs.KeyOrder.{key_eq}
use Rattle.schema_table.specs.Schema.{Schema}
use Rattle.audit_model.specs.declared.specification.Specification.{Specification}
use Rattle.audit_model.specs.declared.verdict.Pair.{Pair}
use Rattle.audit_model.specs.declared.verdict.Verdict.TheVariants.{NotApplicable}
use Rattle.audit_model.specs.Models.{instance_at, is_present}
use Rattle.ifc_base.specs.Tree.{text_value}
use Rattle.restrictions.specs.declared.condition.Condition.{Condition}
use Rattle.restrictions.specs.Admitting.{admits, admits_text}
use Rattle.audit_model.specs.Keys.{sight, keeps_all}
use Rattle.audit_model.specs.Agree.{AgreeOn, IsSound}
use Rattle.audit_model.specs.Ascending.{key_lt}
use Rattle.audit_model.specs.Reading.{Reading}
use Rattle.audit_model.specs.Hops.{Hop, hop}
use Rattle.audit_model.specs.Closures.{closure}
use Rattle.audit_model.specs.Properties.{Property, have_same_names, with_inherited}
use Rattle.audit_model.specs.Verdicts.{verdict, verdict_of, assess_pair}
use Rattle.audit_model.specs.Needs.{need}
use Rattle.audit_model.specs.Pairs.{is_pair, may_apply}

-- A hop reaches the same ids in two models, and looks at the same keys, where they agree on the keys that it looks at in the first.
abbrev pub HopLaw : Type 0
HopLaw = (s : Schema) (h : Hop) (n : ℕ) → IsSound (hop s h n).answer (hop s h n).keys

-- So does a closure by any steps that do.
abbrev pub ClosureLaw : Type 0
ClosureLaw = (n : ℕ) (step : ℕ → Reading (List ℕ)) (starts : List ℕ) → IsSound (closure n step starts).answer (closure n step starts).keys

-- A need has the keys that are looked at where the pair is assessed, and no other.
abbrev pub NeedsAreLookedAt : Type 0
NeedsAreLookedAt = (s : Schema) (specs : List Specification) (p : Pair) (m : List Instance) (k : Key) →
    list_any (λ j. key_eq j k) (need s specs p m) ≡ list_any (λ j. key_eq j k) ((assess_pair s specs p).keys (sight s m))

-- the key comes before each of these
abbrev pub AllKeysAfter : Key → List Key → Type 0
AllKeysAfter k [] = Unit {0}
AllKeysAfter k (l ∷ ls) = (key_lt k l ≡ true) × AllKeysAfter k ls

-- the keys ascend, so each stands once
abbrev pub AreKeysAscending : List Key → Type 0
AreKeysAscending [] = Unit {0}
AreKeysAscending (k ∷ ks) = AllKeysAfter k ks × AreKeysAscending ks

-- The keys of a need ascend, so that the first of them with a property is the least with it.
abbrev pub NeedsAscend : Type 0
NeedsAscend = (s : Schema) (specs : List Specification) (p : Pair) (m : List Instance) → AreKeysAscending (need s specs p m)

-- Where the element has a property of its own, the properties of the same two names that reach it are its own: those of its types are
-- hidden.
abbrev pub OwnHidesTypes : Type 0
OwnHidesTypes = (own inherited : List Property) (p : Property) → list_any (have_same_names p) own ≡ true →
    filter (have_same_names p) (with_inherited own inherited) ≡ filter (have_same_names p) own

-- the pair's element, verdict and needs are in n what they are in m
pub record Stays (s : Schema) (specs : List Specification) (p : Pair) (m n : List Instance) : Type 0 where
  pub element_stays : instance_at p.elem n ≡ instance_at p.elem m
  pub verdict_stays : verdict s specs p n ≡ verdict s specs p m
  pub need_stays : need s specs p n ≡ need s specs p m

-- Where two models agree on the content of each key that the verdict on a pair needs in the first, all three stay.
abbrev pub NeedsAreEnough : Type 0
NeedsAreEnough = (s : Schema) (specs : List Specification) (p : Pair) (m n : List Instance) → AgreeOn (sight s m) (sight s n) (need s specs p m) → Stays s specs p m n

-- A commit from m to n that changes none of these keys leaves all three as they are.
abbrev pub NeedsCoverVerdict : Type 0
NeedsCoverVerdict = (s : Schema) (specs : List Specification) (p : Pair) (m n : List Instance) → keeps_all s m n (need s specs p m) ≡ true → Stays s specs p m n

-- The element of a pair is an instance of the model.
abbrev pub PairsAreThere : Type 0
PairsAreThere = (specs : List Specification) (m : List Instance) (p : Pair) → is_pair specs m p ≡ true → is_present p.elem m ≡ true

-- A specification isn't applicable to an instance with which it makes no pair.
abbrev pub OthersNotApplicable : Type 0
OthersNotApplicable = (s : Schema) (q : Specification) (x : Instance) (m : List Instance) → instance_at x.id m ≡ Some x → may_apply q x.entity ≡ false → verdict_of s q x.id m ≡ NotApplicable
