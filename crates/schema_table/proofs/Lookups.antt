-- Look-ups by numbers.
use Rattle.std.proofs.Common.{◌≡◌, ℕ, suc, ◌+◌, ◌-◌, ◌<◌, ◌≤◌, true, false, ◌||◌, ◌==◌, List, [], ◌∷◌, length, position, Option, Some, None, is_none, is_some, if◌then◌else◌, refl, ap, sym, ◌∙◌, subst, arith, ⊎_elim}
use Rattle.std.specs.List.{list_any, slice_get}
use Rattle.std.specs.Option.{option_map_or, option_or, option_and_then}
use Rattle.std.specs.Str.{bytes_eq}
use Rattle.std.proofs.lemmas.Bool.Decides.{eqb_tells}
use Rattle.std.proofs.lemmas.Bool.{eq-eqb}
use Rattle.ifc_base.specs.declared.decl.EntityDecl.{EntityDecl}
use Rattle.ifc_base.specs.declared.value.Instance.{Instance}
use Rattle.schema_table.specs.declared.slot.AttrSlot.{AttrSlot}
use Rattle.schema_table.specs.declared.shares.Share.{Share}
use Rattle.schema_table.specs.declared.fault.InstanceFault.{InstanceFault}
use Rattle.schema_table.specs.declared.fault.InstanceFault.TheVariants.{UnknownEntity, AbstractEntity}
use Rattle.schema_table.specs.Schema.{Schema, declaration, upwards, ancestry, is_kind_of, attributes, place_of}
use Rattle.schema_table.specs.Declarations.{are_too_many, schema_fault}
use Rattle.schema_table.specs.Faults.{instance_fault, params_fault}
use Rattle.schema_table.specs.Climbing.{place, is_number, parents_of, entity_at, step, chain}
use Rattle.schema_table.specs.Shares.{part, share_at, slots_of, HaveAttributes}
use Rattle.schema_table.proofs.Chains.{chain-none, chain-suc, chain-zero}
use Rattle.schema_table.proofs.Numbers.{declaration_at, stands_at, no_first, none_up, length-parents, any_named_up, IsWhole, is_whole}

-- whether the number is passed

passed_next : (ps : List (Option ℕ)) (n k of y : ℕ) (at : Option ℕ) → k < n → at ≡ Some y
    → list_any (λ x. x == of) (chain ps (n - k) at) ≡ (y == of || list_any (λ x. x == of) (chain ps (n - (k + 1)) (step ps y)))
passed_next ps n k of y at h e =
    let less : n - k ≡ suc (n - (k + 1)) = omega arith in
    ap (λ o. list_any (λ x. x == of) (chain ps (n - k) o)) e ∙ ap (λ m. list_any (λ x. x == of) (chain ps m (Some y))) less ∙ ap (list_any (λ x. x == of)) (chain-suc ps (n - (k + 1)) y)

pub passed_here : (ps : List (Option ℕ)) (n k of y : ℕ) (at : Option ℕ) → k < n → at ≡ Some y → y ≡ of → list_any (λ x. x == of) (chain ps (n - k) at) ≡ true
passed_here ps n k of y at h e same =
    passed_next ps n k of y at h e ∙ ap (λ b. b || list_any (λ x. x == of) (chain ps (n - (k + 1)) (step ps y))) (eq-eqb y of same)

pub passed_on : (ps : List (Option ℕ)) (n k of y : ℕ) (at next : Option ℕ) → k < n → at ≡ Some y → (y ≡ of → ⊥) → next ≡ step ps y
    → list_any (λ x. x == of) (chain ps (n - k) at) ≡ list_any (λ x. x == of) (chain ps (n - (k + 1)) next)
passed_on ps n k of y at next h e other f =
    passed_next ps n k of y at h e ∙ ap (λ b. b || list_any (λ x. x == of) (chain ps (n - (k + 1)) (step ps y))) (⊎_elim (λ t. absurd (other t.1)) (λ t. t.0) (eqb_tells y of))
    ∙ ap (λ o. list_any (λ x. x == of) (chain ps (n - (k + 1)) o)) (sym f)

pub passed_none : (ps : List (Option ℕ)) (k of : ℕ) (at : Option ℕ) → at ≡ None → list_any (λ x. x == of) (chain ps k at) ≡ false
passed_none ps k of at e = ap (λ o. list_any (λ x. x == of) (chain ps k o)) e ∙ ap (list_any (λ x. x == of)) (chain-none ps k)

pub passed_end : (ps : List (Option ℕ)) (n k of : ℕ) (at : Option ℕ) → n ≤ k → list_any (λ x. x == of) (chain ps (n - k) at) ≡ false
passed_end ps n k of at h = let none : n - k ≡ 0 = omega arith in ap (λ m. list_any (λ x. x == of) (chain ps m at)) none ∙ ap (list_any (λ x. x == of)) (chain-zero ps at)

-- kinds

pub kind_itself : (s : Schema) (name kind : List ℕ) → bytes_eq name kind ≡ true → true ≡ is_kind_of s name kind
unfolding is_kind_of
kind_itself s name kind e = rw e refl

no_ancestry : (s : Schema) (name : List ℕ) → place s name ≡ None → ancestry s name ≡ []
no_ancestry s name e = ap (upwards s (length s)) (declaration_at s name ∙ ap (entity_at s) e) ∙ none_up s (length s)

pub kind_of_none : (s : Schema) (name kind : List ℕ) → bytes_eq name kind ≡ false → place s name ≡ None → false ≡ is_kind_of s name kind
unfolding is_kind_of
kind_of_none s name kind e none = rw (e, no_ancestry s name none) refl

by_numbers : (s : Schema) → IsWhole s → (name kind : List ℕ) (i : ℕ) → place s name ≡ Some i → list_any (λ d. bytes_eq d.name kind) (ancestry s name) ≡ list_any (is_number (place s kind)) (chain (parents_of s) (length s) (Some i))
by_numbers s whole name kind i e =
    ap (λ o. list_any (λ (d : EntityDecl). bytes_eq d.name kind) (upwards s (length s) o)) (declaration_at s name ∙ ap (entity_at s) e)
    ∙ any_named_up s whole.sound kind (length s) (Some i) (λ x f. let n : i ≡ x = cc in subst (λ y. y < length s) n (stands_at s name i e).within)

none_is_number : (xs : List ℕ) → list_any (is_number None) xs ≡ false
none_is_number [] = refl
none_is_number (x ∷ xs) = none_is_number xs

pub kind_unknown : (s : Schema) → schema_fault s [] ≡ None → (name kind : List ℕ) (i : ℕ) → bytes_eq name kind ≡ false → place s name ≡ Some i → place s kind ≡ None → false ≡ is_kind_of s name kind
unfolding is_kind_of
kind_unknown s faultless name kind i e f g =
    rw e (sym (by_numbers s (is_whole s [] faultless) name kind i f ∙ ap (λ o. list_any (is_number o) (chain (parents_of s) (length s) (Some i))) g ∙ none_is_number (chain (parents_of s) (length s) (Some i))))

pub kind_by_numbers : (s : Schema) → schema_fault s [] ≡ None → (ps : List (Option ℕ)) → ps ≡ parents_of s → (name kind : List ℕ) (i k : ℕ) → bytes_eq name kind ≡ false → place s name ≡ Some i → place s kind ≡ Some k
    → list_any (λ x. x == k) (chain ps (length ps) (Some i)) ≡ is_kind_of s name kind
unfolding is_kind_of
kind_by_numbers s faultless ps same name kind i k e f g =
    rw e (ap (λ qs. list_any (λ x. x == k) (chain qs (length qs) (Some i))) same ∙ ap (λ n. list_any (λ x. x == k) (chain (parents_of s) n (Some i))) (length-parents s)
    ∙ sym (by_numbers s (is_whole s [] faultless) name kind i f ∙ ap (λ o. list_any (is_number o) (chain (parents_of s) (length s) (Some i))) g))

-- attributes

pub slots_by_number : (s : Schema) (lists : List (List AttrSlot)) (shares : List Share) → HaveAttributes s lists shares → (name : List ℕ) (i : ℕ) → place s name ≡ Some i → part lists (share_at shares (Some i)) ≡ attributes s name
unfolding attributes
slots_by_number s lists shares have name i e =
    have i (stands_at s name i e).within ∙ ap (λ o. slots_of (upwards s (length s) o)) (sym (declaration_at s name ∙ ap (entity_at s) e))

pub declared_here : (s : Schema) (name : List ℕ) (i : ℕ) → place s name ≡ Some i → true ≡ is_some (declaration s name)
declared_here s name i e = let t = stands_at s name i e in ap is_some (sym (declaration_at s name ∙ ap (entity_at s) e ∙ t.there))

pub declared_nowhere : (s : Schema) (name : List ℕ) → place s name ≡ None → false ≡ is_some (declaration s name)
declared_nowhere s name e = ap is_some (sym (declaration_at s name ∙ ap (entity_at s) e))

pub no_place : (s : Schema) (name attr : List ℕ) → place s name ≡ None → None ≡ place_of s name attr
unfolding place_of attributes
no_place s name attr e = rw (no_ancestry s name e) refl

pub place_by_slots : (s : Schema) (name attr : List ℕ) (slots : List AttrSlot) → slots ≡ attributes s name → position (λ a. bytes_eq a.name attr) slots ≡ place_of s name attr
unfolding place_of
place_by_slots s name attr slots e = ap (λ (l : List AttrSlot). position (λ a. bytes_eq a.name attr) l) e

pub few_without_fault : (s : Schema) → schema_fault s [] ≡ None → are_too_many s [] ≡ false
unfolding schema_fault
few_without_fault s e = (no_first (are_too_many s []) _ _ e).0

-- why an instance doesn't fit

abbrev by_declaration : Schema → Instance → Option EntityDecl → Option InstanceFault
by_declaration s x o =
    option_or (if is_none o then Some (UnknownEntity x.entity) else None) (option_or (option_and_then (λ d. if d.is_abstract then Some (AbstractEntity x.entity) else None) o) (params_fault (attributes s x.entity) x.params))

fault_is : (s : Schema) (x : Instance) → instance_fault s x ≡ by_declaration s x (declaration s x.entity)
unfolding instance_fault
fault_is s x = refl

pub fault_unknown : (s : Schema) (x : Instance) → place s x.entity ≡ None → Some (UnknownEntity x.entity) ≡ instance_fault s x
fault_unknown s x e = sym (fault_is s x ∙ ap (by_declaration s x) (declaration_at s x.entity ∙ ap (entity_at s) e))

pub fault_abstract : (s : Schema) (x : Instance) (i : ℕ) → place s x.entity ≡ Some i → option_map_or (λ (d : EntityDecl). d.is_abstract) (slice_get s i) false ≡ true → Some (AbstractEntity x.entity) ≡ instance_fault s x
fault_abstract s x i e a =
    let t = stands_at s x.entity i e in
    let abstract : t.decl.is_abstract ≡ true = ap (λ o. option_map_or (λ (d : EntityDecl). d.is_abstract) o false) (sym t.there) ∙ a in
    sym (fault_is s x ∙ ap (by_declaration s x) (declaration_at s x.entity ∙ ap (entity_at s) e ∙ t.there) ∙ ap (λ b. option_or (if b then Some (AbstractEntity x.entity) else None) (params_fault (attributes s x.entity) x.params)) abstract)

pub fault_params : (s : Schema) (x : Instance) (i : ℕ) (slots : List AttrSlot) → place s x.entity ≡ Some i → option_map_or (λ (d : EntityDecl). d.is_abstract) (slice_get s i) false ≡ false → slots ≡ attributes s x.entity
    → params_fault slots x.params ≡ instance_fault s x
fault_params s x i slots e a f =
    let t = stands_at s x.entity i e in
    let concrete : t.decl.is_abstract ≡ false = ap (λ o. option_map_or (λ (d : EntityDecl). d.is_abstract) o false) (sym t.there) ∙ a in
    ap (λ (l : List AttrSlot). params_fault l x.params) f
    ∙ sym (fault_is s x ∙ ap (by_declaration s x) (declaration_at s x.entity ∙ ap (entity_at s) e ∙ t.there) ∙ ap (λ b. option_or (if b then Some (AbstractEntity x.entity) else None) (params_fault (attributes s x.entity) x.params)) concrete)
