-- What calls one after the other read is what the facet's path reads.
use Rattle.std.proofs.Common.{◌≡◌, ℕ, List, [], ◌∷◌, ◌++◌, Bool, true, false, ◌||◌, ◌&&◌, ◌==◌, ◌<◌, ◌+◌, suc, nat_lt, length, take, get_or, map, refl, ap, sym, subst, ◌∙◌, arith}
use Rattle.std.specs.Prelude.{Option, Some}
use Rattle.ifc_base.specs.declared.value.Instance.{Instance}
use Rattle.ifc_base.specs.declared.key.Key.{Key}
use Rattle.ifc_base.specs.declared.key.Role.TheVariants as role
use Rattle.schema_table.specs.Schema.{Schema}
use Rattle.audit_model.specs.Keys.{Sight}
use Rattle.audit_model.specs.declared.facet.ClassificationFacet.{ClassificationFacet}
use Rattle.audit_model.specs.declared.facet.MaterialFacet.{MaterialFacet}
use Rattle.audit_model.specs.declared.facet.Facet.TheVariants.{Classification, Material}
use Rattle.audit_model.specs.declared.verdict.Weighed.{Weighed}
use Rattle.audit_model.specs.Reading.{Reading, told, visit, gather, ◌>>=◌}
use Rattle.audit_model.specs.Hops.{relating_things}
use Rattle.audit_model.specs.Closures.{closure, most_hops}
use Rattle.audit_model.specs.Paths.{SeenReferences, SeenMaterials, types, forward_by, material_attributes, source_path, classification_path, members_path, material_path}
use Rattle.audit_model.specs.Relations.{own_or, is_of_system, is_identified, is_material_named, material_weighed}
use Rattle.audit_model.specs.Verdicts.{weigh}
use Rattle.closure_walk.specs.Walking.{SameKeys}
use Rattle.facet_paths.specs.Reads.{Appends, Reads}
use Rattle.facet_paths.proofs.Joins.{reads_then}
use Rattle.facet_relations.specs.Held.{reference_weighed, references_weighed, material_named_at, members_weighed}
use Rattle.facet_paths.specs.WalkEnds.{related_by, related_keys}
use Rattle.facet_paths.proofs.Same.{told_read, appends_read, stands_again, gathered, same_then, any_next, any_seen}
use Rattle.facet_paths.proofs.WalkLaws.{sources_apart}
use Rattle.std.proofs.lemmas.List.{append-nil, append_assoc}
use Rattle.std.proofs.lemmas.Grind.{flat_map-append}
use Rattle.std.specs.List.{flat_map}
use Rattle.std.proofs.lemmas.Bool.Decides.{nat_tests}
use Rattle.std.specs.List.{list_any}
use Rattle.std.specs.Option.{option_map_or}
use Rattle.restrictions.specs.declared.condition.Condition.{Condition}

not_none : (n : ℕ) → (suc n == 0) ≡ false
not_none n = grind (arith, nat_tests)

some_are : (n : ℕ) → nat_lt 0 (suc n) ≡ true
some_are n = grind (arith, nat_tests)

-- the given ones, or the others where there are none
pub none_given : {X : Type 0} (f : ℕ → X) (given : List ℕ) (rs : List X) (none : Bool) → none ≡ (length given == 0) → none ≡ true → rs ≡ own_or (map f given) rs
none_given f [] rs none e h = refl
none_given f (x ∷ given) rs none e h = absurd (let k = not_none (length given) in cc)

pub some_given : {X : Type 0} (f : ℕ → X) (given : List ℕ) (rs : List X) (none : Bool) → none ≡ (length given == 0) → none ≡ false → map f given ≡ own_or (map f given) rs
some_given f [] rs none e h = absurd (cc)
some_given f (x ∷ given) rs none e h = refl

pub none_looked : {X : Type 0} (f : ℕ → List X) (given : List ℕ) (none : Bool) → none ≡ (length given == 0) → none ≡ true → [] ≡ flat_map f given
none_looked f [] none e h = refl
none_looked f (x ∷ given) none e h = absurd (let k = not_none (length given) in cc)

-- the last of three tests, of which the first two failed
pub last_of : (a b t p q r : Bool) → a ≡ p → a ≡ false → b ≡ q → b ≡ false → t ≡ r → t ≡ (p || q || r)
last_of a b t p q r e h g k l = l ∙ sym (λ j. (sym e ∙ h) j || (sym g ∙ k) j || r)

-- there are members, and one of them is named so or none
pub members_some : (s : Schema) (v : Sight) (f : MaterialFacet) (c : Condition) (ids : List ℕ) (none holds : Bool) → none ≡ (length ids == 0) → none ≡ false → f.value ≡ Some c → holds ≡ list_any (material_named_at s v c) ids
    → record { holds = holds; subject = true } ≡ members_weighed s f (map v.instance ids)
members_some s v f c [] none holds n m fv h = absurd (cc)
members_some s v f c (x ∷ ids) none holds n m fv h =
    let test : Option Instance → Bool = λ o. option_map_or (is_material_named s c) o false in
    let seen : List (Option Instance) = map v.instance (x ∷ ids) in
    let are : nat_lt 0 (length seen) ≡ true = some_are (length (map v.instance ids)) in
    let made : holds ≡ (nat_lt 0 (length seen) && option_map_or (λ d. list_any (λ o. option_map_or (is_material_named s d) o false) seen) f.value true)
    = h ∙ any_seen test v.instance (x ∷ ids) ∙ sym (λ j. are j && option_map_or (λ d. list_any (λ o. option_map_or (is_material_named s d) o false) seen) (fv j) true) in
    λ j. record { holds = made j; subject = sym are j }

-- one reference more
pub references_more : (s : Schema) (v : Sight) (f : ClassificationFacet) (ids : List ℕ) (i x : ℕ) (all one both : Weighed) → i < length ids → x ≡ get_or ids i x
    → all ≡ references_weighed s f ((visit (source_path s) (take i ids)).answer v) → one ≡ reference_weighed s f ((source_path s x).answer v)
    → both ≡ record { holds = all.holds || one.holds; subject = all.subject || one.subject } → both ≡ references_weighed s f ((visit (source_path s) (take (i + 1) ids)).answer v)
references_more s v f ids i x all one both l e h o b =
    let seen : ℕ → List (Option Instance) = λ y. (source_path s y).answer v in
    b ∙ (λ j. record { holds = (h j).holds || (o j).holds; subject = (h j).subject || (o j).subject })
    ∙ (λ j. record { holds = sym (any_next (λ r. is_of_system s f r && is_identified s f r) seen ids i x l e) j; subject = sym (any_next (is_of_system s f) seen ids i x l e) j })

module _ (s : Schema) (v : Sight) (e : ℕ) where
  abbrev made_of : List ℕ → Reading (List ℕ)
  made_of starts = closure most_hops (forward_by s material_attributes) starts

  abbrev seen_materials : List (Option Instance) → List (Option Instance) → SeenMaterials
  seen_materials own inherited = record { own = own; of_types = inherited }

  pub material_made : (f : MaterialFacet) (ts given ids own inherited : List ℕ) (w : Weighed) (a b c d k l : List Key)
      → Appends (types s e) v [] ts a b → Appends (relating_things s role.Material e) v [] given b c
      → own ≡ (made_of given).answer v → SameKeys d (c ++ (made_of given).keys v)
      → Appends (gather (relating_things s role.Material) ts) v [] ids d k
      → inherited ≡ (made_of ids).answer v → SameKeys l (k ++ (made_of ids).keys v)
      → w ≡ material_weighed s f (seen_materials (map v.instance own) (map v.instance inherited))
      → Reads (weigh s (Material f) e) v w a l
  material_made f ts given ids own inherited w a b c d k l t g o p i q r h =
      let mine : List (Option Instance) = map v.instance own in
      let theirs : List (Option Instance) = map v.instance inherited in
      let last : List (Option Instance) → List (Option Instance) → Reading SeenMaterials = λ x y. told (seen_materials x y) in
      let five : List (Option Instance) → List ℕ → Reading SeenMaterials = λ x is. members_path s is >>= last x in
      let four : List (Option Instance) → Reading SeenMaterials = λ x. gather (relating_things s role.Material) ts >>= five x in
      let three : List ℕ → Reading SeenMaterials = λ gs. members_path s gs >>= four in
      let two : List ℕ → Reading SeenMaterials = λ us. relating_things s role.Material e >>= λ gs. members_path s gs >>= λ x. gather (relating_things s role.Material) us >>= five x in
      let seen : SeenMaterials = seen_materials mine theirs in
      let at_last : Reads (last mine theirs) v seen l l = told_read seen seen v l refl in
      let at_five : Reads (five mine ids) v seen k l = reads_then (members_path s ids) (last mine) v theirs seen k l l (stands_again most_hops (forward_by s material_attributes) ids inherited v k l q r) at_last in
      let at_four : Reads (four mine) v seen d l = reads_then (gather (relating_things s role.Material) ts) (five mine) v ids seen d k l (appends_read _ v ids d k i) at_five in
      let at_three : Reads (three given) v seen c l = reads_then (members_path s given) four v mine seen c d l (stands_again most_hops (forward_by s material_attributes) given own v c d o p) at_four in
      let at_two : Reads (two ts) v seen b l = reads_then (relating_things s role.Material e) three v given seen b c l (appends_read _ v given b c g) at_three in
      let path : Reads (material_path s e) v seen a l = reads_then (types s e) two v ts seen a b l (appends_read _ v ts a b t) at_two in
      reads_then (material_path s e) (λ z. told (material_weighed s f z)) v seen w a l l path (told_read (material_weighed s f seen) w v l h)

  abbrev seen_references : List (List (Option Instance)) → List (List (Option Instance)) → SeenReferences
  seen_references own inherited = record { own = own; of_types = inherited }

  -- the sources of references
  abbrev sources : List ℕ → List (List (Option Instance))
  sources ids = (visit (source_path s) ids).answer v

  abbrev source_keys : List ℕ → List Key
  source_keys ids = (visit (source_path s) ids).keys v

  pub classification_made : (f : ClassificationFacet) (ts given ids : List ℕ) (w : Weighed) (a b c d l : List Key)
      → Appends (types s e) v [] ts a b → Appends (relating_things s role.Classification e) v [] given b c → Appends (gather (relating_things s role.Classification) ts) v [] ids c d
      → w ≡ references_weighed s f (own_or (sources given) (sources ids)) → SameKeys l (d ++ (source_keys given ++ source_keys ids)) → Reads (weigh s (Classification f) e) v w a l
  classification_made f ts given ids w a b c d l t g i h q =
      let kinds : List ℕ = (types s e).answer v in
      let own : List ℕ = (relating_things s role.Classification e).answer v in
      let of_all : List ℕ → List ℕ = λ us. flat_map (λ u. (relating_things s role.Classification u).answer v) us in
      let looks : List ℕ → List Key = λ us. (gather (relating_things s role.Classification) us).keys v in
      let theirs : List ℕ = of_all kinds in
      let found : ids ≡ theirs = i.ends_are ∙ ap of_all t.ends_are in
      let first : List Key = (types s e).keys v in
      let mine : List Key = (relating_things s role.Classification e).keys v in
      let path : List Key = (classification_path s e).keys v in
      let related : List Key = related_keys s v role.Classification e in
      let reached : List ℕ = related_by s v role.Classification e in
      let before : d ≡ a ++ related =
      i.reads_are ∙ ap (λ us. c ++ looks us) t.ends_are ∙ ap (λ ks. ks ++ looks kinds) (g.reads_are ∙ ap (λ ks. ks ++ mine) t.reads_are)
      ∙ append_assoc (a ++ first) mine (looks kinds) ∙ append_assoc a first (mine ++ looks kinds) in
      let apart : source_keys given ++ source_keys ids ≡ source_keys reached =
      ap (λ xs. source_keys xs ++ source_keys ids) g.ends_are ∙ ap (λ xs. source_keys own ++ source_keys xs) found
      ∙ sym (flat_map-append (λ x. (source_path s x).keys v) own theirs) in
      let all : SameKeys l (a ++ (related ++ source_keys reached)) =
      subst (λ ks. SameKeys l ks) (ap (λ ks. ks ++ (source_keys given ++ source_keys ids)) before ∙ ap (λ ks. (a ++ related) ++ ks) apart ∙ append_assoc a related (source_keys reached)) q in
      record {
        answer_is =
            h ∙ ap (λ xs. references_weighed s f (own_or (sources xs) (sources ids))) g.ends_are ∙ ap (λ xs. references_weighed s f (own_or (sources own) (sources xs))) found
            ∙ ap (λ rs. references_weighed s f (own_or (sources own) rs)) (sym (gathered (relating_things s role.Classification) (source_path s) v kinds));
        reads_same = subst (λ ks. SameKeys l (a ++ ks)) (sym (append-nil path)) (same_then l a (related ++ source_keys reached) path all (sources_apart s v e));
      }
