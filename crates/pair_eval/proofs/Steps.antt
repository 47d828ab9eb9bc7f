-- What the loops and the calls of an evaluation read.
use Rattle.std.proofs.Common.{◌≡◌, ◌<◌, ◌+◌, ℕ, List, [], ◌∷◌, ◌++◌, Bool, true, false, ◌&&◌, map, length, get_or, take, refl, sym, ap, subst, ◌∙◌}
use Rattle.std.specs.List.{list_all}
use Rattle.std.proofs.lemmas.List.{take_more, map-append, append-nil}
use Rattle.std.proofs.lemmas.List.Folds.{list_all-append}
use Rattle.ifc_base.specs.declared.value.Instance.{Instance}
use Rattle.ifc_base.specs.declared.key.Key.{Key}
use Rattle.ifc_base.specs.declared.key.Key.TheVariants.{Inst}
use Rattle.schema_table.specs.Schema.{Schema}
use Rattle.audit_model.specs.declared.facet.EntityFacet.{EntityFacet}
use Rattle.audit_model.specs.declared.facet.Facet.TheVariants.{Entity}
use Rattle.audit_model.specs.declared.specification.Requirement.{Requirement}
use Rattle.audit_model.specs.declared.specification.Specification.{Specification}
use Rattle.audit_model.specs.declared.verdict.Pair.{Pair}
use Rattle.audit_model.specs.declared.verdict.Verdict.{Verdict}
use Rattle.audit_model.specs.declared.verdict.Verdict.TheVariants.{Applicable}
use Rattle.audit_model.specs.declared.verdict.Weighed.{Weighed}
use Rattle.audit_model.specs.Facets.{holds_alike}
use Rattle.audit_model.specs.Ascending.{ascending_keys}
use Rattle.audit_model.specs.Keys.{Sight, sight}
use Rattle.audit_model.specs.Needs.{need}
use Rattle.audit_model.specs.Reading.{Reading, told, visit}
use Rattle.audit_model.specs.Verdicts.{weigh, requirement_met, numbers_of_false, asked, assess, assess_when, assess_pair, verdict}
use Rattle.closure_walk.specs.Laws.{SameKeysSameNeed}
use Rattle.closure_walk.specs.Walking.{SameKeys}
use Rattle.facet_paths.specs.Held.{entity_weighed}
use Rattle.facet_paths.specs.Reads.{Reads}
use Rattle.facet_paths.proofs.Joins.{same_join}
use Rattle.facet_paths.proofs.Same.{same_is, told_read}

-- Facets.

-- An entity facet is its own subject. Its keys went from one list to another and back.
pub entity_is : (s : Schema) (f : EntityFacet) (e : ℕ) (v : Sight) (b : Bool) (old before after new : List Key) → before ≡ old → new ≡ after → Reads (entity_weighed s f e) v b before after → Reads (weigh s (Entity f) e) v (holds_alike b) old new
entity_is s f e v b old before after new p q r =
    let own : Reads (weigh s (Entity f) e) v (holds_alike b) before after = record { answer_is = ap holds_alike r.answer_is; reads_same = r.reads_same } in
    subst (λ ks. Reads (weigh s (Entity f) e) v (holds_alike b) ks new) p (subst (λ ks. Reads (weigh s (Entity f) e) v (holds_alike b) before ks) (sym q) own)

and_true : (b : Bool) → (b && true) ≡ b
and_true true = refl
and_true false = refl

all_one : (ws : List Weighed) (w : Weighed) → list_all (λ (w : Weighed). w.holds) (ws ++ w ∷ []) ≡ (list_all (λ (w : Weighed). w.holds) ws && w.holds)
all_one ws w = list_all-append (λ (w : Weighed). w.holds) ws (w ∷ []) ∙ ap (λ b. list_all (λ (w : Weighed). w.holds) ws && b) (and_true w.holds)

pub holds_more : {X : Type 0} (gives : X → Weighed) (xs : List X) (i : ℕ) (x : X) (w : Weighed) (all after : Bool) → i < length xs → x ≡ get_or xs i x → all ≡ list_all (λ (w : Weighed). w.holds) (map gives (take i xs)) → w ≡ gives x → after ≡ (all && w.holds)
    → after ≡ list_all (λ (w : Weighed). w.holds) (map gives (take (i + 1) xs))
holds_more gives xs i x w all after h g p q k =
    k ∙ ap (λ d. d && w.holds) p ∙ ap (λ (z : Weighed). list_all (λ (w : Weighed). w.holds) (map gives (take i xs)) && z.holds) q
    ∙ sym (all_one (map gives (take i xs)) (gives x))
    ∙ ap (list_all (λ (w : Weighed). w.holds)) (sym (map-append gives (take i xs) (x ∷ [])))
    ∙ ap (λ ys. list_all (λ (w : Weighed). w.holds) (map gives ys)) (sym (take_more xs i x h ∙ ap (λ y. take i xs ++ y ∷ []) (sym g)))

-- Requirements.

pub requirement_reads : (s : Schema) (e : ℕ) (v : Sight) (r : Requirement) (w : Weighed) (b c : List Key) → Reads (weigh s r.facet e) v w b c → SameKeys c (b ++ (requirement_met s e r).keys v)
requirement_reads s e v r w b c h = subst (λ ks. SameKeys c (b ++ ks)) (sym (append-nil ((weigh s r.facet e).keys v))) h.reads_same

pub asked_is : (s : Schema) (rs : List Requirement) (e : ℕ) (v : Sight) (ns : List ℕ) (a b : List Key) → ns ≡ numbers_of_false 1 ((visit (requirement_met s e) rs).answer v) → SameKeys b (a ++ (visit (requirement_met s e) rs).keys v) → Reads (asked s rs e) v (Applicable ns) a b
asked_is s rs e v ns a b n h = record {
  answer_is = ap Applicable n;
  reads_same = subst (λ ks. SameKeys b (a ++ ks)) (sym (append-nil ((visit (requirement_met s e) rs).keys v))) h;
}

-- A specification.

module _ (s : Schema) (q : Specification) (e : ℕ) (v : Sight) (a b c d : List Key) where
  abbrev facets : Reading (List Weighed)
  facets = visit (λ f. weigh s f e) q.applicability

  pub assess_is : (holds : Bool) (verdict : Verdict) → b ≡ a ++ Inst e ∷ [] → holds ≡ list_all (λ (w : Weighed). w.holds) (facets.answer v) → SameKeys c (b ++ facets.keys v) → Reads (assess_when s holds q e) v verdict c d → Reads (assess s q e) v verdict a d
  assess_is holds verdict at p k r =
      let when : Reads (assess_when s (list_all (λ (w : Weighed). w.holds) (facets.answer v)) q e) v verdict c d = subst (λ h. Reads (assess_when s h q e) v verdict c d) p r in
      record {
        answer_is = when.answer_is;
        reads_same = same_join a b d (Inst e ∷ []) (facets.keys v ++ (assess_when s (list_all (λ (w : Weighed). w.holds) (facets.answer v)) q e).keys v)
            (same_is b (a ++ Inst e ∷ []) at)
            (same_join b c d (facets.keys v) ((assess_when s (list_all (λ (w : Weighed). w.holds) (facets.answer v)) q e).keys v) k when.reads_same);
      }

pub nothing_read : {A : Type 0} (x : A) (v : Sight) (a : List Key) → Reads (told x) v x a a
nothing_read x v a = told_read x x v a refl

-- A pair, at a model.

pub verdict_is : (s : Schema) (specs : List Specification) (p : Pair) (m : List Instance) (v : Sight) (d : Verdict) (a b : List Key) → v ≡ sight s m → Reads (assess_pair s specs p) v d a b → d ≡ verdict s specs p m
unfolding verdict
verdict_is s specs p m v d a b e r = r.answer_is ∙ ap (assess_pair s specs p).answer e

pub needs_are : SameKeysSameNeed → (s : Schema) (specs : List Specification) (p : Pair) (m : List Instance) (v : Sight) (d : Verdict) (a ks ns : List Key) → v ≡ sight s m → a ≡ [] → Reads (assess_pair s specs p) v d a ks → ns ≡ ascending_keys ks → ns ≡ need s specs p m
unfolding need
needs_are law s specs p m v d a ks ns e none r n =
    n ∙ law ks ((assess_pair s specs p).keys v) (subst (λ ls. SameKeys ks (ls ++ (assess_pair s specs p).keys v)) none r.reads_same)
    ∙ ap (λ w. ascending_keys ((assess_pair s specs p).keys w)) e
