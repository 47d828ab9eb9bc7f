-- What two steps one after the other append.
use Rattle.std.proofs.Common.{◌≡◌, ℕ, List, [], ◌∷◌, ◌++◌, ap, sym, subst, ◌∙◌, ◌≤◌, length, take}
use Rattle.std.specs.List.{flat_map}
use Rattle.std.proofs.lemmas.List.{append-nil, append_assoc, flat_map_more, take_all}
use Rattle.ifc_base.specs.declared.key.Key.{Key}
use Rattle.ifc_base.specs.declared.key.Key.TheVariants.{Inst, Refs}
use Rattle.ifc_base.specs.declared.key.Role.{Role}
use Rattle.schema_table.specs.Schema.{Schema}
use Rattle.schema_table.specs.Relationships.{relationship}
use Rattle.audit_model.specs.Keys.{Sight}
use Rattle.audit_model.specs.Reading.{gather}
use Rattle.audit_model.specs.Hops.{hop, relating_things, references_in}
use Rattle.audit_model.specs.Hops.Hop.{Back, Forward}
use Rattle.audit_model.specs.Paths.{above, ancestors, set_path}
use Rattle.audit_model.specs.Closures.{closure, most_after}
use Rattle.closure_walk.specs.Walking.{SameKeys}
use Rattle.facet_paths.specs.Reads.{Appends, Reads}
use Rattle.facet_paths.specs.WalkEnds.{held_by}

pub relating_made : (s : Schema) (v : Sight) (r : Role) (n : ℕ) (holders others ends ends' : List ℕ) (a b c d : List Key)
    → Appends (hop s (Back r) n) v [] holders a b → Appends (gather (hop s (Forward (relationship r).relating)) holders) v [] others b c
    → ends' ≡ ends ++ others → d ≡ c ++ flat_map (λ x. Inst x ∷ []) others → Appends (relating_things s r n) v ends ends' a d
relating_made s v r n holders others ends ends' a b c d x y e f =
    let h : holders ≡ v.referrers n r = x.ends_are in
    let o : others ≡ flat_map (λ z. references_in s (v.instance z) (relationship r).relating) (v.referrers n r) = y.ends_are ∙ ap (λ zs. flat_map (λ z. references_in s (v.instance z) (relationship r).relating) zs) h in
    let hops : List ℕ → List Key = λ zs. flat_map (λ z. (hop s (Forward (relationship r).relating) z).keys v) zs in
    let stood : List ℕ → List Key = λ zs. flat_map (λ z. Inst z ∷ []) zs in
    let first : List Key = Inst n ∷ Refs n r ∷ [] in
    let k : d ≡ ((a ++ first) ++ hops (v.referrers n r)) ++ stood (flat_map (λ z. references_in s (v.instance z) (relationship r).relating) (v.referrers n r)) =
    f ∙ ap (λ ks. ks ++ stood others) (y.reads_are ∙ ap (λ ks. ks ++ hops holders) x.reads_are)
    ∙ ap (λ zs. ((a ++ first) ++ hops zs) ++ stood others) h ∙ ap (λ zs. ((a ++ first) ++ hops (v.referrers n r)) ++ stood zs) o in
    record {
      ends_are = rw append-nil (e ∙ ap (λ zs. ends ++ zs) o);
      reads_are = simp append-nil (k ∙ append_assoc (a ++ first) (hops (v.referrers n r)) _ ∙ append_assoc a first _);
    }

pub ancestors_made : (s : Schema) (v : Sight) (rs : List Role) (e : ℕ) (parents all : List ℕ) (a b c : List Key)
    → parents ≡ (above s rs e).answer v → b ≡ a ++ (above s rs e).keys v
    → all ≡ (closure most_after (above s rs) parents).answer v → SameKeys c (b ++ (closure most_after (above s rs) parents).keys v) → Reads (ancestors s rs e) v all a c
ancestors_made s v rs e parents all a b c p q l k =
    record {
      answer_is = l ∙ ap (λ ps. (closure most_after (above s rs) ps).answer v) p;
      reads_same = subst (λ ks. SameKeys c ks)
          (ap (λ ks. ks ++ (closure most_after (above s rs) parents).keys v) q
          ∙ ap (λ ps. (a ++ (above s rs e).keys v) ++ (closure most_after (above s rs) ps).keys v) p
          ∙ append_assoc a ((above s rs e).keys v) _) k;
    }

pub stood_then : {X : Type 0} (f : X → List Key) (rs : List X) (i : ℕ) (k : Key) (a b c : List Key) → c ≡ b ++ flat_map f (take i rs) → length rs ≤ i → b ≡ a ++ k ∷ [] → c ≡ a ++ k ∷ flat_map f rs
stood_then f rs i k a b c x l q = x ∙ ap (λ zs. b ++ flat_map f zs) (take_all i rs l) ∙ ap (λ ks. ks ++ flat_map f rs) q ∙ append_assoc a (k ∷ []) (flat_map f rs)

-- by one more of a list
pub reach_more : {X Y : Type 0} (f : X → List Y) (z a b : List Y) (xs : List X) (x : X) → a ≡ z ++ flat_map f xs → b ≡ a ++ f x → b ≡ z ++ flat_map f (xs ++ x ∷ [])
reach_more f z a b xs x p q = q ∙ ap (λ ys. ys ++ f x) p ∙ flat_map_more f z xs x

-- what standing on a set and on what it names looks at
pub set_stood : (s : Schema) (v : Sight) (n : ℕ) (ids : List ℕ) (a b c : List Key) → ids ≡ held_by s v n → b ≡ a ++ Inst n ∷ [] → c ≡ b ++ flat_map (λ x. Inst x ∷ []) ids → c ≡ a ++ (set_path s n).keys v
set_stood s v n ids a b c e g h =
    let stood : List ℕ → List Key = λ xs. flat_map (λ x. Inst x ∷ []) xs in
    h ∙ ap (λ ks. ks ++ stood ids) g ∙ append_assoc a (Inst n ∷ []) (stood ids) ∙ ap (λ xs. a ++ Inst n ∷ stood xs) e ∙ ap (λ ks. a ++ Inst n ∷ ks) (sym (append-nil (stood (held_by s v n))))
