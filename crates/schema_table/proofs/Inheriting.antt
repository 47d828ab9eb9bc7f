-- Attributes of an entity by those of its supertype.
use Rattle.std.proofs.Common.{◌≡◌, ◌≢◌, ℕ, ◌+◌, ◌<◌, Bool, true, false, ◌||◌, ◌==◌, eqb, List, [], ◌∷◌, ◌++◌, map, take, length, get_or, get_or-set_same, get_or-set_other, reverse, Option, Some, None, refl, ap, sym, ◌∙◌, subst, arith, append-nil, ⊎_elim}
use Rattle.std.specs.List.{list_any, slice_get}
use Rattle.std.specs.Str.{bytes_eq}
use Rattle.std.proofs.Math.ListN.{set}
use Rattle.std.proofs.lemmas.Bool.{eqb-true}
use Rattle.std.proofs.lemmas.Bool.Decides.{eqb_tells}
use Rattle.std.proofs.lemmas.List.{length-set, map-append}
use Rattle.std.proofs.lemmas.List.Folds.{list_any_more}
use Rattle.std.proofs.lemmas.Option.{slice_get-get_or}
use Rattle.ifc_base.specs.declared.decl.EntityDecl.{EntityDecl}
use Rattle.schema_table.specs.declared.slot.AttrSlot.{AttrSlot}
use Rattle.schema_table.specs.declared.shares.Share.{Share}
use Rattle.schema_table.specs.Schema.{Schema, redeclares}
use Rattle.schema_table.specs.Climbing.{parents_of, entity_at, step}
use Rattle.schema_table.specs.Order.{has_number, IsParentsFirst}
use Rattle.schema_table.specs.Shares.{part, IsPart, KeepsParts, slot_of, slots_of, redeclared, nothing, share_at, HasSet, AreShares}
use Rattle.schema_table.proofs.Bounds.{own_names, own_names_up}
use Rattle.schema_table.proofs.Numbers.{step_number, super_is, length-parents, IsWhole, none_up, all_up, all_up_step}

or_swapped : (a b : Bool) → (a || b) ≡ (b || a)
or_swapped true true = refl
or_swapped true false = refl
or_swapped false true = refl
or_swapped false false = refl

again : (d : EntityDecl) (ds : List EntityDecl) (names : List (List ℕ)) → map (slot_of (d ∷ ds)) names ≡ map (redeclared d.derived) (map (slot_of ds) names)
again d ds [] = refl
again d ds (n ∷ ns) = ap (λ b. record { name = n; derived = b } ∷ map (slot_of (d ∷ ds)) ns) (or_swapped (list_any (bytes_eq n) d.derived) (redeclares ds n)) ∙ ap (λ l. redeclared d.derived (slot_of ds n) ∷ l) (again d ds ns)

slots_up : (d : EntityDecl) (ds : List EntityDecl) → slots_of (d ∷ ds) ≡ map (redeclared d.derived) (slots_of ds) ++ map (slot_of (d ∷ ds)) d.own
slots_up d ds =
    ap (map (slot_of (d ∷ ds))) (own_names_up d ds ∙ ap (λ l. own_names (reverse ds) ++ l) (append-nil d.own))
    ∙ map-append (slot_of (d ∷ ds)) (own_names (reverse ds)) d.own
    ∙ ap (λ l. l ++ map (slot_of (d ∷ ds)) d.own) (again d ds (own_names (reverse ds)))

-- an entity's attributes are its supertype's, some of them redeclared, and its own
pub slots_step : (s : Schema) → IsWhole s → (i : ℕ) (d : EntityDecl) → slice_get s i ≡ Some d
    → slots_of (all_up s (slice_get s i)) ≡ map (redeclared d.derived) (slots_of (all_up s (entity_at s (step (parents_of s) i)))) ++ map (slot_of (all_up s (slice_get s i))) d.own
slots_step s whole i d e =
    let up : all_up s (slice_get s i) ≡ d ∷ all_up s (entity_at s (step (parents_of s) i)) = ap (all_up s) e ∙ all_up_step s whole i d e ∙ ap (λ o. d ∷ all_up s o) (super_is s i d e) in
    ap slots_of up ∙ slots_up d (all_up s (entity_at s (step (parents_of s) i)))
    ∙ ap (λ l. map (redeclared d.derived) (slots_of (all_up s (entity_at s (step (parents_of s) i)))) ++ map (slot_of l) d.own) (sym up)

-- the supertype's share
pub record HasBase (s : Schema) (lists : List (List AttrSlot)) (shares : List Share) (o : Option ℕ) : Type 0 where
  pub there : IsPart lists (share_at shares o)
  pub has : part lists (share_at shares o) ≡ slots_of (all_up s (entity_at s o))

pub base_made : (s : Schema) (ps : List (Option ℕ)) → ps ≡ parents_of s → (order : List ℕ) → IsParentsFirst ps order → (i number : ℕ) → i < length order → get_or order i 0 ≡ number
    → (lists : List (List AttrSlot)) (shares : List Share) → 0 < length lists → AreShares s lists shares (take i order) → HasBase s lists shares (step ps number)
base_made s ps e order first i number h at lists shares some are = by (step ps number) refl
  where
    there : slice_get order i ≡ Some number
    there = slice_get-get_or order i 0 h ∙ ap Some at

    by : (o : Option ℕ) → step ps number ≡ o → HasBase s lists shares o
    by None f = record { there = (some, omega arith); has = ap slots_of (sym (none_up s (length s))) }
    by (Some p) f =
        let inside : p < length s = step_number s number p (ap (λ qs. step qs number) (sym e) ∙ f) in
        let made = are p inside ((first i number there).1 p f) in
        record { there = made.0; has = made.1 }

pub number_inside : (s : Schema) (ps : List (Option ℕ)) → ps ≡ parents_of s → (order : List ℕ) → IsParentsFirst ps order → (i number : ℕ) → i < length order → get_or order i 0 ≡ number → number < length s
number_inside s ps e order first i number h at =
    let there : slice_get order i ≡ Some number = slice_get-get_or order i 0 h ∙ ap Some at in
    let long : length ps ≡ length s = ap length e ∙ length-parents s in
    subst (λ n. number < n) long (first i number there).0

or_cases : (a b : Bool) → (a || b) ≡ true → (b ≡ true → ⊥) → a ≡ true
or_cases true b f g = refl
or_cases false b f g = absurd (g f)

-- one more share
pub shares_more : (s : Schema) (order : List ℕ) (i number : ℕ) → i < length order → get_or order i 0 ≡ number → number < length s
    → (old new : List (List AttrSlot)) (shares next : List Share) → 0 < length old → length shares ≡ length s → AreShares s old shares (take i order)
    → KeepsParts old new → HasSet new (slots_of (all_up s (slice_get s number))) number shares next
    → (0 < length new) × (length next ≡ length s) × AreShares s new next (take (i + 1) order)
shares_more s order i number h at inside old new shares next some long are kept made = (
  (kept nothing (some, omega arith)).0.0,
  ap length made.is_set ∙ length-set shares number made.share ∙ long,
  λ x w stands.
      ⊎_elim
      (λ (t : (eqb x number ≡ true) × (x ≡ number)).
      let within : number < length shares = omega arith in
      let here : share_at next (Some x) ≡ made.share = ap (λ l. share_at l (Some x)) made.is_set ∙ ap (λ z. share_at (set shares number made.share) (Some z)) t.1 ∙ get_or-set_same shares number made.share nothing within in
      (subst (IsPart new) (sym here) made.there, ap (part new) here ∙ made.has ∙ ap (λ z. slots_of (all_up s (slice_get s z))) (sym t.1)))
      (λ (t : (eqb x number ≡ false) × (x ≢ number)).
      let here : share_at next (Some x) ≡ share_at shares (Some x) = ap (λ l. share_at l (Some x)) made.is_set ∙ get_or-set_other shares number x made.share nothing t.1 in
      let before = are x w (or_cases (has_number (take i order) x) (get_or order i 0 == x) (sym (list_any_more (λ y. y == x) order i 0 h) ∙ stands) (λ f. t.1 (sym (sym at ∙ eqb-true (get_or order i 0) x f)))) in
      let stays = kept (share_at shares (Some x)) before.0 in
      (subst (IsPart new) (sym here) stays.0, ap (part new) here ∙ stays.1 ∙ before.1))
      (eqb_tells x number),
)
