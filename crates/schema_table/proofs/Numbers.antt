-- Entities by their numbers.
use Rattle.std.proofs.Common.{◌≡◌, ◌≢◌, ℕ, zero, suc, ◌+◌, ◌<◌, ◌≤◌, Bool, true, false, cond, ◌||◌, ◌==◌, eqb, List, [], ◌∷◌, length, find, Option, Some, None, if◌then◌else◌, refl, ap, sym, ◌∙◌, subst, arith, ⊎_elim}
use Rattle.std.specs.List.{list_any, slice_get, position_or_len}
use Rattle.std.specs.Option.{option_map, option_map_or, option_or, option_and_then, unwrap_or}
use Rattle.std.specs.Str.{bytes_eq}
use Rattle.std.proofs.lemmas.Bool.Decides.{eqb_tells}
use Rattle.std.proofs.lemmas.Option.{slice_get_within, slice_get-map}
use Rattle.std.proofs.lemmas.List.{length-map}
use Rattle.std.proofs.lemmas.Slice.Eq.{bytes_eq-Decides}
use Rattle.ifc_base.specs.declared.decl.EntityDecl.{EntityDecl}
use Rattle.schema_table.specs.declared.fault.SchemaFault.TheVariants.{Twice, UnknownSuper, Cycle, TooMany}
use Rattle.ifc_base.specs.declared.decl.TypeDecl.{TypeDecl}
use Rattle.schema_table.specs.Schema.{Schema, declaration, supertype, upwards}
use Rattle.schema_table.specs.Declarations.{has_unknown_super, entity_fault, schema_fault, is_own_ancestor, are_too_many}
use Rattle.schema_table.specs.Climbing.{place, is_number, parents_of, entity_at, step, lift, chain}
use Rattle.schema_table.proofs.Positions.{find_at_position, position_within, position_from, there_is}
use Rattle.schema_table.proofs.Chains.{lift-zero, lift-suc, chain-none, chain-suc, chain-zero, passed, reached, AreWithin, IsOnCycle, ends_without_cycle}

pub declaration_at : (s : Schema) (name : List ℕ) → declaration s name ≡ entity_at s (place s name)
declaration_at s name = find_at_position (λ d. bytes_eq d.name name) s

find_passes : {X : Type 0} (p : X → Bool) (xs : List X) (x : X) → find p xs ≡ Some x → p x ≡ true
find_passes p [] x e = absurd (cc)
find_passes {X} p (y ∷ ys) x e =
    let F : Bool → Type 0 = λ b. p y ≡ b → cond b (Some y) (find p ys) ≡ Some x → p x ≡ true in
    let at : F (p y) = elim (p y) as F [
      | true ↦ λ f k. let same : y ≡ x = cc in subst (λ z. p z ≡ true) same f
      | false ↦ λ f k. find_passes p ys x k
    ] in
    at refl e

-- what stands at a name's place
pub record StandsAt (s : Schema) (name : List ℕ) (k : ℕ) : Type 0 where
  pub decl : EntityDecl
  pub there : slice_get s k ≡ Some decl
  pub named : decl.name ≡ name
  pub within : k < length s

pub stands_at : (s : Schema) (name : List ℕ) (k : ℕ) → place s name ≡ Some k → StandsAt s name k
stands_at s name k e =
    let inside : k < length s = position_within (λ d. bytes_eq d.name name) s k e in
    let found : declaration s name ≡ slice_get s k = declaration_at s name ∙ ap (entity_at s) e in
    let F : Option EntityDecl → Type 0 = λ o. slice_get s k ≡ o → StandsAt s name k in
    let at : F (slice_get s k) = elim (slice_get s k) as F [
      | None ↦ λ f. absurd (there_is s k inside f)
      | Some d ↦ λ f. record {
        decl = d;
        there = f;
        named = (bytes_eq-Decides d.name name).0 (find_passes (λ d. bytes_eq d.name name) s d (found ∙ f));
        within = inside;
      }
    ] in
    at refl

-- supertypes by numbers

pub step_is : (s : Schema) (i : ℕ) (d : EntityDecl) → slice_get s i ≡ Some d → step (parents_of s) i ≡ option_and_then (place s) d.parent
unfolding parents_of
step_is s i d e = ap (λ o. unwrap_or o None) (slice_get-map (λ (x : EntityDecl). option_and_then (place s) x.parent) s i ∙ ap (option_map (λ (x : EntityDecl). option_and_then (place s) x.parent)) e)

pub step_past : (s : Schema) (i : ℕ) → slice_get s i ≡ None → step (parents_of s) i ≡ None
unfolding parents_of
step_past s i e = ap (λ o. unwrap_or o None) (slice_get-map (λ (x : EntityDecl). option_and_then (place s) x.parent) s i ∙ ap (option_map (λ (x : EntityDecl). option_and_then (place s) x.parent)) e)

pub length-parents : (s : Schema) → length (parents_of s) ≡ length s
unfolding parents_of
length-parents s = length-map s (λ (x : EntityDecl). option_and_then (place s) x.parent)

named_super : (s : Schema) (o : Option (List ℕ)) → option_and_then (declaration s) o ≡ entity_at s (option_and_then (place s) o)
named_super s None = refl
named_super s (Some name) = declaration_at s name

pub super_is : (s : Schema) (i : ℕ) (d : EntityDecl) → slice_get s i ≡ Some d → supertype s d ≡ entity_at s (step (parents_of s) i)
super_is s i d e = named_super s d.parent ∙ ap (entity_at s) (sym (step_is s i d e))

place_within : (s : Schema) (o : Option (List ℕ)) (y : ℕ) → option_and_then (place s) o ≡ Some y → y < length s
place_within s None y e = absurd (cc)
place_within s (Some name) y e = (stands_at s name y e).within

pub parents_within : (s : Schema) → AreWithin (parents_of s)
parents_within s i y e =
    let F : Option EntityDecl → Type 0 = λ o. slice_get s i ≡ o → y < length s in
    let at : F (slice_get s i) = elim (slice_get s i) as F [
      | None ↦ λ f. absurd (let n : None ≡ Some y = sym (step_past s i f) ∙ e in cc)
      | Some d ↦ λ f. place_within s d.parent y (sym (step_is s i d f) ∙ e)
    ] in
    rw length-parents (at refl)

-- the numbers of entities
abbrev pub IsNumber : Schema → Option ℕ → Type 0
IsNumber s o = (x : ℕ) → o ≡ Some x → x < length s

pub step_number : (s : Schema) (i : ℕ) → IsNumber s (step (parents_of s) i)
step_number s i x e = subst (λ n. x < n) (length-parents s) (parents_within s i x e)

-- Who is passed by number is passed by declaration.
pub any_up : (s : Schema) (p : EntityDecl → Bool) (k : ℕ) (o : Option ℕ) → IsNumber s o → list_any p (upwards s k (entity_at s o)) ≡ list_any (λ x. option_map_or p (slice_get s x) false) (chain (parents_of s) k o)
any_up s p zero o h = rw (chain-zero (parents_of s) o) refl
any_up s p (suc k) None h = rw (chain-none (parents_of s) (suc k)) refl
any_up s p (suc k) (Some i) h =
    let F : Option EntityDecl → Type 0 = λ o. slice_get s i ≡ o →
    list_any p (upwards s (suc k) o) ≡ (option_map_or p o false || list_any (λ x. option_map_or p (slice_get s x) false) (chain (parents_of s) k (step (parents_of s) i))) in
    let at : F (slice_get s i) = elim (slice_get s i) as F [
      | None ↦ λ f. absurd (there_is s i (h i refl) f)
      | Some d ↦ λ f. ap (λ b. p d || b) (ap (λ u. list_any p (upwards s k u)) (super_is s i d f) ∙ any_up s p k (step (parents_of s) i) (step_number s i))
    ] in
    at refl ∙ ap (list_any (λ x. option_map_or p (slice_get s x) false)) (sym (chain-suc (parents_of s) k i))

-- Declarations without a fault of names.

-- each name stands once, and each supertype is declared
pub record AreSound (s : Schema) : Type 0 where
  pub own_place : (x : ℕ) (d : EntityDecl) → slice_get s x ≡ Some d → place s d.name ≡ Some x
  pub known : (x : ℕ) (d : EntityDecl) → slice_get s x ≡ Some d → has_unknown_super s d ≡ false

pub no_first : {F : Type 0} (b : Bool) (f : F) (o : Option F) → option_or (if b then Some f else None) o ≡ None → (b ≡ false) × (o ≡ None)
no_first true f o e = absurd (cc)
no_first false f o e = (refl, e)

-- a declaration without a fault of its name
pub record IsClean (s : Schema) (earlier : List EntityDecl) (d : EntityDecl) (ds : List EntityDecl) : Type 0 where
  pub new : list_any (λ e. bytes_eq e.name d.name) earlier ≡ false
  pub known : has_unknown_super s d ≡ false
  pub rest : entity_fault s (d ∷ earlier) ds ≡ None

pub is_clean : (s : Schema) (earlier : List EntityDecl) (d : EntityDecl) (ds : List EntityDecl) → entity_fault s earlier (d ∷ ds) ≡ None → IsClean s earlier d ds
is_clean s earlier d ds e =
    let one = no_first (list_any (λ x. bytes_eq x.name d.name) earlier) (Twice d.name) _ e in
    let two = no_first (has_unknown_super s d) (UnknownSuper d.name) (entity_fault s (d ∷ earlier) ds) one.1 in
    record { new = one.0; known = two.0; rest = two.1 }

later_known : (s : Schema) (earlier ds : List EntityDecl) → entity_fault s earlier ds ≡ None → (x : ℕ) (d : EntityDecl) → slice_get ds x ≡ Some d → has_unknown_super s d ≡ false
later_known s earlier [] e x d f = absurd (cc)
later_known s earlier (y ∷ ys) e zero d f = let same : y ≡ d = cc in subst (λ z. has_unknown_super s z ≡ false) same (is_clean s earlier y ys e).known
later_known s earlier (y ∷ ys) e (suc x) d f = later_known s (y ∷ earlier) ys (is_clean s earlier y ys e).rest x d f

not_earlier : (s : Schema) (earlier ds : List EntityDecl) → entity_fault s earlier ds ≡ None → (x : ℕ) (d : EntityDecl) → slice_get ds x ≡ Some d → list_any (λ e. bytes_eq e.name d.name) earlier ≡ false
not_earlier s earlier [] e x d f = absurd (cc)
not_earlier s earlier (y ∷ ys) e zero d f = let same : y ≡ d = cc in subst (λ (z : EntityDecl). list_any (λ e. bytes_eq e.name z.name) earlier ≡ false) same (is_clean s earlier y ys e).new
not_earlier s earlier (y ∷ ys) e (suc x) d f =
    second (bytes_eq y.name d.name) (list_any (λ e. bytes_eq e.name d.name) earlier) (not_earlier s (y ∷ earlier) ys (is_clean s earlier y ys e).rest x d f)
  where
    second : (a b : Bool) → (a || b) ≡ false → b ≡ false
    second true b h = absurd (cc)
    second false b h = h

first_place : (s : Schema) (earlier ds : List EntityDecl) → entity_fault s earlier ds ≡ None → (x : ℕ) (d : EntityDecl) → slice_get ds x ≡ Some d → position_or_len (λ e. bytes_eq e.name d.name) ds ≡ x
first_place s earlier [] e x d f = absurd (cc)
first_place s earlier (y ∷ ys) e zero d f =
    let same : y ≡ d = cc in
    let own : bytes_eq y.name d.name ≡ true = (bytes_eq-Decides y.name d.name).1 (ap (λ (z : EntityDecl). z.name) same) in
    rw own refl
first_place s earlier (y ∷ ys) e (suc x) d f =
    let apart = not_earlier s (y ∷ earlier) ys (is_clean s earlier y ys e).rest x d f in
    let other : bytes_eq y.name d.name ≡ false = first_false (bytes_eq y.name d.name) _ apart in
    let rest : position_or_len (λ e. bytes_eq e.name d.name) ys ≡ x = first_place s (y ∷ earlier) ys (is_clean s earlier y ys e).rest x d f in
    let next : 1 + position_or_len (λ e. bytes_eq e.name d.name) ys ≡ suc x = omega arith in
    rw other next
  where
    first_false : (a b : Bool) → (a || b) ≡ false → a ≡ false
    first_false true b h = absurd (cc)
    first_false false b h = refl

pub are_sound : (s : Schema) → entity_fault s [] s ≡ None → AreSound s
are_sound s e = record {
  own_place = λ x d f.
      position_from (λ z. bytes_eq z.name d.name) s x (first_place s [] s e x d f) (slice_get_within s x d f);
  known = later_known s [] s e;
}

-- Ways up without a fault.

-- an entity has a name exactly where it is the one at the name's place
pub named_by_number : (s : Schema) → AreSound s → (name : List ℕ) (x : ℕ) → option_map_or (λ (d : EntityDecl). bytes_eq d.name name) (slice_get s x) false ≡ is_number (place s name) x
named_by_number s sound name x =
    let F : Option EntityDecl → Option ℕ → Type 0 = λ o q. slice_get s x ≡ o → place s name ≡ q → option_map_or (λ (d : EntityDecl). bytes_eq d.name name) o false ≡ is_number q x in
    let at : (o : Option EntityDecl) (q : Option ℕ) → F o q = λ o q. elim o as (λ w. F w q) [
      | None ↦ elim q as (λ r. F None r) [
        | None ↦ λ f g. refl
        | Some k ↦ λ f g. let t = stands_at s name k g in
            ⊎_elim (λ (e : (eqb x k ≡ true) × (x ≡ k)). absurd (let n : None ≡ Some t.decl = sym f ∙ ap (slice_get s) e.1 ∙ t.there in cc)) (λ (e : (eqb x k ≡ false) × (x ≢ k)). sym e.0) (eqb_tells x k)
      ]
      | Some d ↦ elim q as (λ r. F (Some d) r) [
        | None ↦ λ f g. no_name d (λ e. let n : Some x ≡ None = sym (sound.own_place x d f) ∙ ap (place s) e ∙ g in cc)
        | Some k ↦ λ f g. let t = stands_at s name k g in
            ⊎_elim
            (λ (e : (eqb x k ≡ true) × (x ≡ k)).
            let same : Some d ≡ Some t.decl = sym f ∙ ap (slice_get s) e.1 ∙ t.there in
            let decls : d ≡ t.decl = cc in
            let names : d.name ≡ name = ap (λ (z : EntityDecl). z.name) decls ∙ t.named in
            (bytes_eq-Decides d.name name).1 names ∙ sym e.0)
            (λ (e : (eqb x k ≡ false) × (x ≢ k)).
            no_name d (λ n. e.1 (let same : Some x ≡ Some k = sym (sound.own_place x d f) ∙ ap (place s) n ∙ g in cc)) ∙ sym e.0)
            (eqb_tells x k)
      ]
    ] in
    at (slice_get s x) (place s name) refl refl
  where
    no_name : (d : EntityDecl) → (d.name ≡ name → ⊥) → bytes_eq d.name name ≡ false
    no_name d n = elim (bytes_eq d.name name) as (λ b. bytes_eq d.name name ≡ b → bytes_eq d.name name ≡ false) [ true ↦ λ f. absurd (n ((bytes_eq-Decides d.name name).0 f)) | false ↦ λ f. f ] refl

list_any_same : {X : Type 0} (p q : X → Bool) → ((x : X) → p x ≡ q x) → (xs : List X) → list_any p xs ≡ list_any q xs
list_any_same p q h [] = refl
list_any_same p q h (x ∷ xs) = ap (λ b. b || list_any p xs) (h x) ∙ ap (λ b. q x || b) (list_any_same p q h xs)

-- whether one of the entities that are passed has the name
pub any_named_up : (s : Schema) → AreSound s → (name : List ℕ) (k : ℕ) (o : Option ℕ) → IsNumber s o
    → list_any (λ d. bytes_eq d.name name) (upwards s k (entity_at s o)) ≡ list_any (is_number (place s name)) (chain (parents_of s) k o)
any_named_up s sound name k o h =
    any_up s (λ d. bytes_eq d.name name) k o h
    ∙ list_any_same (λ x. option_map_or (λ (d : EntityDecl). bytes_eq d.name name) (slice_get s x) false) (is_number (place s name)) (named_by_number s sound name) (chain (parents_of s) k o)

-- An entity is its own ancestor exactly where it is on a cycle.
pub own_ancestor_is : (s : Schema) → AreSound s → (y : ℕ) (d : EntityDecl) → slice_get s y ≡ Some d
    → is_own_ancestor s d ≡ list_any (λ x. x == y) (chain (parents_of s) (length s) (step (parents_of s) y))
own_ancestor_is s sound y d e =
    ap (λ o. list_any (λ z. bytes_eq z.name d.name) (upwards s (length s) o)) (super_is s y d e)
    ∙ any_named_up s sound d.name (length s) (step (parents_of s) y) (step_number s y)
    ∙ ap (λ o. list_any (is_number o) (chain (parents_of s) (length s) (step (parents_of s) y))) (sound.own_place y d e)

pub on_cycle : (s : Schema) → AreSound s → (y : ℕ) (d : EntityDecl) → slice_get s y ≡ Some d → is_own_ancestor s d ≡ true → IsOnCycle (parents_of s) y
on_cycle s sound y d e h =
    let ps : List (Option ℕ) = parents_of s in
    let p = passed ps (length s) (step ps y) y (sym (own_ancestor_is s sound y d e) ∙ h) in
    (p.0, rw length-parents p.1, lift-suc ps p.0 (Some y) ∙ p.2)

pub off_cycle : (s : Schema) → AreSound s → (y : ℕ) (d : EntityDecl) → slice_get s y ≡ Some d → IsOnCycle (parents_of s) y → is_own_ancestor s d ≡ true
off_cycle s sound y d e o =
    let ps : List (Option ℕ) = parents_of s in
    let less : o.0 < length s = subst (λ n. o.0 < n) (length-parents s) o.1 in
    own_ancestor_is s sound y d e ∙ reached ps (length s) (step ps y) o.0 y less (sym (lift-suc ps o.0 (Some y)) ∙ o.2)

none_passes : {X : Type 0} (p : X → Bool) (xs : List X) → find p xs ≡ None → (k : ℕ) (x : X) → slice_get xs k ≡ Some x → p x ≡ false
none_passes p [] e k x f = absurd (cc)
none_passes {X} p (y ∷ ys) e k x f =
    let F : Bool → Type 0 = λ b. p y ≡ b → cond b (Some y) (find p ys) ≡ None → p x ≡ false in
    let at : F (p y) = elim (p y) as F [
      | true ↦ λ g h. absurd (cc)
      | false ↦ λ g h. here g k f (λ j i. none_passes p ys h j x i)
    ] in
    at refl e
  where
    here : p y ≡ false → (j : ℕ) → slice_get (y ∷ ys) j ≡ Some x → ((j : ℕ) → slice_get ys j ≡ Some x → p x ≡ false) → p x ≡ false
    here g zero i rest = let same : y ≡ x = cc in subst (λ z. p z ≡ false) same g
    here g (suc j) i rest = rest j i

-- A schema without a fault: its names and supertypes are sound, and each way up ends.
pub record IsWhole (s : Schema) : Type 0 where
  pub sound : AreSound s
  pub ends : (i : ℕ) → i < length s → lift (parents_of s) (length s) (Some i) ≡ None

pub ways_end : (s : Schema) → AreSound s → find (is_own_ancestor s) s ≡ None → (i : ℕ) → i < length s → lift (parents_of s) (length s) (Some i) ≡ None
ways_end s sound e i h =
    let ps : List (Option ℕ) = parents_of s in
    let none : (y : ℕ) → y < length ps → IsOnCycle ps y → ⊥ = λ y w o.
    let inside : y < length s = subst (λ n. y < n) (length-parents s) w in
    by y inside o (slice_get s y) refl in
    let long : i < length ps = rw length-parents h in
    subst (λ n. lift ps n (Some i) ≡ None) (length-parents s) (ends_without_cycle ps (parents_within s) none i long)
  where
    by : (y : ℕ) → y < length s → IsOnCycle (parents_of s) y → (o : Option EntityDecl) → slice_get s y ≡ o → ⊥
    by y w o None f = there_is s y w f
    by y w o (Some d) f = let a : false ≡ true = sym (none_passes (is_own_ancestor s) s e y d f) ∙ off_cycle s sound y d f o in cc

pub no_fault : {F : Type 0} (a b : Option F) → option_or a b ≡ None → (a ≡ None) × (b ≡ None)
no_fault None b h = (refl, h)
no_fault (Some f) b h = absurd (cc)

pub is_whole : (s : Schema) (types : List TypeDecl) → schema_fault s types ≡ None → IsWhole s
unfolding schema_fault
is_whole s types e =
    let few = no_first (are_too_many s types) TooMany _ e in
    let names = no_fault (entity_fault s [] s) _ few.1 in
    let sound : AreSound s = are_sound s names.0 in
    record { sound = sound; ends = ways_end s sound (no_cycle (find (is_own_ancestor s) s) names.1) }
  where
    no_cycle : (o : Option EntityDecl) → option_map (λ (d : EntityDecl). Cycle d.name) o ≡ None → o ≡ None
    no_cycle None h = refl
    no_cycle (Some d) h = absurd (cc)

-- All that stands above an entity.
abbrev pub all_up : Schema → Option EntityDecl → List EntityDecl
all_up s o = upwards s (length s) o

pub none_up : (s : Schema) (k : ℕ) → upwards s k None ≡ []
none_up s zero = refl
none_up s (suc k) = refl

-- a way that ends within so many steps passes no more in more of them
pub up_ended : (s : Schema) (k m : ℕ) (o : Option ℕ) → k ≤ m → lift (parents_of s) k o ≡ None → upwards s m (entity_at s o) ≡ upwards s k (entity_at s o)
up_ended s zero m None h e = none_up s m
up_ended s zero m (Some i) h e = absurd (let x : Some i ≡ None = sym (lift-zero (parents_of s) (Some i)) ∙ e in cc)
up_ended s (suc k) zero o h e = absurd (omega arith)
up_ended s (suc k) (suc m) None h e = refl
up_ended s (suc k) (suc m) (Some i) h e =
    let next : lift (parents_of s) k (step (parents_of s) i) ≡ None = sym (lift-suc (parents_of s) k (Some i)) ∙ e in
    let rest : upwards s m (entity_at s (step (parents_of s) i)) ≡ upwards s k (entity_at s (step (parents_of s) i)) = up_ended s k m (step (parents_of s) i) (omega arith) next in
    let F : Option EntityDecl → Type 0 = λ o. slice_get s i ≡ o → upwards s (suc m) o ≡ upwards s (suc k) o in
    let at : F (slice_get s i) = elim (slice_get s i) as F [
      | None ↦ λ f. refl
      | Some d ↦ λ f. ap (λ (l : List EntityDecl). d ∷ l) (ap (upwards s m) (super_is s i d f) ∙ rest ∙ ap (upwards s k) (sym (super_is s i d f)))
    ] in
    at refl

-- above an entity stands itself, and then what stands above its supertype
pub all_up_step : (s : Schema) → IsWhole s → (i : ℕ) (d : EntityDecl) → slice_get s i ≡ Some d → all_up s (Some d) ≡ d ∷ all_up s (supertype s d)
all_up_step s whole i d e =
    let n : ℕ = length s in
    let more : upwards s (suc n) (slice_get s i) ≡ upwards s n (slice_get s i) = up_ended s n (suc n) (Some i) (omega arith) (whole.ends i (slice_get_within s i d e)) in
    ap (upwards s n) (sym e) ∙ sym more ∙ ap (upwards s (suc n)) e
