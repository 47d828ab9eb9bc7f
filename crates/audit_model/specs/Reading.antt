-- A reading looks at a model: it has an answer, the keys that it looks at, and the proof that it hangs on their contents alone.
use Rattle.std.specs.Prelude.{ℕ, List, [], ◌∷◌, ◌++◌, Option, map, refl}
use Rattle.std.proofs.Common.{ap, ◌∙◌}
use Rattle.std.specs.List.{flat_map}
use Rattle.ifc_base.specs.declared.value.Instance.{Instance}
use Rattle.ifc_base.specs.declared.key.Role.{Role}
use Rattle.ifc_base.specs.declared.key.Key.{Key}
use Rattle.ifc_base.specs.declared.key.Key.TheVariants.{Inst, Refs}
use Rattle.audit_model.specs.Keys.{Sight}
use Rattle.audit_model.specs.Agree.{ReadsSame, IsSound, agree_first, agree_last}

pub record Reading (A : Type 0) : Type 0 where
  pub answer : Sight → A
  pub keys : Sight → List Key
  pub sound : IsSound answer keys

-- this answer, looking at nothing
abbrev pub told : {A : Type 0} → A → Reading A
told a = record { answer = λ v. a; keys = λ v. []; sound = λ v w h. record { same_answer = refl; same_keys = refl } }

-- standing on an id: the instance there, or none
abbrev pub stand : ℕ → Reading (Option Instance)
stand n = record { answer = λ v. v.instance n; keys = λ v. Inst n ∷ []; sound = λ v w h. record { same_answer = h.0; same_keys = refl } }

-- the ids of those that refer to n by the role
abbrev pub referrers_of : ℕ → Role → Reading (List ℕ)
referrers_of n r = record { answer = λ v. v.referrers n r; keys = λ v. Refs n r ∷ []; sound = λ v w h. record { same_answer = h.0; same_keys = refl } }

pub then_sound : {A B : Type 0} (m : Reading A) (f : A → Reading B) → IsSound (λ v. (f (m.answer v)).answer v) (λ v. m.keys v ++ (f (m.answer v)).keys v)
then_sound m f v w h =
    let one : ReadsSame m.answer m.keys v w = m.sound v w (agree_first v w (m.keys v) ((f (m.answer v)).keys v) h) in
    let two : ReadsSame (f (m.answer v)).answer (f (m.answer v)).keys v w = (f (m.answer v)).sound v w (agree_last v w (m.keys v) ((f (m.answer v)).keys v) h) in
    record {
      same_answer = two.same_answer ∙ ap (λ a. (f a).answer w) one.same_answer;
      same_keys = ap (λ ks. ks ++ (f (m.answer v)).keys v) one.same_keys ∙ ap (λ ks. m.keys w ++ ks) (two.same_keys ∙ ap (λ a. (f a).keys w) one.same_answer);
    }

-- first the one, then the other that its answer asks for
abbrev pub ◌>>=◌ : {A B : Type 0} → Reading A → (A → Reading B) → Reading B
m >>= f = record { answer = λ v. (f (m.answer v)).answer v; keys = λ v. m.keys v ++ (f (m.answer v)).keys v; sound = then_sound m f }

infixl 10 ◌>>=◌
pub visit_sound : {A B : Type 0} (f : A → Reading B) (xs : List A) → IsSound (λ v. map (λ x. (f x).answer v) xs) (λ v. flat_map (λ x. (f x).keys v) xs)
visit_sound f [] v w h = record { same_answer = refl; same_keys = refl }
visit_sound f (x ∷ xs) v w h =
    let one = (f x).sound v w (agree_first v w ((f x).keys v) (flat_map (λ y. (f y).keys v) xs) h) in
    let rest = visit_sound f xs v w (agree_last v w ((f x).keys v) (flat_map (λ y. (f y).keys v) xs) h) in
    record {
      same_answer = ap (λ y. y ∷ map (λ y. (f y).answer v) xs) one.same_answer ∙ ap (λ ys. (f x).answer w ∷ ys) rest.same_answer;
      same_keys = ap (λ ks. ks ++ flat_map (λ y. (f y).keys v) xs) one.same_keys ∙ ap (λ ks. (f x).keys w ++ ks) rest.same_keys;
    }

-- the answers at each of a list
abbrev pub visit : {A B : Type 0} → (A → Reading B) → List A → Reading (List B)
visit f xs = record { answer = λ v. map (λ x. (f x).answer v) xs; keys = λ v. flat_map (λ x. (f x).keys v) xs; sound = visit_sound f xs }

pub gather_sound : {A B : Type 0} (f : A → Reading (List B)) (xs : List A) → IsSound (λ v. flat_map (λ x. (f x).answer v) xs) (λ v. flat_map (λ x. (f x).keys v) xs)
gather_sound f [] v w h = record { same_answer = refl; same_keys = refl }
gather_sound f (x ∷ xs) v w h =
    let one = (f x).sound v w (agree_first v w ((f x).keys v) (flat_map (λ y. (f y).keys v) xs) h) in
    let rest = gather_sound f xs v w (agree_last v w ((f x).keys v) (flat_map (λ y. (f y).keys v) xs) h) in
    record {
      same_answer = ap (λ ys. ys ++ flat_map (λ y. (f y).answer v) xs) one.same_answer ∙ ap (λ ys. (f x).answer w ++ ys) rest.same_answer;
      same_keys = ap (λ ks. ks ++ flat_map (λ y. (f y).keys v) xs) one.same_keys ∙ ap (λ ks. (f x).keys w ++ ks) rest.same_keys;
    }

-- the answers at each of a list, joined
abbrev pub gather : {A B : Type 0} → (A → Reading (List B)) → List A → Reading (List B)
gather f xs = record { answer = λ v. flat_map (λ x. (f x).answer v) xs; keys = λ v. flat_map (λ x. (f x).keys v) xs; sound = gather_sound f xs }
