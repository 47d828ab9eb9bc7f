-- A text passes two tests one behind the other exactly where it splits into two texts of which each passes one.
use Rattle.std.proofs.Common.{◌≡◌, ℕ, true, false, ◌&&◌, [], ◌∷◌, ◌++◌, inl, inr, map, refl, sym, ap, ◌∙◌}
use Rattle.std.specs.List.{list_any}
use Rattle.pattern_tree.specs.Matching.{Text}
use Rattle.restrictions.specs.Matching.{Test, splits, splits_by, with_first, is_empty}
use Rattle.restrictions.proofs.Tests.{Tests, or_cases, or_first, or_second, and_parts, and_made, any_map}

-- the text splits in two
pub record Split (P Q : Text → Type 0) (text : Text) : Type 0 where
  pub front : Text
  pub back : Text
  pub parts : text ≡ front ++ back
  pub first : P front
  pub second : Q back

abbrev Passes : Test → Text → Type 0
Passes test t = test t ≡ true

-- the splits behind the first one are those of the rest, each with the first character
further : (f g : Test) (c : ℕ) (t : Text)
    → list_any (λ s. f s.0 && g s.1) (map (with_first c) (splits t)) ≡ splits_by (λ x. f (c ∷ x)) g t
further f g c t = any_map (λ s. f s.0 && g s.1) (with_first c) (splits t)

found : (f g : Test) (t : Text) → splits_by f g t ≡ true → Split (Passes f) (Passes g) t
found f g [] e = elim (or_cases (f [] && g []) false e) [
  | inl h ↦ (let both = and_parts (f []) (g []) h in record { front = []; back = []; parts = refl; first = both.0; second = both.1 })
  | inr h ↦ absurd (cc)
]
found f g (c ∷ t) e = elim (or_cases (f [] && g (c ∷ t)) (list_any (λ s. f s.0 && g s.1) (map (with_first c) (splits t))) e) [
  | inl h ↦ (let both = and_parts (f []) (g (c ∷ t)) h in record { front = []; back = c ∷ t; parts = refl; first = both.0; second = both.1 })
  | inr h ↦ (
      let rest = found (λ x. f (c ∷ x)) g t (sym (further f g c t) ∙ h) in
      record { front = c ∷ rest.front; back = rest.back; parts = ap (λ u. c ∷ u) rest.parts; first = rest.first; second = rest.second })
]

tried : (f g : Test) (front back : Text) → f front ≡ true → g back ≡ true → splits_by f g (front ++ back) ≡ true
tried f g [] [] a b = or_first (f [] && g []) false (and_made (f []) (g []) a b)
tried f g [] (c ∷ back) a b =
    or_first (f [] && g (c ∷ back)) (list_any (λ s. f s.0 && g s.1) (map (with_first c) (splits back))) (and_made (f []) (g (c ∷ back)) a b)
tried f g (c ∷ front) back a b =
    or_second (f [] && g (c ∷ (front ++ back))) (list_any (λ s. f s.0 && g s.1) (map (with_first c) (splits (front ++ back))))
    (further f g c (front ++ back) ∙ tried (λ x. f (c ∷ x)) g front back a b)

pub splits_so : (f g : Test) (P Q : Text → Type 0) → Tests f P → Tests g Q → Tests (splits_by f g) (Split P Q)
splits_so f g P Q h k = record {
  sound = λ t e.
      let s = found f g t e in
      record { front = s.front; back = s.back; parts = s.parts; first = h.sound s.front s.first; second = k.sound s.back s.second };
  complete = λ t s. ap (splits_by f g) s.parts ∙ tried f g s.front s.back (h.complete s.front s.first) (k.complete s.back s.second);
}

empty_is : (t : Text) → is_empty t ≡ true → t ≡ []
empty_is [] e = refl
empty_is (c ∷ t) e = absurd (cc)

pub empty_so : Tests is_empty (λ t. t ≡ [])
empty_so = record { sound = empty_is; complete = λ t e. ap is_empty e }

-- a test decides what has the same texts
pub changed : (f : Test) (P Q : Text → Type 0) → ((t : Text) → P t → Q t) → ((t : Text) → Q t → P t) → Tests f P → Tests f Q
changed f P Q there back h = record { sound = λ t e. there t (h.sound t e); complete = λ t q. h.complete t (back t q) }
