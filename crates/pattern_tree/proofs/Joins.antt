-- Joins of so many texts: put together, split, and with the empty text among them.
use Rattle.std.proofs.Common.{◌≡◌, ◌≤◌, ◌+◌, ℕ, zero, suc, [], ◌++◌, ◌⊎◌, inl, inr, refl, sym, ap, ◌∙◌, subst, arith, append_assoc}
use Rattle.pattern_tree.specs.Matching.{Text}
use Rattle.pattern_tree.proofs.Expressions.{Split, Power}

pub split_left : (P Q R : Text → Type 0) (s : Text) → Split (Split P Q) R s → Split P (Split Q R) s
split_left P Q R s h = record {
  front = h.first.front;
  back = h.first.back ++ h.back;
  parts = h.parts ∙ ap (λ t. t ++ h.back) h.first.parts ∙ append_assoc h.first.front h.first.back h.back;
  first = h.first.first;
  second = record { front = h.first.back; back = h.back; parts = refl; first = h.first.second; second = h.second };
}

pub split_right : (P Q R : Text → Type 0) (s : Text) → Split P (Split Q R) s → Split (Split P Q) R s
split_right P Q R s h = record {
  front = h.front ++ h.second.front;
  back = h.second.back;
  parts = h.parts ∙ ap (λ t. h.front ++ t) h.second.parts ∙ sym (append_assoc h.front h.second.front h.second.back);
  first = record { front = h.front; back = h.second.front; parts = refl; first = h.first; second = h.second.first };
  second = h.second.second;
}

pub split_map : (P Q P' Q' : Text → Type 0) → ((s : Text) → P s → P' s) → ((s : Text) → Q s → Q' s) → (s : Text) → Split P Q s → Split P' Q' s
split_map P Q P' Q' f g s h =
    record { front = h.front; back = h.back; parts = h.parts; first = f h.front h.first; second = g h.back h.second }

pub power_map : (P Q : Text → Type 0) → ((s : Text) → P s → Q s) → (k : ℕ) (s : Text) → Power P k s → Power Q k s
power_map P Q f zero s h = h
power_map P Q f (suc k) s h = split_map P (Power P k) Q (Power Q k) f (power_map P Q f k) s h

-- so many texts and further ones
pub power_join : (P : Text → Type 0) (a b n : ℕ) (s : Text) → n ≡ a + b → Split (Power P a) (Power P b) s → Power P n s
power_join P zero b n s e h =
    let same : b ≡ n = omega arith in
    let all : s ≡ h.back = h.parts ∙ ap (λ t. t ++ h.back) h.first in
    subst (λ k. Power P k s) same (subst (Power P b) (sym all) h.second)
power_join P (suc a) b zero s e h = absurd (omega arith)
power_join P (suc a) b (suc n) s e h =
    let rest = split_left P (Power P a) (Power P b) s h in
    record {
      front = rest.front;
      back = rest.back;
      parts = rest.parts;
      first = rest.first;
      second = power_join P a b n rest.back (omega arith) rest.second;
    }

pub power_split : (P : Text → Type 0) (a b n : ℕ) (s : Text) → n ≡ a + b → Power P n s → Split (Power P a) (Power P b) s
power_split P zero b n s e h =
    let same : n ≡ b = omega arith in
    record { front = []; back = s; parts = refl; first = refl; second = subst (λ k. Power P k s) same h }
power_split P (suc a) b zero s e h = absurd (omega arith)
power_split P (suc a) b (suc n) s e h =
    split_right P (Power P a) (Power P b) s (record {
      front = h.front;
      back = h.back;
      parts = h.parts;
      first = h.first;
      second = power_split P a b n h.back (omega arith) h.second;
    })

-- the empty text so many times
pub power_nil : (P : Text → Type 0) (k : ℕ) → P [] → Power P k []
power_nil P zero h = refl
power_nil P (suc k) h = record { front = []; back = []; parts = refl; first = h; second = power_nil P k h }

pub only_nil : (P : Text → Type 0) → ((s : Text) → P s → s ≡ []) → (k : ℕ) (s : Text) → Power P k s → s ≡ []
only_nil P f zero s h = h
only_nil P f (suc k) s h =
    h.parts ∙ ap (λ t. t ++ h.back) (f h.front h.first) ∙ only_nil P f k h.back h.second

-- a text of P, or the empty one
abbrev pub Maybe : (Text → Type 0) → Text → Type 0
Maybe P s = P s ⊎ (s ≡ [])

pub record Fewer (P : Text → Type 0) (most : ℕ) (s : Text) : Type 0 where
  pub number : ℕ
  pub few : number ≤ most
  pub texts : Power P number s

pub maybe_fewer : (P : Text → Type 0) (k : ℕ) (s : Text) → Power (Maybe P) k s → Fewer P k s
maybe_fewer P zero s h = record { number = 0; few = omega arith; texts = h }
maybe_fewer P (suc k) s h =
    let rest = maybe_fewer P k h.back h.second in
    elim h.first [
      | inl a ↦ record { number = suc rest.number; few = let few = rest.few in omega arith; texts = record { front = h.front; back = h.back; parts = h.parts; first = a; second = rest.texts } }
      | inr none ↦ record {
        number = rest.number;
        few = let few = rest.few in omega arith;
        texts = subst (Power P rest.number) (sym (h.parts ∙ ap (λ t. t ++ h.back) none)) rest.texts;
      }
    ]

pub fewer_maybe : (P : Text → Type 0) (j k : ℕ) (s : Text) → j ≤ k → Power P j s → Power (Maybe P) k s
fewer_maybe P zero zero s e h = h
fewer_maybe P (suc j) zero s e h = absurd (omega arith)
fewer_maybe P zero (suc k) s e h =
    record { front = []; back = s; parts = refl; first = inr refl; second = fewer_maybe P zero k s (omega arith) h }
fewer_maybe P (suc j) (suc k) s e h = record {
  front = h.front;
  back = h.back;
  parts = h.parts;
  first = inl h.first;
  second = fewer_maybe P j k h.back (omega arith) h.second;
}
