-- A repeated part matches the joins of a permitted number of its texts.
use Rattle.std.proofs.Common.{◌≡◌, ◌≢◌, ◌<◌, ◌≤◌, ◌+◌, ◌-◌, ℕ, zero, suc, Bool, true, false, ◌&&◌, ◌||◌, ◌==◌, Option, Some, None, nat_lt, [], ◌++◌, length, refl, sym, ap, ◌∙◌, subst, arith, if◌then◌else◌}
use Rattle.std.proofs.Math.Bool.{and-true}
use Rattle.std.specs.Prelude.{IfSome}
use Rattle.std.proofs.lemmas.Bool.{ltb-true, ltb-false, eqb-true, eqb-false}
use Rattle.std.proofs.Math.Dec.{eqb-suc-zero}
use Rattle.std.proofs.lemmas.List.{nil_from_length}
use Rattle.pattern_tree.specs.Matching.{Text}
use Rattle.pattern_tree.specs.declared.program.Part.{Part}
use Rattle.pattern_tree.specs.declared.tree.Times.{Times}
use Rattle.pattern_tree.specs.Programs.{forked, no_sides, beside, power, optional, endless, up_to, from, repeated_most, repeated}
use Rattle.pattern_tree.proofs.Expressions.{never, Split, Power, Powers, Hits}
use Rattle.pattern_tree.proofs.Powers.{any_number}
use Rattle.pattern_tree.proofs.Joins.{Maybe, power_join, power_split, power_nil, only_nil, maybe_fewer, fewer_maybe}
use Rattle.pattern_tree.proofs.Shifts.{empty_to_takes}
use Rattle.pattern_tree.proofs.Spelling.{Spells, changed, beside_so, powered, powered_so, optional_so, optional_empty, none_or, idle}
use Rattle.pattern_tree.proofs.Loops.{endless_so}

-- the join of so many texts, from the least number to the greatest, if there is one
pub record Counted (P : Text → Type 0) (least : ℕ) (most : Option ℕ) (s : Text) : Type 0 where
  pub number : ℕ
  pub enough : least ≤ number
  pub few : IfSome most (λ n. number ≤ n)
  pub texts : Power P number s

and_none_or : (b : Bool) (k : ℕ) → (none_or b k && b) ≡ b
and_none_or true zero = refl
and_none_or true (suc k) = refl
and_none_or false zero = refl
and_none_or false (suc k) = refl

none_or_true : (k : ℕ) → none_or true k ≡ true
none_or_true zero = refl
none_or_true (suc k) = refl

none_or_is : (b : Bool) (k : ℕ) → none_or b k ≡ (b || (k == 0))
none_or_is true zero = refl
none_or_is false zero = refl
none_or_is true (suc k) = refl
none_or_is false (suc k) = sym (eqb-suc-zero k)

-- ---- up to a greatest number

up_to_is : (p : Part) (least more : ℕ) → beside (powered least p) (powered more (optional p)) ≡ up_to p least more
up_to_is p least more =
    ap (λ b. let part : Part = record { ops = power least p.ops ++ power more (optional p).ops; empty = b } in part) (
    ap (λ x. none_or p.empty least && none_or x more) (optional_empty p)
    ∙ ap (λ x. none_or p.empty least && x) (none_or_true more)
    ∙ and-true (none_or p.empty least)
    ∙ none_or_is p.empty least
    )

up_to_so : (hit : Hits) (p : Part) (P : Text → Type 0) (least more most : ℕ) → most ≡ least + more → Spells hit p P → Spells hit (up_to p least more) (Counted P least (Some most))
up_to_so hit p P least more most e h =
    subst (λ q. Spells hit q (Counted P least (Some most))) (up_to_is p least more) (
    changed hit (beside (powered least p) (powered more (optional p))) (Split (Power P least) (Power (Maybe P) more)) (Counted P least (Some most))
    (λ s t.
    let further = maybe_fewer P more t.back t.second in
    let few = further.few in
    record {
      number = least + further.number;
      enough = omega arith;
      few = omega arith;
      texts = power_join P least further.number (least + further.number) s refl (record { front = t.front; back = t.back; parts = t.parts; first = t.first; second = further.texts });
    })
    (λ s t.
    let enough = t.enough in
    let few : t.number ≤ most = t.few in
    let split = power_split P least (t.number - least) t.number s (omega arith) t.texts in
    record {
      front = split.front;
      back = split.back;
      parts = split.parts;
      first = split.first;
      second = fewer_maybe P (t.number - least) more split.back (omega arith) split.second;
    })
    (beside_so hit (powered least p) (powered more (optional p)) (Power P least) (Power (Maybe P) more) (powered_so hit least p P h) (powered_so hit more (optional p) (Maybe P) (optional_so hit p P h)))
    )

-- ---- without a greatest number

star_so : (hit : Hits) (p : Part) (P : Text → Type 0) → Spells hit p P → Spells hit (endless p true) (Counted P 0 None)
star_so hit p P h =
    changed hit (endless p true) (Powers true P) (Counted P 0 None)
    (λ s t. record { number = t.number; enough = omega arith; few = tt; texts = t.texts })
    (λ s t. record { number = t.number; enough = any_number t.number; texts = t.texts })
    (endless_so hit p true P (λ e. refl) h)

from_is : (p : Part) (before : ℕ) → beside (powered before p) (endless p p.empty) ≡ from p before
from_is p before =
    ap (λ b. let part : Part = record { ops = power before p.ops ++ (endless p p.empty).ops; empty = b } in part) (and_none_or p.empty before)

-- where the part matches the empty text, one more of it changes nothing
once : (hit : Hits) (p : Part) (P : Text → Type 0) (h : Spells hit p P) (b : Bool) → p.empty ≡ b → (n : ℕ) → (b ≡ false → 0 < n) → (s : Text) → Power P n s → (k : ℕ) × (0 < k) × Power P k s
once hit p P h true e zero enough s t =
    (1, omega arith, record { front = []; back = s; parts = refl; first = h.sound [] (empty_to_takes hit h.expr (sym h.is.empty ∙ e)); second = t })
once hit p P h true e (suc n) enough s t = (suc n, omega arith, t)
once hit p P h false e n enough s t = (n, enough refl, t)

from_so : (hit : Hits) (p : Part) (P : Text → Type 0) (before least : ℕ) → least ≡ before + 1 → Spells hit p P → Spells hit (from p before) (Counted P least None)
from_so hit p P before least e h =
    subst (λ q. Spells hit q (Counted P least None)) (from_is p before) (
    changed hit (beside (powered before p) (endless p p.empty)) (Split (Power P before) (Powers p.empty P)) (Counted P least None)
    (λ s t.
    let more = once hit p P h p.empty refl t.second.number t.second.enough t.back t.second.texts in
    let positive : 0 < more.0 = more.1 in
    record {
      number = before + more.0;
      enough = omega arith;
      few = tt;
      texts = power_join P before more.0 (before + more.0) s refl (record { front = t.front; back = t.back; parts = t.parts; first = t.first; second = more.2 });
    })
    (λ s t.
    let enough = t.enough in
    let split = power_split P before (t.number - before) t.number s (omega arith) t.texts in
    record {
      front = split.front;
      back = split.back;
      parts = split.parts;
      first = split.first;
      second = record { number = t.number - before; enough = λ f. omega arith; texts = split.second };
    })
    (beside_so hit (powered before p) (endless p p.empty) (Power P before) (Powers p.empty P) (powered_so hit before p P h) (endless_so hit p p.empty P (λ f. f) h))
    )

-- ---- a part without steps, and numbers that no number permits

idle_so : (hit : Hits) (p : Part) (P : Text → Type 0) (least : ℕ) (most : Option ℕ) → IfSome most (λ n. least ≤ n) → (p.ops ≡ []) → Spells hit p P → Spells hit p (Counted P least most)
idle_so hit p P least most some none h =
    let rest = idle hit h.expr (sym h.is.ops ∙ none) in
    let takes_nil = empty_to_takes hit h.expr rest.empty in
    changed hit p P (Counted P least most)
    (λ s t.
    let only = rest.only s (h.complete s t) in
    record {
      number = least;
      enough = omega arith;
      few = some;
      texts = subst (Power P least) (sym only) (power_nil P least (subst P only t));
    })
    (λ s t. subst P (sym (only_nil P (λ u x. rest.only u (h.complete u x)) t.number s t.texts)) (h.sound [] takes_nil))
    h

no_number : (hit : Hits) (P : Text → Type 0) (least most : ℕ) → most < least → Spells hit (forked no_sides) (Counted P least (Some most))
no_number hit P least most e = record {
  expr = never;
  is = record { ops = refl; empty = refl; fine = tt };
  sound = λ s t. absurd t;
  complete = λ s t. let enough = t.enough in let few : t.number ≤ most = t.few in absurd (omega arith);
}

-- ---- all repeats

some_so : (hit : Hits) (p : Part) (P : Text → Type 0) (least most : ℕ) (b i : Bool) → nat_lt most least ≡ b → (length p.ops == 0) ≡ i → Spells hit p P
    → Spells hit (if b then forked no_sides else if i then p else up_to p least (most - least)) (Counted P least (Some most))
some_so hit p P least most true i e f h = no_number hit P least most (ltb-true most least e)
some_so hit p P least most false true e f h =
    idle_so hit p P least (Some most) (ltb-false most least e) (nil_from_length p.ops (eqb-true (length p.ops) 0 f)) h
some_so hit p P least most false false e f h =
    let order = ltb-false most least e in up_to_so hit p P least (most - least) most (omega arith) h

none_so : (hit : Hits) (p : Part) (P : Text → Type 0) (least : ℕ) (i z : Bool) → (length p.ops == 0) ≡ i → (least == 0) ≡ z → Spells hit p P
    → Spells hit (if i then p else if z then endless p true else from p (least - 1)) (Counted P least None)
none_so hit p P least true z e f h = idle_so hit p P least None tt (nil_from_length p.ops (eqb-true (length p.ops) 0 e)) h
none_so hit p P least false true e f h =
    subst (λ n. Spells hit (endless p true) (Counted P n None)) (sym (eqb-true least 0 f)) (star_so hit p P h)
none_so hit p P least false false e f h =
    let some : least ≢ 0 = eqb-false least 0 f in from_so hit p P (least - 1) least (omega arith) h

most_so : (hit : Hits) (p : Part) (P : Text → Type 0) (least : ℕ) (most : Option ℕ) → Spells hit p P → Spells hit (repeated_most p least most) (Counted P least most)
most_so hit p P least (Some most) h = some_so hit p P least most (nat_lt most least) (length p.ops == 0) refl refl h
most_so hit p P least None h = none_so hit p P least (length p.ops == 0) (least == 0) refl refl h

pub repeated_so : (hit : Hits) (p : Part) (P : Text → Type 0) (times : Times) → Spells hit p P → Spells hit (repeated p times) (Counted P times.least times.most)
repeated_so hit p P times h = most_so hit p P times.least times.most h
