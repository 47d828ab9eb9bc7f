-- Numbers: what code counts up to a cap is the number that the digits write, up to the cap.
use Rattle.std.proofs.Common.{◌≡◌, ℕ, ◌+◌, ◌*◌, ◌-◌, ◌^◌, ◌≤◌, ◌<◌, min, fold, Bool, true, false, cond, List, [], ◌∷◌, Option, Some, None, option_map, refl, sym, ap, ◌∙◌, subst, arith, inl, inr, ◌⊎◌}
use Rattle.std.proofs.lemmas.Bool.{cases_lt}
use Rattle.std.specs.Prelude.{nat_le, ◌&&◌, ◌==◌}
use Rattle.std.specs.Char.{is_ascii_digit}
use Rattle.std.proofs.lemmas.Bool.Decides.{nat_tests}
use Rattle.audit_model.specs.declared.script.Act.TheVariants.{Work}
use Rattle.p21_read.specs.TokenGrammar.{number_of}
use Rattle.reading.specs.Runs.{run}
use Rattle.reading.proofs.Tools.{tested}
use Rattle.script_read.specs.Said.{is_editor, is_id, is_work, begins_with, editor}
use Rattle.script_read.specs.LineForm.{Front, ◌>>=◌, some_run, number, id_of, id, alone, spaced, editor_line, work_of, times, work_line}
use Rattle.script_read.specs.Bytes.{first, counted, capped, capped_number, last_number, as_code}

abbrev cap : ℕ
cap = 0xFFFF_FFFF

abbrev with_digit : ℕ → ℕ → ℕ
with_digit n d = 10 * n + (d - 48)

same_step : (x y k : ℕ) → min x cap ≡ min y cap → min (10 * x + k) cap ≡ min (10 * y + k) cap
same_step x y k e = grind arith

same_fold : (ds : List ℕ) (x y : ℕ) → min x cap ≡ min y cap → min (fold with_digit x ds) cap ≡ min (fold with_digit y ds) cap
same_fold [] x y e = e
same_fold (d ∷ ds) x y e = same_fold ds (with_digit x d) (with_digit y d) (same_step x y (d - 48) e)

twice : (x : ℕ) → min (min x cap) cap ≡ min x cap
twice x = grind arith

within : (x : ℕ) → min x cap ≤ cap
within x = grind arith

small : (x : ℕ) → x ≤ cap → min x cap ≡ x
small x le = grind arith

abbrev count_of : ℕ → List ℕ × List ℕ → ℕ × List ℕ
count_of n r = (min (fold with_digit n r.0) cap, r.1)

count_is : (t : List ℕ) (n : ℕ) → n ≤ cap → counted n t ≡ count_of n (run is_ascii_digit t)
unfolding counted run
count_is [] n le = ap (λ (m : ℕ). (m, [])) (sym (small n le))
count_is (b ∷ t) n le =
    elim (tested (is_ascii_digit b)) [
      | inl is ↦
          let r = run is_ascii_digit t in
          let more = count_is t (min (with_digit n b) cap) (within (with_digit n b)) in
          let same = same_fold r.0 (min (with_digit n b) cap) (with_digit n b) (twice (with_digit n b)) in
          rw is (more ∙ ap (λ (m : ℕ). (m, r.1)) same)
      | inr not ↦ rw not (ap (λ (m : ℕ). (m, b ∷ t)) (sym (small n le)))
    ]

-- ---- a number at the front

digits_first : (b : ℕ) (t : List ℕ) → is_ascii_digit b ≡ true → capped_number (b ∷ t) ≡ Some (counted 0 (b ∷ t))
unfolding capped_number number run
digits_first b t is = let n = count_is (b ∷ t) 0 (omega arith) in rw (n, is) refl

no_digits : (b : ℕ) (t : List ℕ) → is_ascii_digit b ≡ false → capped_number (b ∷ t) ≡ None
unfolding capped_number number run
no_digits b t not = rw not refl

pub number_some : (t : List ℕ) (b : ℕ) → first t ≡ Some b → is_ascii_digit b ≡ true → capped_number t ≡ Some (counted 0 t)
number_some [] b e is = absurd cc
number_some (c ∷ t) b e is = let same : c ≡ b = cc in digits_first c t (ap is_ascii_digit same ∙ is)

pub number_other : (t : List ℕ) (b : ℕ) → first t ≡ Some b → is_ascii_digit b ≡ false → capped_number t ≡ None
number_other [] b e not = absurd cc
number_other (c ∷ t) b e not = let same : c ≡ b = cc in no_digits c t (ap is_ascii_digit same ∙ not)

pub number_none : (t : List ℕ) → first t ≡ None → capped_number t ≡ None
unfolding capped_number number run
number_none [] e = refl
number_none (c ∷ t) e = absurd cc

pub ruleset number_laws = (number_some, number_other, number_none)

-- ---- a number that is all that is left

abbrev some : {A : Type 0} → A → Option A
some x = Some x

some_is : {A : Type 0} (x y : A) → some x ≡ some y → x ≡ y
some_is x y e = cc

-- the number and what is left of a number that was read
number_is : (x y : ℕ × List ℕ) → some x ≡ some y → x.0 ≡ y.0
number_is x y e = ap (λ (q : ℕ × List ℕ). q.0) (some_is x y e)

left_is : (x y : ℕ × List ℕ) → some x ≡ some y → x.1 ≡ y.1
left_is x y e = ap (λ (q : ℕ × List ℕ). q.1) (some_is x y e)

last_is : (x : Front ℕ) (n : ℕ) → option_map capped x ≡ Some (n, []) → option_map (λ m. min m cap) (x >>= alone) ≡ Some n
last_is None n e = absurd cc
last_is (Some (m, [])) n e = ap some (number_is (capped (m, [])) (n, []) e)
last_is (Some (m, b ∷ t)) n e = let l : b ∷ t ≡ [] = left_is (capped (m, b ∷ t)) (n, []) e in absurd cc

last_more : (x : Front ℕ) (n b : ℕ) (t : List ℕ) → option_map capped x ≡ Some (n, b ∷ t) → option_map (λ m. min m cap) (x >>= alone) ≡ None
last_more None n b t e = refl
last_more (Some (m, [])) n b t e = let l : [] ≡ b ∷ t = left_is (capped (m, [])) (n, b ∷ t) e in absurd cc
last_more (Some (m, c ∷ u)) n b t e = refl

last_absent : (x : Front ℕ) → option_map capped x ≡ None → option_map (λ m. min m cap) (x >>= alone) ≡ None
last_absent None e = refl
last_absent (Some x) e = absurd cc

pub last_end : (t u : List ℕ) (n : ℕ) → capped_number t ≡ Some (n, u) → first u ≡ None → last_number t ≡ Some n
unfolding capped_number last_number
last_end t [] n e f = last_is (number t) n e
last_end t (b ∷ u) n e f = absurd cc

pub last_other : (t u : List ℕ) (n b : ℕ) → capped_number t ≡ Some (n, u) → first u ≡ Some b → last_number t ≡ None
unfolding capped_number last_number
last_other t [] n b e f = absurd cc
last_other t (c ∷ u) n b e f = last_more (number t) n c u e

pub last_none : (t : List ℕ) → capped_number t ≡ None → last_number t ≡ None
unfolding capped_number last_number
last_none t e = last_absent (number t) e

pub ruleset last_laws = (last_end, last_other, last_none)

-- ---- the number of an instance

in_range : (n : ℕ) → 1 ≤ n → n < 2 ^ 31 → is_id n ≡ true
in_range n low high = grind (arith, nat_tests)

out_of_range : (n : ℕ) → ((1 ≤ n) × (n < 2 ^ 31) → ⊥) → is_id n ≡ false
out_of_range n not = grind (arith, nat_tests)

uncapped : (m n : ℕ) → min m cap ≡ n → n < cap → m ≡ n
uncapped m n e lt = grind arith

still_out : (m n : ℕ) → min m cap ≡ n → ((1 ≤ n) × (n < 2 ^ 31) → ⊥) → (1 ≤ m) × (m < 2 ^ 31) → ⊥
still_out m n e not is =
    let same : m ≡ n = sym (small m (omega (arith, is.1))) ∙ e in
    not (subst (λ (k : ℕ). (1 ≤ k) × (k < 2 ^ 31)) same is)

id_is : (x : Front ℕ) (n : ℕ) (u : List ℕ) → option_map capped x ≡ Some (n, u) → 1 ≤ n → n < 2 ^ 31 → (x >>= id_of) ≡ Some (n, u)
id_is None n u e low high = absurd cc
id_is (Some (m, w)) n u e low high =
    let left : w ≡ u = left_is (capped (m, w)) (n, u) e in
    let exact : m ≡ n = uncapped m n (number_is (capped (m, w)) (n, u) e) (omega (arith, high)) in
    let is : is_id m ≡ true = ap is_id exact ∙ in_range n low high in
    rw is (ap some (ap (λ (k : ℕ). (k, w)) exact ∙ ap (λ (k : List ℕ). (n, k)) left))

id_out : (x : Front ℕ) (n : ℕ) (u : List ℕ) → option_map capped x ≡ Some (n, u) → ((1 ≤ n) × (n < 2 ^ 31) → ⊥) → (x >>= id_of) ≡ None
id_out None n u e not = refl
id_out (Some (m, w)) n u e not =
    let is : is_id m ≡ false = out_of_range m (still_out m n (number_is (capped (m, w)) (n, u) e) not) in
    rw is refl

id_absent : (x : Front ℕ) → option_map capped x ≡ None → (x >>= id_of) ≡ None
id_absent None e = refl
id_absent (Some x) e = absurd cc

pub id_some : (t r u : List ℕ) (n : ℕ) → t ≡ 35 ∷ r → capped_number r ≡ Some (n, u) → 1 ≤ n → n < 2 ^ 31 → id t ≡ Some (n, u)
unfolding id capped_number
id_some t r u n same e low high = rw same (id_is (number r) n u e low high)

pub id_other : (t r u : List ℕ) (n : ℕ) → t ≡ 35 ∷ r → capped_number r ≡ Some (n, u) → ((1 ≤ n) × (n < 2 ^ 31) → ⊥) → id t ≡ None
unfolding id capped_number
id_other t r u n same e not = rw same (id_out (number r) n u e not)

pub id_none : (t r : List ℕ) → t ≡ 35 ∷ r → capped_number r ≡ None → id t ≡ None
unfolding id capped_number
id_none t r same e = rw same (id_absent (number r) e)

no_sign : (t r : List ℕ) (b : ℕ) → t ≡ b ∷ r → (b == 35) ≡ false → id t ≡ None
unfolding id
no_sign t r b same not = rw (same, not) refl

pub id_sign : (t r : List ℕ) (b : ℕ) → t ≡ b ∷ r → (b ≡ 35 → ⊥) → id t ≡ None
id_sign t r b same not = no_sign t r b same (grind (arith, nat_tests))

pub id_empty : (t : List ℕ) → t ≡ [] → id t ≡ None
unfolding id
id_empty t same = rw same refl

pub ruleset id_laws = (id_some, id_other, id_none, id_sign, id_empty)

-- ---- `editor K`

past_editors : (k : ℕ) → 16 < k → is_editor k ≡ false
past_editors k far = grind (arith, nat_tests)

named : (m n : ℕ) → min m cap ≡ n → as_code (editor m) ≡ as_code (editor n)
named m n e =
    elim (cases_lt m cap) [
      | inl lt ↦ ap (λ (k : ℕ). as_code (editor k)) (sym (small m (omega (arith, lt))) ∙ e)
      | inr ge ↦
          let far : is_editor m ≡ false = past_editors m (omega (arith, ge)) in
          let far_too : is_editor n ≡ false = past_editors n (grind arith) in
          rw (far, far_too) refl
    ]

editor_is : (x : Option ℕ) (n : ℕ) → option_map (λ m. min m cap) x ≡ Some n → option_map as_code (x >>= λ k. Some (editor k)) ≡ Some (as_code (editor n))
editor_is None n e = absurd cc
editor_is (Some m) n e = let same = some_is (min m cap) n e in ap some (named m n same)

editor_absent : (x : Option ℕ) → option_map (λ m. min m cap) x ≡ None → option_map as_code (x >>= λ k. Some (editor k)) ≡ None
editor_absent None e = refl
editor_absent (Some m) e = absurd cc

pub editor_some : (t r : List ℕ) (n : ℕ) → spaced t ≡ Some r → last_number r ≡ Some n → option_map as_code (editor_line t) ≡ Some (as_code (editor n))
unfolding editor_line last_number
editor_some t r n s e = rw s (editor_is (number r >>= alone) n e)

pub editor_other : (t r : List ℕ) → spaced t ≡ Some r → last_number r ≡ None → option_map as_code (editor_line t) ≡ None
unfolding editor_line last_number
editor_other t r s e = rw s (editor_absent (number r >>= alone) e)

pub editor_none : (t : List ℕ) → spaced t ≡ None → option_map as_code (editor_line t) ≡ None
unfolding editor_line
editor_none t s = rw s refl

pub ruleset editor_laws = (editor_some, editor_other, editor_none)

-- ---- `work N`

work_within : (n : ℕ) → is_work n ≡ true → n < cap
work_within n is = grind (arith, nat_tests)

work_past : (m : ℕ) → 1000000 < m → is_work m ≡ false
work_past m far = grind (arith, nat_tests)

work_is : (x : Option ℕ) (n : ℕ) → option_map (λ m. min m cap) x ≡ Some n → is_work n ≡ true → (x >>= work_of) ≡ Some (Work n)
work_is None n e fits = absurd cc
work_is (Some m) n e fits =
    let exact : m ≡ n = uncapped m n (some_is (min m cap) n e) (work_within n fits) in
    let is : is_work m ≡ true = ap is_work exact ∙ fits in
    rw is (ap (λ (k : ℕ). some (Work k)) exact)

out_too : (m n : ℕ) → min m cap ≡ n → is_work n ≡ false → is_work m ≡ false
out_too m n e out =
    elim (cases_lt m cap) [
      | inl lt ↦ ap is_work (sym (small m (omega (arith, lt))) ∙ e) ∙ out
      | inr ge ↦ work_past m (omega (arith, ge))
    ]

work_out : (x : Option ℕ) (n : ℕ) → option_map (λ m. min m cap) x ≡ Some n → is_work n ≡ false → (x >>= work_of) ≡ None
work_out None n e out = refl
work_out (Some m) n e out = let is = out_too m n (some_is (min m cap) n e) out in rw is refl

work_absent : (x : Option ℕ) → option_map (λ m. min m cap) x ≡ None → (x >>= work_of) ≡ None
work_absent None e = refl
work_absent (Some m) e = absurd cc

pub work_some : (t r : List ℕ) (n : ℕ) → spaced t ≡ Some r → begins_with 48 r ≡ false → last_number r ≡ Some n → is_work n ≡ true → work_line t ≡ Some (Work n)
unfolding work_line times last_number
work_some t r n s z e fits = rw (s, z) (work_is (number r >>= alone) n e fits)

pub work_far : (t r : List ℕ) (n : ℕ) → spaced t ≡ Some r → begins_with 48 r ≡ false → last_number r ≡ Some n → is_work n ≡ false → work_line t ≡ None
unfolding work_line times last_number
work_far t r n s z e out = rw (s, z) (work_out (number r >>= alone) n e out)

pub work_other : (t r : List ℕ) → spaced t ≡ Some r → begins_with 48 r ≡ false → last_number r ≡ None → work_line t ≡ None
unfolding work_line times last_number
work_other t r s z e = rw (s, z) (work_absent (number r >>= alone) e)

pub work_zero : (t r : List ℕ) → spaced t ≡ Some r → begins_with 48 r ≡ true → work_line t ≡ None
unfolding work_line times
work_zero t r s z = rw (s, z) refl

pub work_none : (t : List ℕ) → spaced t ≡ None → work_line t ≡ None
unfolding work_line
work_none t s = rw s refl

pub ruleset work_laws = (work_some, work_far, work_other, work_zero, work_none)
