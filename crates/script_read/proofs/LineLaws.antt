-- What a line says is what its form says, and the other way round.
use Rattle.std.proofs.Common.{◌≡◌, ℕ, suc, ◌<◌, Bool, true, false, cond, List, [], ◌∷◌, ◌++◌, length, take, drop, Option, Some, None, option_map, Result, Ok, Err, refl, sym, ap, ◌∙◌, subst, arith, inl, inr, ◌⊎◌}
use Rattle.std.specs.Prelude.{◌==◌, ◌||◌, ◌&&◌, codes}
use Rattle.std.specs.Char.{is_ascii_digit}
use Rattle.std.specs.List.{list_all}
use Rattle.std.specs.Option.{option_or}
use Rattle.std.specs.Result.{result_ok}
use Rattle.std.specs.Str.{bytes_eq, is_utf8}
use Rattle.std.proofs.lemmas.Bool.{eqb-true, and_parts}
use Rattle.std.proofs.lemmas.List.{take-append-drop, append-nil}
use Rattle.std.proofs.lemmas.Slice.Eq.{bytes_eq-Decides}
use Rattle.audit_model.specs.declared.commit.Edit.TheVariants.{Add, Set, Remove}
use Rattle.audit_model.specs.declared.script.Act.{Act}
use Rattle.audit_model.specs.declared.script.Act.TheVariants.{Begin, Change, Commit, Publish, Take, Give, Work}
use Rattle.ifc_base.specs.declared.value.Instance.{Instance}
use Rattle.ifc_base.specs.declared.value.Value.{Value}
use Rattle.p21_read.specs.Grammar.{ReadsInstance, ReadsValue}
use Rattle.p21_read.specs.Readings.{instance_reading, value_reading}
use Rattle.p21_read.specs.TokenGrammar.{number_of}
use Rattle.p21_read.proofs.ReadLaws.{instance_reading_sound, instance_reading_complete, value_reading_sound, value_reading_complete}
use Rattle.reading.specs.Runs.{begins, IsRun, run}
use Rattle.reading.proofs.RunLaws.{run_is, run_only}
use Rattle.reading.proofs.Tools.{tested}
use Rattle.script_read.specs.Said.{Said, nothing, editor, does, sync, is_blank, is_name, is_editor, is_work, is_id, begins_with, is_empty}
use Rattle.script_read.specs.LineGrammar.{AreBlanks, AreDigits, IsAttribute, IsAdded, HasForm, Says}
use Rattle.script_read.specs.LineForm.{Front, ◌>>=◌, behind, behind_blank, past_blanks, spaced, some_run, number, only_if, id_of, id, attribute, alone, editor_line, work_of, times, work_line, remove_line, instance_in, added, add_line, value_in, set_value, set_attribute, set_line, found_or, word_line, longer_line, act_line, form, meaning}

-- ---- steps

abbrev some : {A : Type 0} → A → Option A
some x = Some x

same_some : {A : Type 0} (x y : A) → some x ≡ some y → x ≡ y
same_some x y e = cc

bound : {A B : Type 0} {o : Option A} {f : A → Option B} {y : B} → (o >>= f) ≡ Some y → (x : A) × (o ≡ Some x) × (f x ≡ Some y)
bound {o = None} e = absurd cc
bound {o = Some x} e = (x, refl, e)

mapped : {A B : Type 0} (f : A → B) (o : Option A) (y : B) → option_map f o ≡ Some y → (x : A) × (o ≡ Some x) × (f x ≡ y)
mapped f None y e = absurd cc
mapped f (Some x) y e = (x, refl, same_some (f x) y e)

found_is : {A B : Type 0} (o : Option A) (f : A → Option B) (other : Option B) (y : B) → found_or o f other ≡ Some y → ((x : A) × (o ≡ Some x) × (f x ≡ Some y)) ⊎ (other ≡ Some y)
found_is None f other y e = inr e
found_is (Some x) f other y e = inl (x, refl, e)

went : {A : Type 0} (b : Bool) (x z : Option A) (y : A) → cond b x z ≡ Some y → ((b ≡ true) × (x ≡ Some y)) ⊎ (z ≡ Some y)
went true x z y e = inl (refl, e)
went false x z y e = inr e

kept : {A : Type 0} (b : Bool) (x y : A) → cond b (some x) None ≡ Some y → (b ≡ true) × (x ≡ y)
kept true x y e = (refl, same_some x y e)
kept false x y e = absurd cc

same_bytes : (xs ys : List ℕ) → bytes_eq xs ys ≡ true → xs ≡ ys
same_bytes xs ys e = grind (arith, bytes_eq-Decides)

-- ---- classes

blank_cases : (c : ℕ) → is_blank c ≡ true → (c ≡ 32) ⊎ (c ≡ 9)
unfolding is_blank
blank_cases c is =
    elim (tested (c == 32)) [
      | inl e ↦ inl (eqb-true c 32 e)
      | inr not ↦ let e : (c == 9) ≡ true = ap (λ (b : Bool). b || (c == 9)) (sym not) ∙ is in inr (eqb-true c 9 e)
    ]

not_of : (class : ℕ → Bool) → class 32 ≡ false → class 9 ≡ false → (c : ℕ) → is_blank c ≡ true → class c ≡ false
not_of class a b c is =
    elim (blank_cases c is) [
      | inl e ↦ ap class e ∙ a
      | inr e ↦ ap class e ∙ b
    ]

no_blank : (class : ℕ → Bool) → class 32 ≡ false → class 9 ≡ false → (c : ℕ) → class c ≡ true → is_blank c ≡ false
no_blank class a b c is =
    elim (tested (is_blank c)) [
      | inl blank ↦ let e = not_of class a b c blank in absurd cc
      | inr not ↦ not
    ]

name_space : is_name 32 ≡ false
unfolding is_name
name_space = refl

name_tab : is_name 9 ≡ false
unfolding is_name
name_tab = refl

first_of : (class : ℕ → Bool) (c : ℕ) (cs : List ℕ) → list_all class (c ∷ cs) ≡ true → class c ≡ true
first_of class c cs all = (let a = and_parts (class c) (list_all class cs) all in a.0)

rest_of : (class : ℕ → Bool) (c : ℕ) (cs : List ℕ) → list_all class (c ∷ cs) ≡ true → list_all class cs ≡ true
rest_of class c cs all = (let a = and_parts (class c) (list_all class cs) all in a.1)

-- a text that begins with some of one class begins with none of another
begins_other : (class other : ℕ → Bool) → ((c : ℕ) → class c ≡ true → other c ≡ false) → (cs t : List ℕ) → 0 < length cs → list_all class cs ≡ true → begins other (cs ++ t) ≡ false
begins_other class other not [] t some all = absurd (omega arith)
begins_other class other not (c ∷ cs) t some all = not c (first_of class c cs all)

-- ---- blanks

past_is : (t : List ℕ) → (bs : List ℕ) × (t ≡ bs ++ past_blanks t) × (list_all is_blank bs ≡ true)
unfolding past_blanks
past_is [] = ([], refl, refl)
past_is (b ∷ t) =
    elim (tested (is_blank b)) [
      | inl is ↦ let p = past_is t in rw is (b ∷ p.0, ap (λ (u : List ℕ). b ∷ u) p.1, (let all : list_all is_blank (b ∷ p.0) ≡ true = rw is p.2 in all))
      | inr not ↦ rw not ([], refl, refl)
    ]

past_same : (bs u : List ℕ) → list_all is_blank bs ≡ true → begins is_blank u ≡ false → past_blanks (bs ++ u) ≡ u
unfolding past_blanks
past_same [] [] all not = refl
past_same [] (c ∷ u) all not = rw not refl
past_same (b ∷ bs) u all not = let is = first_of is_blank b bs all in rw is (past_same bs u (rest_of is_blank b bs all) not)

record IsSpaced (t u : List ℕ) : Type 0 where
  bs : List ℕ
  parts : t ≡ bs ++ u
  blanks : AreBlanks bs

spaced_is : (t u : List ℕ) → spaced t ≡ Some u → IsSpaced t u
unfolding spaced behind_blank
spaced_is [] u e = absurd cc
spaced_is (b ∷ t) u e =
    let m = mapped past_blanks (cond (is_blank b) (some t) None) u e in
    let k = kept (is_blank b) t m.0 m.1 in
    let p = past_is t in
    let left : past_blanks t ≡ u = ap past_blanks k.1 ∙ m.2 in
    let all : list_all is_blank (b ∷ p.0) ≡ true = rw k.0 p.2 in
    record { bs = b ∷ p.0; parts = ap (λ (x : List ℕ). b ∷ x) (p.1 ∙ ap (λ (x : List ℕ). p.0 ++ x) left); blanks = record { some = omega arith; all = all } }

spaced_same : (bs u : List ℕ) → AreBlanks bs → begins is_blank u ≡ false → spaced (bs ++ u) ≡ Some u
unfolding spaced behind_blank
spaced_same [] u are not = absurd (omega (arith, are.some))
spaced_same (b ∷ bs) u are not =
    let is = first_of is_blank b bs are.all in
    rw is (ap some (past_same bs u (rest_of is_blank b bs are.all) not))

blank_is : (t u : List ℕ) → behind_blank t ≡ Some u → (b : ℕ) × (t ≡ b ∷ u) × (is_blank b ≡ true)
unfolding behind_blank
blank_is [] u e = absurd cc
blank_is (b ∷ t) u e = let k = kept (is_blank b) t u e in (b, ap (λ (x : List ℕ). b ∷ x) k.1, k.0)

blank_same : (b : ℕ) (t : List ℕ) → is_blank b ≡ true → behind_blank (b ∷ t) ≡ Some t
unfolding behind_blank
blank_same b t is = rw is refl

-- ---- numbers and names

record IsSome {A : Type 0} (f : List ℕ → A) (r : List ℕ × List ℕ) (y : A × List ℕ) : Type 0 where
  c : ℕ
  cs : List ℕ
  letters : r.0 ≡ c ∷ cs
  value : y.0 ≡ f (c ∷ cs)
  left : y.1 ≡ r.1

run_some : {A : Type 0} (f : List ℕ → A) (r : List ℕ × List ℕ) (y : A × List ℕ) → some_run f r ≡ Some y → IsSome f r y
run_some f ([], t) y e = absurd cc
run_some f (c ∷ cs, t) y e =
    let same = same_some (f (c ∷ cs), t) y e in
    record { c = c; cs = cs; letters = refl; value = sym (ap (λ (p : _ × List ℕ). p.0) same); left = sym (ap (λ (p : _ × List ℕ). p.1) same) }

record IsNumbered (t : List ℕ) (y : ℕ × List ℕ) : Type 0 where
  ds : List ℕ
  parts : t ≡ ds ++ y.1
  digits : AreDigits ds
  value : y.0 ≡ number_of ds

number_is : (t : List ℕ) (y : ℕ × List ℕ) → number t ≡ Some y → IsNumbered t y
unfolding number
number_is t y e =
    let r = run_is is_ascii_digit t in
    let s = run_some number_of (run is_ascii_digit t) y e in
    let all : list_all is_ascii_digit (s.c ∷ s.cs) ≡ true = subst (λ (l : List ℕ). list_all is_ascii_digit l ≡ true) s.letters r.all in
    let parts : t ≡ (s.c ∷ s.cs) ++ y.1 = r.parts ∙ ap (λ (l : List ℕ). l ++ (run is_ascii_digit t).1) s.letters ∙ ap (λ (l : List ℕ). (s.c ∷ s.cs) ++ l) (sym s.left) in
    record { ds = s.c ∷ s.cs; parts = parts; digits = record { some = omega arith; all = all }; value = s.value }

run_same : (class : ℕ → Bool) (xs u : List ℕ) → list_all class xs ≡ true → begins class u ≡ false → run class (xs ++ u) ≡ (xs, u)
run_same class xs u all not = run_only (let r : IsRun class (xs ++ u) xs u = record { parts = refl; all = all; longest = not } in r)

some_run_same : {A : Type 0} (f : List ℕ → A) (xs u : List ℕ) → 0 < length xs → some_run f (xs, u) ≡ Some (f xs, u)
some_run_same f [] u some = absurd (omega arith)
some_run_same f (x ∷ xs) u some = refl

number_same : (ds u : List ℕ) → AreDigits ds → begins is_ascii_digit u ≡ false → number (ds ++ u) ≡ Some (number_of ds, u)
unfolding number
number_same ds u are not = let r = run_same is_ascii_digit ds u are.all not in rw r (some_run_same number_of ds u are.some)

record IsNamed (t : List ℕ) (y : List ℕ × List ℕ) : Type 0 where
  parts : t ≡ y.0 ++ y.1
  name : IsAttribute y.0

no_digit : (c : ℕ) (cs : List ℕ) → is_ascii_digit c ≡ false → (d : ℕ) (u : List ℕ) → (c ∷ cs) ≡ d ∷ u → is_ascii_digit d ≡ false
no_digit c cs not d u e = let same : c ≡ d = cc in ap is_ascii_digit (sym same) ∙ not

first_same : (c d : ℕ) (t ds u : List ℕ) → (c ∷ t) ≡ (d ∷ ds) ++ u → d ≡ c
first_same c d t ds u e = cc

attribute_is : (t : List ℕ) (y : List ℕ × List ℕ) → attribute t ≡ Some y → IsNamed t y
unfolding attribute
attribute_is [] y e = absurd cc
attribute_is (c ∷ t) y e =
    elim (tested (is_ascii_digit c)) [
      | inl is ↦ let f : (let o : Option (List ℕ × List ℕ) = None in o) ≡ Some y = (ap (λ (b : Bool). cond b None (some_run (λ name. name) (run is_name (c ∷ t)))) (sym is)) ∙ e in absurd cc
      | inr not ↦
          let f : some_run (λ name. name) (run is_name (c ∷ t)) ≡ Some y = (ap (λ (b : Bool). cond b None (some_run (λ name. name) (run is_name (c ∷ t)))) (sym not)) ∙ e in
          let r = run_is is_name (c ∷ t) in
          let s = run_some (λ name. name) (run is_name (c ∷ t)) y f in
          let same : (run is_name (c ∷ t)).0 ≡ y.0 = s.letters ∙ sym s.value in
          let parts : (c ∷ t) ≡ y.0 ++ y.1 = r.parts ∙ ap (λ (l : List ℕ). l ++ (run is_name (c ∷ t)).1) same ∙ ap (λ (l : List ℕ). y.0 ++ l) (sym s.left) in
          let first : s.c ≡ c = first_same c s.c t s.cs y.1 (parts ∙ ap (λ (l : List ℕ). l ++ y.1) s.value) in
          let named : IsAttribute (s.c ∷ s.cs) = record {
            some = omega arith;
            all = subst (λ (l : List ℕ). list_all is_name l ≡ true) s.letters r.all;
            first = no_digit s.c s.cs (ap is_ascii_digit first ∙ not);
          } in
          record { parts = parts; name = subst IsAttribute (sym s.value) named }
    ]

attribute_same : (name u : List ℕ) → IsAttribute name → begins is_name u ≡ false → attribute (name ++ u) ≡ Some (name, u)
unfolding attribute
attribute_same [] u is not = absurd (omega (arith, is.some))
attribute_same (c ∷ cs) u is not =
    let r = run_same is_name (c ∷ cs) u is.all not in
    let d = is.first c cs refl in
    rw (d, r) refl

id_is : (t : List ℕ) (y : ℕ × List ℕ) → id t ≡ Some y → (u : List ℕ) × (t ≡ 35 ∷ u) × IsNumbered u y × (is_id y.0 ≡ true)
unfolding id
id_is [] y e = absurd cc
id_is (c ∷ t) y e =
    elim (tested (c == 35)) [
      | inl is ↦
          let f : (number t >>= id_of) ≡ Some y = (ap (λ (b : Bool). cond b (number t >>= id_of) None) (sym is)) ∙ e in
          let b = bound {o = number t} f in
          let k = kept (is_id b.0.0) b.0 y b.2 in
          let n = number_is t b.0 b.1 in
          (t, ap (λ (d : ℕ). d ∷ t) (eqb-true c 35 is), subst (λ (x : ℕ × List ℕ). IsNumbered t x) k.1 n, ap (λ (x : ℕ × List ℕ). is_id x.0) (sym k.1) ∙ k.0)
      | inr not ↦ let f : (let o : Option (ℕ × List ℕ) = None in o) ≡ Some y = (ap (λ (b : Bool). cond b (number t >>= id_of) None) (sym not)) ∙ e in absurd cc
    ]

id_same : (ds u : List ℕ) → AreDigits ds → is_id (number_of ds) ≡ true → begins is_ascii_digit u ≡ false → id (35 ∷ ds ++ u) ≡ Some (number_of ds, u)
unfolding id
id_same ds u are is not = let n = number_same ds u are not in rw (n, is) refl

alone_is : {A : Type 0} (y : A × List ℕ) (x : A) → alone y ≡ Some x → (y.0 ≡ x) × (y.1 ≡ [])
alone_is (z, []) x e = (same_some z x e, refl)
alone_is (z, b ∷ t) x e = absurd cc

-- ---- behind the words of a line

record IsEditorLine (t : List ℕ) (said : Said) : Type 0 where
  bs : List ℕ
  ds : List ℕ
  parts : t ≡ bs ++ ds
  blanks : AreBlanks bs
  digits : AreDigits ds
  value : editor (number_of ds) ≡ said

-- a number that is all that is left
whole_is : (t : List ℕ) (n : ℕ) → (number t >>= alone) ≡ Some n → AreDigits t × (number_of t ≡ n)
whole_is t n e =
    let b = bound {o = number t} e in
    let a = alone_is b.0 n b.2 in
    let m = number_is t b.0 b.1 in
    let same : t ≡ m.ds = m.parts ∙ ap (λ (l : List ℕ). m.ds ++ l) a.1 ∙ append-nil m.ds in
    (subst AreDigits (sym same) m.digits, ap number_of same ∙ sym m.value ∙ a.0)

whole_same : (ds : List ℕ) → AreDigits ds → (number ds >>= alone) ≡ Some (number_of ds)
whole_same ds are =
    let n : number (ds ++ []) ≡ Some (number_of ds, []) = number_same ds [] are refl in
    let m : number ds ≡ Some (number_of ds, []) = ap number (sym (append-nil ds)) ∙ n in
    rw m refl

digits_no_blank : (ds u : List ℕ) → AreDigits ds → begins is_blank (ds ++ u) ≡ false
digits_no_blank ds u are = begins_other is_ascii_digit is_blank (no_blank is_ascii_digit refl refl) ds u are.some are.all

digits_alone : (ds : List ℕ) → AreDigits ds → begins is_blank ds ≡ false
digits_alone ds are = ap (begins is_blank) (sym (append-nil ds)) ∙ digits_no_blank ds [] are

editor_is : (t : List ℕ) (said : Said) → editor_line t ≡ Some said → IsEditorLine t said
unfolding editor_line
editor_is t said e =
    let k = bound {o = spaced t >>= number >>= alone} e in
    let a = bound {o = spaced t >>= number} k.1 in
    let n = bound {o = spaced t} a.1 in
    let s = spaced_is t n.0 n.1 in
    let both : (number n.0 >>= alone) ≡ Some k.0 = ap (λ (o : Option (ℕ × List ℕ)). o >>= alone) n.2 ∙ a.2 in
    let w = whole_is n.0 k.0 both in
    record { bs = s.bs; ds = n.0; parts = s.parts; blanks = s.blanks; digits = w.0; value = ap editor w.1 ∙ same_some (editor k.0) said k.2 }

editor_same : (bs ds : List ℕ) → AreBlanks bs → AreDigits ds → editor_line (bs ++ ds) ≡ Some (editor (number_of ds))
unfolding editor_line
editor_same bs ds blanks digits =
    let s = spaced_same bs ds blanks (digits_alone ds digits) in
    let w = whole_same ds digits in
    rw s (ap (λ (o : Option ℕ). o >>= λ k. some (editor k)) w)

record IsWorkLine (t : List ℕ) (act : Act) : Type 0 where
  bs : List ℕ
  ds : List ℕ
  parts : t ≡ bs ++ ds
  blanks : AreBlanks bs
  digits : AreDigits ds
  no_zero : begins_with 48 ds ≡ false
  fits : is_work (number_of ds) ≡ true
  value : Work (number_of ds) ≡ act

otherwise : {A : Type 0} (b : Bool) (x : Option A) (y : A) → cond b None x ≡ Some y → (b ≡ false) × (x ≡ Some y)
otherwise true x y e = absurd cc
otherwise false x y e = (refl, e)

times_is : (t : List ℕ) (n : ℕ) → times t ≡ Some n → (begins_with 48 t ≡ false) × AreDigits t × (number_of t ≡ n)
unfolding times
times_is t n e = let o = otherwise (begins_with 48 t) (number t >>= alone) n e in let w = whole_is t n o.1 in (o.0, w.0, w.1)

work_is : (t : List ℕ) (act : Act) → work_line t ≡ Some act → IsWorkLine t act
unfolding work_line
work_is t act e =
    let k = bound {o = spaced t >>= times} e in
    let n = bound {o = spaced t} k.1 in
    let s = spaced_is t n.0 n.1 in
    let w = times_is n.0 k.0 n.2 in
    let f = kept (is_work k.0) (Work k.0) act k.2 in
    record { bs = s.bs; ds = n.0; parts = s.parts; blanks = s.blanks; digits = w.1; no_zero = w.0; fits = ap is_work w.2 ∙ f.0; value = ap Work w.2 ∙ f.1 }

work_same : (bs ds : List ℕ) → AreBlanks bs → AreDigits ds → begins_with 48 ds ≡ false → is_work (number_of ds) ≡ true → work_line (bs ++ ds) ≡ Some (Work (number_of ds))
unfolding work_line times
work_same bs ds blanks digits zero fits =
    let s = spaced_same bs ds blanks (digits_alone ds digits) in
    let w = whole_same ds digits in
    rw (s, zero) (ap (λ (o : Option ℕ). o >>= work_of) w ∙ (rw fits refl))

record IsRemoveLine (t : List ℕ) (act : Act) : Type 0 where
  bs : List ℕ
  ds : List ℕ
  parts : t ≡ bs ++ 35 ∷ ds
  blanks : AreBlanks bs
  digits : AreDigits ds
  in_range : is_id (number_of ds) ≡ true
  value : Change (Remove (number_of ds)) ≡ act

remove_is : (t : List ℕ) (act : Act) → remove_line t ≡ Some act → IsRemoveLine t act
unfolding remove_line
remove_is t act e =
    let k = bound {o = spaced t >>= id >>= alone} e in
    let a = bound {o = spaced t >>= id} k.1 in
    let n = bound {o = spaced t} a.1 in
    let s = spaced_is t n.0 n.1 in
    let i = id_is n.0 a.0 n.2 in
    let w = alone_is a.0 k.0 a.2 in
    let m = i.2 in
    let left : i.0 ≡ m.ds = m.parts ∙ ap (λ (l : List ℕ). m.ds ++ l) w.1 ∙ append-nil m.ds in
    let value : number_of m.ds ≡ k.0 = sym m.value ∙ w.0 in
    record {
      bs = s.bs;
      ds = m.ds;
      parts = s.parts ∙ ap (λ (l : List ℕ). s.bs ++ l) (i.1 ∙ ap (λ (l : List ℕ). 35 ∷ l) left);
      blanks = s.blanks;
      digits = m.digits;
      in_range = ap is_id (sym m.value) ∙ i.3;
      value = ap (λ (x : ℕ). Change (Remove x)) value ∙ same_some (Change (Remove k.0)) act k.2;
    }

remove_same : (bs ds : List ℕ) → AreBlanks bs → AreDigits ds → is_id (number_of ds) ≡ true → remove_line (bs ++ 35 ∷ ds) ≡ Some (Change (Remove (number_of ds)))
unfolding remove_line is_blank
remove_same bs ds blanks digits is =
    let s = spaced_same bs (35 ∷ ds) blanks refl in
    let i : id (35 ∷ ds ++ []) ≡ Some (number_of ds, []) = id_same ds [] digits is refl in
    let j : id (35 ∷ ds) ≡ Some (number_of ds, []) = ap (λ (l : List ℕ). id (35 ∷ l)) (sym (append-nil ds)) ∙ i in
    rw (s, j) refl

-- ---- instances and values

ok_of : {A F : Type 0} (r : Result A F) (x : A) → result_ok r ≡ Some x → r ≡ Ok x
ok_of (Ok y) x e = let same = same_some y x e in ap (λ (z : _). let r : Result _ _ = Ok z in r) same
ok_of (Err f) x e = absurd cc

instance_is : (text : List ℕ) (x : Instance) → instance_in text ≡ Some x → ReadsInstance text x
instance_is text x e = instance_reading_sound text x (ok_of (instance_reading text) x e)

instance_same : (text : List ℕ) (x : Instance) → ReadsInstance text x → instance_in text ≡ Some x
instance_same text x r = ap result_ok (instance_reading_complete text x r)

no_instance : (text : List ℕ) → instance_in text ≡ None → (y : Instance) → ReadsInstance text y → ⊥
no_instance text e y r = let s = instance_same text y r in absurd cc

absent : (text : List ℕ) (o : Option Instance) → instance_in text ≡ o → ((y : Instance) → ReadsInstance text y → ⊥) → o ≡ None
absent text None e not = refl
absent text (Some y) e not = absurd (not y (instance_is text y e))

added_by : (text : List ℕ) (o : Option Instance) (x : Instance) → instance_in text ≡ o → option_or o (instance_in (text ++ codes ";")) ≡ Some x → IsAdded text x
added_by text (Some y) x e f = IsAdded.whole text x (instance_is text x (e ∙ f))
added_by text None x e f = IsAdded.short text x (no_instance text e) (instance_is (text ++ codes ";") x f)

added_is : (text : List ℕ) (x : Instance) → added text ≡ Some x → IsAdded text x
unfolding added
added_is text x e = added_by text (instance_in text) x refl e

added_same : {text : List ℕ} {x : Instance} → IsAdded text x → added text ≡ Some x
unfolding added
added_same (IsAdded.whole text x r) = let s = instance_same text x r in ap (λ (o : Option Instance). option_or o (instance_in (text ++ codes ";"))) s
added_same (IsAdded.short text x not r) =
    let n : instance_in text ≡ None = absent text (instance_in text) refl not in
    ap (λ (o : Option Instance). option_or o (instance_in (text ++ codes ";"))) n ∙ instance_same (text ++ codes ";") x r

value_is : (text : List ℕ) (x : Value) → value_in text ≡ Some x → ReadsValue text x
value_is text x e = value_reading_sound text x (ok_of (value_reading text) x e)

value_same : (text : List ℕ) (x : Value) → ReadsValue text x → value_in text ≡ Some x
value_same text x r = ap result_ok (value_reading_complete text x r)

record IsAddLine (t : List ℕ) (act : Act) : Type 0 where
  b : ℕ
  text : List ℕ
  x : Instance
  parts : t ≡ b ∷ text
  blank : is_blank b ≡ true
  spelled : IsAdded text x
  value : Change (Add x) ≡ act

add_is : (t : List ℕ) (act : Act) → add_line t ≡ Some act → IsAddLine t act
unfolding add_line
add_is t act e =
    let k = bound {o = behind_blank t >>= added} e in
    let n = bound {o = behind_blank t} k.1 in
    let s = blank_is t n.0 n.1 in
    record { b = s.0; text = n.0; x = k.0; parts = s.1; blank = s.2; spelled = added_is n.0 k.0 n.2; value = same_some (Change (Add k.0)) act k.2 }

add_same : (b : ℕ) (text : List ℕ) (x : Instance) → is_blank b ≡ true → IsAdded text x → add_line (b ∷ text) ≡ Some (Change (Add x))
unfolding add_line
add_same b text x is r = let s = blank_same b text is in let a = added_same r in rw (s, a) refl

record IsSetLine (t : List ℕ) (act : Act) : Type 0 where
  bs : List ℕ
  ds : List ℕ
  cs : List ℕ
  name : List ℕ
  b : ℕ
  text : List ℕ
  x : Value
  parts : t ≡ bs ++ (35 ∷ ds ++ (cs ++ (name ++ (b ∷ text))))
  blanks : AreBlanks bs
  digits : AreDigits ds
  in_range : is_id (number_of ds) ≡ true
  more_blanks : AreBlanks cs
  attribute : IsAttribute name
  blank : is_blank b ≡ true
  spelled : ReadsValue text x
  value : Change (Set (number_of ds) name x) ≡ act

set_is : (t : List ℕ) (act : Act) → set_line t ≡ Some act → IsSetLine t act
unfolding set_line
set_is t act e =
    let i = bound {o = spaced t >>= id} e in
    let n = bound {o = spaced t} i.1 in
    let s = spaced_is t n.0 n.1 in
    let d = id_is n.0 i.0 n.2 in
    let m = d.2 in
    let a = bound {o = spaced i.0.1 >>= attribute} i.2 in
    let p = bound {o = spaced i.0.1} a.1 in
    let q = spaced_is i.0.1 p.0 p.1 in
    let w = attribute_is p.0 a.0 p.2 in
    let v = bound {o = behind_blank a.0.1 >>= value_in} a.2 in
    let u = bound {o = behind_blank a.0.1} v.1 in
    let g = blank_is a.0.1 u.0 u.1 in
    let last : p.0 ≡ a.0.0 ++ (g.0 ∷ u.0) = w.parts ∙ ap (λ (l : List ℕ). a.0.0 ++ l) g.1 in
    let third : i.0.1 ≡ q.bs ++ (a.0.0 ++ (g.0 ∷ u.0)) = q.parts ∙ ap (λ (l : List ℕ). q.bs ++ l) last in
    let second : n.0 ≡ 35 ∷ m.ds ++ (q.bs ++ (a.0.0 ++ (g.0 ∷ u.0))) = d.1 ∙ ap (λ (l : List ℕ). 35 ∷ l) (m.parts ∙ ap (λ (l : List ℕ). m.ds ++ l) third) in
    record {
      bs = s.bs;
      ds = m.ds;
      cs = q.bs;
      name = a.0.0;
      b = g.0;
      text = u.0;
      x = v.0;
      parts = s.parts ∙ ap (λ (l : List ℕ). s.bs ++ l) second;
      blanks = s.blanks;
      digits = m.digits;
      in_range = ap is_id (sym m.value) ∙ d.3;
      more_blanks = q.blanks;
      attribute = w.name;
      blank = g.2;
      spelled = value_is u.0 v.0 u.2;
      value = ap (λ (k : ℕ). Change (Set k a.0.0 v.0)) (sym m.value) ∙ same_some (Change (Set i.0.0 a.0.0 v.0)) act v.2;
    }

set_same : (bs ds cs name : List ℕ) (b : ℕ) (text : List ℕ) (x : Value) → AreBlanks bs → AreDigits ds → is_id (number_of ds) ≡ true → AreBlanks cs
    → IsAttribute name → is_blank b ≡ true → ReadsValue text x → set_line (bs ++ (35 ∷ ds ++ (cs ++ (name ++ (b ∷ text))))) ≡ Some (Change (Set (number_of ds) name x))
unfolding set_line is_blank
set_same bs ds cs name b text x blanks digits is more named blank r =
    let s = spaced_same bs (35 ∷ ds ++ (cs ++ (name ++ (b ∷ text)))) blanks refl in
    let i = id_same ds (cs ++ (name ++ (b ∷ text))) digits is (begins_other is_blank is_ascii_digit (not_of is_ascii_digit refl refl) cs (name ++ (b ∷ text)) more.some more.all) in
    let q = spaced_same cs (name ++ (b ∷ text)) more (begins_other is_name is_blank (no_blank is_name name_space name_tab) name (b ∷ text) named.some named.all) in
    let a = attribute_same name (b ∷ text) named (not_of is_name name_space name_tab b blank) in
    let g = blank_same b text blank in
    let v = value_same text x r in
    rw (s, i, q, a, g, v) refl

-- ---- lines

word_form : (line word : List ℕ) (act said : Act) → bytes_eq line word ≡ true → some act ≡ some said → HasForm word (does act) → HasForm line (does said)
word_form line word act said is e h =
    subst (λ (l : List ℕ). HasForm l (does said)) (sym (same_bytes line word is)) (subst (λ (a : Act). HasForm word (does a)) (same_some act said e) h)

word_is : (line : List ℕ) (act : Act) → word_line line ≡ Some act → HasForm line (does act)
unfolding word_line
word_is line act e =
    elim (went (bytes_eq line (codes "open")) (Some Begin) _ act e) [
      | inl h ↦ word_form line (codes "open") Begin act h.0 h.1 HasForm.open_line
      | inr e1 ↦ elim (went (bytes_eq line (codes "commit")) (Some Commit) _ act e1) [
        | inl h ↦ word_form line (codes "commit") Commit act h.0 h.1 HasForm.commit_line
        | inr e2 ↦ elim (went (bytes_eq line (codes "publish")) (Some Publish) _ act e2) [
          | inl h ↦ word_form line (codes "publish") Publish act h.0 h.1 HasForm.publish_line
          | inr e3 ↦ elim (went (bytes_eq line (codes "take")) (Some Take) _ act e3) [
            | inl h ↦ word_form line (codes "take") Take act h.0 h.1 HasForm.take_line
            | inr e4 ↦ elim (went (bytes_eq line (codes "give")) (Some Give) None act e4) [
              | inl h ↦ word_form line (codes "give") Give act h.0 h.1 HasForm.give_line
              | inr e5 ↦ absurd cc
            ]
          ]
        ]
      ]
    ]

behind_is : (word line rest : List ℕ) → behind word line ≡ Some rest → line ≡ word ++ rest
unfolding behind
behind_is word line rest e =
    let k = kept (bytes_eq (take (length word) line) word) (drop (length word) line) rest e in
    sym (take-append-drop (length word) line) ∙ ap (λ (l : List ℕ). l ++ drop (length word) line) (same_bytes (take (length word) line) word k.0) ∙ ap (λ (l : List ℕ). word ++ l) k.1

-- a line of this form, that is written so
formed : (line other : List ℕ) (act said : Act) → line ≡ other → act ≡ said → HasForm other (does act) → HasForm line (does said)
formed line other act said l a h = subst (λ (x : List ℕ). HasForm x (does said)) (sym l) (subst (λ (x : Act). HasForm other (does x)) a h)

longer_is : (line : List ℕ) (act : Act) → longer_line line ≡ Some act → HasForm line (does act)
unfolding longer_line
longer_is line act e =
    elim (found_is (behind (codes "add") line) add_line _ act e) [
      | inl f ↦
          let r = add_is f.0 act f.2 in
          formed line (codes "add" ++ r.b ∷ r.text) (Change (Add r.x)) act (behind_is (codes "add") line f.0 f.1 ∙ ap (λ (l : List ℕ). codes "add" ++ l) r.parts) r.value
          (HasForm.add_line r.b r.text r.x r.blank r.spelled)
      | inr e1 ↦ elim (found_is (behind (codes "set") line) set_line _ act e1) [
        | inl f ↦
            let r = set_is f.0 act f.2 in
            formed line (codes "set" ++ (r.bs ++ (35 ∷ r.ds ++ (r.cs ++ (r.name ++ (r.b ∷ r.text)))))) (Change (Set (number_of r.ds) r.name r.x)) act
            (behind_is (codes "set") line f.0 f.1 ∙ ap (λ (l : List ℕ). codes "set" ++ l) r.parts) r.value
            (HasForm.set_line r.bs r.ds r.cs r.name r.b r.text r.x r.blanks r.digits r.in_range r.more_blanks r.attribute r.blank r.spelled)
        | inr e2 ↦ elim (found_is (behind (codes "remove") line) remove_line _ act e2) [
          | inl f ↦
              let r = remove_is f.0 act f.2 in
              formed line (codes "remove" ++ (r.bs ++ 35 ∷ r.ds)) (Change (Remove (number_of r.ds))) act (behind_is (codes "remove") line f.0 f.1 ∙ ap (λ (l : List ℕ). codes "remove" ++ l) r.parts) r.value
              (HasForm.remove_line r.bs r.ds r.blanks r.digits r.in_range)
          | inr e3 ↦ elim (found_is (behind (codes "work") line) work_line None act e3) [
            | inl f ↦
                let r = work_is f.0 act f.2 in
                formed line (codes "work" ++ (r.bs ++ r.ds)) (Work (number_of r.ds)) act (behind_is (codes "work") line f.0 f.1 ∙ ap (λ (l : List ℕ). codes "work" ++ l) r.parts) r.value
                (HasForm.work_line r.bs r.ds r.blanks r.digits r.no_zero r.fits)
            | inr e4 ↦ absurd cc
          ]
        ]
      ]
    ]

act_by : (line : List ℕ) (o : Option Act) (act : Act) → word_line line ≡ o → found_or o some (longer_line line) ≡ Some act → HasForm line (does act)
act_by line None act e f = longer_is line act f
act_by line (Some x) act e f = word_is line act (e ∙ f)

act_is : (line : List ℕ) (act : Act) → act_line line ≡ Some act → HasForm line (does act)
unfolding act_line
act_is line act e = act_by line (word_line line) act refl e

further_is : (line : List ℕ) (said : Said) → found_or (behind (codes "editor") line) editor_line (option_map does (act_line line)) ≡ Some said → HasForm line said
further_is line said e =
    elim (found_is (behind (codes "editor") line) editor_line (option_map does (act_line line)) said e) [
      | inl f ↦
          let r = editor_is f.0 said f.2 in
          let written : line ≡ codes "editor" ++ (r.bs ++ r.ds) = behind_is (codes "editor") line f.0 f.1 ∙ ap (λ (l : List ℕ). codes "editor" ++ l) r.parts in
          subst (λ (l : List ℕ). HasForm l said) (sym written) (subst (λ (s : Said). HasForm (codes "editor" ++ (r.bs ++ r.ds)) s) r.value (HasForm.editor_line r.bs r.ds r.blanks r.digits))
      | inr g ↦
          let m = mapped does (act_line line) said g in
          subst (λ (s : Said). HasForm line s) m.2 (act_is line m.0 m.1)
    ]

form_is : (line : List ℕ) (said : Said) → form line ≡ Some said → HasForm line said
unfolding form
form_is [] said e = subst (λ (s : Said). HasForm [] s) (same_some nothing said e) HasForm.empty
form_is (c ∷ t) said e =
    elim (went (bytes_eq (c ∷ t) (codes "sync")) (Some sync) _ said e) [
      | inl h ↦
          subst (λ (l : List ℕ). HasForm l said) (sym (same_bytes (c ∷ t) (codes "sync") h.0)) (subst (λ (s : Said). HasForm (codes "sync") s) (same_some sync said h.1) HasForm.sync_line)
      | inr f ↦ further_is (c ∷ t) said f
    ]

pub says_is : (line : List ℕ) (said : Said) → meaning line ≡ Some said → Says line said
unfolding meaning
says_is line said e =
    elim (tested (is_utf8 line)) [
      | inl is ↦ let f : form line ≡ Some said = ap (λ (b : Bool). cond b (form line) None) (sym is) ∙ e in record { utf8 = is; form = form_is line said f }
      | inr not ↦ let f : (let o : Option Said = None in o) ≡ Some said = ap (λ (b : Bool). cond b (form line) None) (sym not) ∙ e in absurd cc
    ]

form_same : {line : List ℕ} {said : Said} → HasForm line said → form line ≡ Some said
unfolding form behind word_line longer_line act_line
form_same HasForm.empty = refl
form_same (HasForm.editor_line bs ds blanks digits) = editor_same bs ds blanks digits
form_same HasForm.open_line = refl
form_same (HasForm.add_line b text x is r) = ap (option_map does) (add_same b text x is r)
form_same (HasForm.set_line bs ds cs name b text x blanks digits is more named blank r) = ap (option_map does) (set_same bs ds cs name b text x blanks digits is more named blank r)
form_same (HasForm.remove_line bs ds blanks digits is) = ap (option_map does) (remove_same bs ds blanks digits is)
form_same HasForm.commit_line = refl
form_same HasForm.publish_line = refl
form_same HasForm.take_line = refl
form_same HasForm.give_line = refl
form_same (HasForm.work_line bs ds blanks digits zero fits) = ap (option_map does) (work_same bs ds blanks digits zero fits)
form_same HasForm.sync_line = refl

pub says_same : (line : List ℕ) (said : Said) → Says line said → meaning line ≡ Some said
unfolding meaning
says_same line said s = let u = s.utf8 in rw u (form_same s.form)
