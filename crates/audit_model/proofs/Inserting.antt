-- An instance put at its place; edits one at a time.
use Rattle.std.proofs.Common.{◌≡◌, ℕ, ◌+◌, ◌<◌, ◌≤◌, suc, Bool, true, false, not, cond, if◌then◌else◌, nat_lt, List, [], ◌∷◌, ◌++◌, length, drop, get_or, insert, Some, None, refl, arith, ap, sym, ◌∙◌}
use Rattle.std.specs.List.{position, position_or_len}
use Rattle.std.specs.Option.{option_or}
use Rattle.std.proofs.lemmas.Bool.{ltb-true, ltb-false, le-ltb}
use Rattle.std.proofs.lemmas.List.{take_all, drop_all, at_drop_more}
use Rattle.ifc_base.specs.declared.value.Instance.{Instance}
use Rattle.ifc_base.specs.declared.key.Key.{Key}
use Rattle.ifc_base.specs.declared.key.Key.TheVariants.{Inst}
use Rattle.schema_table.specs.Schema.{Schema}
use Rattle.audit_model.specs.declared.commit.Edit.{Edit}
use Rattle.audit_model.specs.declared.commit.CommitRefusal.TheVariants.{RevisionsFull}
use Rattle.audit_model.specs.declared.step.Limits.{Limits}
use Rattle.audit_model.specs.Models.{with_instance}
use Rattle.audit_model.specs.Edits.{edited, apply, edit_id}
use Rattle.audit_model.specs.Judging.{judge, judge_from, fault_of, refused_or, conflict_of, dangling}

abbrev pub above : Instance → Instance → Bool
above x y = nat_lt x.id y.id

insert_at : (x : Instance) (m : List Instance) → with_instance x m ≡ insert m (position_or_len (above x) m) x
insert_at x [] = refl
insert_at x (y ∷ ys) =
    let F : Bool → Type 0 = λ b. (if b then (x ∷ y ∷ ys) else (y ∷ with_instance x ys)) ≡ insert (y ∷ ys) (cond (not b) (1 + position_or_len (above x) ys) 0) x in
    elim (above x y) as F [
      | true ↦ refl
      | false ↦ let one : 1 + position_or_len (above x) ys ≡ suc (position_or_len (above x) ys) = omega arith in rw (one, insert_at x ys)
    ]

pub insert_some : (x : Instance) (m : List Instance) (i : ℕ) → position (above x) m ≡ Some i → (i ≤ length m) × (insert m i x ≡ with_instance x m)
insert_some x m i e =
    let F : Bool → Type 0 = λ b. nat_lt (position_or_len (above x) m) (length m) ≡ b → cond b (Some (position_or_len (above x) m)) None ≡ Some i → (i ≤ length m) × (insert m i x ≡ with_instance x m) in
    let at : F (nat_lt (position_or_len (above x) m) (length m)) = elim (nat_lt (position_or_len (above x) m) (length m)) as F [
      | true ↦ λ l k. let same : position_or_len (above x) m ≡ i = cc in
          let lt : position_or_len (above x) m < length m = ltb-true _ _ l in
          (omega arith, rw (← same) (sym (insert_at x m)))
      | false ↦ λ l k. absurd (cc)
    ] in
    at refl e

pub insert_none : (x : Instance) (m : List Instance) → position (above x) m ≡ None → m ++ x ∷ [] ≡ with_instance x m
insert_none x m e =
    let F : Bool → Type 0 = λ b. nat_lt (position_or_len (above x) m) (length m) ≡ b → cond b (Some (position_or_len (above x) m)) None ≡ None → m ++ x ∷ [] ≡ with_instance x m in
    let at : F (nat_lt (position_or_len (above x) m) (length m)) = elim (nat_lt (position_or_len (above x) m) (length m)) as F [
      | true ↦ λ l k. absurd (cc)
      | false ↦ λ l k.
          let le : length m ≤ position_or_len (above x) m = ltb-false _ _ l in
          rw (insert_at x m, take_all (position_or_len (above x) m) m le, drop_all (position_or_len (above x) m) m le)
    ] in
    at refl e

-- judging from one edit on
pub judge_next : (s : Schema) (limits : Limits) (last : Key → ℕ) (base n : ℕ) (m : List Instance) (es : List Edit) (i : ℕ) (e : Edit) → i < length es → e ≡ get_or es i e → judge_from s limits last base n m (drop i es) ≡ refused_or (fault_of s limits last base m e) n (judge_from s limits last base (n + 1) (edited s m e) (drop (i + 1) es))
judge_next s limits last base n m es i e l at =
    let k : judge_from s limits last base n m (drop i es) ≡ judge_from s limits last base n m (get_or es i e ∷ drop (i + 1) es) = at_drop_more (λ (xs : List Edit). judge_from s limits last base n m xs) es i e l in
    k ∙ ap (λ (x : Edit). refused_or (fault_of s limits last base m x) n (judge_from s limits last base (n + 1) (edited s m x) (drop (i + 1) es))) (sym at)

pub apply_next : (s : Schema) (m : List Instance) (es : List Edit) (i : ℕ) (e : Edit) → i < length es → e ≡ get_or es i e → apply s m (drop i es) ≡ apply s (edited s m e) (drop (i + 1) es)
apply_next s m es i e l at =
    let k : apply s m (drop i es) ≡ apply s m (get_or es i e ∷ drop (i + 1) es) = at_drop_more (λ (xs : List Edit). apply s m xs) es i e l in
    k ∙ ap (λ (x : Edit). apply s (edited s m x) (drop (i + 1) es)) (sym at)

-- judging whole, where the limit of revisions isn't met
pub judge_whole : (s : Schema) (limits : Limits) (r : ℕ) (last : Key → ℕ) (base : ℕ) (m : List Instance) (es : List Edit) → nat_lt r limits.revisions ≡ true → judge s limits r last base m es ≡ option_or (judge_from s limits last base 1 m es) (dangling m (apply s m es))
unfolding judge
judge_whole s limits r last base m es e = rw e

pub judge_full : (s : Schema) (limits : Limits) (r : ℕ) (last : Key → ℕ) (base : ℕ) (m : List Instance) (es : List Edit) → nat_lt r limits.revisions ≡ false → judge s limits r last base m es ≡ Some RevisionsFull
unfolding judge
judge_full s limits r last base m es e = rw e

-- an edit whose instance no commit after the base changed has no conflict
pub no_conflict : (last : Key → ℕ) (base : ℕ) (e : Edit) → last (Inst (edit_id e)) ≤ base → conflict_of last base e ≡ None
no_conflict last base e h = let k : nat_lt base (last (Inst (edit_id e))) ≡ false = le-ltb _ _ h in rw k
