-- One more edit, which is judged and laid over a model.
use Rattle.std.proofs.Common.{◌≡◌, ℕ, ◌+◌, ◌<◌, ◌==◌, ◌||◌, min, Bool, true, false, if◌then◌else◌, List, [], ◌∷◌, ◌++◌, length, take, drop, get_or, Option, Some, None, is_some, unwrap_or, refl, ap, sym, subst, ◌∙◌}
use Rattle.std.specs.List.{list_any}
use Rattle.std.proofs.lemmas.List.{take_more}
use Rattle.ifc_base.specs.declared.value.Instance.{Instance}
use Rattle.ifc_base.specs.declared.key.Key.{Key}
use Rattle.schema_table.specs.Schema.{Schema}
use Rattle.audit_model.specs.declared.commit.Edit.{Edit}
use Rattle.audit_model.specs.declared.commit.EditFault.{EditFault}
use Rattle.audit_model.specs.declared.commit.CommitRefusal.{CommitRefusal}
use Rattle.audit_model.specs.declared.commit.CommitRefusal.TheVariants.{Edit as EditRefused}
use Rattle.audit_model.specs.declared.step.Limits.{Limits}
use Rattle.audit_model.specs.Models.{IsModel, instance_at}
use Rattle.audit_model.specs.Edits.{apply, edit_id, edited}
use Rattle.audit_model.specs.Judging.{conflict_of, edit_fault, fault_given, fault_of, id_fault_given, id_fault_of, judge_from, refused_or}
use Rattle.audit_model.proofs.EditLaws.{model_edited, or_none}
use Rattle.audit_model.proofs.Inserting.{judge_next}
use Rattle.audit_model.proofs.Tests.{or_true}
use Rattle.inverse_index.proofs.Tests.{any_last}
use Rattle.commit_rules.specs.declared.overlay.Overlay.{Overlay}
use Rattle.commit_rules.specs.Overlays.{counted, IsLaid, left_by, over, put_at, Shows}
use Rattle.commit_rules.proofs.Done.{at_done, length_done}

-- nothing is laid yet
pub shows_none : (s : Schema) (m : List Instance) (below : ℕ → Option Instance) (o : Overlay) → IsModel m → ((i : ℕ) → below i ≡ instance_at i m) → ((i : ℕ) → put_at o.put i ≡ None) → o.count ≡ length m → Shows s m below [] o
shows_none s m below o h shown empty count = record {
  ascending = h;
  at = λ i. ap (λ (w : Option (Option Instance)). unwrap_or w (below i)) (empty i) ∙ shown i;
  named = λ i. ap (λ (w : Option (Option Instance)). is_some w) (empty i);
  count_is = count;
}

apply_last : (s : Schema) (m : List Instance) (es : List Edit) (e : Edit) → apply s m (es ++ e ∷ []) ≡ edited s (apply s m es) e
apply_last s m [] e = refl
apply_last s m (d ∷ ds) e = apply_last s (edited s m d) ds e

chosen : (b : Bool) (x : Option Instance) (o : Option (Option Instance)) (d : Option Instance) → unwrap_or (if b then Some x else o) d ≡ (if b then x else unwrap_or o d)
chosen true x o d = refl
chosen false x o d = refl

some_chosen : (b a : Bool) (x : Option Instance) (o : Option (Option Instance)) → is_some o ≡ a → is_some (if b then Some x else o) ≡ (a || b)
some_chosen true a x o e = sym (or_true a)
some_chosen false true x o e = e
some_chosen false false x o e = e

-- the fault of the next edit
pub fault_same : (s : Schema) (limits : Limits) (last : Key → ℕ) (base : ℕ) (m : List Instance) (below : ℕ → Option Instance) (es : List Edit) (e : Edit) (o : Overlay) → Shows s m below es o → fault_given s limits last base (over o.put below (edit_id e)) o.count e ≡ fault_of s limits last base (apply s m es) e
fault_same s limits last base m below es e o k =
    ap (λ (h : Option Instance). fault_given s limits last base h o.count e) (k.at (edit_id e)) ∙ ap (λ (c : ℕ). fault_given s limits last base (instance_at (edit_id e) (apply s m es)) c e) k.count_is

shows_last : (s : Schema) (limits : Limits) (last : Key → ℕ) (base : ℕ) (m : List Instance) (below : ℕ → Option Instance) (es : List Edit) (e : Edit) (old new : Overlay) → Shows s m below es old → IsLaid s limits last base below old e new → Shows s m below (es ++ e ∷ []) new
shows_last s limits last base m below es e old new k l =
    let n : List Instance = apply s m es in
    let held : Option Instance = over old.put below (edit_id e) in
    let free : edit_fault s limits held old.count e ≡ None = (or_none (conflict_of last base e) (edit_fault s limits held old.count e) l.faultless).1 in
    let given : id_fault_given held e ≡ None = (or_none (id_fault_given held e) _ free).0 in
    let fault : id_fault_of n e ≡ None = subst (λ (h : Option Instance). id_fault_given h e ≡ None) (k.at (edit_id e)) given in
    let after : apply s m (es ++ e ∷ []) ≡ edited s n e = apply_last s m es e in
    record {
      ascending = subst IsModel (sym after) (model_edited s n e fault k.ascending);
      at = λ i.
          ap (λ (w : Option (Option Instance)). unwrap_or w (below i)) (l.put_is i)
          ∙ chosen (edit_id e == i) (left_by s held e) (put_at old.put i) (below i)
          ∙ ap (λ (h : Option Instance). if edit_id e == i then left_by s h e else over old.put below i) (k.at (edit_id e))
          ∙ ap (λ (h : Option Instance). if edit_id e == i then left_by s (instance_at (edit_id e) n) e else h) (k.at i)
          ∙ sym (at_done s n e i k.ascending fault)
          ∙ ap (λ (x : List Instance). instance_at i x) (sym after);
      named = λ i.
          ap (λ (w : Option (Option Instance)). is_some w) (l.put_is i)
          ∙ some_chosen (edit_id e == i) (list_any (λ d. edit_id d == i) es) (left_by s held e) (put_at old.put i) (k.named i)
          ∙ sym (any_last (λ d. edit_id d == i) es e);
      count_is = l.count_is ∙ ap (λ (c : ℕ). counted c e) k.count_is ∙ sym (length_done s n e k.ascending fault) ∙ ap (λ (x : List Instance). length x) (sym after);
    }

-- One more edit of a list, by its place.

module _ (s : Schema) (limits : Limits) (last : Key → ℕ) (base : ℕ) (m : List Instance) (below : ℕ → Option Instance) (es : List Edit) (i : ℕ) (e : Edit) (within : i < length es) (is : e ≡ get_or es i e) (old : Overlay) (k : Shows s m below (take i es) old) where
  one_more : take (i + 1) es ≡ take i es ++ e ∷ []
  one_more = take_more es i e within ∙ ap (λ (x : Edit). take i es ++ x ∷ []) (sym is)

  judged_next : judge_from s limits last base (i + 1) (apply s m (take i es)) (drop i es) ≡ refused_or (fault_given s limits last base (over old.put below (edit_id e)) old.count e) (i + 1) (judge_from s limits last base (i + 1 + 1) (edited s (apply s m (take i es)) e) (drop (i + 1) es))
  judged_next =
      judge_next s limits last base (i + 1) (apply s m (take i es)) es i e within is
      ∙ ap (λ (f : Option EditFault). refused_or f (i + 1) (judge_from s limits last base (i + 1 + 1) (edited s (apply s m (take i es)) e) (drop (i + 1) es))) (sym (fault_same s limits last base m below (take i es) e old k))

  pub refused_here : (fault : EditFault) (number : ℕ) → fault_given s limits last base (over old.put below (edit_id e)) old.count e ≡ Some fault → number ≡ min (i + 1) 4294967295 → judge_from s limits last base (i + 1) (apply s m (take i es)) (drop i es) ≡ Some (EditRefused number fault)
  refused_here fault number f n =
      judged_next
      ∙ ap (λ (o : Option EditFault). refused_or o (i + 1) (judge_from s limits last base (i + 1 + 1) (edited s (apply s m (take i es)) e) (drop (i + 1) es))) f
      ∙ ap (λ (j : ℕ). Some (EditRefused j fault)) (sym n)

  module _ (new : Overlay) (l : IsLaid s limits last base below old e new) where
    pub shows_next : Shows s m below (take (i + 1) es) new
    shows_next = subst (λ (ds : List Edit). Shows s m below ds new) (sym one_more) (shows_last s limits last base m below (take i es) e old new k l)

    pub accepted_next : judge_from s limits last base (i + 1) (apply s m (take i es)) (drop i es) ≡ judge_from s limits last base (i + 1 + 1) (apply s m (take (i + 1) es)) (drop (i + 1) es)
    accepted_next =
        judged_next
        ∙ ap (λ (o : Option EditFault). refused_or o (i + 1) (judge_from s limits last base (i + 1 + 1) (edited s (apply s m (take i es)) e) (drop (i + 1) es))) l.faultless
        ∙ ap (λ (x : List Instance). judge_from s limits last base (i + 1 + 1) x (drop (i + 1) es)) (sym (ap (apply s m) one_more ∙ apply_last s m (take i es) e))
