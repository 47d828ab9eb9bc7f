-- The index of names.
use Rattle.std.proofs.Common.{◌≡◌, ℕ, ◌+◌, ◌<◌, Bool, true, false, cond, List, [], ◌∷◌, ◌++◌, take, length, get_or, position, Option, Some, None, String, if◌then◌else◌, refl, ap, sym, ◌∙◌, arith, encode_utf8_all, length-take-le}
use Rattle.std.specs.Bool.{one_answer}
use Rattle.std.specs.Option.{option_or, is_some}
use Rattle.std.specs.Str.{bytes_eq}
use Rattle.std.proofs.lemmas.List.{take_more}
use Rattle.std.proofs.lemmas.Slice.Eq.{bytes_eq-Decides}
use Rattle.indexmap.specs.IndexMap.{IndexMap}
use Rattle.ifc_base.specs.declared.decl.EntityDecl.{EntityDecl}
use Rattle.schema_table.specs.Schema.{Schema}
use Rattle.schema_table.specs.Index.{IsIndex, LeadsBesides}
use Rattle.schema_table.proofs.Positions.{position_push}

pub bytes_swapped : (x y : List ℕ) → bytes_eq x y ≡ bytes_eq y x
bytes_swapped x y =
    one_answer {P = x ≡ y} (bytes_eq x y) (bytes_eq y x) (bytes_eq-Decides x y)
    (λ e. sym ((bytes_eq-Decides y x).0 e), λ e. (bytes_eq-Decides y x).1 (sym e))

-- a name that isn't there yet
pub noted : (o : Option ℕ) (name text : List ℕ) (number : ℕ) → (name ≡ text → is_some o ≡ false)
    → cond (bytes_eq name text) (Some number) o ≡ option_or o (if bytes_eq text name then Some number else None)
noted o name text number h = by (bytes_eq name text) refl ∙ ap (λ b. option_or o (if b then Some number else None)) (bytes_swapped name text)
  where
    none : (o : Option ℕ) → is_some o ≡ false → Some number ≡ option_or o (Some number)
    none None e = refl
    none (Some k) e = absurd (cc)

    kept : (o : Option ℕ) → o ≡ option_or o None
    kept None = refl
    kept (Some k) = refl

    by : (b : Bool) → bytes_eq name text ≡ b → cond b (Some number) o ≡ option_or o (if b then Some number else None)
    by true f = none o (h ((bytes_eq-Decides name text).0 f))
    by false f = kept o

-- a name that is there
pub kept_number : (o : Option ℕ) (name text : List ℕ) (number : ℕ) → (name ≡ text → is_some o ≡ true) → o ≡ option_or o (if bytes_eq text name then Some number else None)
kept_number (Some k) name text number h = refl
kept_number None name text number h = by (bytes_eq text name) refl
  where
    by : (b : Bool) → bytes_eq text name ≡ b → None ≡ (if b then Some number else None)
    by true f = absurd (let e : false ≡ true = h (sym ((bytes_eq-Decides text name).0 f)) in cc)
    by false f = refl

-- one more entity
pub index_more : {Y S : Type 0} (s : Schema) (i : ℕ) (d : EntityDecl) (old new : IndexMap (String Y) ℕ S) → i < length s → get_or s i d ≡ d
    → IsIndex (take i s) old → LeadsBesides old new (encode_utf8_all d.name) i → IsIndex (take (i + 1) s) new
index_more s i d old new h e is more = λ text.
    more text ∙ ap (λ o. option_or o (if bytes_eq text (encode_utf8_all d.name) then Some i else None)) (is text)
    ∙ sym (ap (position (test text)) (take_more s i d h ∙ ap (λ x. take i s ++ x ∷ []) e) ∙ position_push (test text) (take i s) d
    ∙ ap (λ n. option_or (position (test text) (take i s)) (if test text d then Some n else None)) (length-take-le i s (omega arith)))
  where
    test : List ℕ → EntityDecl → Bool
    test text x = bytes_eq text (encode_utf8_all x.name)
