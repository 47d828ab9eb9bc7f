-- Reading one thing after another: with what was read before, and taken apart again.
use Rattle.std.proofs.Common.{◌≡◌, ◌++◌, ◌∷◌, [], ℕ, Bool, true, false, not, List, Ok, Err, sym, ap, refl, append_assoc}
use Rattle.ids_reader.specs.declared.fault.IdsCause.{IdsCause}
use Rattle.ids_reader.specs.Reads.{Read, refuse_if, Placed, placed, ◌>>>◌}

-- ---- what was read before, and then these

abbrev pub behind : {A : Type 0} → List A → Placed (List A) → Placed (List A)
behind before (Ok xs) = Ok (before ++ xs)
behind before (Err fault) = Err fault

pub behind_none : {A : Type 0} (read : Placed (List A)) → read ≡ behind [] read
behind_none (Ok xs) = refl
behind_none (Err fault) = refl

pub behind_one : {A : Type 0} (before : List A) (x : A) (read : Placed (List A)) → behind before (read >>> λ xs. Ok (x ∷ xs)) ≡ behind (before ++ x ∷ []) read
behind_one before x (Ok xs) = ap Ok (sym (append_assoc before (x ∷ []) xs))
behind_one before x (Err fault) = refl

-- ---- what was read, taken apart

pub ok_is : {A : Type 0} (x y : A) (read : Read A) → read ≡ Ok x → read ≡ Ok y → x ≡ y
ok_is x y read h e = cc

pub placed_is : {A : Type 0} (x y : A) (read : Placed A) → read ≡ Ok x → read ≡ Ok y → x ≡ y
placed_is x y read h e = cc

pub passed : {A : Type 0} (b : Bool) (why : IdsCause) (next : Read A) (y : A) → refuse_if b why next ≡ Ok y → (b ≡ false) × (next ≡ Ok y)
passed true why next y h = cc
passed false why next y h = (refl, h)

pub is_passed : (b : Bool) → not b ≡ false → b ≡ true
is_passed true h = refl
is_passed false h = cc

pub at_place : {A : Type 0} (spec place : ℕ) (read : Read A) (y : A) → placed spec place read ≡ Ok y → read ≡ Ok y
at_place spec place (Ok x) y h = ap Ok (placed_is x y (Ok x) refl h)
at_place spec place (Err why) y h = cc

pub after : {A B : Type 0} (read : Placed A) (f : A → Placed B) (y : B) → (read >>> f) ≡ Ok y → (x : A) × (read ≡ Ok x) × (f x ≡ Ok y)
after (Ok x) f y h = (x, refl, h)
after (Err fault) f y h = cc

-- the first of a list, and then the others
others : {A : Type 0} (r : A) (more : Placed (List A)) (xs : List A) → (more >>> λ rs. Ok (r ∷ rs)) ≡ Ok xs → (rs : List A) × (more ≡ Ok rs) × (r ∷ rs ≡ xs)
others r (Ok rs) xs h = (rs, refl, placed_is (r ∷ rs) xs (Ok (r ∷ rs)) refl h)
others r (Err fault) xs h = cc

pub turn_taken : {A : Type 0} (read : Placed A) (more : A → Placed (List A)) (xs : List A) → (read >>> λ r. (more r >>> λ rs. Ok (r ∷ rs))) ≡ Ok xs
    → (r : A) × (rs : List A) × (read ≡ Ok r) × (more r ≡ Ok rs) × (r ∷ rs ≡ xs)
turn_taken (Ok r) more xs h = let o = others r (more r) xs h in (r, o.0, refl, o.1, o.2)
turn_taken (Err fault) more xs h = cc
