-- The names of a map's entries and the items of a list, beside what they stand for.
use Rattle.std.proofs.Common.{◌≡◌, ◌∙◌, ◌&&◌, ◌||◌, Bool, true, List, [], ◌∷◌, map, Some, option_map, string_bytes, ap, sym, refl, ℕ, ◌+◌, ◌<◌, get_or, drop, length, zero, suc}
use Rattle.std.specs.List.{list_all, list_any}
use Rattle.std.specs.Map.{keys_of}
use Rattle.std.specs.Str.{bytes_eq}
use Rattle.std.proofs.lemmas.List.Folds.{list_all-map}
use Rattle.ids_reader.specs.declared.tables.Member.{Member}
use Rattle.std.specs.Option.{option_map_or}
use Rattle.std.proofs.lemmas.List.{at_drop_more, length-map}
use Rattle.serde_json.specs.Data.{Data, Members}
use Rattle.serde_json.specs.Find.{as_object, as_array}
use Rattle.serde_json.specs.View.{view, items_view, members_view}
use Rattle.serde_json.specs.declared.value.Value.{Value}
use Rattle.serde_json.proofs.Views.{Entry}
use Rattle.ids_reader.specs.declared.tables.Object.{Object}
use Rattle.ids_reader.specs.Tables.{Row, row, rows, table}
use Rattle.ids_reader.specs.Members.{has_only, is_in, names_in, listed, items_of}

pub has_only_of : (object : Object) (d : Data) (ms : Members) → Some ms ≡ as_object d → has_only object d ≡ list_all (is_in (table object)) (names_in ms)
unfolding has_only
has_only_of object d ms h = ap (λ o. option_map_or (λ ms. list_all (is_in (table object)) (names_in ms)) o true) (sym h)

pub all_in : (rs : List Row) (es : List Entry)
    → list_all (λ k. is_in rs (string_bytes k)) (keys_of es) ≡ list_all (is_in rs) (names_in (members_view es))
all_in rs [] = refl
all_in rs (e ∷ es) = ap (λ b. is_in rs (string_bytes e.0) && b) (all_in rs es)

-- what holds of each member holds of each row of the table
pub all_rows : (p : Row → Bool) (ms : List Member) (rs : List Row) → rows ms ≡ rs → list_all (λ m. p (row m)) ms ≡ list_all p rs
all_rows p ms rs h = sym (list_all-map p row ms) ∙ ap (list_all p) h

pub any_row : (name : List ℕ) (ms : List Member) (rs : List Row) → rows ms ≡ rs → list_any (λ m. bytes_eq m.name.now name) ms ≡ is_in rs name
any_row name ms rs h = any_map name ms ∙ ap (λ rs. is_in rs name) h where
  any_map : (name : List ℕ) (ms : List Member) → list_any (λ m. bytes_eq m.name.now name) ms ≡ is_in (rows ms) name
  any_map name [] = refl
  any_map name (m ∷ ms) = ap (λ b. bytes_eq m.name.now name || b) (any_map name ms)

pub listed_view : (vs : List Value) → map view vs ≡ listed (items_view vs)
listed_view [] = refl
listed_view (v ∷ vs) = ap (λ ds. view v ∷ ds) (listed_view vs)

pub items_of_view : (d : Data) (vs : List Value) → Some (items_view vs) ≡ as_array d → Some (map view vs) ≡ items_of d
items_of_view d vs h = ap Some (listed_view vs) ∙ ap (option_map listed) h

view_at : (xs : List Value) (i : ℕ) (x : Value) → get_or (map view xs) i (view x) ≡ view (get_or xs i x)
view_at [] i x = refl
view_at (y ∷ ys) zero x = refl
view_at (y ∷ ys) (suc i) x = view_at ys i x

-- the value at i goes first of what is to come
pub value_at : {A : Type 0} (f : List Data → A) (xs : List Value) (i : ℕ) (x : Value) → i < length xs → x ≡ get_or xs i x
    → f (drop i (map view xs)) ≡ f (view x ∷ drop (i + 1) (map view xs))
value_at f xs i x h e =
    at_drop_more f (map view xs) i (view x) (simp length-map h) ∙ ap (λ d. f (d ∷ drop (i + 1) (map view xs))) (view_at xs i x ∙ ap view (sym e))

pub list_any_map : {X Y : Type 0} (p : X → Bool) (f : Y → X) (ys : List Y) → list_any (λ y. p (f y)) ys ≡ list_any p (map f ys)
list_any_map p f [] = refl
list_any_map p f (y ∷ ys) = ap (λ b. p (f y) || b) (list_any_map p f ys)
