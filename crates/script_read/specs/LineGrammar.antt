-- What lines say, by cases: the table of the lines of a script.
use Rattle.std.specs.Prelude.{◌≡◌, ℕ, Bool, true, false, ◌<◌, List, [], ◌∷◌, ◌++◌, length, codes}
use Rattle.std.specs.Char.{is_ascii_digit}
use Rattle.std.specs.List.{list_all}
use Rattle.std.specs.Str.{is_utf8}
use Rattle.audit_model.specs.declared.commit.Edit.TheVariants.{Add, Set, Remove}
use Rattle.audit_model.specs.declared.script.Act.TheVariants.{Begin, Change, Commit, Publish, Take, Give, Work}
use Rattle.ifc_base.specs.declared.value.Instance.{Instance}
use Rattle.ifc_base.specs.declared.value.Value.{Value}
use Rattle.p21_read.specs.Grammar.{ReadsInstance, ReadsValue}
use Rattle.p21_read.specs.TokenGrammar.{number_of}
use Rattle.script_read.specs.Said.{Said, nothing, editor, does, sync, is_blank, is_name, is_work, is_id, begins_with}

-- one or more blanks
pub record AreBlanks (bs : List ℕ) : Type 0 where
  pub some : 0 < length bs
  pub all : list_all is_blank bs ≡ true

-- one or more digits
pub record AreDigits (ds : List ℕ) : Type 0 where
  pub some : 0 < length ds
  pub all : list_all is_ascii_digit ds ≡ true

-- one or more ASCII letters, digits and `_`, the first no digit
pub record IsAttribute (name : List ℕ) : Type 0 where
  pub some : 0 < length name
  pub all : list_all is_name name ≡ true
  pub first : (c : ℕ) (t : List ℕ) → name ≡ c ∷ t → is_ascii_digit c ≡ false

-- The text is an instance by ISO 10303-21, with blanks and comments around its tokens; or it is none, and is one with a semicolon behind it.
pub data IsAdded : List ℕ → Instance → Type 0 where
  whole : (text : List ℕ) (x : Instance) → ReadsInstance text x → IsAdded text x
  short : (text : List ℕ) (x : Instance) → ((y : Instance) → ReadsInstance text y → ⊥) → ReadsInstance (text ++ codes ";") x → IsAdded text x

-- The forms of lines.
pub data HasForm : List ℕ → Said → Type 0 where
  empty : HasForm [] nothing
  editor_line : (bs ds : List ℕ) → AreBlanks bs → AreDigits ds → HasForm (codes "editor" ++ (bs ++ ds)) (editor (number_of ds))
  open_line : HasForm (codes "open") (does Begin)
  add_line : (b : ℕ) (text : List ℕ) (x : Instance) → is_blank b ≡ true → IsAdded text x → HasForm (codes "add" ++ b ∷ text) (does (Change (Add x)))
  set_line : (bs ds cs name : List ℕ) (b : ℕ) (text : List ℕ) (x : Value) → AreBlanks bs → AreDigits ds → is_id (number_of ds) ≡ true → AreBlanks cs
      → IsAttribute name → is_blank b ≡ true → ReadsValue text x
      → HasForm (codes "set" ++ (bs ++ (35 ∷ ds ++ (cs ++ (name ++ (b ∷ text)))))) (does (Change (Set (number_of ds) name x)))
  remove_line : (bs ds : List ℕ) → AreBlanks bs → AreDigits ds → is_id (number_of ds) ≡ true → HasForm (codes "remove" ++ (bs ++ 35 ∷ ds)) (does (Change (Remove (number_of ds))))
  commit_line : HasForm (codes "commit") (does Commit)
  publish_line : HasForm (codes "publish") (does Publish)
  take_line : HasForm (codes "take") (does Take)
  give_line : HasForm (codes "give") (does Give)
  work_line : (bs ds : List ℕ) → AreBlanks bs → AreDigits ds → begins_with 48 ds ≡ false → is_work (number_of ds) ≡ true → HasForm (codes "work" ++ (bs ++ ds)) (does (Work (number_of ds)))
  sync_line : HasForm (codes "sync") sync

-- A line says what its form says. It is UTF-8.
pub record Says (line : List ℕ) (said : Said) : Type 0 where
  pub utf8 : is_utf8 line ≡ true
  pub form : HasForm line said
