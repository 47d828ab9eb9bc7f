-- What a whole file is, by cases, over tokens (ISO 10303-21: exchange structure, header section, data section).
-- In each relation the last text is what follows what was read.
use Rattle.std.specs.Prelude.{◌≡◌, ◌≤◌, ℕ, true, List, [], ◌∷◌, ◌++◌, length, codes}
use Rattle.ifc_base.specs.declared.value.Value.{Value}
use Rattle.ifc_base.specs.declared.value.Instance.{Instance}
use Rattle.reading.specs.Codes.{codes_of}
use Rattle.reading.specs.Reading.{Text}
use Rattle.p21_read.specs.declared.word.Word.{Word}
use Rattle.p21_read.specs.declared.token.Token.TheVariants as k
use Rattle.p21_read.specs.declared.section.SectionWord.{SectionWord}
use Rattle.p21_read.specs.declared.section.SectionWord.TheVariants as w
use Rattle.p21_read.specs.declared.file.P21File.{P21File}
use Rattle.p21_read.specs.Headers.{section_word, schema_id}
use Rattle.ifc_base.specs.Ids.{HasDistinctIds}
use Rattle.p21_read.specs.TokenGrammar.{Next}
use Rattle.p21_read.specs.Grammar.{Parameters, IsInstance}

-- ---- words of the file's structure, in capitals as written

pub record IsHeading (word : SectionWord) (t u : Text) : Type 0 where
  pub written : Word
  pub next : Next t (k.Word written) u
  pub is : section_word written ≡ word

-- such a word and a semicolon
pub record IsLine (word : SectionWord) (t u : Text) : Type 0 where
  pub behind : Text
  pub heading : IsHeading word t behind
  pub ends : Next behind k.Semicolon u

-- ---- the header

-- The header entity of this name: `NAME(parameters);`, the name in letters of either case.
pub record IsEntity (name : List ℕ) (t : Text) (params : List Value) (u : Text) : Type 0 where
  pub written : Word
  pub behind : Text
  pub keyword : Next t (k.Word written) behind
  pub is : written.name ≡ name
  pub values : Parameters behind params u

-- Behind the header entities that have to stand: `ENDSEC;`, or a further one, whose name has no hyphen and isn't `ENDSEC` in capitals.
pub data Further : Text → Text → Type 0 where
  ends : (t u : Text) → IsLine w.EndSection t u → Further t u
  entity : (written : Word) (params : List Value) (t r s u : Text) → Next t (k.Word written) r → written.plain ≡ true → (section_word written ≡ w.EndSection → ⊥)
      → Parameters r params s → Further s u → Further t u

-- `ISO-10303-21;`, `HEADER;`, FILE_DESCRIPTION, FILE_NAME and FILE_SCHEMA in this order, further entities, and `ENDSEC;`. Of all this the
-- schema id is kept, the first text of the list in FILE_SCHEMA, in upper case and up to its first space.
pub record IsHeader (t : Text) (id : List ℕ) (u : Text) : Type 0 where
  pub start : Text
  pub front : Text
  pub second : Text
  pub third : Text
  pub rest : Text
  pub description : List Value
  pub name : List Value
  pub schema : List Value
  pub opened : IsLine w.Opening t start
  pub header : IsLine w.Header start front
  pub file_description : IsEntity (codes "FILE_DESCRIPTION") front description second
  pub file_name : IsEntity (codes "FILE_NAME") second name third
  pub file_schema : IsEntity (codes "FILE_SCHEMA") third schema rest
  pub further : Further rest u
  pub kept : schema_id schema ≡ id

-- ---- data sections

-- Behind `DATA`: a semicolon, or parameters, of which nothing is kept.
pub data Opens : Text → Text → Type 0 where
  plain : (t u : Text) → Next t k.Semicolon u → Opens t u
  with_parameters : (params : List Value) (t u : Text) → Parameters t params u → Opens t u

-- Instances one behind another, and `ENDSEC;`.
pub data Rows : Text → List Instance → Text → Type 0 where
  ends : (t u : Text) → IsLine w.EndSection t u → Rows t [] u
  more : (x : Instance) (xs : List Instance) (t r u : Text) → IsInstance t x r → Rows r xs u → Rows t (x ∷ xs) u

-- One data section.
pub record IsSection (t : Text) (xs : List Instance) (u : Text) : Type 0 where
  pub behind : Text
  pub inside : Text
  pub heading : IsHeading w.Data t behind
  pub opens : Opens behind inside
  pub rows : Rows inside xs u

-- Behind a data section: `END-ISO-10303-21;`, or a further section.
pub data Sections : Text → List Instance → Text → Type 0 where
  ends : (t u : Text) → IsLine w.Closing t u → Sections t [] u
  more : (xs ys : List Instance) (t r u : Text) → IsSection t xs r → Sections r ys u → Sections t (xs ++ ys) u

-- ---- the file

-- The bytes spell a file of at most so many instances: the header, one or more data sections, and `END-ISO-10303-21;`. What follows isn't looked
-- at.
pub record ReadsFile (most : ℕ) (bytes : List ℕ) (file : P21File) : Type 0 where
  pub sections : Text
  pub further : Text
  pub rest : Text
  pub first : List Instance
  pub others : List Instance
  pub header : IsHeader (codes_of bytes) file.schema_id sections
  pub one : IsSection sections first further
  pub more : Sections further others rest
  pub kept : file.instances ≡ first ++ others
  pub distinct : HasDistinctIds file.instances
  pub few : length file.instances ≤ most
