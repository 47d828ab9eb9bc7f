-- What a value and an instance of one entity are, by cases, over tokens (ISO 10303-21: parameters, simple entity instances).
-- In each relation the last text is what follows what was read.
use Rattle.std.specs.Prelude.{◌≡◌, ℕ, suc, true, List, [], ◌∷◌}
use Rattle.ifc_base.specs.declared.value.Value.{Value}
use Rattle.ifc_base.specs.declared.value.ValueNode.{ValueNode}
use Rattle.ifc_base.specs.declared.value.ValueNode.TheVariants as v
use Rattle.ifc_base.specs.declared.value.Instance.{Instance}
use Rattle.reading.specs.Codes.{codes_of}
use Rattle.reading.specs.Reading.{Text}
use Rattle.p21_read.specs.declared.number.Number.{Number}
use Rattle.p21_read.specs.declared.word.Word.{Word}
use Rattle.p21_read.specs.declared.token.Token.TheVariants as k
use Rattle.p21_read.specs.Values.{is_id, max_depth, number_node}
use Rattle.p21_read.specs.TokenGrammar.{Next}

-- the value of this kind
abbrev pub of_node : ValueNode → Value
of_node x = record { node = x }

-- Values, in which the parentheses of lists and typed parameters nest no deeper than the number. The number of a reference is from 1 to
-- 2,147,483,647. The keyword of a typed parameter has no hyphen.
mutual
  pub data Spells : ℕ → Text → Value → Text → Type 0 where
    absent : (d : ℕ) (t u : Text) → Next t k.Dollar u → Spells d t (of_node v.Absent) u
    derived : (d : ℕ) (t u : Text) → Next t k.Star u → Spells d t (of_node v.Derived) u
    number : (d : ℕ) (n : Number) (t u : Text) → Next t (k.Number n) u → Spells d t (of_node (number_node n)) u
    reference : (d n : ℕ) (t u : Text) → Next t (k.Id n) u → is_id n ≡ true → Spells d t (of_node (v.Ref n)) u
    text : (d : ℕ) (s : List ℕ) (t u : Text) → Next t (k.Quoted s) u → Spells d t (of_node (v.Text s)) u
    enumer : (d : ℕ) (s : List ℕ) (t u : Text) → Next t (k.Enumer s) u → Spells d t (of_node (v.Enumer s)) u
    binary : (d : ℕ) (s : List ℕ) (t u : Text) → Next t (k.Binary s) u → Spells d t (of_node (v.Binary s)) u
    list : (d : ℕ) (items : List Value) (t r u : Text) → Next t k.Open r → Items d r items u → Spells (suc d) t (of_node (v.List items)) u
    typed : (d : ℕ) (w : Word) (item : Value) (t r s q u : Text) → Next t (k.Word w) r → w.plain ≡ true → Next r k.Open s → Spells d s item q → Next q k.Close u
        → Spells (suc d) t (of_node (v.Typed w.name item)) u

  -- Behind an opening parenthesis: none or more values with commas between them, and the closing one.
  pub data Items : ℕ → Text → List Value → Text → Type 0 where
    none : (d : ℕ) (t u : Text) → Next t k.Close u → Items d t [] u
    some : (d : ℕ) (item : Value) (items : List Value) (t r u : Text) → Spells d t item r → More d r items u → Items d t (item ∷ items) u

  -- Behind a value in parentheses: the closing one, or a comma and a further value.
  pub data More : ℕ → Text → List Value → Text → Type 0 where
    ends : (d : ℕ) (t u : Text) → Next t k.Close u → More d t [] u
    goes_on : (d : ℕ) (item : Value) (items : List Value) (t r s u : Text) → Next t k.Comma r → Spells d r item s → More d s items u → More d t (item ∷ items) u

-- `(parameters);`
pub record Parameters (t : Text) (params : List Value) (u : Text) : Type 0 where
  pub inside : Text
  pub behind : Text
  pub opens : Next t k.Open inside
  pub items : Items max_depth inside params behind
  pub ends : Next behind k.Semicolon u

-- An instance: `#n=KEYWORD(parameters);`. Its number is from 1 to 2,147,483,647, and its keyword, in upper case, has no hyphen.
pub record IsInstance (t : Text) (x : Instance) (u : Text) : Type 0 where
  pub sign : Text
  pub keyword : Text
  pub params : Text
  pub word : Word
  pub number : Next t (k.Id x.id) sign
  pub in_range : is_id x.id ≡ true
  pub equals : Next sign k.Equals keyword
  pub entity : Next keyword (k.Word word) params
  pub plain : word.plain ≡ true
  pub name : word.name ≡ x.entity
  pub values : Parameters params x.params u

-- The bytes spell a value, and nothing else but blanks and comments.
pub record ReadsValue (bytes : List ℕ) (x : Value) : Type 0 where
  pub rest : Text
  pub value : Spells max_depth (codes_of bytes) x rest
  pub end : Next rest k.End []

-- The bytes spell an instance, and nothing else but blanks and comments.
pub record ReadsInstance (bytes : List ℕ) (x : Instance) : Type 0 where
  pub rest : Text
  pub instance : IsInstance (codes_of bytes) x rest
  pub end : Next rest k.End []
