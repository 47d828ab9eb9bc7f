-- What a line of a script says, and the words that lines are made of.
use Rattle.std.specs.Prelude.{ℕ, ◌||◌, Bool, ◌==◌, nat_le, ◌&&◌, List, [], ◌∷◌, true, false}
use Rattle.std.specs.Char.{is_ascii_alphabetic, is_ascii_digit}
use Rattle.audit_model.specs.declared.script.Act.{Act}

-- An empty line says nothing. `editor K` says whose lines follow, `sync` ends a phase, and each other line is an act of its editor.
pub data Said : Type 0 where
  nothing : Said
  editor : ℕ → Said
  does : Act → Said
  sync : Said

-- space and tab
unfoldable pub is_blank : ℕ → Bool
is_blank b = b == 32 || b == 9

-- what names of attributes are made of
unfoldable pub is_name : ℕ → Bool
is_name b = is_ascii_alphabetic b || is_ascii_digit b || b == 95

-- editors are numbered from 1 to 16
abbrev pub is_editor : ℕ → Bool
is_editor k = nat_le 1 k && nat_le k 16

-- the times that one line may work
abbrev pub is_work : ℕ → Bool
is_work n = nat_le 1 n && nat_le n 1000000

-- instances are numbered from 1 to 2,147,483,647
abbrev pub is_id : ℕ → Bool
is_id n = nat_le 1 n && nat_le n 0x7FFF_FFFF

-- the first is this byte
abbrev pub begins_with : ℕ → List ℕ → Bool
begins_with b [] = false
begins_with b (c ∷ t) = c == b

abbrev pub is_empty : List ℕ → Bool
is_empty [] = true
is_empty (c ∷ t) = false
