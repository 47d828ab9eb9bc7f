-- Declarations that make no schema.
use Rattle.std.proofs.Common.{◌≡◌, ℕ, false, List, [], ◌∷◌, Option, Some, None, refl, codes}
use Rattle.ifc_base.specs.declared.decl.EntityDecl.{EntityDecl}
use Rattle.schema_table.specs.declared.fault.SchemaFault.TheVariants.{Twice, UnknownSuper, Cycle}
use Rattle.schema_table.specs.Declarations.{schema_fault}

abbrev entity : List ℕ → Option (List ℕ) → EntityDecl
entity name parent = record { name = name; parent = parent; is_abstract = false; own = []; derived = [] }

named_twice : schema_fault (entity (codes "A") None ∷ entity (codes "A") None ∷ []) [] ≡ Some (Twice (codes "A"))
unfolding schema_fault
named_twice = refl

in_a_circle : schema_fault (entity (codes "A") (Some (codes "B")) ∷ entity (codes "B") (Some (codes "A")) ∷ []) [] ≡ Some (Cycle (codes "A"))
unfolding schema_fault
in_a_circle = refl

unknown_super : schema_fault (entity (codes "A") (Some (codes "C")) ∷ entity (codes "A") None ∷ []) [] ≡ Some (UnknownSuper (codes "A"))
unfolding schema_fault
unknown_super = refl

super_behind : schema_fault (entity (codes "A") (Some (codes "B")) ∷ entity (codes "B") None ∷ []) [] ≡ None
unfolding schema_fault
super_behind = refl
