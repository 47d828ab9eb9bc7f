-- Keys are equal exactly where their numbers are.
use Rattle.std.proofs.Common.{◌≡◌, ℕ, ◌+◌, ◌*◌, ◌/◌, ◌%◌, ◌<◌, ◌==◌, Bool, true, false, refl, sym, ap, ◌∙◌, arith}
use Rattle.std.proofs.lemmas.Bool.{and_from, eq-eqb, ne_eqb, false≢true}
use Rattle.std.proofs.lemmas.Nat.{div-add-mod'}
use Rattle.std.proofs.Math.Nat.{mod-lt}
use Rattle.std.specs.Ordering.{nat_cmp, eq_by_cmp}
use Rattle.std.specs.Cmp.{unsigned_ties}
use Rattle.ifc_base.specs.declared.key.Key.{Key}
use Rattle.ifc_base.specs.declared.key.Key.TheVariants.{Inst, Refs}
use Rattle.ifc_base.specs.declared.key.Role.{Role}
use Rattle.ifc_base.specs.declared.key.Role.TheVariants.{Properties, Kind, Classification, Material, Aggregates, Nests, Contained, Group, Voids, Fills}
use Rattle.ifc_base.specs.KeyOrder.{key_eq, key_eq-Decides, key_id, key_rank, role_rank}
use Rattle.inverse_index.specs.Numbers.{key_number}

role_small : (r : Role) → role_rank r < 16
role_small Properties = omega arith
role_small Kind = omega arith
role_small Classification = omega arith
role_small Material = omega arith
role_small Aggregates = omega arith
role_small Nests = omega arith
role_small Contained = omega arith
role_small Group = omega arith
role_small Voids = omega arith
role_small Fills = omega arith

-- Blocks q and p, and places m and n of ids within them.

own_places : (q p m n : ℕ) → m < 32 → n < 32 → q * 1024 + m ≡ p * 1024 + n → (q ≡ p) × (m ≡ n)
own_places q p m n a b e = (omega (arith, a, b, e), omega (arith, a, b, e))

role_places : (q p m n r s : ℕ) → m < 32 → n < 32 → r < 16 → s < 16 → q * 1024 + (512 + m * 16 + r) ≡ p * 1024 + (512 + n * 16 + s) → (q ≡ p) × (m ≡ n) × (r ≡ s)
role_places q p m n r s a b c d e = (omega (arith, a, b, c, d, e), omega (arith, a, b, c, d, e), omega (arith, a, b, c, d, e))

apart_places : (q p m n s : ℕ) → m < 32 → n < 32 → s < 16 → q * 1024 + m ≡ p * 1024 + (512 + n * 16 + s) → ⊥
apart_places q p m n s a b d e = absurd (omega (arith, a, b, d, e))

same_id : (i j : ℕ) → i / 32 ≡ j / 32 → i % 32 ≡ j % 32 → i ≡ j
same_id i j e f = sym (div-add-mod' i 32) ∙ ap (λ q. q * 32 + i % 32) e ∙ ap (λ m. j / 32 * 32 + m) f ∙ div-add-mod' j 32

small : (i : ℕ) → i % 32 < 32
small i = mod-lt i (omega arith)

equal_keys : (j k : Key) → key_id j ≡ key_id k → key_rank j ≡ key_rank k → key_eq j k ≡ true
equal_keys j k e f = and_from _ _ (eq-eqb (key_id j) (key_id k) e) (eq-eqb (key_rank j) (key_rank k) f)

equal_numbers : (j k : Key) → key_number j ≡ key_number k → key_eq j k ≡ true
equal_numbers (Inst i) (Inst j) e =
    let p = own_places (i / 32) (j / 32) (i % 32) (j % 32) (small i) (small j) e in
    equal_keys (Inst i) (Inst j) (same_id i j p.0 p.1) refl
equal_numbers (Inst i) (Refs j r) e = absurd (apart_places (i / 32) (j / 32) (i % 32) (j % 32) (role_rank r) (small i) (small j) (role_small r) e)
equal_numbers (Refs i q) (Inst j) e = absurd (apart_places (j / 32) (i / 32) (j % 32) (i % 32) (role_rank q) (small j) (small i) (role_small q) (sym e))
equal_numbers (Refs i q) (Refs j r) e =
    let p = role_places (i / 32) (j / 32) (i % 32) (j % 32) (role_rank q) (role_rank r) (small i) (small j) (role_small q) (role_small r) e in
    equal_keys (Refs i q) (Refs j r) (same_id i j p.0 p.1) (ap (λ n. n + 1) p.2)

numbers_tell : (key k : Key) → (key_number k == key_number key) ≡ key_eq key k
numbers_tell key k =
    let F : Bool → Type 0 = λ b. key_eq key k ≡ b → (key_number k == key_number key) ≡ b in
    let at : F (key_eq key k) = elim (key_eq key k) as F [
      | true ↦ λ e. eq-eqb (key_number k) (key_number key) (sym (ap key_number ((key_eq-Decides key k).0 e)))
      | false ↦ λ e. ne_eqb (key_number k) (key_number key) (λ n. false≢true (sym e ∙ equal_numbers key k (sym n)))
    ] in
    at refl

pub same_number : (key k : Key) → eq_by_cmp nat_cmp (key_number k) (key_number key) ≡ key_eq key k
same_number key k = sym (unsigned_ties (key_number k) (key_number key)) ∙ numbers_tell key k
