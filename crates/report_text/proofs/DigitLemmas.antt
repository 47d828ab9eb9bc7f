-- The digits of a number that are written from the last one on, at the end of a list of twenty.
use Rattle.std.proofs.Common.{◌≡◌, ℕ, ◌+◌, ◌-◌, ◌/◌, ◌%◌, ◌^◌, ◌<◌, ◌≤◌, List, [], ◌∷◌, ◌++◌, length, drop, set, ap, sym, ◌∙◌, append_assoc, length-append, length-drop, length-set, arith}
use Rattle.std.specs.Fmt.{decimal}
use Rattle.std.proofs.lemmas.Fmt.{decimal_digit, decimal_step, decimal_nonempty, length-decimal-le}
use Rattle.std.proofs.lemmas.List.{drop-set}

-- the digits of n are those of the rest and then those that are written
pub record IsWritten (n rest from : ℕ) (digits : List ℕ) : Type 0 where
  pub long : length digits ≡ 20
  pub within : from ≤ 20
  pub small : rest < 2 ^ 64
  pub parts : decimal n ≡ decimal rest ++ drop from digits

-- there is room for one more
pub room : (n rest from : ℕ) (digits : List ℕ) → n < 2 ^ 64 → IsWritten n rest from digits → 0 < from
room n rest from digits fits w =
    let most : n < 10 ^ 20 = omega arith in
    let whole = length-decimal-le 20 n (omega arith) most fits in
    let first = decimal_nonempty rest w.small in
    let count = ap length w.parts ∙ length-append (decimal rest) (drop from digits) ∙ ap (λ k. length (decimal rest) + k) (length-drop from digits) in
    let long = w.long in
    omega arith

one_down : (from : ℕ) → 0 < from → from - 1 + 1 ≡ from
one_down from h = omega arith

-- one more digit
pub written_more : (n rest from : ℕ) (digits : List ℕ) → n < 2 ^ 64 → 10 ≤ rest → IsWritten n rest from digits → IsWritten n (rest / 10) (from - 1) (set digits (from - 1) (48 + rest % 10))
written_more n rest from digits fits more w =
    let some = room n rest from digits fits w in
    let place : from - 1 < length digits = let long = w.long in let within = w.within in omega arith in
    record {
      long = length-set digits (from - 1) (48 + rest % 10) ∙ w.long;
      within = let within = w.within in omega arith;
      small = let small = w.small in omega arith;
      parts = w.parts
          ∙ ap (λ ds. ds ++ drop from digits) (decimal_step rest more w.small)
          ∙ append_assoc (decimal (rest / 10)) ((48 + rest % 10) ∷ []) (drop from digits)
          ∙ ap (λ k. decimal (rest / 10) ++ (48 + rest % 10) ∷ drop k digits) (sym (one_down from some))
          ∙ ap (λ ds. decimal (rest / 10) ++ ds) (sym (drop-set digits (from - 1) (48 + rest % 10) place));
    }

-- the first digit
pub written_all : (n rest from : ℕ) (digits : List ℕ) → n < 2 ^ 64 → rest < 10 → IsWritten n rest from digits → drop (from - 1) (set digits (from - 1) (48 + rest)) ≡ decimal n
written_all n rest from digits fits last w =
    let some = room n rest from digits fits w in
    let place : from - 1 < length digits = let long = w.long in let within = w.within in omega arith in
    drop-set digits (from - 1) (48 + rest) place
    ∙ ap (λ k. (48 + rest) ∷ drop k digits) (one_down from some)
    ∙ ap (λ ds. ds ++ drop from digits) (sym (decimal_digit rest last))
    ∙ sym w.parts
