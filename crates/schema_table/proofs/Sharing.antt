-- Lists that entities share.
use Rattle.std.proofs.Common.{◌≡◌, ◌≢◌, ℕ, suc, ◌+◌, ◌<◌, ◌≤◌, Bool, true, false, ◌||◌, ◌&&◌, ◌==◌, eqb, List, [], ◌∷◌, ◌++◌, map, take, length, get_or-set_same, get_or-set_other, refl, ap, sym, ◌∙◌, subst, arith, append-nil, length-append, ⊎_elim}
use Rattle.std.proofs.Math.ListN.{set}
use Rattle.std.proofs.lemmas.Bool.{eqb-true}
use Rattle.std.proofs.lemmas.Bool.Decides.{eqb_tells}
use Rattle.std.proofs.lemmas.List.{length-set, length-map, take-append-le, take_all, get_or_append_left}
use Rattle.std.proofs.Math.Seq.{get_or-append_seam, take-append-add}
use Rattle.ifc_base.specs.declared.decl.EntityDecl.{EntityDecl}
use Rattle.schema_table.specs.declared.slot.AttrSlot.{AttrSlot}
use Rattle.schema_table.specs.declared.shares.Share.{Share}
use Rattle.schema_table.specs.Shares.{list_at, part, IsPart, KeepsParts, redeclared, may_share, Begins}

pub parts_stay : (lists : List (List AttrSlot)) → KeepsParts lists lists
parts_stay lists share there = (there, refl)

pub parts_then : (a b c : List (List AttrSlot)) → KeepsParts a b → KeepsParts b c → KeepsParts a c
parts_then a b c f g share there = let first = f share there in let second = g share first.0 in (second.0, second.1 ∙ first.1)

-- one more list
pub list_added : (lists : List (List AttrSlot)) (list : List AttrSlot) → KeepsParts lists (lists ++ list ∷ [])
list_added lists list share there =
    let less : share.list < length lists = there.0 in
    let same : list_at (lists ++ list ∷ []) share.list ≡ list_at lists share.list = get_or_append_left lists (list ∷ []) [] share.list less in
    ((omega (arith, length-append lists (list ∷ [])), subst (λ l. share.len ≤ length l) (sym same) there.1), ap (take share.len) same)

pub added_list : (lists : List (List AttrSlot)) (list : List AttrSlot) → IsPart (lists ++ list ∷ []) (record { list = length lists; len = length list }) × (part (lists ++ list ∷ []) (record { list = length lists; len = length list }) ≡ list)
added_list lists list =
    let here : list_at (lists ++ list ∷ []) (length lists) ≡ list = get_or-append_seam lists list [] [] in
    ((omega (arith, length-append lists (list ∷ [])), subst (λ l. length list ≤ length l) (sym here) (omega arith)), ap (take (length list)) here ∙ take_all (length list) list (omega arith))

-- a longer list
pub list_lengthened : (lists : List (List AttrSlot)) (k : ℕ) (more : List AttrSlot) → k < length lists → KeepsParts lists (set lists k (list_at lists k ++ more))
list_lengthened lists k more h share there =
    let less : share.list < length lists = there.0 in
    let fits : share.len ≤ length (list_at lists share.list) = there.1 in
    let long : length (set lists k (list_at lists k ++ more)) ≡ length lists = length-set lists k (list_at lists k ++ more) in
    ⊎_elim
    (λ (t : (eqb share.list k ≡ true) × (share.list ≡ k)).
    let here : list_at (set lists k (list_at lists k ++ more)) share.list ≡ list_at lists share.list ++ more =
    ap (λ z. list_at (set lists k (list_at lists k ++ more)) z) t.1 ∙ get_or-set_same lists k (list_at lists k ++ more) [] h ∙ ap (λ z. list_at lists z ++ more) (sym t.1) in (
      (omega arith, subst (λ l. share.len ≤ length l) (sym here) (omega (arith, length-append (list_at lists share.list) more))),
      ap (take share.len) here ∙ take-append-le share.len (list_at lists share.list) more fits,
    ))
    (λ (t : (eqb share.list k ≡ false) × (share.list ≢ k)).
    let here : list_at (set lists k (list_at lists k ++ more)) share.list ≡ list_at lists share.list = get_or-set_other lists k share.list (list_at lists k ++ more) [] t.1 in
    ((omega arith, subst (λ l. share.len ≤ length l) (sym here) fits), ap (take share.len) here))
    (eqb_tells share.list k)

or_cases : (a b : Bool) → (a || b) ≡ true → (a ≡ false → b ≡ true)
or_cases true b h f = absurd (cc)
or_cases false b h f = h

none_left : {X : Type 0} (xs : List X) → length xs ≡ 0 → xs ≡ []
none_left [] e = refl
none_left (x ∷ xs) e = absurd (let f : suc (length xs) ≡ 0 = e in omega arith)

-- the share that was lengthened
pub lengthened_part : (lists : List (List AttrSlot)) (share : Share) (own : List (List ℕ)) (f : List ℕ → AttrSlot) → IsPart lists share → (length own == 0 || share.len == length (list_at lists share.list)) ≡ true
    → IsPart (set lists share.list (list_at lists share.list ++ map f own)) (record { list = share.list; len = share.len + length own })
    × (part (set lists share.list (list_at lists share.list ++ map f own)) (record { list = share.list; len = share.len + length own }) ≡ part lists share ++ map f own)
lengthened_part lists share own f there whole =
    let less : share.list < length lists = there.0 in
    let fits : share.len ≤ length (list_at lists share.list) = there.1 in
    let old : List AttrSlot = list_at lists share.list in
    let here : list_at (set lists share.list (old ++ map f own)) share.list ≡ old ++ map f own = get_or-set_same lists share.list (old ++ map f own) [] less in
    let long : length (set lists share.list (old ++ map f own)) ≡ length lists = length-set lists share.list (old ++ map f own) in
    let joined : length (old ++ map f own) ≡ length old + length own = length-append old (map f own) ∙ ap (λ n. length old + n) (length-map own f) in (
      (omega arith, subst (λ l. share.len + length own ≤ length l) (sym here) (omega (arith, joined))),
      ap (take (share.len + length own)) here
          ∙ ⊎_elim
          (λ (t : (eqb (length own) 0 ≡ true) × (length own ≡ 0)).
          let none : own ≡ [] = none_left own t.1 in
          let same : share.len + length own ≡ share.len = omega (arith, t.1) in
          ap (λ n. take n (old ++ map f own)) same ∙ take-append-le share.len old (map f own) fits ∙ sym (append-nil (take share.len old)) ∙ ap (λ l. take share.len old ++ map f l) (sym none))
          (λ (t : (eqb (length own) 0 ≡ false) × (length own ≢ 0)).
          let full : share.len ≡ length old = eqb-true share.len (length old) (or_cases (length own == 0) (share.len == length old) whole t.0) in
          ap (λ n. take (n + length own) (old ++ map f own)) full ∙ take-append-add old (map f own) (length own)
          ∙ ap (λ l. old ++ l) (take_all (length own) (map f own) (omega (arith, length-map own f))) ∙ ap (λ l. l ++ map f own) (sym (ap (λ n. take n old) full ∙ take_all (length old) old (omega arith))))
          (eqb_tells (length own) 0),
    )

and_left : (a b : Bool) → (a && b) ≡ true → a ≡ true
and_left true b h = refl
and_left false b h = absurd (cc)

and_right : (a b : Bool) → (a && b) ≡ true → b ≡ true
and_right true b h = h
and_right false b h = absurd (cc)

or_false : (b : Bool) → (b || false) ≡ b
or_false true = refl
or_false false = refl

none_redeclared : (slots : List AttrSlot) → map (redeclared []) slots ≡ slots
none_redeclared [] = refl
none_redeclared (x ∷ xs) = ap (λ b. record { name = x.name; derived = b } ∷ map (redeclared []) xs) (or_false x.derived) ∙ ap (λ l. x ∷ l) (none_redeclared xs)

-- an entity that goes on with its supertype's list
pub begins_there : (lists : List (List AttrSlot)) (base : Share) (d : EntityDecl) → IsPart lists base → may_share lists base d ≡ true → Begins lists base d lists base
begins_there lists base d there h =
    let nothing : d.derived ≡ [] = none_left d.derived (eqb-true (length d.derived) 0 (and_left (length d.derived == 0) (length d.own == 0 || base.len == length (list_at lists base.list)) h)) in
    record {
      there = there;
      inherited = sym (ap (λ ns. map (redeclared ns) (part lists base)) nothing ∙ none_redeclared (part lists base));
      at_end = and_right (length d.derived == 0) (length d.own == 0 || base.len == length (list_at lists base.list)) h;
    }

-- an entity that begins a list
pub begins_anew : (lists : List (List AttrSlot)) (base : Share) (d : EntityDecl)
    → Begins lists base d (lists ++ map (redeclared d.derived) (part lists base) ∷ []) (record { list = length lists; len = length (part lists base) })
begins_anew lists base d =
    let list : List AttrSlot = map (redeclared d.derived) (part lists base) in
    let same : length (part lists base) ≡ length list = sym (length-map (part lists base) (redeclared d.derived)) in
    subst (λ n. Begins lists base d (lists ++ list ∷ []) (record { list = length lists; len = n })) (sym same) (record {
      there = (added_list lists list).0;
      inherited = (added_list lists list).1;
      at_end = ap (λ b. length d.own == 0 || b) (ap (λ l. length list == length l) (get_or-append_seam lists list [] []) ∙ same_length (length list)) ∙ or_true (length d.own == 0);
    })
  where
    or_true : (b : Bool) → (b || true) ≡ true
    or_true true = refl
    or_true false = refl

    same_length : (n : ℕ) → n == n ≡ true
    same_length n = ⊎_elim (λ t. t.0) (λ t. absurd (t.1 refl)) (eqb_tells n n)
