-- What has been read or written so far.
use Rattle.std.proofs.Common.{◌≡◌, ℕ, ◌+◌, ◌-◌, ◌≤◌, ◌<◌, nat_lt, true, false, List, ◌∷◌, ◌++◌, length, take, drop, Option, refl, ap, sym, ◌∙◌, arith, length-append, append_assoc}
use Rattle.std.specs.Prelude.{Some, None, IfSome}
use Rattle.std.specs.Option.{ForSome}
use Rattle.std.proofs.Math.Seq.{take-add}
use Rattle.std.proofs.lemmas.List.{take-append-le, take_all}
use Rattle.std.proofs.lemmas.Grind.{common_steps}
use Rattle.shelf_io.specs.Pieces.{Files, file_told, IsMissing, IsPiece, IsFront, Appended}
use Rattle.shelf_io.specs.Reads.{Read, HasGiven, IsWhole}

-- the bytes are the front of what the shelf tells, which stays, and what its reads gave; no read has failed, none of a
-- missing file has gone well, and the shelf has stayed steady where it was
pub record HasRead (held now : Option Files) (old log : List Read) (name bytes : List ℕ) (most before faults : ℕ) (was is : List ℕ → Type 0) : Type 0 where
  pub same : now ≡ held
  pub bound : length bytes ≤ most
  pub given : HasGiven name most old log bytes
  pub front : ForSome (file_told held name) (λ all. IsFront bytes all)
  pub missing : IsMissing held name → length bytes ≡ 0
  pub calm : faults ≡ before
  pub steady : (other : List ℕ) → was other → is other

pub IfSome-from_ForSome : {X : Type 0} (o : Option X) (P : X → Type 0) → ForSome o P → IfSome o P
IfSome-from_ForSome None P h = tt
IfSome-from_ForSome (Some x) P h = h x refl

pub ForSome-from_IfSome : {X : Type 0} (o : Option X) (P : X → Type 0) → IfSome o P → ForSome o P
ForSome-from_IfSome None P h x e = absurd (cc)
ForSome-from_IfSome (Some y) P h x e = let same : y ≡ x = cc in rw (← same) h

-- the first so many bytes stand behind what was written before; no write has failed, and the sink is sure
-- of as many bytes less
pub record HasWritten (old now : Option (List ℕ)) (bytes : List ℕ) (at before faults : ℕ) (was is : ℕ → Type 0) : Type 0 where
  pub within : at ≤ length bytes
  pub written : Appended old now (take at bytes)
  pub calm : faults ≡ before
  pub left : (more : ℕ) → was (at + more) → is more

pub appended_twice : (a b c : Option (List ℕ)) (xs ys : List ℕ) → Appended a b xs → Appended b c ys → Appended a c (xs ++ ys)
appended_twice None b c xs ys p q = rw (q, p) refl
appended_twice (Some w) b c xs ys p q = rw (q, p) (ap Some (append_assoc w xs ys))

-- a piece that was read behind a front makes a longer front
pub read_step : (all bytes next into rest : List ℕ) (from n : ℕ) → IsFront bytes all → IsPiece all from n into → from ≡ length bytes → n ≤ length into → next ≡ bytes ++ take n (into ++ rest) → IsFront next all
read_step all bytes next into rest from n front piece here room made =
    let got : take n (into ++ rest) ≡ take n (drop (length bytes) all) = rw (take-append-le, ← here) piece.same in
    let more : length (take n (into ++ rest)) ≡ n = grind (arith, common_steps) in
    let whole : length next ≡ length bytes + n = rw (made, length-append, more) refl in
    rw (whole, take-add, front, ← got) (sym made)

-- one more read that gave some bytes
pub given_more : {name : List ℕ} {most : ℕ} {old now new : List Read} (bytes next into rest : List ℕ) (from n room : ℕ) → HasGiven name most old now bytes → from ≡ length bytes → from + n ≤ most → 0 < n → n ≤ length into
    → new ≡ (name, from, room, Some (take n into)) ∷ now → next ≡ bytes ++ take n (into ++ rest) → HasGiven name most old new next
given_more {name} {most} bytes next into rest from n room (reads, given, went) here more some fits noted made =
    let whole : length (take n into) ≡ n = grind (arith, common_steps) in
    let piece : take n (into ++ rest) ≡ take n into = take-append-le n into rest fits in
    let within : length bytes + length (take n into) ≤ most = omega (arith, more, whole, here) in (
      (name, length bytes, room, Some (take n into)) ∷ reads,
      (bytes, take n into, room, given, rw whole some, within, refl, rw (made, piece) refl),
      rw (noted, here, went) refl,
    )

-- a read that gave nothing ends it
pub given_whole : {name : List ℕ} {most : ℕ} {old now new : List Read} (bytes into : List ℕ) (from n room : ℕ) → 0 < room → HasGiven name most old now bytes → from ≡ length bytes → length bytes < most → n ≡ 0
    → new ≡ (name, from, room, Some (take n into)) ∷ now → IsWhole name most old new bytes
given_whole {name} {most} {old} {now} bytes into from n room some given here more none noted =
    let fewer : nat_lt (length bytes) most ≡ true = grind (arith, common_steps) in
    (now, room, given, some, rw (fewer, noted, here, none) refl)

-- and so does having as many as are wanted
pub given_most : {name : List ℕ} {most : ℕ} {old now : List Read} (bytes : List ℕ) → HasGiven name most old now bytes → most ≤ length bytes → IsWhole name most old now bytes
given_most {name} {most} {old} {now} bytes given full =
    let enough : nat_lt (length bytes) most ≡ false = grind (arith, common_steps) in
    (now, 1, given, omega arith, rw enough refl)

-- a front that is as long as the whole is the whole
pub front_whole : (all bytes : List ℕ) (most : ℕ) → IsFront bytes all → length all ≤ length bytes → length bytes ≤ most → bytes ≡ take most all
front_whole all bytes most front ended bound = sym front ∙ take_all (length bytes) all ended ∙ sym (take_all most all (omega arith))

-- a slice to the end is what is left
rest_is : (xs : List ℕ) (at n : ℕ) → take n (take (length xs - at) (drop at xs)) ≡ take n (drop at xs)
rest_is xs at n = grind (arith, common_steps)

pub write_step : (old mid new : Option (List ℕ)) (bytes : List ℕ) (at n : ℕ) → Appended old mid (take at bytes) → Appended mid new (take n (take (length bytes - at) (drop at bytes))) → Appended old new (take (at + n) bytes)
write_step old mid new bytes at n p q = rw (take-add at n bytes) (appended_twice old mid new _ _ p (rw (rest_is bytes at n) at q))

-- a front of the full length
pub front_full : (all bytes : List ℕ) (most : ℕ) → IsFront bytes all → length bytes ≡ most → bytes ≡ take most all
front_full all bytes most front full = rw (← full) (sym front)

-- what a read says of the bytes that the shelf told
pub piece_at : (held now : Option Files) (name all : List ℕ) (from n : ℕ) (buffer : List ℕ) → now ≡ held → file_told held name ≡ Some all → IfSome (file_told now name) (λ bytes. IsPiece bytes from n buffer) → IsPiece all from n buffer
piece_at held now name all from n buffer same told piece =
    ForSome-from_IfSome (file_told now name) (λ bytes. IsPiece bytes from n buffer) piece all (rw same told)

-- what is missing stays missing
pub missing_stays : (held now : Option Files) (name : List ℕ) → now ≡ held → IsMissing held name → IsMissing now name
missing_stays held now name same missing = rw same missing

-- a sink that is sure of so many bytes is sure of those that are left behind two pieces
pub less_sure : (was mid is : ℕ → Type 0) (at n : ℕ) → ((more : ℕ) → was (at + more) → mid more) → ((more : ℕ) → mid (n + more) → is more) → (more : ℕ) → was (at + n + more) → is more
less_sure was mid is at n first second more sure =
    second more (first (n + more) (let shift : at + (n + more) ≡ at + n + more = omega arith in rw shift sure))

-- and of the rest of a piece, of whose front so many bytes were taken
pub rest_sure : (was is : ℕ → Type 0) (bytes : List ℕ) (at : ℕ) → at ≤ length bytes → (more : ℕ) → ((more : ℕ) → was (at + more) → is more) → was (length bytes + more) → is (length (take (length bytes - at) (drop at bytes)) + more)
rest_sure was is bytes at within more left sure =
    let rest : length (take (length bytes - at) (drop at bytes)) ≡ length bytes - at = grind (arith, common_steps) in
    let whole : at + ((length bytes - at) + more) ≡ length bytes + more = omega (arith, within) in
    rw rest (left ((length bytes - at) + more) (rw whole sure))
