-- Blanks and comments: what is passed is what the grammar has, and no more.
use Rattle.std.proofs.Common.{◌≡◌, ℕ, ◌<◌, ◌≤◌, Bool, true, false, eqb, [], ◌∷◌, length, Ok, refl, sym, subst, ap, inl, inr, arith}
use Rattle.std.proofs.lemmas.Bool.{eqb-true, or_parts}
use Rattle.std.proofs.lemmas.Bool.Decides.{nat_tests}
use Rattle.reading.specs.Reading.{Text, Refused, Shortens, turns}
use Rattle.reading.specs.Runs.{begins}
use Rattle.reading.proofs.Tools.{bound, chosen, kept, ok_is, tested, each_sound, Run, all_run}
use Rattle.p21_read.specs.declared.fault.P21Cause.{P21Cause}
use Rattle.p21_read.specs.declared.fault.P21Cause.TheVariants.{BadToken}
use Rattle.p21_read.specs.Gap.{is_blank, comment, slash, gap_turn, gap}
use Rattle.p21_read.specs.TokenGrammar.{closes, Comment, is_gap, Gap}

abbrev Done : Type 0
Done = Unit {0} × Text

-- ---- comments

-- inside a comment, where the flag says that a star came before
abbrev Inside : Bool → Text → Text → Type 0
Inside false t u = Comment t u
Inside true t u = Comment (42 ∷ t) u

no_star : (c : ℕ) (t : Text) → eqb c 42 ≡ false → closes (c ∷ t) ≡ false
no_star c t not = rw not refl

no_slash : (c : ℕ) (t : Text) → eqb c 47 ≡ false → closes (42 ∷ c ∷ t) ≡ false
no_slash c t not = rw not refl

-- what stands before it, whatever its first code is
here : (star : Bool) (c : ℕ) (t u : Text) → eqb c 42 ≡ star → Inside star t u → Comment (c ∷ t) u
here true c t u is more = let e = eqb-true c 42 is in rw e more
here false c t u not more = Comment.goes_on c t u (no_star c t not) more

comment_sound : (star : Bool) (start t u : Text) → comment star start t ≡ Ok (tt, u) → Inside star t u
unfolding comment
comment_sound star start [] u e = absurd cc
comment_sound false start (c ∷ t) u e = here (eqb c 42) c t u refl (comment_sound (eqb c 42) start t u e)
comment_sound true start (c ∷ t) u e =
    elim (chosen (eqb c 47) (Ok (tt, t)) (comment (eqb c 42) start t) (Ok (tt, u)) e) [
      | inl h ↦
          let is : c ≡ 47 = eqb-true c 47 h.0 in
          let same : t ≡ u = ap (λ (x : Done). x.1) (ok_is {E = Refused P21Cause} (tt, t) (tt, u) h.1) in
          rw (is, ← same) (Comment.ends t)
      | inr h ↦ Comment.goes_on 42 (c ∷ t) u (no_slash c t h.0) (here (eqb c 42) c t u refl (comment_sound (eqb c 42) start t u h.1))
    ]

-- ---- and what is a comment is passed

star_alone : (c : ℕ) (t : Text) → closes (c ∷ t) ≡ false → eqb c 42 ≡ true → begins (λ d. eqb d 47) t ≡ false
star_alone c t open_ is = let f = rw is at open_ in f

after_code : (start : Text) (c : ℕ) (t u : Text) → closes (c ∷ t) ≡ false → comment false start t ≡ Ok (tt, u)
    → (begins (λ d. eqb d 47) t ≡ false → comment true start t ≡ Ok (tt, u)) → comment (eqb c 42) start t ≡ Ok (tt, u)
after_code start c t u open_ f g =
    elim (tested (eqb c 42)) [
      | inl is ↦ rw is (g (star_alone c t open_ is))
      | inr other ↦ rw other f
    ]

comment_reads : {t u : Text} (start : Text) → Comment t u → (comment false start t ≡ Ok (tt, u)) × (begins (λ d. eqb d 47) t ≡ false → comment true start t ≡ Ok (tt, u))
unfolding comment
comment_reads start (Comment.ends t) = (refl, λ e. refl)
comment_reads start (Comment.goes_on c t u open_ more) =
    let k = comment_reads start more in
    let next = after_code start c t u open_ k.0 k.1 in
    (next, λ e. rw e next)

comment_complete : {t u : Text} (start : Text) → Comment t u → comment false start t ≡ Ok (tt, u)
comment_complete start inside = (comment_reads start inside).0

comment_shorter : {t u : Text} → Comment t u → length u < length t
comment_shorter (Comment.ends t) = omega arith
comment_shorter (Comment.goes_on c t u open_ more) = omega (arith, comment_shorter more)

-- ---- turns

abbrev Turn : Type 0
Turn = (Bool × Unit {0}) × Text

-- what follows the slash that begins a comment
slash_is : (c : ℕ) (t : Text) (x : Done) → eqb c 47 ≡ true → slash (c ∷ t) ≡ Ok x → (v : Text) × (c ∷ t ≡ 47 ∷ 42 ∷ v) × Comment v x.1
unfolding slash
slash_is c [] x is e = absurd cc
slash_is c (d ∷ v) x is e =
    let k = kept (eqb d 42) (comment false (c ∷ d ∷ v) v) BadToken (c ∷ d ∷ v) x e in
    let same : c ∷ d ∷ v ≡ 47 ∷ 42 ∷ v = rw (eqb-true c 47 is, eqb-true d 42 k.0) refl in
    (v, same, comment_sound false (c ∷ d ∷ v) v x.1 k.1)

gap_last : (s : Unit {0}) (t : Text) (r : Unit {0}) (u : Text) → gap_turn s t ≡ Ok ((false, r), u) → Gap t u
unfolding gap_turn
gap_last s [] r u e = let same : [] ≡ u = ap (λ (x : Turn). x.1) (ok_is {E = Refused P21Cause} ((false, tt), []) ((false, r), u) e) in rw (← same) (Gap.none [] refl)
gap_last s (c ∷ t) r u e =
    elim (tested (eqb c 47)) [
      | inl is ↦
          let b = bound {r = slash (c ∷ t)} (rw is at e) in
          let wrong : true ≡ false = ap (λ (x : Turn). x.0.0) (ok_is {E = Refused P21Cause} ((true, tt), b.0.1) ((false, r), u) b.2) in absurd cc
      | inr other ↦ elim (chosen (is_blank c) (Ok ((true, tt), t)) (Ok ((false, tt), c ∷ t)) (Ok ((false, r), u)) (rw other at e)) [
        | inl k ↦ let wrong : true ≡ false = ap (λ (x : Turn). x.0.0) (ok_is {E = Refused P21Cause} ((true, tt), t) ((false, r), u) k.1) in absurd cc
        | inr k ↦
            let same : c ∷ t ≡ u = ap (λ (x : Turn). x.1) (ok_is {E = Refused P21Cause} ((false, tt), c ∷ t) ((false, r), u) k.1) in
            let ends : begins is_gap (c ∷ t) ≡ false = rw (other, k.0) refl in
            rw (← same) (Gap.none (c ∷ t) ends)
      ]
    ]

gap_more : (s : Unit {0}) (t : Text) (r : Unit {0}) (u : Text) (q : Unit {0}) (w : Text) → gap_turn s t ≡ Ok ((true, r), u) → Gap u w → Gap t w
unfolding gap_turn
gap_more s [] r u q w e g = let wrong : false ≡ true = ap (λ (x : Turn). x.0.0) (ok_is {E = Refused P21Cause} ((false, tt), []) ((true, r), u) e) in absurd cc
gap_more s (c ∷ t) r u q w e g =
    elim (tested (eqb c 47)) [
      | inl is ↦
          let b = bound {r = slash (c ∷ t)} (rw is at e) in
          let p = slash_is c t b.0 is b.1 in
          let same : b.0.1 ≡ u = ap (λ (x : Turn). x.1) (ok_is {E = Refused P21Cause} ((true, tt), b.0.1) ((true, r), u) b.2) in
          let behind : Gap b.0.1 w = subst (λ (v : Text). Gap v w) (sym same) g in
          subst (λ (v : Text). Gap v w) (sym p.1) (Gap.comment p.0 b.0.1 w p.2 behind)
      | inr other ↦ elim (chosen (is_blank c) (Ok ((true, tt), t)) (Ok ((false, tt), c ∷ t)) (Ok ((true, r), u)) (rw other at e)) [
        | inl k ↦
            let same : t ≡ u = ap (λ (x : Turn). x.1) (ok_is {E = Refused P21Cause} ((true, tt), t) ((true, r), u) k.1) in
            Gap.blank c t w k.0 (subst (λ (v : Text). Gap v w) (sym same) g)
        | inr k ↦ let wrong : false ≡ true = ap (λ (x : Turn). x.0.0) (ok_is {E = Refused P21Cause} ((false, tt), c ∷ t) ((true, r), u) k.1) in absurd cc
      ]
    ]

pub gap_sound : (t u : Text) → gap t ≡ Ok (tt, u) → Gap t u
unfolding gap
gap_sound t u e = each_sound BadToken gap_turn (λ s t r u. Gap t u) gap_last gap_more (turns t) tt t tt u e

blank_other : (c : ℕ) → is_blank c ≡ true → eqb c 47 ≡ false
unfolding is_blank
blank_other c is = grind (arith, nat_tests)

none_runs : (t : Text) → begins is_gap t ≡ false → gap_turn tt t ≡ Ok ((false, tt), t)
unfolding gap_turn
none_runs [] e = refl
none_runs (c ∷ t) e = let b = or_parts (eqb c 47) (is_blank c) e in rw (b.0, b.1) refl

gap_runs : {t u : Text} → Gap t u → Run gap_turn tt t tt u
unfolding gap_turn slash
gap_runs (Gap.none t ends) = Run.last tt t tt t (none_runs t ends)
gap_runs (Gap.blank c t u is more) = Run.more tt (c ∷ t) tt t tt u (rw (blank_other c is, is) refl) (omega arith) (gap_runs more)
gap_runs (Gap.comment t v u inside more) =
    Run.more tt (47 ∷ 42 ∷ t) tt v tt u (rw (comment_complete (47 ∷ 42 ∷ t) inside) refl) (omega (arith, comment_shorter inside)) (gap_runs more)

pub gap_complete : {t u : Text} → Gap t u → gap t ≡ Ok (tt, u)
unfolding gap
gap_complete g = all_run BadToken gap_turn (gap_runs g)

pub gap_shorter : {t u : Text} → Gap t u → length u ≤ length t
gap_shorter (Gap.none t ends) = omega arith
gap_shorter (Gap.blank c t u is more) = omega (arith, gap_shorter more)
gap_shorter (Gap.comment t v u inside more) = omega (arith, comment_shorter inside, gap_shorter more)

pub gap_shortens : Shortens gap_turn
unfolding gap_turn
gap_shortens s [] r u e = let wrong : false ≡ true = ap (λ (x : Turn). x.0.0) (ok_is {E = Refused P21Cause} ((false, tt), []) ((true, r), u) e) in absurd cc
gap_shortens s (c ∷ t) r u e =
    elim (tested (eqb c 47)) [
      | inl is ↦
          let b = bound {r = slash (c ∷ t)} (rw is at e) in
          let p = slash_is c t b.0 is b.1 in
          let inside = comment_shorter p.2 in
          omega (arith, ap length p.1, inside, ap (λ (x : Turn). length x.1) (ok_is {E = Refused P21Cause} ((true, tt), b.0.1) ((true, r), u) b.2))
      | inr other ↦ elim (chosen (is_blank c) (Ok ((true, tt), t)) (Ok ((false, tt), c ∷ t)) (Ok ((true, r), u)) (rw other at e)) [
        | inl k ↦ omega (arith, ap (λ (x : Turn). length x.1) (ok_is {E = Refused P21Cause} ((true, tt), t) ((true, r), u) k.1))
        | inr k ↦ let wrong : false ≡ true = ap (λ (x : Turn). x.0.0) (ok_is {E = Refused P21Cause} ((false, tt), c ∷ t) ((true, r), u) k.1) in absurd cc
      ]
    ]
