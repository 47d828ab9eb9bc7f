-- Blanks and comments: the reader passes what the grammar has, and no more.
use Rattle.std.proofs.Common.{◌≡◌, ℕ, ◌<◌, ◌≤◌, Bool, true, false, cond, eqb, [], ◌∷◌, length, Ok, refl, sym, subst, ap, inl, inr, arith}
use Rattle.std.specs.Prelude.{◌&&◌, ◌||◌}
use Rattle.std.proofs.lemmas.Bool.{eqb-true}
use Rattle.std.proofs.lemmas.Bool.Decides.{nat_tests}
use Rattle.reading_tests.specs.declared.tree.Cause.{Cause}
use Rattle.reading_tests.specs.declared.tree.Cause.TheVariants.{BadToken}
use Rattle.reading.specs.Reading.{Text, Refused, Shortens, ◌>>=◌, turns}
use Rattle.reading.specs.Runs.{begins, run}
use Rattle.reading.proofs.RunLaws.{past_more, past_stop, run_is, run_shorter}
use Rattle.reading_tests.specs.Nest.{is_blank, comment, after_slash, gap_turn, gap}
use Rattle.reading_tests.specs.Grammar.{Comment, Gap, is_gap}
use Rattle.reading.proofs.Tools.{bind_ok, chosen, kept, ok_is, each_sound, tested, Run, all_run}

abbrev Done : Type 0
Done = Unit {0} × Text

ends_at : (star : Bool) (c : ℕ) (t u : Text) → (star && eqb c 47) ≡ true → t ≡ u → Comment star (c ∷ t) u
ends_at false c t u e same = absurd cc
ends_at true c t u e same = let is : c ≡ 47 = eqb-true c 47 e in rw (is, ← same) (Comment.ends t)

or_false : (a b : Bool) → (a || b) ≡ false → (a ≡ false) × (b ≡ false)
or_false true b e = absurd cc
or_false false b e = (refl, e)

comment_sound : (star : Bool) (start t u : Text) → comment star start t ≡ Ok (tt, u) → Comment star t u
unfolding comment
comment_sound star start [] u e = absurd cc
comment_sound star start (c ∷ t) u e =
    elim (chosen (star && eqb c 47) (Ok (tt, t)) (comment (eqb c 42) start t) (Ok (tt, u)) e) [
      | inl h ↦ ends_at star c t u h.0 (ap (λ (x : Done). x.1) (ok_is {E = Refused Cause} (tt, t) (tt, u) h.1))
      | inr h ↦ Comment.goes_on star c t u h.0 (comment_sound (eqb c 42) start t u h.1)
    ]

comment_complete : {star : Bool} {t u : Text} (start : Text) → Comment star t u → comment star start t ≡ Ok (tt, u)
unfolding comment
comment_complete start (Comment.ends t) = refl
comment_complete start (Comment.goes_on star c t u on more) = rw on (comment_complete start more)

comment_shorter : {star : Bool} {t u : Text} → Comment star t u → length u < length t
comment_shorter (Comment.ends t) = omega arith
comment_shorter (Comment.goes_on star c t u on more) = omega (arith, comment_shorter more)

abbrev Turn : Type 0
Turn = (Bool × Unit {0}) × Text

-- what follows the slash that begins a comment
slash_is : (start t : Text) (x : Turn) → after_slash start t ≡ Ok x → (v : Text) × (w : Text) × (t ≡ 42 ∷ v) × (comment false start v ≡ Ok (tt, w)) × (((true, tt), w) ≡ x)
slash_is start [] x e = absurd cc
slash_is start (d ∷ v) x e =
    let k = kept (eqb d 42) (comment false start v >>= λ y. Ok ((true, tt), y.1)) BadToken start x e in
    let b = bind_ok (comment false start v) (λ y. Ok ((true, tt), y.1)) x k.1 in
    (v, b.0.1, ap (λ (n : ℕ). n ∷ v) (eqb-true d 42 k.0), b.1, ok_is {E = Refused Cause} ((true, tt), b.0.1) x b.2)

pub blank_other : (c : ℕ) → is_blank c ≡ true → eqb c 47 ≡ false
unfolding is_blank
blank_other c is = grind (arith, nat_tests)

-- blanks may stand before what blanks and comments are
blanks_back : (t w : Text) → Gap (run is_blank t).1 w → Gap t w
unfolding run
blanks_back [] w g = g
blanks_back (c ∷ t) w g =
    elim (tested (is_blank c)) [
      | inl is ↦ Gap.blank c t w (blank_other c is) is (blanks_back t w (subst (λ (v : Text). Gap v w) (past_more is_blank c t is) g))
      | inr not ↦ subst (λ (v : Text). Gap v w) (past_stop is_blank (c ∷ t) not) g
    ]

gap_last : (s : Unit {0}) (t : Text) (r : Unit {0}) (u : Text) → gap_turn s t ≡ Ok ((false, r), u) → Gap t u
unfolding gap_turn
gap_last s [] r u e = let same : [] ≡ u = ap (λ (x : Turn). x.1) (ok_is {E = Refused Cause} ((false, tt), []) ((false, r), u) e) in rw (← same) (Gap.none [] refl)
gap_last s (c ∷ t) r u e =
    elim (chosen (eqb c 47) (after_slash (c ∷ t) t) (cond (is_blank c) (Ok ((true, tt), (run is_blank t).1)) (Ok ((false, tt), c ∷ t))) (Ok ((false, r), u)) e) [
      | inl h ↦
          let q = slash_is (c ∷ t) t ((false, r), u) h.1 in
          let no : true ≡ false = ap (λ (x : Turn). x.0.0) q.4 in absurd cc
      | inr h ↦ elim (chosen (is_blank c) (Ok ((true, tt), (run is_blank t).1)) (Ok ((false, tt), c ∷ t)) (Ok ((false, r), u)) h.1) [
        | inl k ↦ let no : true ≡ false = ap (λ (x : Turn). x.0.0) (ok_is {E = Refused Cause} ((true, tt), (run is_blank t).1) ((false, r), u) k.1) in absurd cc
        | inr k ↦ let same : c ∷ t ≡ u = ap (λ (x : Turn). x.1) (ok_is {E = Refused Cause} ((false, tt), c ∷ t) ((false, r), u) k.1) in
            let ends : begins is_gap (c ∷ t) ≡ false = rw (h.0, k.0) refl in
            rw (← same) (Gap.none (c ∷ t) ends)
      ]
    ]

gap_more : (s : Unit {0}) (t : Text) (r : Unit {0}) (u : Text) (q : Unit {0}) (w : Text) → gap_turn s t ≡ Ok ((true, r), u) → Gap u w → Gap t w
unfolding gap_turn
gap_more s [] r u q w e g = let no : false ≡ true = ap (λ (x : Turn). x.0.0) (ok_is {E = Refused Cause} ((false, tt), []) ((true, r), u) e) in absurd cc
gap_more s (c ∷ t) r u q w e g =
    elim (chosen (eqb c 47) (after_slash (c ∷ t) t) (cond (is_blank c) (Ok ((true, tt), (run is_blank t).1)) (Ok ((false, tt), c ∷ t))) (Ok ((true, r), u)) e) [
      | inl h ↦
          let p = slash_is (c ∷ t) t ((true, r), u) h.1 in
          let is : c ≡ 47 = eqb-true c 47 h.0 in
          let same : p.1 ≡ u = ap (λ (x : Turn). x.1) p.4 in
          let inside : Comment false p.0 p.1 = comment_sound false (c ∷ t) p.0 p.1 p.3 in
          rw (is, p.2) (Gap.comment p.0 p.1 w inside (rw same g))
      | inr h ↦ elim (chosen (is_blank c) (Ok ((true, tt), (run is_blank t).1)) (Ok ((false, tt), c ∷ t)) (Ok ((true, r), u)) h.1) [
        | inl k ↦ let same : (run is_blank t).1 ≡ u = ap (λ (x : Turn). x.1) (ok_is {E = Refused Cause} ((true, tt), (run is_blank t).1) ((true, r), u) k.1) in Gap.blank c t w h.0 k.0 (blanks_back t w (subst (λ (v : Text). Gap v w) (sym same) g))
        | inr k ↦ let no : false ≡ true = ap (λ (x : Turn). x.0.0) (ok_is {E = Refused Cause} ((false, tt), c ∷ t) ((true, r), u) k.1) in absurd cc
      ]
    ]

pub gap_sound : (t u : Text) → gap t ≡ Ok (tt, u) → Gap t u
unfolding gap
gap_sound t u e = each_sound BadToken gap_turn (λ s t r u. Gap t u) gap_last gap_more (turns t) tt t tt u e

no_blank : (t : Text) → begins is_gap t ≡ false → begins is_blank t ≡ false
no_blank [] e = refl
no_blank (c ∷ t) e = (or_false (eqb c 47) (is_blank c) e).1

slash_ends : is_blank 47 ≡ false
unfolding is_blank
slash_ends = refl

pub none_runs : (t : Text) → begins is_gap t ≡ false → gap_turn tt t ≡ Ok ((false, tt), t)
unfolding gap_turn
none_runs [] e = refl
none_runs (c ∷ t) e = let b = or_false (eqb c 47) (is_blank c) e in rw (b.0, b.1) refl

-- turns from the text, and from behind the blanks at its front
gap_runs : {t u : Text} → Gap t u → Run gap_turn tt t tt u × Run gap_turn tt (run is_blank t).1 tt u
unfolding gap_turn
gap_runs (Gap.none t ends) =
    let here : Run gap_turn tt t tt t = Run.last tt t tt t (none_runs t ends) in
    (here, subst (λ (v : Text). Run gap_turn tt v tt t) (sym (past_stop is_blank t (no_blank t ends))) here)
gap_runs (Gap.blank c t u other is more) =
    let past : Run gap_turn tt (run is_blank t).1 tt u = (gap_runs more).1 in
    let less : length (run is_blank t).1 < length (c ∷ t) = omega (arith, run_shorter (run_is is_blank t)) in
    (Run.more tt (c ∷ t) tt (run is_blank t).1 tt u (rw (other, is) refl) less past, subst (λ (v : Text). Run gap_turn tt v tt u) (sym (past_more is_blank c t is)) past)
gap_runs (Gap.comment t v u inside more) =
    let here : Run gap_turn tt (47 ∷ 42 ∷ t) tt u = Run.more tt (47 ∷ 42 ∷ t) tt v tt u (rw (comment_complete (47 ∷ 42 ∷ t) inside) refl) (omega (arith, comment_shorter inside)) (gap_runs more).0 in
    (here, subst (λ (v : Text). Run gap_turn tt v tt u) (sym (past_stop is_blank (47 ∷ 42 ∷ t) slash_ends)) here)

pub gap_complete : {t u : Text} → Gap t u → gap t ≡ Ok (tt, u)
unfolding gap
gap_complete g = all_run BadToken gap_turn (gap_runs g).0

pub gap_shorter : {t u : Text} → Gap t u → length u ≤ length t
gap_shorter (Gap.none t ends) = omega arith
gap_shorter (Gap.blank c t u other is more) = omega (arith, gap_shorter more)
gap_shorter (Gap.comment t v u inside more) = omega (arith, comment_shorter inside, gap_shorter more)

pub gap_shortens : (s : Unit {0}) (t : Text) (r : Unit {0}) (u : Text) → gap_turn s t ≡ Ok ((true, r), u) → length u < length t
unfolding gap_turn
gap_shortens s [] r u e = let wrong : false ≡ true = ap (λ (x : Turn). x.0.0) (ok_is {E = Refused Cause} ((false, tt), []) ((true, r), u) e) in absurd cc
gap_shortens s (c ∷ t) r u e =
    elim (chosen (eqb c 47) (after_slash (c ∷ t) t) (cond (is_blank c) (Ok ((true, tt), (run is_blank t).1)) (Ok ((false, tt), c ∷ t))) (Ok ((true, r), u)) e) [
      | inl h ↦
          let p = slash_is (c ∷ t) t ((true, r), u) h.1 in
          let inside = comment_shorter (comment_sound false (c ∷ t) p.0 p.1 p.3) in
          omega (arith, ap length p.2, inside, ap (λ (x : Turn). length x.1) p.4)
      | inr h ↦ elim (chosen (is_blank c) (Ok ((true, tt), (run is_blank t).1)) (Ok ((false, tt), c ∷ t)) (Ok ((true, r), u)) h.1) [
        | inl k ↦ omega (arith, run_shorter (run_is is_blank t), ap (λ (x : Turn). length x.1) (ok_is {E = Refused Cause} ((true, tt), (run is_blank t).1) ((true, r), u) k.1))
        | inr k ↦ let wrong : false ≡ true = ap (λ (x : Turn). x.0.0) (ok_is {E = Refused Cause} ((false, tt), c ∷ t) ((true, r), u) k.1) in absurd cc
      ]
    ]
