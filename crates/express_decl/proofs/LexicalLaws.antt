-- Remarks, blanks and tokens: what is read is spelled so, and what is spelled so is read.
use Rattle.std.proofs.Common.{◌≡◌, ℕ, ◌<◌, ◌≤◌, Bool, true, false, ◌&&◌, ◌||◌, eqb, List, [], ◌∷◌, length, Some, None, Ok, refl, sym, ap, ◌∙◌, subst, inl, inr, arith, length-append}
use Rattle.std.specs.Char.{is_ascii_graphic}
use Rattle.std.proofs.lemmas.Bool.{eqb-true}
use Rattle.reading.specs.Reading.{Text, turns}
use Rattle.reading.specs.Runs.{begins, IsRun, run}
use Rattle.reading.proofs.RunLaws.{run_is, run_only}
use Rattle.reading.proofs.Tools.{bound, tested, each_sound, Run, all_run}
use Rattle.express_decl.specs.declared.decl.DeclCause.TheVariants.{Unclosed, Unexpected}
use Rattle.express_decl.specs.Tokens.{Remarks, remark_closed, remark_turn, remark, tail_remark, is_blank, gap_turn, gap, next_is, behind, Token, Word, Quoted, Lexed, is_word, quoted, token_of, token_here, token}
use Rattle.express_decl.specs.Lexical.{opens_remark, closes_remark, opens_tail, Remark, TailRemark, begins_gap, Gap, String, IsToken}
use Rattle.express_decl.proofs.DeclTools.{or_false, two_are, lexed, given, turned, same, value_of, left_of, state_of, never_last, never_more}

-- ---- embedded remarks

-- what closes the innermost remark and those around it
data Open : List Text → Text → Text → Type 0 where
  one : {t u : Text} → Remark t u → Open [] t u
  more : {p : Text} {outer : List Text} {t v u : Text} → Remark t v → Open outer v u → Open (p ∷ outer) t u

opens_back : {p : Text} {outer : List Text} {t u : Text} → Open (p ∷ outer) t u → Open outer (40 ∷ 42 ∷ t) u
opens_back (Open.more a (Open.one b)) = Open.one (Remark.nested a b)
opens_back (Open.more a (Open.more b rest)) = Open.more (Remark.nested a b) rest

other_back : {outer : List Text} {c : ℕ} {t u : Text} → opens_remark c t ≡ false → closes_remark c t ≡ false → Open outer t u → Open outer (c ∷ t) u
other_back o k (Open.one r) = Open.one (Remark.other o k r)
other_back o k (Open.more r rest) = Open.more (Remark.other o k r) rest

closed_last : (here : Text) (outer : List Text) (c : ℕ) (t : Text) (r : Remarks) (u : Text) → closes_remark c t ≡ true → given (remark_closed here outer) (behind t) ≡ turned false r u
    → Open outer (c ∷ t) u
closed_last here [] c t r u is e =
    let text : c ∷ t ≡ 42 ∷ 41 ∷ u = two_are 42 41 c t is ∙ ap (λ (v : Text). 42 ∷ 41 ∷ v) (left_of e) in
    subst (λ (w : Text). Open [] w u) (sym text) (Open.one Remark.closed)
closed_last here (p ∷ outer) c t r u is e = absurd (never_last e)

closed_more : (here : Text) (outer : List Text) (c : ℕ) (t : Text) (r : Remarks) (u w : Text) → closes_remark c t ≡ true → given (remark_closed here outer) (behind t) ≡ turned true r u
    → Open r.outer u w → Open outer (c ∷ t) w
closed_more here [] c t r u w is e rest = absurd (never_more e)
closed_more here (p ∷ outer) c t r u w is e rest =
    let text : c ∷ t ≡ 42 ∷ 41 ∷ u = two_are 42 41 c t is ∙ ap (λ (v : Text). 42 ∷ 41 ∷ v) (left_of e) in
    let others : Open outer u w = subst (λ (x : Remarks). Open x.outer u w) (sym (state_of e)) rest in
    subst (λ (v : Text). Open (p ∷ outer) v w) (sym text) (Open.more Remark.closed others)

remark_last : (s : Remarks) (t : Text) (r : Remarks) (u : Text) → remark_turn s t ≡ Ok ((false, r), u) → Open s.outer t u
unfolding remark_turn
remark_last s [] r u e = absurd cc
remark_last s (c ∷ t) r u e =
    elim (tested (eqb c 40 && next_is 42 t)) [
      | inl o ↦ let f = rw o at e in absurd (never_last f)
      | inr o ↦ let e1 = rw o at e in
          elim (tested (eqb c 42 && next_is 41 t)) [
            | inl k ↦ let f = rw k at e1 in closed_last s.innermost s.outer c t r u k f
            | inr k ↦ let f = rw k at e1 in absurd (never_last f)
          ]
    ]

remark_more : (s : Remarks) (t : Text) (r : Remarks) (u : Text) (q : Remarks) (w : Text) → remark_turn s t ≡ Ok ((true, r), u) → Open r.outer u w → Open s.outer t w
unfolding remark_turn
remark_more s [] r u q w e rest = absurd cc
remark_more s (c ∷ t) r u q w e rest =
    elim (tested (eqb c 40 && next_is 42 t)) [
      | inl o ↦
          let f = rw o at e in
          let text : c ∷ t ≡ 40 ∷ 42 ∷ u = two_are 40 42 c t o ∙ ap (λ (v : Text). 40 ∷ 42 ∷ v) (left_of f) in
          let inside : Open (s.innermost ∷ s.outer) u w = subst (λ (x : Remarks). Open x.outer u w) (sym (state_of f)) rest in
          subst (λ (v : Text). Open s.outer v w) (sym text) (opens_back inside)
      | inr o ↦ let e1 = rw o at e in
          elim (tested (eqb c 42 && next_is 41 t)) [
            | inl k ↦ let f = rw k at e1 in closed_more s.innermost s.outer c t r u w k f rest
            | inr k ↦
                let f = rw k at e1 in
                let inside : Open s.outer u w = subst (λ (x : Remarks). Open x.outer u w) (sym (state_of f)) rest in
                other_back o k (subst (λ (v : Text). Open s.outer v w) (sym (left_of f)) inside)
          ]
    ]

only_one : {t u : Text} → Open [] t u → Remark t u
only_one (Open.one r) = r

abbrev at_remark : Text → List Text → Remarks
at_remark p outer = record { innermost = p; outer = outer }

pub remark_sound : (start t u : Text) → remark start t ≡ Ok (tt, u) → Remark t u
unfolding remark
remark_sound start t u e =
    let b = bound e in
    let o = each_sound Unclosed remark_turn (λ s t r u. Open s.outer t u) remark_last remark_more (turns t) (at_remark start []) t b.0.0 b.0.1 b.1 in
    only_one (subst (λ (v : Text). Open [] t v) (left_of b.2) o)

-- a remark within another
remark_inside : {t u : Text} → Remark t u → (p q : Text) (outer : List Text) {r : Remarks} {w : Text} → Run remark_turn (at_remark q outer) u r w → Run remark_turn (at_remark p (q ∷ outer)) t r w
unfolding remark_turn next_is behind
remark_inside (Remark.closed {t = t}) p q outer {r = r} {w = w} rest =
    Run.more (at_remark p (q ∷ outer)) (42 ∷ 41 ∷ t) (at_remark q outer) t r w refl (omega arith) rest
remark_inside (Remark.nested {t = t} a b) p q outer {r = r} {w = w} rest =
    let here : Text = 40 ∷ 42 ∷ t in
    Run.more (at_remark p (q ∷ outer)) here (at_remark here (p ∷ q ∷ outer)) t r w refl (omega arith) (remark_inside a here p (q ∷ outer) (remark_inside b p q outer rest))
remark_inside (Remark.other {c = c} {t = t} o k a) p q outer {r = r} {w = w} rest =
    Run.more (at_remark p (q ∷ outer)) (c ∷ t) (at_remark p (q ∷ outer)) t r w (rw (o, k) refl) (omega arith) (remark_inside a p q outer rest)

remark_runs : {t u : Text} → Remark t u → (p : Text) → (r : Remarks) × Run remark_turn (at_remark p []) t r u
unfolding remark_turn next_is behind
remark_runs (Remark.closed {t = t}) p = (at_remark p [], Run.last (at_remark p []) (42 ∷ 41 ∷ t) (at_remark p []) t refl)
remark_runs (Remark.nested {t = t} {v = v} a b) p =
    let here : Text = 40 ∷ 42 ∷ t in
    let n = remark_runs b p in
    (n.0, Run.more (at_remark p []) here (at_remark here (p ∷ [])) t n.0 v refl (omega arith) (remark_inside a here p [] n.1))
remark_runs (Remark.other {c = c} {t = t} {u = u} o k a) p =
    let n = remark_runs a p in (n.0, Run.more (at_remark p []) (c ∷ t) (at_remark p []) t n.0 u (rw (o, k) refl) (omega arith) n.1)

remark_complete : {t u : Text} → Remark t u → (start : Text) → remark start t ≡ Ok (tt, u)
unfolding remark
remark_complete is start = let n = remark_runs is start in rw (all_run Unclosed remark_turn n.1) refl

pub remark_shorter : {t u : Text} → Remark t u → length u < length t
remark_shorter Remark.closed = omega arith
remark_shorter (Remark.nested a b) = omega (arith, remark_shorter a, remark_shorter b)
remark_shorter (Remark.other o k a) = omega (arith, remark_shorter a)

-- ---- tail remarks

pub tail_is : (t : Text) → TailRemark t (tail_remark t)
unfolding tail_remark
tail_is [] = TailRemark.end
tail_is (c ∷ t) =
    elim (tested (eqb c 10)) [
      | inl h ↦ rw h (subst (λ (n : ℕ). TailRemark (n ∷ t) t) (sym (eqb-true c 10 h)) TailRemark.line_feed)
      | inr h ↦ rw h (TailRemark.other h (tail_is t))
    ]

tail_only : {t u : Text} → TailRemark t u → tail_remark t ≡ u
unfolding tail_remark
tail_only TailRemark.end = refl
tail_only TailRemark.line_feed = refl
tail_only (TailRemark.other h is) = rw h (tail_only is)

pub tail_shorter : {t u : Text} → TailRemark t u → length u ≤ length t
tail_shorter TailRemark.end = omega arith
tail_shorter TailRemark.line_feed = omega arith
tail_shorter (TailRemark.other h is) = omega (arith, tail_shorter is)

-- ---- blanks and remarks

gap_last : (s : Unit {0}) (t : Text) (r : Unit {0}) (u : Text) → gap_turn s t ≡ Ok ((false, r), u) → Gap t u
unfolding gap_turn
gap_last s [] r u e = subst (λ (v : Text). Gap [] v) (left_of e) (Gap.none refl)
gap_last s (c ∷ t) r u e =
    elim (tested (is_blank c)) [
      | inl h ↦ let f = rw h at e in absurd (never_last f)
      | inr h ↦ let e1 = rw h at e in
          elim (tested (eqb c 45 && next_is 45 t)) [
            | inl k ↦ let f = rw k at e1 in absurd (never_last f)
            | inr k ↦ let e2 = rw k at e1 in
                elim (tested (eqb c 40 && next_is 42 t)) [
                  | inl m ↦ let f = rw m at e2 in let b = bound {r = remark (c ∷ t) (behind t)} f in absurd (never_last b.2)
                  | inr m ↦ let f = rw m at e2 in
                      let none : begins_gap (c ∷ t) ≡ false = rw (h, k, m) refl in
                      subst (λ (v : Text). Gap (c ∷ t) v) (left_of f) (Gap.none none)
                ]
          ]
    ]

gap_more : (s : Unit {0}) (t : Text) (r : Unit {0}) (u : Text) (q : Unit {0}) (w : Text) → gap_turn s t ≡ Ok ((true, r), u) → Gap u w → Gap t w
unfolding gap_turn
gap_more s [] r u q w e g = absurd (never_more e)
gap_more s (c ∷ t) r u q w e g =
    elim (tested (is_blank c)) [
      | inl h ↦ let f = rw h at e in Gap.blank h (subst (λ (v : Text). Gap v w) (sym (left_of f)) g)
      | inr h ↦ let e1 = rw h at e in
          elim (tested (eqb c 45 && next_is 45 t)) [
            | inl k ↦ let f = rw k at e1 in
                let is : TailRemark (behind t) u = subst (λ (v : Text). TailRemark (behind t) v) (left_of f) (tail_is (behind t)) in
                subst (λ (v : Text). Gap v w) (sym (two_are 45 45 c t k)) (Gap.tail is g)
            | inr k ↦ let e2 = rw k at e1 in
                elim (tested (eqb c 40 && next_is 42 t)) [
                  | inl m ↦ let f = rw m at e2 in
                      let b = bound {r = remark (c ∷ t) (behind t)} f in
                      let is : Remark (behind t) u = subst (λ (v : Text). Remark (behind t) v) (left_of b.2) (remark_sound (c ∷ t) (behind t) b.0.1 b.1) in
                      subst (λ (v : Text). Gap v w) (sym (two_are 40 42 c t m)) (Gap.embedded is g)
                  | inr m ↦ let f = rw m at e2 in absurd (never_more f)
                ]
          ]
    ]

gap_sound : (t u : Text) → gap t ≡ Ok (tt, u) → Gap t u
unfolding gap
gap_sound t u e = each_sound Unexpected gap_turn (λ s t r u. Gap t u) gap_last gap_more (turns t) tt t tt u e

none_here : (t : Text) → begins_gap t ≡ false → gap_turn tt t ≡ Ok ((false, tt), t)
unfolding gap_turn
none_here [] e = refl
none_here (c ∷ t) e =
    let h = or_false (is_blank c) (opens_tail c t || opens_remark c t) e in
    let k = or_false (opens_tail c t) (opens_remark c t) h.1 in
    rw (h.0, k.0, k.1) refl

no_blanks : (is_blank 45 ≡ false) × (is_blank 40 ≡ false)
unfolding is_blank
no_blanks = (refl, refl)

tail_turn : {t u : Text} → TailRemark t u → gap_turn tt (45 ∷ 45 ∷ t) ≡ Ok ((true, tt), u)
unfolding gap_turn next_is behind
tail_turn is = let b = no_blanks in rw (b.0, tail_only is) refl

embedded_turn : {t u : Text} → Remark t u → gap_turn tt (40 ∷ 42 ∷ t) ≡ Ok ((true, tt), u)
unfolding gap_turn next_is behind
embedded_turn {t = t} is = let b = no_blanks in rw (b.1, remark_complete is (40 ∷ 42 ∷ t)) refl

blank_turn : (c : ℕ) (t : Text) → is_blank c ≡ true → gap_turn tt (c ∷ t) ≡ Ok ((true, tt), t)
unfolding gap_turn
blank_turn c t is = rw is refl

gap_runs : {t u : Text} → Gap t u → Run gap_turn tt t tt u
gap_runs (Gap.none {t = t} none) = Run.last tt t tt t (none_here t none)
gap_runs (Gap.blank {c = c} {t = t} {u = u} is g) = Run.more tt (c ∷ t) tt t tt u (blank_turn c t is) (omega arith) (gap_runs g)
gap_runs (Gap.tail {t = t} {u = u} {v = v} is g) = Run.more tt (45 ∷ 45 ∷ t) tt u tt v (tail_turn is) (omega (arith, tail_shorter is)) (gap_runs g)
gap_runs (Gap.embedded {t = t} {u = u} {v = v} is g) = Run.more tt (40 ∷ 42 ∷ t) tt u tt v (embedded_turn is) (omega (arith, remark_shorter is)) (gap_runs g)

gap_complete : {t u : Text} → Gap t u → gap t ≡ Ok (tt, u)
unfolding gap
gap_complete g = all_run Unexpected gap_turn (gap_runs g)

gap_shorter : {t u : Text} → Gap t u → length u ≤ length t
gap_shorter (Gap.none none) = omega arith
gap_shorter (Gap.blank is g) = omega (arith, gap_shorter g)
gap_shorter (Gap.tail is g) = omega (arith, tail_shorter is, gap_shorter g)
gap_shorter (Gap.embedded is g) = omega (arith, remark_shorter is, gap_shorter g)

-- ---- strings

abbrev AfterQuote : Bool → Text → Text → Type 0
AfterQuote false t u = String t u
AfterQuote true t u = String (39 ∷ t) u

quoted_sound : (quote : Bool) (start t u : Text) → quoted quote start t ≡ Ok (tt, u) → AfterQuote quote t u
unfolding quoted next_is
quoted_sound false start [] u e = absurd cc
quoted_sound false start (c ∷ t) u e =
    elim (tested (eqb c 39)) [
      | inl h ↦ let f = subst (λ (b : Bool). quoted b start t ≡ Ok (tt, u)) h e in subst (λ (n : ℕ). String (n ∷ t) u) (sym (eqb-true c 39 h)) (quoted_sound true start t u f)
      | inr h ↦ let f = subst (λ (b : Bool). quoted b start t ≡ Ok (tt, u)) h e in String.other h (quoted_sound false start t u f)
    ]
quoted_sound true start [] u e = subst (λ (v : Text). String (39 ∷ []) v) (left_of e) (String.end refl)
quoted_sound true start (c ∷ t) u e =
    elim (tested (eqb c 39)) [
      | inl h ↦ let f = rw h at e in subst (λ (n : ℕ). String (39 ∷ n ∷ t) u) (sym (eqb-true c 39 h)) (String.quotes (quoted_sound false start t u f))
      | inr h ↦ let f = rw h at e in subst (λ (v : Text). String (39 ∷ c ∷ t) v) (left_of f) (String.end h)
    ]

quote_ends : (start t : Text) → next_is 39 t ≡ false → quoted true start t ≡ Ok (tt, t)
unfolding quoted next_is
quote_ends start [] h = refl
quote_ends start (c ∷ t) h = rw h refl

quoted_complete : {t u : Text} → String t u → (start : Text) → quoted false start t ≡ Ok (tt, u)
unfolding quoted
quoted_complete (String.quotes is) start = quoted_complete is start
quoted_complete (String.other {t = t} {u = u} h is) start = subst (λ (b : Bool). quoted b start t ≡ Ok (tt, u)) (sym h) (quoted_complete is start)
quoted_complete (String.end {t = t} h) start = quote_ends start t h

string_shorter : {t u : Text} → String t u → length u < length t
string_shorter (String.quotes is) = omega (arith, string_shorter is)
string_shorter (String.other h is) = omega (arith, string_shorter is)
string_shorter (String.end h) = omega arith

-- ---- one token

of_sound : (c : ℕ) (t : Text) (x : Token) (u : Text) → token_of (c ∷ t) c t ≡ Ok (x, u) → IsToken (c ∷ t) x u
unfolding token_of
of_sound c t x u e =
    elim (tested (is_word c)) [
      | inl h ↦
          let f = rw h at e in
          let is : IsToken (c ∷ t) (Word (run is_word (c ∷ t)).0) (run is_word (c ∷ t)).1 = IsToken.word h (run_is is_word (c ∷ t)) in
          subst (λ (y : Token × Text). IsToken (c ∷ t) y.0 y.1) (same f) is
      | inr h ↦ let e1 = rw h at e in
          elim (tested (eqb c 39)) [
            | inl k ↦
                let f = rw k at e1 in
                let b = bound {r = quoted false (c ∷ t) t} f in
                let is : IsToken (39 ∷ t) Quoted b.0.1 = IsToken.string (quoted_sound false (c ∷ t) t b.0.1 b.1) in
                let here : IsToken (c ∷ t) Quoted b.0.1 = subst (λ (n : ℕ). IsToken (n ∷ t) Quoted b.0.1) (sym (eqb-true c 39 k)) is in
                subst (λ (y : Token × Text). IsToken (c ∷ t) y.0 y.1) (same b.2) here
            | inr k ↦ let e2 = rw k at e1 in
                elim (tested (is_ascii_graphic c)) [
                  | inl m ↦ let f = rw m at e2 in subst (λ (y : Token × Text). IsToken (c ∷ t) y.0 y.1) (same f) (IsToken.sign h k m)
                  | inr m ↦ let f = rw m at e2 in absurd cc
                ]
          ]
    ]

here_sound : (t : Text) (x : Lexed) (u : Text) → token_here t ≡ Ok (Some x, u) → IsToken t x.token u
unfolding token_here
here_sound [] x u e = let f = value_of e in absurd cc
here_sound (c ∷ t) x u e =
    let b = bound {r = token_of (c ∷ t) c t} e in
    let is = of_sound c t b.0.0 b.0.1 b.1 in
    let one : Some (lexed b.0.0 (c ∷ t)) ≡ Some x = value_of b.2 in
    let token : lexed b.0.0 (c ∷ t) ≡ x = cc in
    subst (λ (v : Text). IsToken (c ∷ t) x.token v) (left_of b.2) (subst (λ (y : Lexed). IsToken (c ∷ t) y.token b.0.1) token is)

here_none : (t u : Text) → token_here t ≡ Ok (None, u) → t ≡ []
unfolding token_here
here_none [] u e = refl
here_none (c ∷ t) u e = let b = bound {r = token_of (c ∷ t) c t} e in let f = value_of b.2 in absurd cc

word_of : (t w u : Text) → begins is_word t ≡ true → IsRun is_word t w u → token_here t ≡ Ok (Some (lexed (Word w) t), u)
unfolding token_here token_of
word_of [] w u h r = absurd cc
word_of (c ∷ t) w u h r = rw (h, run_only r) refl

here_complete : {t : Text} {x : Token} {u : Text} → IsToken t x u → token_here t ≡ Ok (Some (lexed x t), u)
unfolding token_here token_of
here_complete (IsToken.word {t = t} {w = w} {u = u} h r) = word_of t w u h r
here_complete (IsToken.string {t = t} is) = rw (quoted_complete is (39 ∷ t)) refl
here_complete (IsToken.sign h k m) = rw (h, k, m) refl

run_some : (t w u : Text) → begins is_word t ≡ true → IsRun is_word t w u → length u < length t
run_some t [] u h r = let wrong : true ≡ false = sym h ∙ ap (begins is_word) r.parts ∙ r.longest in absurd cc
run_some t (c ∷ w) u h r = omega (arith, ap length r.parts, length-append w u)

pub token_shorter : {t : Text} {x : Token} {u : Text} → IsToken t x u → length u < length t
token_shorter (IsToken.word {t = t} {w = w} {u = u} h r) = run_some t w u h r
token_shorter (IsToken.string is) = omega (arith, string_shorter is)
token_shorter (IsToken.sign h k m) = omega arith

-- ---- the next token

pub token_sound : (t : Text) (x : Lexed) (u : Text) → token t ≡ Ok (Some x, u) → (s : Text) × Gap t s × IsToken s x.token u
unfolding token
token_sound t x u e = let b = bound {r = gap t} e in (b.0.1, gap_sound t b.0.1 b.1, here_sound b.0.1 x u b.2)

pub token_none : (t u : Text) → token t ≡ Ok (None, u) → Gap t []
unfolding token
token_none t u e =
    let b = bound {r = gap t} e in
    subst (λ (v : Text). Gap t v) (here_none b.0.1 u b.2) (gap_sound t b.0.1 b.1)

pub token_complete : {t s : Text} {x : Token} {u : Text} → Gap t s → IsToken s x u → token t ≡ Ok (Some (lexed x s), u)
unfolding token
token_complete g is = rw (gap_complete g, here_complete is) refl

pub end_complete : {t : Text} → Gap t [] → token t ≡ Ok (None, [])
unfolding token token_here
end_complete g = rw (gap_complete g) refl

pub next_shorter : {t s : Text} {x : Token} {u : Text} → Gap t s → IsToken s x u → length u < length t
next_shorter g is = omega (arith, gap_shorter g, token_shorter is)
