-- Where the command has no fault, the subcommand is one of its own and each input is given.
use Rattle.std.proofs.Common.{◌≡◌, ◌∙◌, ◌&&◌, ◌||◌, Bool, true, false, not, List, [], ◌∷◌, Option, Some, None, cond, is_some, sym, ap, subst, refl, codes}
use Rattle.std.specs.Prelude.{drop, find, slice_get, unwrap_or, option_map, option_and_then}
use Rattle.std.specs.List.{list_all, list_any}
use Rattle.std.specs.Option.{option_map_or}
use Rattle.std.specs.Str.{bytes_eq}
use Rattle.std.proofs.lemmas.Slice.Eq.{bytes_eq-Decides}
use Rattle.clap.specs.Faults.{check_fault, defaults_fault, entered_fault, fault_of, level_fault, settle_fault, walk_fault}
use Rattle.clap.specs.Kinds.{Kinds, check_kinds, or_else}
use Rattle.clap.specs.Facts.{explicit_source}
use Rattle.clap.specs.Takes.{is_given}
use Rattle.clap.specs.Simple.{App, Shape, argument_words, built, entered, label_of, names_of, new_shape, rows_at, subcommand_of}
use Rattle.clap.specs.Walk.{Row, Rule, Text, answers_to, first_of, nothing_held, rows_after, settled, stop_after, walk, walk_from}
use Rattle.command_line.specs.Words.{line_app, replay_app, with_inputs, is_input, AllGiven, IsGiven}
use Rattle.command_line.proofs.RowsLemmas.{RowsFilled, HasOne, is_apart, rows_after_filled}

-- ---- a row that was given has a first value

first_there : (values : List Text) → HasOne values → is_some (slice_get values 0) ≡ true
first_there [] h = absurd h
first_there (v ∷ vs) h = refl

pub given_first : (id : Text) (rows : List Row) → RowsFilled is_input rows → is_input id ≡ true → is_given id rows ≡ true → is_some (first_of id rows) ≡ true
given_first id [] f p g = cc
given_first id (r ∷ rs) f p g = go (bytes_eq r.id id) refl g (given_first id rs f.1 p)
  where
    go : (b : Bool) → bytes_eq r.id id ≡ b → option_map_or (λ r. explicit_source r.source) (cond b (Some r) (find (λ r. bytes_eq r.id id) rs)) false ≡ true
        → (is_given id rs ≡ true → is_some (first_of id rs) ≡ true)
        → is_some (option_and_then (λ r. slice_get r.values 0) (cond b (Some r) (find (λ r. bytes_eq r.id id) rs))) ≡ true
    go true same g rest =
        let is : r.id ≡ id = (bytes_eq-Decides r.id id).0 same in
        first_there r.values (f.0 (ap is_input is ∙ p))
    go false same g rest = rest g

-- ---- no fault

left_none : (x y : Kinds) → or_else x y ≡ [] → x ≡ []
left_none [] y h = refl
left_none (k ∷ ks) y h = cc

right_none : (x y : Kinds) → or_else x y ≡ [] → y ≡ []
right_none [] y h = h
right_none (k ∷ ks) y h = cc

no_subcommand_wanted : (a b c : Bool) → check_kinds a b c ≡ [] → b ≡ false
no_subcommand_wanted true b c h = cc
no_subcommand_wanted false true c h = cc
no_subcommand_wanted false false c h = refl

no_argument_wanted : (a b c : Bool) → check_kinds a b c ≡ [] → c ≡ false
no_argument_wanted true b c h = cc
no_argument_wanted false true c h = cc
no_argument_wanted false false true h = cc
no_argument_wanted false false false h = refl

-- what a level without a fault says of its checks
level_checks : (s : Shape) (names : List (Text × List Text)) (words : List Text) (has : Bool) (below : Kinds) → level_fault s names nothing_held words has below ≡ []
    → (below ≡ []) × (check_fault s (rows_after s.rules names words) has ≡ [])
level_checks s names words has below h =
    let end = (walk s.rules names nothing_held words).held in
    let checks = check_fault s (rows_after s.rules names words) has in
    let defaults = defaults_fault (settled s.rules end).rows s.rules in
    let settle = settle_fault s.rules s.args_override_self end in
    let one : or_else below (or_else settle (or_else defaults checks)) ≡ [] = right_none (walk_fault s names (walk_from nothing_held) words) _ h in
    (left_none below _ one, right_none defaults checks (right_none settle _ (right_none below _ one)))

-- ---- the subcommand

abbrev shape_or : Option Shape → Shape
shape_or o = unwrap_or o (new_shape [])

unfoldable replay_shape : Shape
unfolding line_app replay_app with_inputs
replay_shape = shape_or (slice_get (built line_app).subs 0)

subs_are : (built line_app).subs ≡ replay_shape ∷ []
unfolding line_app replay_app with_inputs replay_shape
subs_are = refl

subcommand_is_required : (built line_app).top.subcommand_required ≡ true
unfolding line_app replay_app with_inputs
subcommand_is_required = refl

four : (a b c d rest : Bool) → (not a || (not b || (not c || (not d || rest)))) ≡ false → (a ≡ true) × (b ≡ true) × (c ≡ true) × (d ≡ true)
four false b c d rest h = cc
four true false c d rest h = cc
four true true false d rest h = cc
four true true true false rest h = cc
four true true true true rest h = (refl, refl, refl, refl)

all_given : (rules : List Rule) (words : List Text) → list_all (is_apart is_input) rules ≡ true
    → ((is_given (codes "schema") (rows_after rules [] words) ≡ true) × (is_given (codes "specs") (rows_after rules [] words) ≡ true)
    × (is_given (codes "model") (rows_after rules [] words) ≡ true) × (is_given (codes "script") (rows_after rules [] words) ≡ true))
    → AllGiven (rows_after rules [] words)
all_given rules words apart g =
    let filled = rows_after_filled is_input rules apart [] words in
    (given_first (codes "schema") _ filled refl g.0, given_first (codes "specs") _ filled refl g.1, given_first (codes "model") _ filled refl g.2, given_first (codes "script") _ filled refl g.3)

-- an argument that must be given and isn't
abbrev is_missing : List Row → Rule → Bool
is_missing rows a = a.required && not (is_given a.id rows)

arguments_given : (s : Shape) (rows : List Row) → check_fault s rows false ≡ [] → (not (s.subcommand_negates_reqs && false) && list_any (is_missing rows) s.rules) ≡ false
arguments_given s rows h =
    no_argument_wanted (not false && (s.arg_required_else_help && not (list_any (λ r. explicit_source r.source) rows))) (not false && s.subcommand_required)
    (not (s.subcommand_negates_reqs && false) && list_any (is_missing rows) s.rules) h

replay_given : (words : List Text) → level_fault replay_shape [] nothing_held words false [] ≡ [] → (replay_shape.name ≡ codes "replay") × AllGiven (rows_after replay_shape.rules [] words)
unfolding line_app replay_app with_inputs replay_shape
replay_given words h =
    let rows = rows_after replay_shape.rules [] words in
    let checks = (level_checks replay_shape [] words false [] h).1 in
    let rest = list_any (is_missing rows) (drop 4 replay_shape.rules) in (
      refl,
      all_given replay_shape.rules words refl
          (four (is_given (codes "schema") rows) (is_given (codes "specs") rows) (is_given (codes "model") rows) (is_given (codes "script") rows) rest (arguments_given replay_shape rows checks)),
    )

the_one : (t : Shape → Bool) (x s : Shape) → find t (x ∷ []) ≡ Some s → s ≡ x
the_one t x s h = go (t x) h
  where
    go : (a : Bool) → cond a (Some x) None ≡ Some s → s ≡ x
    go true h = cc
    go false h = cc

shape_given : (s : Shape) (words : List Text) → s ≡ replay_shape → level_fault s [] nothing_held words false [] ≡ [] → IsGiven (Some (rows_at s words))
shape_given s words e h =
    let k = replay_given words (subst (λ x. level_fault x [] nothing_held words false [] ≡ []) e h) in
    subst (λ x. IsGiven (Some (rows_at x words))) (sym e) k

-- a subcommand that was entered without a fault, where one is required
entered_given : (a : App) (stop : Option (Text × List Text)) → a.subs ≡ replay_shape ∷ [] → entered_fault a stop ≡ []
    → (not (is_some (entered a stop)) && true) ≡ false → IsGiven (entered a stop)
entered_given a None subs f w = cc
entered_given a (Some p) subs f w = go (find (λ s. answers_to p.0 (label_of s)) a.subs) refl f w
  where
    go : (o : Option Shape) → find (λ s. answers_to p.0 (label_of s)) a.subs ≡ o → option_map_or (λ s. level_fault s [] nothing_held p.1 false []) o [] ≡ []
        → (not (is_some (option_map (λ s. rows_at s p.1) o)) && true) ≡ false → IsGiven (option_map (λ s. rows_at s p.1) o)
    go None e f w = cc
    go (Some s) e f w = shape_given s p.1 (the_one (λ s. answers_to p.0 (label_of s)) replay_shape s (rw subs at e)) f

-- the words that the command takes name a subcommand of its own, with a value for each input
pub given_where_taken : (words : List Text) → fault_of line_app words ≡ [] → IsGiven (subcommand_of line_app words)
given_where_taken words h =
    let a = built line_app in
    let stop = stop_after a.top.rules (names_of a) (argument_words line_app words) in
    let checks = level_checks a.top (names_of a) (argument_words line_app words) (is_some (entered a stop)) (entered_fault a stop) h in
    let wanted = no_subcommand_wanted _ _ _ checks.1 in
    entered_given a stop subs_are checks.0 (subst (λ b. (not (is_some (entered a stop)) && b) ≡ false) subcommand_is_required wanted)
