-- What the getters of the matches say of the rows.
use Rattle.std.proofs.Common.{◌≡◌, ◌∙◌, ℕ, List, Option, Some, None, Result, Ok, Err, codes, option_map, Bor, false, true, true≢false, rules, sym, ap, refl, subst}
use Rattle.std.specs.Prelude.{IsSome, is_some}
use Rattle.std.specs.Str.{bytes_eq}
use Rattle.std.proofs.lemmas.Slice.Eq.{bytes_eq-Decides}
use Rattle.clap.specs.Words.{Row, Text, rows_of, subcommand_rows, subcommand_rows_of, subcommand_name_of, first_of, first_value}
use Rattle.clap.specs.declared.parser.matches.ArgMatches.{ArgMatches}
use Rattle.clap.specs.declared.parser.matches.ArgMatches.TheViews.{out-ArgMatches}
use Rattle.clap.specs.declared.parser.matches.Found.{Found}
use Rattle.clap.proofs.WalkLemmas.{first_value-rows}
use Rattle.command_line.specs.Words.{Command, AllGiven, IsGiven, all_four, inputs_in, named}

both_of : {A : Type 0} (o : Option (Text × A)) (n : Text) (rows : A) → Some n ≡ option_map (λ p. p.0) o → Some rows ≡ option_map (λ p. p.1) o → o ≡ Some (n, rows)
both_of None n rows a b = cc
both_of (Some p) n rows a b = let x : n ≡ p.0 = cc in let y : rows ≡ p.1 = cc in rw (x, y)

-- the name and the rows of the subcommand
pub subcommand_is : (m : ArgMatches) (n : Text) (rows : List Row) → Some n ≡ subcommand_name_of m → Some rows ≡ option_map (λ p. p.1) (subcommand_rows_of m)
    → subcommand_rows_of m ≡ Some (n, rows)
subcommand_is m n rows name is = go (out-ArgMatches m).subcommand refl
  where
    go : (o : _) → (out-ArgMatches m).subcommand ≡ o → subcommand_rows_of m ≡ Some (n, rows)
    go None e =
        let bad : Some n ≡ None = rw e at name in
        cc
    go (Some b) e =
        let x = rw e at name in
        let y = rw e at is in
        ap subcommand_rows e ∙ both_of (subcommand_rows (Some b)) n rows x y

-- the rows that the matches lend have each input
pub given_rows : (m : ArgMatches) (n : Text) (rows : List Row) → IsGiven (subcommand_rows_of m) → subcommand_rows_of m ≡ Some (n, rows) → (n ≡ codes "replay") × AllGiven rows
given_rows m n rows h is = subst IsGiven is h

-- a value that is given is there to be read
pub some_given : (f : Found) (id : Text) (r : Option (Bor (List ℕ))) → option_map (λ s. s.now) r ≡ first_value f id → is_some (first_of id (rows_of f)) ≡ true → IsSome r
some_given f id None e h =
    let bad : None ≡ first_of id (rows_of f) = e ∙ first_value-rows f id in
    let no_value : false ≡ true = ap is_some bad ∙ h in
    absurd (true≢false (sym no_value))
some_given f id (Some s) e h = search rules

pub input_is : (f : Found) (id : Text) (r : Option (Bor (List ℕ))) (s : Bor (List ℕ)) → r ≡ Some s → option_map (λ s. s.now) r ≡ first_value f id
    → first_of id (rows_of f) ≡ Some s.now
input_is f id r s is e = sym (first_value-rows f id) ∙ sym e ∙ ap (option_map (λ (s : Bor (List ℕ)). s.now)) is

-- the command of a subcommand that is `replay`, whose inputs are these
pub named_is : (n : Text) (rows : List Row) (a b c d : Text) → n ≡ codes "replay" → first_of (codes "schema") rows ≡ Some a → first_of (codes "specs") rows ≡ Some b
    → first_of (codes "model") rows ≡ Some c → first_of (codes "script") rows ≡ Some d
    → named (Some (n, rows)) ≡ Some (record { schema = a; specs = b; model = c; script = d })
named_is n rows a b c d name one two three four = rw name (rw (one, two, three, four) refl)
