use Rattle.std.proofs.Common.{subst, ◌≡◌, ◌∙◌, sym, ap, Some, codes, rules, tests}
use Rattle.clap.specs.Words.{Text, rows_of, found_of, subcommand_rows_of}
use Rattle.command_line.specs.Words.{named}
use Rattle.command_line.proofs.CommandLemmas.{subcommand_is, given_rows, some_given, input_is, named_is}
use Rattle.command_line.proofs.command.command_from.Goals as goal

pub unwrap-requires-2 : goal.unwrap-requires-2
unwrap-requires-2 c =
    let m = c.args.matches.now in
    let n : Text = c.unwrap.result.0.now in
    let f = found_of c.unwrap.result.1.now in
    let is : subcommand_rows_of m ≡ Some (n, rows_of f) = subcommand_is m n (rows_of f) (search (rules, tests)) (search (rules, tests)) in
    let given = given_rows m n (rows_of f) c.requires is in
    some_given f (codes "schema") c.get_str.result c.get_str.ensures given.1.0

pub unwrap-requires-3 : goal.unwrap-requires-3
unwrap-requires-3 c =
    let m = c.args.matches.now in
    let n : Text = c.unwrap.result.0.now in
    let f = found_of c.unwrap.result.1.now in
    let is : subcommand_rows_of m ≡ Some (n, rows_of f) = subcommand_is m n (rows_of f) (search (rules, tests)) (search (rules, tests)) in
    let given = given_rows m n (rows_of f) c.requires is in
    some_given f (codes "specs") c.get_str-2.result c.get_str-2.ensures given.1.1

pub unwrap-requires-4 : goal.unwrap-requires-4
unwrap-requires-4 c =
    let m = c.args.matches.now in
    let n : Text = c.unwrap.result.0.now in
    let f = found_of c.unwrap.result.1.now in
    let is : subcommand_rows_of m ≡ Some (n, rows_of f) = subcommand_is m n (rows_of f) (search (rules, tests)) (search (rules, tests)) in
    let given = given_rows m n (rows_of f) c.requires is in
    some_given f (codes "model") c.get_str-3.result c.get_str-3.ensures given.1.2

pub unwrap-requires-5 : goal.unwrap-requires-5
unwrap-requires-5 c =
    let m = c.args.matches.now in
    let n : Text = c.unwrap.result.0.now in
    let f = found_of c.unwrap.result.1.now in
    let is : subcommand_rows_of m ≡ Some (n, rows_of f) = subcommand_is m n (rows_of f) (search (rules, tests)) (search (rules, tests)) in
    let given = given_rows m n (rows_of f) c.requires is in
    some_given f (codes "script") c.get_str-4.result c.get_str-4.ensures given.1.3

pub returns : goal.returns
returns c =
    let m = c.args.matches.now in
    let n : Text = c.unwrap.result.0.now in
    let f = found_of c.unwrap.result.1.now in
    let is : subcommand_rows_of m ≡ Some (n, rows_of f) = subcommand_is m n (rows_of f) (search (rules, tests)) (search (rules, tests)) in
    let given = given_rows m n (rows_of f) c.requires is in
    ap named is ∙ named_is n (rows_of f) c.unwrap-2.result.now c.unwrap-3.result.now c.unwrap-4.result.now c.unwrap-5.result.now given.0
    (input_is f (codes "schema") c.get_str.result c.unwrap-2.result (search rules) c.get_str.ensures)
    (input_is f (codes "specs") c.get_str-2.result c.unwrap-3.result (search rules) c.get_str-2.ensures)
    (input_is f (codes "model") c.get_str-3.result c.unwrap-4.result (search rules) c.get_str-3.ensures)
    (input_is f (codes "script") c.get_str-4.result c.unwrap-5.result (search rules) c.get_str-4.ensures)
