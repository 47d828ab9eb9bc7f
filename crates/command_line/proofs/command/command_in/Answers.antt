use Rattle.std.proofs.Common.{ap, subst, ◌≡◌, ◌∙◌, Bool, List, [], ◌∷◌, Option, Some, None, false, true, refl, sym, map, true≢false, string_bytes, inl, inr}
use Rattle.clap.specs.Words.{App, HasKind, IsAmong, Kinds, Text, app_of, fault_of, is_simple, is_simple_and_free, kind_of, subcommand_of, takes}
use Rattle.clap.specs.declared.error.Error.{Error}
use Rattle.clap.specs.declared.error.kind.ErrorKind.{ErrorKind}
use Rattle.clap.specs.declared.error.kind.ErrorKind.TheVariants as kind
use Rattle.ifc_base.specs.Refusals.{IfFault}
use Rattle.ifc_base.specs.declared.memory.Refusal.{Refusal}
use Rattle.ifc_base.specs.declared.memory.Refusal.TheVariants.{Fault, Memory}
use Rattle.command_line.specs.declared.command.NotTaken.{NotTaken}
use Rattle.command_line.specs.Words.{IsGiven, Command, command_of, command_shown, is_fault, named, unless_fault, line_app, replay_app, with_inputs}
use Rattle.command_line.proofs.GivenLemmas.{given_where_taken}
use Rattle.command_line.proofs.command.command_in.Goals as goal

is_simple_line : is_simple line_app ≡ true
unfolding line_app replay_app with_inputs
is_simple_line = refl

is_free_line : is_simple_and_free line_app ≡ true
unfolding line_app replay_app with_inputs
is_free_line = refl

pub command_from-requires : goal.command_from-requires
command_from-requires c =
    let words : List Text = map string_bytes c.args.words.now in
    let app : app_of c.in-Ok.line ≡ line_app = c.in-Ok.ensures in
    let rows = (c.in-Ok-try_get_matches_from.ensures.matches (ap is_simple app ∙ is_simple_line)).1 in
    let taken : fault_of line_app words ≡ [] =
    ap (λ (a : App). fault_of a words) (sym app) ∙ c.in-Ok-try_get_matches_from.ensures.kinds (ap is_simple_and_free app ∙ is_free_line) in
    subst IsGiven (sym (rows ∙ ap (λ (a : App). subcommand_of a words) app)) (given_where_taken words taken)

of_taken : (words : List Text) (command : Option Command) → fault_of line_app words ≡ [] → named (subcommand_of line_app words) ≡ command → command_of words ≡ command
unfolding command_of
of_taken words command none is = ap (λ kinds. unless_fault kinds (named (subcommand_of line_app words))) none ∙ is

pub returns-clause-taken : goal.returns-clause-taken
returns-clause-taken c =
    let words : List Text = map string_bytes c.args.words.now in
    let app : app_of c.in-Ok.line ≡ line_app = c.in-Ok.ensures in
    let rows = (c.in-Ok-try_get_matches_from.ensures.matches (ap is_simple app ∙ is_simple_line)).1 in
    let taken : fault_of line_app words ≡ [] =
    ap (λ (a : App). fault_of a words) (sym app) ∙ c.in-Ok-try_get_matches_from.ensures.kinds (ap is_simple_and_free app ∙ is_free_line) in
    of_taken words (Some (command_shown c.command_from.result)) taken (ap named (sym (rows ∙ ap (λ (a : App). subcommand_of a words) app)) ∙ c.command_from.ensures)

-- ---- words that aren't taken

unless_true : (b : Bool) → (b ≡ true → ⊥) → b ≡ false
unless_true true h = absurd (h refl)
unless_true false h = refl

of_fault : (r : Refusal NotTaken) (P : Type 0) → (is_fault r ≡ true → P) → IfFault r (λ _. P)
of_fault (Fault f) P h = h refl
of_fault Memory P h = tt

some_kind : (kinds : Kinds) (k : ErrorKind) (command : Option Command) → IsAmong k kinds → unless_fault kinds command ≡ None
some_kind [] k command h = absurd h
some_kind (x ∷ xs) k command h = refl

of_kind : (words : List Text) (e : Error) → (kind_of e ≡ kind.OutOfMemory → ⊥) → HasKind (fault_of line_app words) e → command_of words ≡ None
unfolding command_of
of_kind words e other (inl memory) = absurd (other memory)
of_kind words e other (inr k) = some_kind (fault_of line_app words) (kind_of e) _ k

pub returns-in-Err-clause-refused : goal.returns-in-Err-clause-refused
returns-in-Err-clause-refused c = of_fault c.refusal_of.result _ (λ fault.
    let words : List Text = map string_bytes c.args.words.now in
    let app : app_of c.in-Ok.line ≡ line_app = c.in-Ok.ensures in
    let other : kind_of c.in-Err.error ≡ kind.OutOfMemory → ⊥ = λ memory. true≢false (sym fault ∙ c.refusal_of.ensures memory) in (
      of_kind words c.in-Err.error other (subst (λ (a : App). HasKind (fault_of a words) c.in-Err.error) app (c.in-Err.ensures.kinds (ap is_simple_and_free app ∙ is_free_line))),
      unless_true (takes line_app words) (λ taken. other (c.in-Err.ensures.passes (ap (λ (a : App). takes a words) app ∙ taken))),
    ))
