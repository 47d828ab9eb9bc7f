-- Bytes: what is read is what they declare, and what they declare is read.
use Rattle.std.proofs.Common.{◌≡◌, ℕ, List, Result, Ok, Err, sym, ap, ◌∙◌}
use Rattle.std.specs.Prelude.{IfOk}
use Rattle.ifc_base.specs.declared.memory.Refusal.{Refusal}
use Rattle.reading.specs.declared.fault.Fault.{Fault}
use Rattle.reading.specs.Codes.{codes_of}
use Rattle.reading.specs.Lines.{with_line, Answers}
use Rattle.reading.proofs.Lines.{with_line_ok}
use Rattle.reading.proofs.Tools.{ok_is}
use Rattle.express_decl.specs.declared.decl.DeclCause.{DeclCause}
use Rattle.express_decl.specs.declared.decl.Decls.{Decls}
use Rattle.express_decl.specs.Schemas.{whole, reading}
use Rattle.express_decl.specs.Grammar.{Declares}
use Rattle.express_decl.proofs.SchemaLaws.{whole_sound, whole_complete}

-- what is read is declared so
pub reading_sound : (bytes : List ℕ) (d : Decls) → reading bytes ≡ Ok d → Declares bytes d
unfolding reading
reading_sound bytes d e =
    let w = whole_sound (codes_of bytes) d (with_line_ok (codes_of bytes) (whole (codes_of bytes)) d e) in
    record { tokens = w.0; spelled = w.1; schema = w.2 }

-- and what is declared so is read
pub reading_complete : (bytes : List ℕ) (d : Decls) → Declares bytes d → reading bytes ≡ Ok d
unfolding reading
reading_complete bytes d r = ap (with_line (codes_of bytes)) (whole_complete r.spelled r.schema)

-- so the bytes declare one thing at most
pub one_reading : (bytes : List ℕ) (x y : Decls) → Declares bytes x → Declares bytes y → x ≡ y
one_reading bytes x y p q = ok_is {E = Fault DeclCause} x y (sym (reading_complete bytes x p) ∙ reading_complete bytes y q)

-- for the contract
pub is_found : (bytes : List ℕ) (r : Result Decls (Refusal (Fault DeclCause))) → Answers (λ x. x) r (reading bytes) → IfOk r (λ x. Declares bytes x)
is_found bytes (Ok x) given = reading_sound bytes x given
is_found bytes (Err e) given = tt
