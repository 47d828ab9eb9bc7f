use Rattle.std.proofs.Common.{◌≡◌, ◌∙◌, ap, refl, List, ℕ, codes}
use Rattle.std.specs.Bool.{one_answer}
use Rattle.std.specs.Str.{chars, bytes_eq}
use Rattle.std.proofs.lemmas.Slice.Eq.{bytes_eq-Decides}
use Rattle.audit_core.proofs.fits.is_ifc4.Goals as goal

plain : chars (codes "IFC4") ≡ codes "IFC4"
unfolding chars
plain = refl

pub returns : goal.returns
returns c =
    one_answer {P = c.args.schema_id.now ≡ chars (codes "IFC4")} _ (bytes_eq c.args.schema_id.now (chars (codes "IFC4"))) c.is.ensures (bytes_eq-Decides c.args.schema_id.now (chars (codes "IFC4")))
    ∙ ap (λ (w : List ℕ). bytes_eq c.args.schema_id.now w) plain
