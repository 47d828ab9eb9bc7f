-- What was judged of borrowed properties is what the facet gives.
use Rattle.std.proofs.Common.{◌≡◌, ℕ, List, Bool, ◌&&◌, nat_lt, length, ap, ◌∙◌}
use Rattle.std.specs.Borrow.{Bor}
use Rattle.std.specs.List.{list_any, list_all}
use Rattle.std.specs.Str.{bytes_eq}
use Rattle.schema_table.specs.Schema.{Schema}
use Rattle.audit_model.specs.declared.facet.PropertyFacet.{PropertyFacet}
use Rattle.audit_model.specs.declared.verdict.Weighed as weighed
use Rattle.audit_model.specs.Properties.{Property}
use Rattle.facet_property.specs.declared.judging.Judged.{Judged}
use Rattle.facet_property.specs.Held.{texts_of, judged_all, valued_sets, weighed_by}

pub weighed_made : (s : Schema) (f : PropertyFacet) (names valued : List (Bor (List ℕ))) (ps : List Property) (j : Judged) (a h : Bool)
    → j ≡ judged_all s f ps → texts_of valued ≡ valued_sets s ps → a ≡ list_all (λ n. list_any (bytes_eq n) (texts_of valued)) (texts_of names) → h ≡ (nat_lt 0 (length (texts_of names)) && (a && j.is_good))
    → (let w : weighed.Weighed = record { holds = h; subject = j.has_value } in w) ≡ weighed_by s f (texts_of names) ps
weighed_made s f names valued ps j a h e t k l =
    let each : a ≡ list_all (λ n. list_any (bytes_eq n) (valued_sets s ps)) (texts_of names) = k ∙ ap (λ ts. list_all (λ n. list_any (bytes_eq n) ts) (texts_of names)) t in
    let all : h ≡ (weighed_by s f (texts_of names) ps).holds =
    l ∙ ap (λ b. nat_lt 0 (length (texts_of names)) && (b && j.is_good)) each ∙ ap (λ (z : Judged). nat_lt 0 (length (texts_of names)) && (list_all (λ n. list_any (bytes_eq n) (valued_sets s ps)) (texts_of names) && z.is_good)) e in
    λ i. record { holds = all i; subject = (ap (λ (z : Judged). z.has_value) e) i }
