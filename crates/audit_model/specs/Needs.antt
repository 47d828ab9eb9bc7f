-- Which keys the verdict on a pair needs: where their contents stay, the verdict stays, and so do its needs.
use Rattle.std.specs.Prelude.{List}
use Rattle.ifc_base.specs.declared.value.Instance.{Instance}
use Rattle.ifc_base.specs.declared.key.Key.{Key}
use Rattle.schema_table.specs.Schema.{Schema}
use Rattle.audit_model.specs.declared.specification.Specification.{Specification}
use Rattle.audit_model.specs.declared.verdict.Pair.{Pair}
use Rattle.audit_model.specs.Keys.{sight}
use Rattle.audit_model.specs.Ascending.{ascending_keys}
use Rattle.audit_model.specs.Verdicts.{assess_pair}

-- The keys that are looked at where the pair is assessed in the model, ascending and each once: the element, the paths of the facets
-- of the applicability and, where that holds and the specification isn't prohibited, the paths of the facets of the requirements.
unfoldable pub need : Schema → List Specification → Pair → List Instance → List Key
need s specs p m = ascending_keys ((assess_pair s specs p).keys (sight s m))
