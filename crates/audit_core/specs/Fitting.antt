-- Why a model can't be audited.
use Rattle.std.specs.Prelude.{List, Option, Some, codes, bytes_eq, if◌then◌else◌}
use Rattle.std.specs.Option.{option_map}
use Rattle.ifc_base.specs.declared.value.Instance.{Instance}
use Rattle.schema_table.specs.Schema.{Schema}
use Rattle.schema_table.specs.Faults.{first_misfit}
use Rattle.p21_read.specs.declared.file.P21File.{P21File}
use Rattle.audit_model.specs.Models.{model_of_file}
use Rattle.audit_core.specs.declared.fits.ModelFault.{ModelFault}
use Rattle.audit_core.specs.declared.fits.ModelFault.TheVariants as fault

-- of these instances, in ascending id, the first that doesn't fit the schema, and why
abbrev pub misfit_fault : Schema → List Instance → Option ModelFault
misfit_fault s m = option_map (λ misfit. fault.Instance misfit.0 misfit.1) (first_misfit s m)

-- The fault of a file: it names another schema than IFC4 (ISO 10303-21, FILE_SCHEMA), or else the least id whose instance doesn't fit.
abbrev pub model_fault : Schema → P21File → Option ModelFault
model_fault s file = if bytes_eq file.schema_id (codes "IFC4") then misfit_fault s (model_of_file file.instances) else Some fault.OtherSchema
