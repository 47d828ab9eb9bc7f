-- What bytes are read as, or their first fault with its line.
use Rattle.std.specs.Prelude.{ℕ, List, Result}
use Rattle.ifc_base.specs.declared.value.Value.{Value}
use Rattle.ifc_base.specs.declared.value.Instance.{Instance}
use Rattle.reading.specs.declared.fault.Fault.{Fault}
use Rattle.reading.specs.Codes.{codes_of}
use Rattle.reading.specs.Lines.{with_line}
use Rattle.p21_read.specs.declared.fault.P21Cause.{P21Cause}
use Rattle.p21_read.specs.Values.{whole_value}
use Rattle.p21_read.specs.declared.file.P21File.{P21File}
use Rattle.p21_read.specs.Instances.{whole_instance}
use Rattle.p21_read.specs.Files.{whole_file}

-- as one value
unfoldable pub value_reading : List ℕ → Result Value (Fault P21Cause)
value_reading bytes = with_line (codes_of bytes) (whole_value (codes_of bytes))

-- as one instance
unfoldable pub instance_reading : List ℕ → Result Instance (Fault P21Cause)
instance_reading bytes = with_line (codes_of bytes) (whole_instance (codes_of bytes))

-- as a file of at most so many instances
unfoldable pub file_reading : ℕ → List ℕ → Result P21File (Fault P21Cause)
file_reading most bytes = with_line (codes_of bytes) (whole_file most (codes_of bytes))
