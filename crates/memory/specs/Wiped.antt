-- Memory of zeros, as large as it was.
use Rattle.std.specs.Prelude.{length, replicate}
use Rattle.holder.specs.Checks.{check_of, object_of}
use Rattle.holder.specs.declared.capability.Mask.{Mask}
use Rattle.memory.specs.Records.{zero_file, zero_directory}
use Rattle.memory.specs.Soundness.{Content}
use Rattle.memory.specs.declared.row.Row.{Row}

abbrev pub zero_mask : Mask
zero_mask = record { bits = 0 }

abbrev pub zero_row : Row
zero_row = record {
  length = 0;
  name = replicate 24 0;
  capability = record {
    port = record { bytes = replicate 6 0 };
    object = object_of 0;
    rights = record { bits = 0 };
    check = check_of 0;
  };
  masks = record { works = zero_mask; inspector = zero_mask; buyer = zero_mask };
}

abbrev pub zeros_like : Content → Content
zeros_like m = record {
  files = replicate (length m.files) zero_file;
  directories = replicate (length m.directories) zero_directory;
  rows = replicate (length m.rows) zero_row;
  area = replicate (length m.area) 0;
}
