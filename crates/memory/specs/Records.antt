-- Records of files and directories: what is left of one that is freed, and what is made of one that
-- is claimed.
use Rattle.std.specs.Prelude.{ℕ, true, false}
use Rattle.secret.specs.declared.secret.Secret.{Secret}
use Rattle.memory.specs.declared.file_record.FileRecord.{FileRecord}
use Rattle.memory.specs.declared.directory_record.DirectoryRecord.{DirectoryRecord}

-- records of zeros
abbrev pub zero_file : FileRecord
zero_file = record { live = false; secret = record { value = 0 }; start = 0; length = 0 }

abbrev pub zero_directory : DirectoryRecord
zero_directory = record { live = false; secret = record { value = 0 }; count = 0 }

-- a freed record is zeros
abbrev pub blank_file : FileRecord → FileRecord
blank_file r = zero_file

abbrev pub blank_directory : DirectoryRecord → DirectoryRecord
blank_directory d = zero_directory

-- a new file has its secret and its part of the area
abbrev pub made_file : FileRecord → Secret → ℕ → ℕ → FileRecord
made_file r secret start length =
    record { live = true; secret = secret; start = start; length = length }

-- a new directory has its secret and no rows
abbrev pub made_directory : DirectoryRecord → Secret → DirectoryRecord
made_directory d secret = record zero_directory { live = true; secret = secret }

-- the same object with another secret
abbrev pub renewed_file : FileRecord → Secret → FileRecord
renewed_file r secret = record r { secret = secret }

abbrev pub renewed_directory : DirectoryRecord → Secret → DirectoryRecord
renewed_directory d secret = record d { secret = secret }

-- the same directory with another count of rows
abbrev pub recounted_directory : DirectoryRecord → ℕ → DirectoryRecord
recounted_directory d count = record d { count = count }
