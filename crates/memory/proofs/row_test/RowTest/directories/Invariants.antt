use Rattle.std.proofs.Common.{◌≡◌, drop}
use Rattle.memory.specs.Soundness.{are_directories_sound}
use Rattle.memory.proofs.row_test.RowTest.directories.Given as goal

-- the directories so far are sound, so the others, with the rest of the rows, decide
abbrev pub invariant-loop-directory : goal.invariant-loop-directory
invariant-loop-directory l =
    are_directories_sound l.self.modulus l.self.port.bytes (drop l.directory-index l.directories)
    l.rest
    ≡ are_directories_sound l.self.modulus l.self.port.bytes l.directories l.rows
