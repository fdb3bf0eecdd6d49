-- The memory that a program's store works in.
use Rattle.std.specs.Prelude.{◌≡◌, length}
use Rattle.memory.specs.Soundness.{Content}
use Rattle.memory.specs.Wiped.{zeros_like}
use Rattle.room.specs.declared.room.Room.{Room}

-- what a room holds, as a store sees it
abbrev pub held_in : Room → Content
held_in room = record {
  files = room.files.items;
  directories = room.directories.items;
  rows = room.rows.items;
  area = room.area.items;
}

-- 64 file records, 16 directory records with 16 rows each, and an area of 16,384 bytes
pub record IsFullSized (m : Content) : Type 0 where
  pub files : length m.files ≡ 64
  pub directories : length m.directories ≡ 16
  pub rows : length m.rows ≡ 256
  pub area : length m.area ≡ 16384

-- memory of zeros
abbrev pub IsAllZero : Content → Type 0
IsAllZero m = zeros_like m ≡ m
