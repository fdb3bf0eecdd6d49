-- Memory lent again: the same four slices, whatever they hold by now.
use Rattle.std.specs.Prelude.{◌≡◌}
use Rattle.memory.specs.declared.memory.Memory.{Memory}

pub record SameLoan (before after : Memory) : Type 0 where
  pub files : after.files.ghost_name ≡ before.files.ghost_name
  pub directories : after.directories.ghost_name ≡ before.directories.ghost_name
  pub rows : after.rows.ghost_name ≡ before.rows.ghost_name
  pub area : after.area.ghost_name ≡ before.area.ghost_name
