-- What lent memory holds, apart from where it lies.
use Rattle.memory.specs.Soundness.{Content}
use Rattle.memory.specs.declared.memory.Memory.{Memory}

abbrev pub content : Memory → Content
content m =
    record {
      files = m.files.now;
      directories = m.directories.now;
      rows = m.rows.now;
      area =
          m.area.now;
    }
