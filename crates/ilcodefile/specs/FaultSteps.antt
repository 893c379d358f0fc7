-- The version and the counts of a file as code keeps them.
use Rattle.ilcodefile.specs.Faults.{Counts}
use Rattle.ilcodefile.specs.declared.shape.FileCounts.{FileCounts}

abbrev pub counted : FileCounts → Counts
counted c =
    record {
      version = c.version;
      constants = c.constants;
      slots = c.slots;
      blocks = c.blocks;
      starts = c.starts;
      words = c.words;
      functions = c.functions;
    }
