-- Units of durations (IEC 61131-3, 2.2.3.1), each in milliseconds.
use Rattle.std.specs.Prelude.{ℕ}
use Rattle.iltokens.specs.declared.time.Unit.{Unit}
use Rattle.iltokens.specs.declared.time.Unit.TheVariants as units

abbrev pub milliseconds : Unit → ℕ
milliseconds units.Day = 86400000
milliseconds units.Hour = 3600000
milliseconds units.Minute = 60000
milliseconds units.Second = 1000
milliseconds units.Millisecond = 1
