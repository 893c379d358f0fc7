use Rattle.std.proofs.Common.{◌≡◌, ℕ, List, map, take}
use Rattle.std.specs.Prelude.{bytes_eq}
use Rattle.std.specs.Map.{lookup}
use Rattle.ilsource.specs.Names.{text_of}
use Rattle.ildeclared.specs.Faults.{IsNextOf, OfCause}
use Rattle.ildeclared.specs.declared.fault.NameCause.TheVariants.{Twice}
use Rattle.ilscope.specs.Faults.{IsTwiceIn}
use Rattle.ilscope.specs.Tables.{first_at}
use Rattle.ilscope.proofs.numbers.numbers_of.Given as goal

abbrev pub invariant-loop-number : goal.invariant-loop-number
invariant-loop-number l = record {
  numbers : (key : List ℕ)
      → lookup (bytes_eq key) l.numbers ≡ first_at (bytes_eq key) (map (text_of l.lower) (take l.number l.names));
  twice : IsNextOf l.after (OfCause Twice (IsTwiceIn (text_of l.lower) (take l.number l.names))) l.least;
}
