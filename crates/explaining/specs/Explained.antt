-- What an explanation speaks of.
use Rattle.std.specs.Prelude.{◌≡◌, Some}
use Rattle.iltext.specs.declared.fault.TextFault.TheVariants as text_faults
use Rattle.ildeclared.specs.declared.fault.NameFault.TheVariants as name_faults
use Rattle.plantload.specs.declared.fault.LoadFault.{LoadFault}
use Rattle.plantload.specs.declared.fault.LoadFault.TheVariants.{Text, Name, Code}
use Rattle.explaining.specs.declared.told.Explanation.{Explanation}

-- it stands at the place that the loader gives: of a text and of names at a line and a column, of a refused word on the
-- line from which it comes
abbrev pub StandsAt : LoadFault → Explanation → Type 0
StandsAt (Text (text_faults.At line col cause)) told = (told.line ≡ line) × (told.mark ≡ Some col)
StandsAt (Name (name_faults.At line col cause)) told = (told.line ≡ line) × (told.mark ≡ Some col)
StandsAt (Code refused) told = told.line ≡ refused.refusal.line
StandsAt _ told = ⊥
