-- Frames that are sent on simulated buses.
use Rattle.buslink.specs.declared.marks.Mark.{Mark}
use Rattle.buslink.specs.declared.marks.Sent.{Sent}
use Rattle.daliframe.specs.declared.forward.Frame.TheVariants.{Forward24}

-- DISABLE INSTANCE to instance 0 of the device at short address 0 (IEC 62386-103: 01 00 63), with this mark
abbrev pub disabling : Mark → Sent
disabling mark = record { frame = Forward24 0x010063; priority = 3; mark = mark }
