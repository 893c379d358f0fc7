use Rattle.std.proofs.Common.{take}
use Rattle.std.specs.Fmt.{HasWritten, IsPlainFormatter}
use Rattle.gearcmd.specs.Printed.{printed_frames}
use Rattle.gearcmd.proofs.lines.BehindBlanksDisplay.fmt.Given as goal

abbrev pub invariant-loop-frame : goal.invariant-loop-frame
invariant-loop-frame g l =
    IsPlainFormatter l.initial.f → HasWritten g.W.Write.write_str_gives l.initial.f
    (printed_frames (take l.frame-index l.frame-items)) l.f
