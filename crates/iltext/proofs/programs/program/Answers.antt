use Rattle.iltext.proofs.Shallow.{are_shallow}
use Rattle.iltext.proofs.Sorted.{are_sorted}
use Rattle.iltext.proofs.programs.program.Goals as goal

pub new-requires : goal.new-requires
new-requires c =
    record { shallow = are_shallow _ _ _ c.in_ok-lines.ensures; sorted = are_sorted _ _ _ c.in_ok-lines.ensures }
