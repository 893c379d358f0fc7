use Rattle.ilsource.proofs.KeptMeaning.{renamed_same, scan_same, operand_same}
use Rattle.ilsource.proofs.KeptSizes.{places_kept, still_shallow, pieces_same, uses_kept}
use Rattle.ilsource.proofs.renaming.renaming_keeps_the_meaning.Goals as goal

pub returns-clause-passes : goal.returns-clause-passes
returns-clause-passes g c =
    λ a b new view h same same' lines others k r s. renamed_same a b new view h same same' lines others k r s

pub returns-clause-scans : goal.returns-clause-scans
returns-clause-scans g c =
    λ a b new view h same same' programs others k s. scan_same a b new view h same same' programs others k s

pub returns-clause-operands : goal.returns-clause-operands
returns-clause-operands g c = λ a b name view h s o. operand_same a b name view h s o

pub returns-clause-sizes : goal.returns-clause-sizes
returns-clause-sizes g c =
    λ new label line. (
      places_kept new label line.at line.instruction,
      still_shallow new label line.instruction,
    )

pub returns-clause-pieces : goal.returns-clause-pieces
returns-clause-pieces g c = λ new t. pieces_same new t

pub returns-clause-uses : goal.returns-clause-uses
returns-clause-uses g c = λ new label h line. uses_kept new label h line.at line.instruction
