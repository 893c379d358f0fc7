use Rattle.std.proofs.Common.{List, subst}
use Rattle.clap.specs.Words.{Text}
use Rattle.commandline.specs.CommandLine.{AreTaken}
use Rattle.refusalsload.proofs.CommandLines.{information_at_fault, great_information, refused}
use Rattle.refusalsload.proofs.lines.information_has_10_bits.Goals as goal

pub returns : goal.returns
returns c =
    refused great_information c.read.result
    (subst (λ (words : List Text). AreTaken words c.read.result) c.requires c.read.ensures.taken) information_at_fault
