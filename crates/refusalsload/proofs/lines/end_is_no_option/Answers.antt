use Rattle.std.proofs.Common.{List, subst}
use Rattle.clap.specs.Words.{Text}
use Rattle.commandline.specs.CommandLine.{AreTaken}
use Rattle.refusalsload.proofs.CommandLines.{end_at_fault, other_end, refused}
use Rattle.refusalsload.proofs.lines.end_is_no_option.Goals as goal

pub returns : goal.returns
returns c =
    refused other_end c.read.result
    (subst (λ (words : List Text). AreTaken words c.read.result) c.requires c.read.ensures.taken) end_at_fault
