use Rattle.std.proofs.Common.{List, subst}
use Rattle.clap.specs.Words.{Text}
use Rattle.commandline.specs.CommandLine.{AreTaken}
use Rattle.refusalsload.proofs.CommandLines.{none_at_fault, not_refused, two_watched, watched_is_fine}
use Rattle.refusalsload.proofs.CommandLines.{watched_without_fault}
use Rattle.refusalsload.proofs.lines.two_names_are_watched.Goals as goal

pub returns : goal.returns
returns c =
    not_refused two_watched c.read.result
    (subst (λ (words : List Text). AreTaken words c.read.result) c.requires c.read.ensures.taken)
    watched_without_fault (λ kind. none_at_fault kind two_watched (watched_is_fine kind))
