use Rattle.std.proofs.Common.{[], List, codes, subst}
use Rattle.std.specs.Prelude.{MatchResult}
use Rattle.clap.specs.Words.{Text, found_of}
use Rattle.commandline.proofs.Found.{words_given}
use Rattle.commandline.proofs.LineLists.{none_yet}
use Rattle.commandline.specs.LineWords.{AreLines, IsFirstFault}
use Rattle.commandline.proofs.readers.lines_in.Goals as goal

pub returns-in-Some : goal.returns-in-Some
returns-in-Some c =
    let strs = c.get_strs in
    let same = rw c.in-Some.is at (words_given (found_of c.args.found.now) (codes "line") strs.result strs.ensures) in
    subst
    (λ (words : List Text). MatchResult c.lines_of.result (λ lines. AreLines words lines.items) (IsFirstFault words))
    same c.lines_of.ensures

pub returns-in-None : goal.returns-in-None
returns-in-None c =
    let strs = c.get_strs in
    let same = rw c.in-None.is at (words_given (found_of c.args.found.now) (codes "line") strs.result strs.ensures) in
    let none : AreLines [] c.new.result.items = rw c.new.ensures none_yet in
    subst (λ (words : List Text). AreLines words c.new.result.items) same none
