use Rattle.std.proofs.Common.{[], List, codes, subst}
use Rattle.std.specs.Prelude.{MatchResult}
use Rattle.clap.specs.Words.{Text, found_of}
use Rattle.commandline.proofs.Found.{words_given}
use Rattle.commandline.proofs.WatchedLists.{none_watched}
use Rattle.commandline.specs.WatchedNames.{AreWatched, IsSeventeenth}
use Rattle.commandline.proofs.shows.watched_in.Goals as goal

pub returns-in-Some : goal.returns-in-Some
returns-in-Some c =
    let strs = c.get_strs in
    let same = rw c.in-Some.is at (words_given (found_of c.args.found.now) (codes "watch") strs.result strs.ensures) in
    subst
    (λ (words : List Text). MatchResult c.watched_of.result (λ watched. AreWatched words watched.items)
    (IsSeventeenth words))
    same c.watched_of.ensures

pub returns-in-None : goal.returns-in-None
returns-in-None c =
    let strs = c.get_strs in
    let same = rw c.in-None.is at (words_given (found_of c.args.found.now) (codes "watch") strs.result strs.ensures) in
    let none : AreWatched [] c.new.result.items = rw c.new.ensures none_watched in
    subst (λ (words : List Text). AreWatched words c.new.result.items) same none
