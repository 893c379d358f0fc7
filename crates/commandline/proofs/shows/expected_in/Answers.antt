use Rattle.std.proofs.Common.{[], List, codes, subst}
use Rattle.std.specs.Prelude.{MatchResult}
use Rattle.clap.specs.Words.{Text, found_of}
use Rattle.commandline.proofs.ExpectedLists.{none_yet}
use Rattle.commandline.proofs.Found.{words_given}
use Rattle.commandline.specs.ExpectedWords.{AreExpected, IsFirstUnexpected}
use Rattle.commandline.proofs.shows.expected_in.Goals as goal

pub returns-in-Some : goal.returns-in-Some
returns-in-Some c =
    let strs = c.get_strs in
    let same = rw c.in-Some.is at (words_given (found_of c.args.found.now) (codes "expect") strs.result strs.ensures) in
    subst
    (λ (words : List Text). MatchResult c.expected_of.result (λ expected. AreExpected words expected.items)
    (IsFirstUnexpected words))
    same c.expected_of.ensures

pub returns-in-None : goal.returns-in-None
returns-in-None c =
    let strs = c.get_strs in
    let same = rw c.in-None.is at (words_given (found_of c.args.found.now) (codes "expect") strs.result strs.ensures) in
    let none : AreExpected [] c.new.result.items = rw c.new.ensures none_yet in
    subst (λ (words : List Text). AreExpected words c.new.result.items) same none
