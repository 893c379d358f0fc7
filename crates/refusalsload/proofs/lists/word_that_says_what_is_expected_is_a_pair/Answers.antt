use Rattle.std.proofs.Common.{codes, subst}
use Rattle.clap.specs.Words.{found_of, rows_of}
use Rattle.commandline.specs.ExpectedWords.{IsFirstUnexpected}
use Rattle.commandline.specs.Invocations.{IsOfFault, expected_words}
use Rattle.commandline.specs.declared.expected_words.ExpectedFault.{ExpectedFault}
use Rattle.commandline.specs.declared.word_fault.WordFault.{WordFault}
use Rattle.refusalsload.proofs.Listed.{each_says}
use Rattle.refusalsload.proofs.lists.word_that_says_what_is_expected_is_a_pair.Goals as goal

pub returns-in-Err-Expected-NoPair : goal.returns-in-Err-Expected-NoPair
returns-in-Err-Expected-NoPair c =
    let rows = rows_of (found_of c.args.found.now) in
    let words = expected_words rows in
    let made = c.in-Err-Expected-NoPair in
    let of = subst (λ (f : WordFault). IsOfFault (codes "play") rows f) made.field-0-is made.ensures in
    absurd (each_says words made.field-0-0-0
    (subst (λ (f : ExpectedFault). IsFirstUnexpected words f) made.field-0-0-is of.1) c.requires)
