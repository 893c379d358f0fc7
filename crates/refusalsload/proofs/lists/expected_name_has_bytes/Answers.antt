use Rattle.std.proofs.Common.{◌∙◌, ap, codes, subst, sym}
use Rattle.std.specs.Prelude.{List, slice_get}
use Rattle.clap.specs.Words.{found_of, rows_of}
use Rattle.commandline.specs.ExpectedWords.{IsExpectedWord}
use Rattle.commandline.specs.Invocations.{IsOfCommand, expected_words}
use Rattle.commandoptions.specs.declared.expected_word.ExpectedWord.{ExpectedWord}
use Rattle.commandline.specs.declared.invocations.Invocation.{Invocation}
use Rattle.refusalsload.proofs.Listed.{first_of_each}
use Rattle.refusalsload.proofs.lists.expected_name_has_bytes.Goals as goal

pub returns-in-Some : goal.returns-in-Some
returns-in-Some c =
    let rows = rows_of (found_of c.args.found.now) in
    let of = subst (λ (i : Invocation). IsOfCommand (codes "play") rows i) c.in-Ok-Play.field-0-is c.in-Ok-Play.ensures in
    let item = c.in-Some.ensures.value ∙ ap (λ (l : List ExpectedWord). slice_get l 0) c.as_slice.ensures.value in
    let named = first_of_each IsExpectedWord (expected_words rows) c.in-Ok-Play.shows.expects.items c.in-Some.first.now
    of.3.expects.each (sym item) in
    named.1.has_name
