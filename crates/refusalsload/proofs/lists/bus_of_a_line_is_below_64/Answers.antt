use Rattle.std.proofs.Common.{◌∙◌, ap, codes, subst, sym}
use Rattle.std.specs.Prelude.{List, slice_get}
use Rattle.clap.specs.Words.{found_of, rows_of}
use Rattle.commandline.specs.Invocations.{IsOfCommand, line_words}
use Rattle.commandline.specs.LineWords.{IsLineWord}
use Rattle.commandline.specs.declared.invocations.Invocation.{Invocation}
use Rattle.commandoptions.specs.declared.line_word.LineWord.{LineWord}
use Rattle.refusalsload.proofs.Listed.{bus_below, first_of_each}
use Rattle.refusalsload.proofs.lists.bus_of_a_line_is_below_64.Goals as goal

pub returns-in-Some : goal.returns-in-Some
returns-in-Some c =
    let rows = rows_of (found_of c.args.found.now) in
    let of = subst (λ (i : Invocation). IsOfCommand (codes "live") rows i) c.in-Ok-Live.field-0-is c.in-Ok-Live.ensures in
    let item = c.in-Some.ensures.value ∙ ap (λ (l : List LineWord). slice_get l 0) c.as_slice.ensures.value in
    let named = first_of_each IsLineWord (line_words rows) c.in-Ok-Live.lines.items c.in-Some.first.now of.2.each
    (sym item) in
    bus_below named.0 c.in-Some.first.now named.1
