use Rattle.std.proofs.Common.{◌∙◌, codes, subst}
use Rattle.std.proofs.lemmas.Slice.Zip.{AllZip-long}
use Rattle.clap.specs.Words.{found_of, rows_of}
use Rattle.commandline.specs.Invocations.{IsOfCommand, line_words}
use Rattle.commandline.specs.LineWords.{IsLineWord}
use Rattle.commandline.specs.declared.invocations.Invocation.{Invocation}
use Rattle.refusalsload.proofs.lists.each_of_two_words_names_a_line.Goals as goal

pub returns-in-Ok-Live : goal.returns-in-Ok-Live
returns-in-Ok-Live c =
    let rows = rows_of (found_of c.args.found.now) in
    let of = subst (λ (i : Invocation). IsOfCommand (codes "live") rows i) c.in-Ok-Live.field-0-is c.in-Ok-Live.ensures in
    c.len.ensures.value ∙ AllZip-long IsLineWord (line_words rows) c.in-Ok-Live.lines.items of.2.each ∙ c.requires
