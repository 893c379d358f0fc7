use Rattle.std.proofs.Common.{codes, inl, inr, subst}
use Rattle.clap.specs.Words.{found_of, rows_of}
use Rattle.commandline.specs.Invocations.{IsOfFault, line_word, line_words}
use Rattle.commandline.specs.LineWords.{IsFirstFault, IsNoPath}
use Rattle.commandline.specs.declared.line_words.LineWordFault.{LineWordFault}
use Rattle.commandline.specs.declared.word_fault.WordFault.{WordFault}
use Rattle.refusalsload.proofs.Listed.{each_again}
use Rattle.refusalsload.proofs.lists.second_line_of_a_bus_names_it_again.Goals as goal

pub returns-in-Err-Line-Shared : goal.returns-in-Err-Line-Shared
returns-in-Err-Line-Shared c =
    let rows = rows_of (found_of c.args.found.now) in
    let words = line_words rows in
    let made = c.in-Err-Line-Shared in
    let of = subst (λ (f : WordFault). IsOfFault (codes "live") rows f) made.field-0-is made.ensures in
    elim of [
      | inl live ↦
          absurd (each_again words made.field-0-0-0
          (subst (λ (f : LineWordFault). IsFirstFault words f) made.field-0-0-is live.1) c.requires)
      | inr tool ↦
          absurd (subst (λ (f : LineWordFault). IsNoPath (line_word rows) f) made.field-0-0-is tool.1)
    ]
