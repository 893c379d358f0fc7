-- The words of `code` have one reading, so that any of it names the text or the binding as the code file.
use Rattle.std.proofs.Common.{◌≡◌, ◌∙◌, ap, sym, inl, inr, List, Option, Some}
use Rattle.std.specs.Borrow.{Bor}
use Rattle.clap.specs.Words.{Row, Text}
use Rattle.commandline.specs.TextWords.{AreCodeWords}
use Rattle.commandoptions.specs.declared.files.Files.{Files}
use Rattle.commandline.specs.CommandLine.{IsInput, NamesInput}

pub one_reading : (found : List Row) (files : Files) (task : Option (Bor Text)) (to : Bor Text)
    → AreCodeWords found files task to → NamesInput found → IsInput files to
one_reading found files task to are names =
    let its = names.3 in
    let text : files.text.now ≡ names.0.text.now = are.named.text ∙ sym its.named.text in
    let bound = are.named.binding ∙ sym its.named.binding in
    let out : to.now ≡ names.2.now = are.out ∙ sym its.out in
    elim names.4 as (λ _. IsInput files to) [
      | inl is ↦ inl (text ∙ is ∙ sym out)
      | inr is ↦ inr (bound ∙ is ∙ ap (λ (word : Text). Some word) (sym out))
    ]
