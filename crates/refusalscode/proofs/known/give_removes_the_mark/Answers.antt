use Rattle.std.proofs.Common.{◌≡◌, false, None, ap}
use Rattle.ilcode.specs.declared.word.Word.TheVariants as words
use Rattle.ilcode.specs.declared.word.WordOperand.TheVariants as operands
use Rattle.ilverify.specs.declared.entry.Entry.{Entry}
use Rattle.refusalscode.proofs.Onward.{onward}
use Rattle.refusalscode.proofs.known.give_removes_the_mark.Goals as goal

pub returns : goal.returns
returns c =
    onward c.args.code.now c.args.place c.args.met c.args.entry.now (words.Give (operands.Constant 0) 0)
    (λ after. after.mark ≡ None) _ c.after_word.result c.after_word.ensures (λ ways is. is) (λ (after : Entry) is. ap (λ (e : Entry). e.mark) is.2.is)
