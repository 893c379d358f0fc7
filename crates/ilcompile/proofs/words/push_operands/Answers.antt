use Rattle.std.proofs.Common.{List, ◌+◌, subst}
use Rattle.std.specs.List.{AllByRecursion}
use Rattle.std.proofs.lemmas.List.{drop_more}
use Rattle.ilsource.specs.declared.operand.Operand.{Operand}
use Rattle.ilplan.specs.declared.place.Place.{Place}
use Rattle.ilcode.specs.Words.{HasWord}
use Rattle.ilcompile.specs.LayoutSteps.{gives_from}
use Rattle.ilcompile.proofs.words.push_operands.Goals as goal

pub word-requires : goal.word-requires
word-requires c =
    let i = c.loop-number.number in
    let near = subst
    (λ (os : List (Operand Place)). AllByRecursion HasWord (gives_from c.args.numbers.now c.args.function (i + 1) os))
    (drop_more c.args.operands.now i _ c.loop-number-test.true) c.loop-number.invariant.near in
    record { near = near.0 }
