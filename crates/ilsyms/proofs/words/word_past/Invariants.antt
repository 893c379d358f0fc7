use Rattle.std.proofs.Common.{take}
use Rattle.limits.specs.Limits.{most_words}
use Rattle.ilsyms.specs.FunctionSteps.{IsPast}
use Rattle.ilsyms.proofs.WordPast.{words_in}
use Rattle.ilsyms.proofs.words.word_past.Given as goal

abbrev pub invariant-loop-instance : goal.invariant-loop-instance
invariant-loop-instance l = IsPast (words_in l.words (take l.instance-index l.instances)) most_words l.past
