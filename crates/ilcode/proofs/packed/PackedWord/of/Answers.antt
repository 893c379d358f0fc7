use Rattle.std.proofs.Common.{◌∙◌, ap}
use Rattle.ilcode.specs.Reading.{meaning}
use Rattle.ilcode.proofs.Spellings.{again, spelled_word}
use Rattle.ilcode.proofs.packed.PackedWord.of.Goals as goal

pub invariant_of-result : goal.invariant_of-result
invariant_of-result c = spelled_word c.args.word.now c.spell.result c.requires c.spell.ensures

pub returns : goal.returns
returns c = ap meaning c.spell.ensures ∙ again c.args.word.now c.requires
