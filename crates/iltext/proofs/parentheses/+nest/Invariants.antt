use Rattle.std.proofs.Common.{◌≡◌, ◌+◌, ◌*◌, flat_map, length}
use Rattle.ilsource.specs.Trees.{pieces_of}
use Rattle.iltokens.specs.Items.{many}
use Rattle.iltokens.specs.Results.{extend}
use Rattle.iltext.specs.Terminals.{ended}
use Rattle.iltext.specs.Instructions.{inner, content}
use Rattle.iltext.specs.InstructionSteps.{pieces_in}
use Rattle.iltext.proofs.parentheses.+nest.Given as goal

abbrev pub decreases-applied : goal.decreases-applied
decreases-applied l = 6 * l.more

abbrev pub decreases-operands : goal.decreases-operands
decreases-operands l = 6 * l.more + 1

abbrev pub decreases-inner : goal.decreases-inner
decreases-inner l = 6 * l.more + 2

abbrev pub decreases-inner_line : goal.decreases-inner_line
decreases-inner_line l = 6 * l.more + 3

abbrev pub decreases-content : goal.decreases-content
decreases-content l = 6 * l.more + 4

abbrev pub decreases-on_content : goal.decreases-on_content
decreases-on_content l = 6 * l.more + 5

abbrev pub invariant-content-all : goal.invariant-content-all
invariant-content-all l =
    extend (flat_map pieces_in) l.pieces.items ((many (ended (inner l.more))).read l.rest)
    ≡ extend pieces_of l.fn.pieces.items ((content l.more l.fn.at).read l.fn.ts)

abbrev pub decreases-content-all : goal.decreases-content-all
decreases-content-all l = length l.rest
