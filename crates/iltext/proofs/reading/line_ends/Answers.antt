use Rattle.std.proofs.Common.{◌≡◌, true, false}
use Rattle.iltokens.specs.Items.{begins}
use Rattle.iltokens.specs.declared.lexed.Delimiter.TheVariants as delimiters
use Rattle.iltext.specs.Terminals.{delimiter}
use Rattle.iltext.proofs.LineEnds.{goes_over, stays_there}
use Rattle.iltext.proofs.reading.line_ends.Goals as goal

pub ends-preserved : goal.ends-preserved
ends-preserved c =
    let is : begins (delimiter delimiters.LineEnd) c.ends.rest.now ≡ true = cc in
    let g = goes_over c.ends.rest.now is in
    let inv = c.ends.invariant in
    cc

pub returns : goal.returns
returns c =
    let is : begins (delimiter delimiters.LineEnd) c.ends.rest.now ≡ false = cc in
    let h = stays_there c.ends.rest.now is in
    cc
