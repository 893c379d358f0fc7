use Rattle.iltext.specs.Instructions.{content}
use Rattle.iltext.proofs.Contents.{by_pieces}
use Rattle.iltext.proofs.instructions.on_content.Goals as goal

pub returns : goal.returns
returns c =
    rw c.line_of.ensures (by_pieces (content 31) c.args.operator c.args.at _ _ _ _ _ _ _ _
    c.in_ok-rest.ensures c.new-pieces.ensures.items c.in_ok-rest-2.ensures c.new-nested.ensures c.in_ok-close.ensures)
