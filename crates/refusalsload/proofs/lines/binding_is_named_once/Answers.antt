use Rattle.std.proofs.Common.{inl, inr, map}
use Rattle.std.specs.String.{string_bytes}
use Rattle.commandline.specs.CommandLine.{IsConflicting, NamesBindingTwice}
use Rattle.refusalsload.proofs.Spelled.{none_taken, spelled}
use Rattle.refusalsload.proofs.lines.binding_is_named_once.Goals as goal

pub returns : goal.returns
returns c =
    let words = map (λ word. string_bytes word) c.args.words.now in
    none_taken words c.read.result c.read.ensures.taken
    (inl (spelled NamesBindingTwice IsConflicting words (λ name found is. inr is) c.requires))
