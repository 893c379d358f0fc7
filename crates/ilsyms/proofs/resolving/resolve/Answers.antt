use Rattle.ilsyms.proofs.SameMeaning.{means_the_same}
use Rattle.ilsyms.proofs.resolving.resolve.Goals as goal

pub returns-clause-same_meaning : goal.returns-clause-same_meaning
returns-clause-same_meaning c = λ buses task store. means_the_same c.args.source.now buses task store
