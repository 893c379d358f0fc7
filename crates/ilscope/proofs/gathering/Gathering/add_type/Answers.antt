use Rattle.std.proofs.Common.{subst, List, ℕ}
use Rattle.ildeclared.specs.Kept.{KeepsToo}
use Rattle.ilscope.proofs.OneMore.{type_added}
use Rattle.ilscope.proofs.gathering.Gathering.add_type.Goals as goal

pub returns : goal.returns
returns c front h =
    rw c.lesser_of-self.ensures
    (type_added c.args.after c.args.lower.now front c.args.self.now.types c.add.new.self c.args.self.now.programs.items
    c.args.self.now.variable_numbers.items c.args.self.now.block_numbers.items c.args.self.now.external_numbers.items
    c.args.self.now.functions.items c.args.self.now.own_numbers.items c.args.self.now.least
    c.fault_of-fault.result c.args.declared c.declared_type-meaning.result h c.fault_of-fault.ensures
    c.declared_type-meaning.ensures
    (subst
    (λ (key : List ℕ). KeepsToo key c.declared_type-meaning.result c.args.self.now.types c.add.new.self)
    c.text.ensures c.in_ok-add.ensures.kept))
