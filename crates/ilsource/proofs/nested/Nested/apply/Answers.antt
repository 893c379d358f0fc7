use Rattle.std.proofs.Common.{refl}
use Rattle.ilsource.specs.declared.nested.Action.TheVariants as actions
use Rattle.ilsource.specs.Trees.{Apply, piece}
use Rattle.ilsource.proofs.Spelled.{spelled_tree, spelled_back, one_more}
use Rattle.ilsource.proofs.nested.Nested.apply.Goals as goal

pub invariant_of-result : goal.invariant_of-result
invariant_of-result g c =
    let u = Apply c.args.self c.args.at c.args.operator c.args.operand in
    let more = c.push.new.self.items in
    let p = piece c.args.at (actions.Apply c.args.operator c.args.operand) in
    let pushed = c.in_ok-push.ensures.items in
    let now = one_more c.self.inside.pieces.items more p c.args.self u pushed c.self.invariant c.self.view_is refl in
    spelled_back more u now

pub returns : goal.returns
returns g c =
    let u = Apply c.args.self c.args.at c.args.operator c.args.operand in
    let more = c.push.new.self.items in
    let p = piece c.args.at (actions.Apply c.args.operator c.args.operand) in
    let pushed = c.in_ok-push.ensures.items in
    let now = one_more c.self.inside.pieces.items more p c.args.self u pushed c.self.invariant c.self.view_is refl in
    spelled_tree more u now
