use Rattle.std.proofs.Common.{refl}
use Rattle.ilsource.specs.Trees.{Call}
use Rattle.ilsource.proofs.Spelled.{spelled_tree, spelled_back, some_more}
use Rattle.ilsource.proofs.nested.Nested.call.Goals as goal

pub invariant_of-result : goal.invariant_of-result
invariant_of-result g c =
    let u = Call c.args.self c.args.at c.args.function c.args.operands.now in
    let more = c.push_call.new.pieces.items in
    let pushed = c.in_ok-push_call.ensures in
    let now = some_more c.self.inside.pieces.items more _ c.args.self u pushed c.self.invariant c.self.view_is refl in
    spelled_back more u now

pub returns : goal.returns
returns g c =
    let u = Call c.args.self c.args.at c.args.function c.args.operands.now in
    let more = c.push_call.new.pieces.items in
    let pushed = c.in_ok-push_call.ensures in
    let now = some_more c.self.inside.pieces.items more _ c.args.self u pushed c.self.invariant c.self.view_is refl in
    spelled_tree more u now
