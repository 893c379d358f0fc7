use Rattle.gearcmd.specs.Limits.{most_buses}
use Rattle.std.proofs.Common.{◌≡◌, ◌<◌, IfSome, sym, subst, Option, arith, rules}
use Rattle.gearcmd.specs.declared.requests.Request.{Request}
use Rattle.ilblocks.specs.declared.kind.BlockKind.TheVariants as kinds
use Rattle.ilblocks.specs.Calls.{Block, IsBlockOf, after_call, requested}
use Rattle.ilblocks.proofs.Blocks.{ports_of_kind, call_typed, requested_bus}
use Rattle.ilblocks.proofs.call.step.Goals as goal

pub trigger-requires : goal.trigger-requires
trigger-requires c =
    let n = ports_of_kind most_buses c.args.kind kinds.RTrig c.args.block.now c.in-RTrig.is c.requires in
    omega (arith, n)

pub count-requires : goal.count-requires
count-requires c =
    let n = ports_of_kind most_buses c.args.kind kinds.Ctu c.args.block.now c.in-Ctu.is c.requires in omega (arith, n)

pub time-requires : goal.time-requires
time-requires c =
    let n = ports_of_kind most_buses c.args.kind kinds.Ton c.args.block.now c.in-Ton.is c.requires in omega (arith, n)

pub returns-clause-typed : goal.returns-clause-typed
returns-clause-typed c buses h =
    let e : c.remember.new.self ≡ after_call c.args.kind c.args.moment c.args.block.now = search rules in
    subst (λ (b : Block). IsBlockOf buses b c.args.kind) (sym e)
    (call_typed buses c.args.kind c.args.moment c.args.block.now h)

pub returns-clause-bus : goal.returns-clause-bus
returns-clause-bus c buses le h =
    let e : c.if-rises.request ≡ requested c.args.kind c.args.block.now = search rules in
    subst (λ (o : Option Request). IfSome o (λ request. request.bus < buses)) (sym e)
    (requested_bus buses c.args.kind c.args.block.now le h)
