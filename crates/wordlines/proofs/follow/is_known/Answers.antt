use Rattle.std.proofs.Common.{◌≡◌, true}
use Rattle.std.specs.Prelude.{not}
use Rattle.std.specs.List.{list_any}
use Rattle.wordlines.specs.Following.{is_device_at}
use Rattle.wordlines.specs.declared.statements.Statement.TheVariants.{Gear, LampFailure, Memory, Device}
use Rattle.wordlines.specs.declared.statements.Statement.TheVariants.{InputInstance, Reply}
use Rattle.wordlines.proofs.KnownStatements.{known_as, lacks, lacks_in, has}
use Rattle.wordlines.proofs.follow.is_known.Goals as goal

pub returns-in-Gear : goal.returns-in-Gear
returns-in-Gear c =
    known_as c.args.before.now c.args.statement.now (Gear c.in-Gear.bus c.in-Gear.short c.in-Gear.start)
    c.in-Gear.is
    (not c.has_gear.result) (lacks c.has_gear.result _ c.has_gear.ensures)

pub returns-in-LampFailure : goal.returns-in-LampFailure
returns-in-LampFailure c =
    known_as c.args.before.now c.args.statement.now
    (LampFailure c.in-LampFailure.bus c.in-LampFailure.short) c.in-LampFailure.is c.has_gear-in-LampFailure.result
    (has c.has_gear-in-LampFailure.result _ c.has_gear-in-LampFailure.ensures)

pub returns-in-Memory : goal.returns-in-Memory
returns-in-Memory c =
    let it = c.in-Memory in
    known_as c.args.before.now c.args.statement.now
    (Memory it.bus it.short it.bank it.offset it.value) it.is c.has_gear-in-Memory.result
    (has c.has_gear-in-Memory.result _ c.has_gear-in-Memory.ensures)

pub returns-in-Device : goal.returns-in-Device
returns-in-Device c =
    known_as c.args.before.now c.args.statement.now (Device c.in-Device.bus c.in-Device.short) c.in-Device.is
    (not c.has_device.result) (lacks c.has_device.result _ c.has_device.ensures)

pub returns-then-has_device : goal.returns-then-has_device
returns-then-has_device c =
    let it = c.in-InputInstance in
    let there : list_any (is_device_at it.bus it.short) c.args.before.now ≡ true = cc in
    known_as c.args.before.now c.args.statement.now
    (InputInstance it.bus it.short it.number it.kind it.scheme it.value) it.is
    (not c.has_instance.result)
    (lacks_in c.has_instance.result _ _ there c.has_instance.ensures)

pub returns-in-Reply : goal.returns-in-Reply
returns-in-Reply c =
    known_as c.args.before.now c.args.statement.now
    (Reply c.in-Reply.bus c.in-Reply.place c.in-Reply.fate) c.in-Reply.is
    (not c.has_reply.result) (lacks c.has_reply.result _ c.has_reply.ensures)
