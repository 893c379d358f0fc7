use Rattle.std.proofs.Common.{◌≤◌, ◌<◌, subst, arith}
use Rattle.std.proofs.lemmas.Result.{err_from_is_err_and}
use Rattle.commissioning.specs.Surveys.{AreParts, AsksMore, IsGearPart}
use Rattle.commissioning.proofs.Surveying.{asks_of_more, more_part, more_all}
use Rattle.commissioning.specs.Asking.{IsBrokenOff}
use Rattle.commissioning.proofs.Breaking.{broken_part}
use Rattle.commissioning.proofs.Completing.{some_gear}
use Rattle.commissioning.proofs.surveys.ask_all_gear.Goals as goal

pub returns-in_err-ask_gear-clause-fault : goal.returns-in_err-ask_gear-clause-fault
returns-in_err-ask_gear-clause-fault g c =
    let p = err_from_is_err_and c.from_residual.result c.from_residual.ensures.1 in
    let fewer : c.loop-number.number < 64 = omega arith in
    rw (p.1, p.2) (broken_part IsGearPart some_gear c.loop-number.number 64 c.in_err-ask_gear.field-0.0
    (g.B.Bus.log c.args.bus.now) (g.B.Bus.log c.loop-number.bus) (g.B.Bus.log c.ask_gear.new.bus) fewer
    (asks_of_more (AreParts IsGearPart c.loop-number.number) c.args.asked.now.items c.loop-number.asked.items
    (g.B.Bus.log c.args.bus.now) (g.B.Bus.log c.loop-number.bus) c.loop-number.invariant)
    (subst (λ n. IsBrokenOff (IsGearPart n) c.in_err-ask_gear.field-0.0 (g.B.Bus.log c.loop-number.bus)
    (g.B.Bus.log c.ask_gear.new.bus)) c.in-Some.ensures.1 c.in_err-ask_gear.ensures.fault))

pub loop-number-preserved : goal.loop-number-preserved
loop-number-preserved g c =
    more_part IsGearPart c.loop-number.number c.args.asked.now.items c.loop-number.asked.items c.ask_gear.new.asked.items
    (g.B.Bus.log c.args.bus.now) (g.B.Bus.log c.loop-number.bus) (g.B.Bus.log c.ask_gear.new.bus)
    c.loop-number.invariant
    (subst (λ n. AsksMore (IsGearPart n) c.loop-number.asked.items c.ask_gear.new.asked.items (g.B.Bus.log c.loop-number.bus)
    (g.B.Bus.log c.ask_gear.new.bus)) c.in-Some.ensures.1 c.in_ok-ask_gear.ensures.more)

pub returns-clause-more : goal.returns-clause-more
returns-clause-more g c =
    let most : c.loop-number.number ≤ 64 = omega arith in
    more_all IsGearPart c.loop-number.number 64 c.args.asked.now.items c.loop-number.asked.items
    (g.B.Bus.log c.args.bus.now) (g.B.Bus.log c.loop-number.bus) most c.loop-number-test.false c.loop-number.invariant
