use Rattle.std.proofs.Common.{[]}
use Rattle.std.proofs.lemmas.Result.{err_from_is_err_and}
use Rattle.commissioning.specs.Surveys.{AreParts, AsksMore, IsGearPart}
use Rattle.commissioning.proofs.Surveying.{asks_of_more, surveyed}
use Rattle.commissioning.proofs.Completing.{devices_of_survey_cut, gear_of_survey_cut}
use Rattle.commissioning.proofs.surveys.make_survey.Goals as goal

pub returns-in_err-ask_all_gear-clause-fault : goal.returns-in_err-ask_all_gear-clause-fault
returns-in_err-ask_all_gear-clause-fault g c =
    let p = err_from_is_err_and c.from_residual.result c.from_residual.ensures.1 in
    rw (p.1, p.2) (gear_of_survey_cut c.in_err-ask_all_gear.field-0.0 (g.B.Bus.log c.args.bus.now)
    (g.B.Bus.log c.ask_all_gear.new.bus) c.in_err-ask_all_gear.ensures.fault)

pub returns-in_err-ask_all_devices-clause-fault : goal.returns-in_err-ask_all_devices-clause-fault
returns-in_err-ask_all_devices-clause-fault g c =
    let p = err_from_is_err_and c.from_residual-in_err-ask_all_devices.result
    c.from_residual-in_err-ask_all_devices.ensures.1 in
    rw (p.1, p.2) (devices_of_survey_cut c.in_err-ask_all_devices.field-0.0 (g.B.Bus.log c.args.bus.now)
    (g.B.Bus.log c.ask_all_gear.new.bus) (g.B.Bus.log c.ask_all_devices.new.bus)
    (asks_of_more (AreParts IsGearPart 64) c.new-asked.result.items c.ask_all_gear.new.asked.items
    (g.B.Bus.log c.args.bus.now) (g.B.Bus.log c.ask_all_gear.new.bus) c.in_ok-ask_all_gear.ensures.more)
    c.in_err-ask_all_devices.ensures.fault)

pub returns-clause-survey : goal.returns-clause-survey
returns-clause-survey g c =
    let gear : AsksMore (AreParts IsGearPart 64) [] c.ask_all_gear.new.asked.items (g.B.Bus.log c.args.bus.now)
    (g.B.Bus.log c.ask_all_gear.new.bus) =
    rw c.new-asked.ensures.items at c.in_ok-ask_all_gear.ensures.more in
    surveyed c.ask_all_gear.new.asked.items c.ask_all_devices.new.asked.items
    (g.B.Bus.log c.args.bus.now) (g.B.Bus.log c.ask_all_gear.new.bus) (g.B.Bus.log c.ask_all_devices.new.bus)
    gear c.in_ok-ask_all_devices.ensures.more
