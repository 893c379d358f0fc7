use Rattle.std.proofs.Common.{◌≡◌, ap}
use Rattle.daliframe.specs.declared.addressing.Address.TheVariants.{Short}
use Rattle.gearcmd.specs.declared.requests.Command.TheVariants.{GearLevel}
use Rattle.gearcmd.specs.FrameLists.{FrameList}
use Rattle.buslink.specs.Attempts.{ReportParts}
use Rattle.commissioning.specs.Asking.{transaction_of}
use Rattle.refusalslive.proofs.Installed.{answer_is}
use Rattle.refusalslive.proofs.Results.{if_ok}
use Rattle.refusalslive.proofs.installing.level_of_a_person_has_priority_2.Goals as goal

pub returns : goal.returns
returns g c =
    let command = GearLevel (Short c.args.address) c.args.level in
    if_ok (λ (report : ReportParts). report.transaction ≡ transaction_of command)
    (λ report. report.transaction.first_priority ≡ 2) c.ask.result
    (answer_is command c.ask.result (g.B.Bus.log c.args.bus.now) (g.B.Bus.log c.ask.new.bus) c.ask.ensures.asked)
    (λ report is. ap (λ (list : FrameList). list.first_priority) is)
