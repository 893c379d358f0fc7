-- A bus stays equipped as a scenario says it.
use Rattle.std.proofs.Common.{◌≡◌, ℕ, List, Option, None, Some, Ok, Err, refl, sym, ap, ◌∙◌, subst}
use Rattle.std.specs.Prelude.{Bool, Result}
use Rattle.daliframe.specs.declared.forward.Frame.{Frame}
use Rattle.buslink.specs.declared.marks.Reply.{Reply}
use Rattle.buslink.specs.declared.faults.Fault.{Fault}
use Rattle.buslink.specs.BusLog.{BusLog, after_hear, after_mend, after_resume, after_send, with_spare}
use Rattle.wordlines.specs.declared.statements.Statement.{Statement}
use Rattle.simbus.specs.Simulated.{Simulated, after_hearing}
use Rattle.simbus.specs.Staged.{IsOnStage}

hear_number : (result : Result (Option ℕ) Fault) (log : BusLog) → (after_hear result log).number ≡ log.number
hear_number (Ok (Some frame)) log = refl
hear_number (Ok None) log = refl
hear_number (Err fault) log = refl

send_number : (frame : Frame) (priority : ℕ) (result : Result Reply Fault) (log : BusLog)
    → (after_send frame priority result log).number ≡ log.number
send_number frame priority (Ok reply) log = refl
send_number frame priority (Err fault) log = refl

module _ (scenario : List Statement) (old : Simulated) (staged : IsOnStage scenario old) where
  at_number : (n : ℕ) → n ≡ old.log.number
      → IsOnStage scenario (record old { log = record old.log { number = n } })
  at_number n same =
      subst (λ (k : ℕ). IsOnStage scenario (record old { log = record old.log { number = k } })) (sym same)
      (record { setup = staged.setup; script = staged.script })

  stays : (log : BusLog) → log.number ≡ old.log.number → IsOnStage scenario (record old { log = log })
  stays log same =
      let there = at_number log.number same in record { setup = there.setup; script = there.script }

  pub roomy_stays : (new : Simulated) (spare : ℕ) → new ≡ record old { log = with_spare spare old.log }
      → IsOnStage scenario new
  roomy_stays new spare is = subst (IsOnStage scenario) (sym is) (stays (with_spare spare old.log) refl)

  pub sent_stays : (frame : Frame) (priority : ℕ) (result : Result Reply Fault) (new : Simulated)
      → new ≡ record old { log = after_send frame priority result old.log } → IsOnStage scenario new
  sent_stays frame priority result new is =
      subst (IsOnStage scenario) (sym is)
      (stays (after_send frame priority result old.log) (send_number frame priority result old.log))

  pub heard_stays : (result : Result (Option ℕ) Fault) (new : Simulated) → new ≡ after_hearing result old
      → IsOnStage scenario new
  heard_stays result new is =
      let there = stays (after_hear result old.log) (hear_number result old.log) in
      subst (IsOnStage scenario) (sym is) (record { setup = there.setup; script = there.script })

  pub asked_stays : (answers : Bool) (new : Simulated) → new ≡ record old { log = after_mend answers old.log }
      → IsOnStage scenario new
  asked_stays answers new is = subst (IsOnStage scenario) (sym is) (stays (after_mend answers old.log) refl)

  pub resumed_stays : (new : Simulated) → new ≡ record old { log = after_resume old.log } → IsOnStage scenario new
  resumed_stays new is = subst (IsOnStage scenario) (sym is) (stays (after_resume old.log) refl)
