-- What stands in the logs of buses and clocks after a call.
use Rattle.std.proofs.Common.{◌≡◌, ℕ, List, [], ◌∷◌, ◌++◌, ◌&&◌, false, Option, Some, None, Result, Ok, Err, IfOk, IfSome}
use Rattle.std.proofs.Common.{refl, ap}
use Rattle.daliframe.specs.declared.forward.Frame.{Frame}
use Rattle.buslink.specs.declared.marks.Reply.{Reply}
use Rattle.buslink.specs.BusLog.{BusLog, after_hear, after_send, mark_of_send}
use Rattle.buslink.specs.ClockLog.{ClockLog, after_now}
use Rattle.buslink.specs.declared.faults.Fault.{Fault}
use Rattle.liveline.specs.Exchanges.{LineState, with_line}
use Rattle.liveline.specs.Greetings.{GreetedLine}

-- what holds of each value of a result
pub if_ok : {X E : Type 0} (P Q : X → Type 0) (given : Result X E) → IfOk given P → ((x : X) → P x → Q x)
    → IfOk given Q
if_ok P Q (Ok x) holds each = each x holds
if_ok P Q (Err e) holds each = tt

pub sent_is : (frame : Frame) (priority : ℕ) (reply : Result Reply Fault) (old new : BusLog)
    → new ≡ after_send frame priority reply old
    → new.sent ≡ old.sent ++ record { frame = frame; priority = priority; mark = mark_of_send reply } ∷ []
sent_is frame priority (Ok reply) old new is = ap (λ (l : BusLog). l.sent) is
sent_is frame priority (Err fault) old new is = ap (λ (l : BusLog). l.sent) is

pub heard_is : (given : Result (Option ℕ) Fault) (old new : BusLog) → new ≡ after_hear given old
    → IfOk given (λ heard. IfSome heard (λ frame. new.heard ≡ old.heard ++ frame ∷ []))
heard_is (Ok (Some frame)) old new is = ap (λ (l : BusLog). l.heard) is
heard_is (Ok None) old new is = tt
heard_is (Err fault) old new is = tt

pub given_is : (moment : Option ℕ) (old new : ClockLog) → new ≡ after_now moment old
    → IfSome moment (λ m. new.given ≡ old.given ++ m ∷ [])
given_is (Some moment) old new is = ap (λ (l : ClockLog). l.given) is
given_is None old new is = tt

-- a line that begins does not mend its bus
pub begun : (old new : LineState) (greeted : GreetedLine) → new ≡ with_line greeted old → old.log.is_mended ≡ false
    → (new.is_in_step && new.log.is_mended) ≡ false
begun old new greeted is mended = rw (is, mended) refl
