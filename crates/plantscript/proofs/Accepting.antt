-- An event that a call of the plant added is one that was accepted.
use Rattle.std.proofs.Common.{◌≡◌, List, length, None, Some, subst}
use Rattle.plantevents.specs.declared.event.Event.{Event}
use Rattle.plantevents.specs.Legal.{Allowed, AreLegal}
use Rattle.plant.specs.declared.refusal.CallRefusal.{CallRefusal}
use Rattle.plant.specs.Refusals.{Case, first_refusal}
use Rattle.plant.specs.Shown.{Shown, grown}
use Rattle.plantscript.specs.declared.step.Step.{Step}
use Rattle.plantscript.specs.declared.step.StepReply.{StepReply}
use Rattle.plantscript.specs.Runs.{NothingIsRefused, IsEventOf, IsAccepted}

-- where no case holds none is answered
pub none_answered : (cases : List Case) → first_refusal cases ≡ None → (refusal : CallRefusal)
    → ¬ (first_refusal cases ≡ Some refusal)
none_answered cases none refusal some = absurd (cc)

-- what was added may follow the history
pub may_follow : (p q : Shown) (e : Event) → q ≡ grown p e → AreLegal q.plant q.history → Allowed p.plant p.history e
may_follow p q e is legal = (subst (λ (x : Shown). AreLegal x.plant x.history) is legal).0

pub accepted : (p : Shown) (step : Step) (reply : StepReply) (q : Shown) (e : Event) → NothingIsRefused p step
    → IsEventOf (length p.history) step reply e → q ≡ grown p e → AreLegal q.plant q.history
    → IsAccepted p step reply q
accepted p step reply q e nothing of is legal = record {
  unrefused = nothing;
  e = e;
  of_step = of;
  allowed = may_follow p q e is legal;
  becomes = is;
}
