-- What a desk answers, by what the plant's call ensures. What is behind a desk is p, and its value is s.
use Rattle.std.proofs.Common.{◌≡◌, ℕ, Result, Ok, Err, length, sym, subst}
use Rattle.plantevents.specs.declared.event.Event.{Event}
use Rattle.plantevents.specs.Legal.{AreLegal}
use Rattle.plant.specs.declared.refusal.CallRefusal.{CallRefusal}
use Rattle.plant.specs.declared.refusal.CallError.{CallError}
use Rattle.plant.specs.declared.refusal.CallError.TheVariants as errors
use Rattle.plant.specs.Refusals.{GivesFirstOrMemory, take_cases}
use Rattle.plant.specs.Shown.{Shown, grown}
use Rattle.plantscript.specs.declared.step.Step.{Step}
use Rattle.plantscript.specs.declared.step.Step.TheVariants.{Take}
use Rattle.plantscript.specs.declared.step.StepReply.{StepReply}
use Rattle.plantscript.specs.declared.step.StepReply.TheVariants.{Refused}
use Rattle.plantscript.specs.DeskSteps.{reply_of}
use Rattle.plantscript.specs.Runs.{Answered, IsAccepted, IsEventOf, IsRefused, NothingIsRefused}
use Rattle.plantscript.proofs.Accepting.{accepted, none_answered}

-- a step that is refused
pub refused_at : (p s q : Shown) (step : Step) (refusal : CallRefusal) → p ≡ s → IsRefused p step refusal → q ≡ p
    → Answered s step (Refused refusal) q
refused_at p s q step refusal view is same =
    subst (λ (x : Shown). Answered x step (Refused refusal) q) view (is, same)

-- a step that is accepted
pub accepted_at : (p s q : Shown) (step : Step) (reply : StepReply) (e : Event) → p ≡ s → NothingIsRefused p step
    → IsEventOf (length p.history) step reply e → q ≡ grown p e → AreLegal q.plant q.history
    → IsAccepted s step reply q
accepted_at p s q step reply e view nothing of is legal =
    subst (λ (x : Shown). IsAccepted x step reply q) view (accepted p step reply q e nothing of is legal)

-- a Take that is refused, or out of memory
not_taken : {A : Type 0} → (p q : Shown) (w : ℕ) (r : Result A CallError) (error : CallError) → r ≡ Err error
    → GivesFirstOrMemory (take_cases p w) r → q ≡ p → Answered p (Take w) (reply_of error) q
not_taken p q w (Ok order) error is given same = absurd (cc)
not_taken p q w (Err (errors.Refused refusal)) error is given same =
    let e : errors.Refused refusal ≡ error = cc in
    subst (λ (x : CallError). Answered p (Take w) (reply_of x) q) e (given, same)
not_taken p q w (Err errors.Memory) error is given same =
    let e : errors.Memory ≡ error = cc in
    subst (λ (x : CallError). Answered p (Take w) (reply_of x) q) e
    (tt, none_answered (take_cases p w) given, same)

pub not_taken_at : {A : Type 0} → (p s q : Shown) (w : ℕ) (r : Result A CallError) (error : CallError)
    (reply : StepReply) → p ≡ s → r ≡ Err error → GivesFirstOrMemory (take_cases p w) r → q ≡ p
    → reply ≡ reply_of error → Answered s (Take w) reply q
not_taken_at p s q w r error reply view is given same said =
    subst (λ (x : Shown). Answered x (Take w) reply q) view
    (subst (λ (y : StepReply). Answered p (Take w) y q) (sym said) (not_taken p q w r error is given same))
