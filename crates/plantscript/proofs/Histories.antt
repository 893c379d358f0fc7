-- The history of a run is that of the steps that were accepted.
use Rattle.std.proofs.Common.{◌≡◌, List, [], ◌∷◌, ◌++◌, reverse, refl, sym, ap, ◌∙◌, subst, append_assoc}
use Rattle.std.proofs.lemmas.List.{reverse-append}
use Rattle.plantevents.specs.declared.event.Event.{Event}
use Rattle.plant.specs.Shown.{Shown}
use Rattle.plantscript.specs.declared.step.Step.{Step}
use Rattle.plantscript.specs.declared.step.StepReply.{StepReply}
use Rattle.plantscript.specs.declared.step.StepReply.TheVariants.{Noted, Taken, Handed, Refused, Memory}
use Rattle.plantscript.specs.Runs.{Answered, Run, IsAccepted, AreEventsOf, IsHistoryOf}

-- one event more, the oldest
pub one_older : (e : Event) (events h : List Event) → reverse events ++ e ∷ h ≡ reverse (e ∷ events) ++ h
one_older e events h =
    sym (append_assoc (reverse events) (e ∷ []) h) ∙ ap (λ (x : List Event). x ++ h) (sym (reverse-append (e ∷ []) events))

-- after a step that changed nothing
unchanged : (p mid : Shown) (steps : List Step) (replies : List StepReply) (q : Shown) → mid ≡ p
    → IsHistoryOf mid steps replies q → IsHistoryOf p steps replies q
unchanged p mid steps replies q same rest = subst (λ (x : Shown). IsHistoryOf x steps replies q) same rest

-- after a step that was accepted
pub record Later (p : Shown) (e : Event) (steps : List Step) (replies : List StepReply) (q : Shown) : Type 0 where
  pub events : List Event
  pub history : q.history ≡ reverse (e ∷ events) ++ p.history
  pub of_steps : AreEventsOf (e ∷ p.history) steps replies events

later : (p mid : Shown) (step : Step) (reply : StepReply) (steps : List Step) (replies : List StepReply) (q : Shown)
    → (a : IsAccepted p step reply mid) → IsHistoryOf mid steps replies q → Later p a.e steps replies q
later p mid step reply steps replies q a rest =
    let grew : mid.history ≡ a.e ∷ p.history = ap (λ (x : Shown). x.history) a.becomes in
    record {
      events = rest.events;
      history = rest.history ∙ (ap (λ (h : List Event). reverse rest.events ++ h) grew
          ∙ one_older a.e rest.events p.history);
      of_steps = subst (λ (h : List Event). AreEventsOf h steps replies rest.events) grew rest.of_steps;
    }

step_more : (p : Shown) (step : Step) (reply : StepReply) (steps : List Step) (replies : List StepReply) (mid q : Shown)
    → Answered p step reply mid → IsHistoryOf mid steps replies q → IsHistoryOf p (step ∷ steps) (reply ∷ replies) q
step_more p step (Refused refusal) steps replies mid q now rest =
    let same = unchanged p mid steps replies q now.1 rest in
    record { events = same.events; history = same.history; of_steps = same.of_steps }
step_more p step Memory steps replies mid q now rest =
    let same = unchanged p mid steps replies q now.2 rest in
    record { events = same.events; history = same.history; of_steps = same.of_steps }
step_more p step Noted steps replies mid q now rest =
    let more = later p mid step Noted steps replies q now rest in
    record { events = now.e ∷ more.events; history = more.history; of_steps = (now.of_step, more.of_steps) }
step_more p step (Taken number task) steps replies mid q now rest =
    let more = later p mid step (Taken number task) steps replies q now rest in
    record { events = now.e ∷ more.events; history = more.history; of_steps = (now.of_step, more.of_steps) }
step_more p step (Handed number origin transaction) steps replies mid q now rest =
    let more = later p mid step (Handed number origin transaction) steps replies q now rest in
    record { events = now.e ∷ more.events; history = more.history; of_steps = (now.of_step, more.of_steps) }

pub history_of : (p : Shown) (steps : List Step) (replies : List StepReply) (q : Shown) → Run p steps replies q
    → IsHistoryOf p steps replies q
history_of p [] [] q run = record { events = []; history = ap (λ (x : Shown). x.history) run; of_steps = refl }
history_of p [] (r ∷ replies) q run = absurd run
history_of p (s ∷ steps) [] q run = absurd run
history_of p (s ∷ steps) (r ∷ replies) q run =
    step_more p s r steps replies run.0 q run.1 (history_of run.0 steps replies q run.2)
