-- What the end of a transaction writes is what the history says.
use Rattle.std.proofs.Common.{◌≡◌, ℕ, ◌≤◌, Bool, false, length, Option, Some, None, refl, sym, ap, ◌∙◌}
use Rattle.std.proofs.lemmas.Option.{slice_get_past}
use Rattle.std.specs.Prelude.{if◌then◌else◌, List, ◌∷◌}
use Rattle.std.specs.Option.{option_and_then}
use Rattle.gearcmd.specs.declared.requests.Answerer.{Answerer}
use Rattle.gearcmd.specs.declared.requests.Answerer.TheVariants.{Gear, Instance}
use Rattle.buslink.specs.declared.marks.Outcome.{Outcome}
use Rattle.buslink.specs.Attempts.{ReportParts}
use Rattle.ilplan.specs.declared.global.Global.{Global as GlobalVariable}
use Rattle.ilplan.specs.Plans.{Planned}
use Rattle.ilmachine.specs.Images.{ProcessImage, ImageVariable, Global, Own, layout_of, value_of, blocks_of}
use Rattle.plantevents.specs.declared.event.Origin.{Origin}
use Rattle.plantevents.specs.declared.event.Event.{Event}
use Rattle.plantevents.specs.declared.event.Event.TheVariants.{Done}
use Rattle.plantevents.specs.Histories.{OpenHand, hand}
use Rattle.plantevents.specs.Plants.{Plant, location}
use Rattle.plantevents.specs.Variables.{answerer_by, is_answer_of, outcome_value, report_write, write_of, newest}
use Rattle.plantbuses.specs.KeptSteps.{ImageFollows}
use Rattle.plantbuses.specs.AnswerSteps.{answer_write, answer_at}

-- no answers are located where no variable is
nowhere : (b : ℕ) (a : Option Answerer) → is_answer_of b a None ≡ false
nowhere b None = refl
nowhere b (Some (Gear g)) = refl
nowhere b (Some (Instance g i)) = refl

pub none_written : (b : ℕ) (a : Option Answerer) (result : Outcome) → answer_write b a result None ≡ None
none_written b a result = ap (λ (x : Bool). if x then outcome_value result else None) (nowhere b a)

pub past_all : (plan : Planned) (b : ℕ) (origin : Origin) (result : Outcome) (g : ℕ) → length plan.globals ≤ g
    → answer_at plan b origin result (Global g) ≡ None
past_all plan b origin result g le =
    ap (λ (o : Option GlobalVariable). answer_write b (answerer_by origin) result
    (option_and_then (λ (x : GlobalVariable). x.location) o)) (slice_get_past plan.globals g le)
    ∙ none_written b (answerer_by origin) result

pub answer_same : (p : Plant) (b n : ℕ) (r : ReportParts) (h : List Event) (handed : OpenHand)
    → hand b h ≡ Some handed
    → (v : ImageVariable) → answer_at p.plan b handed.origin r.outcome v ≡ write_of p v (Done b n r) h
answer_same p b n r h handed is (Global g) =
    ap (λ (o : Option OpenHand). report_write b r.outcome o (location p g)) (sym is)
answer_same p b n r h handed is (Own t g) =
    sym (none_written b (answerer_by handed.origin) r.outcome)
    ∙ ap (λ (o : Option OpenHand). report_write b r.outcome o None) (sym is)

pub image_done : (p : Plant) (b n : ℕ) (r : ReportParts) (h : List Event) (handed : OpenHand)
    (before after : ProcessImage) → ImageFollows p h before → hand b h ≡ Some handed
    → layout_of after ≡ layout_of before
    → ((v : ImageVariable) → value_of after v ≡ newest (answer_at p.plan b handed.origin r.outcome v)
    (value_of before v))
    → ((t : ℕ) → blocks_of after t ≡ blocks_of before t)
    → ImageFollows p (Done b n r ∷ h) after
image_done p b n r h handed before after follows is laid values instances = record {
  laid = laid ∙ follows.laid;
  values = λ v. values v ∙ (ap (λ o. newest o (value_of before v)) (answer_same p b n r h handed is v)
      ∙ ap (newest (write_of p v (Done b n r) h)) (follows.values v));
  instances = λ t. instances t ∙ follows.instances t;
}
