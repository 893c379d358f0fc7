-- A run goes on by one step.
use Rattle.std.proofs.Common.{◌≡◌, ℕ, ◌≤◌, take, length, List, [], ◌∷◌, ◌++◌, refl, sym, ap, ◌∙◌, subst}
use Rattle.std.proofs.lemmas.List.{take_all}
use Rattle.plant.specs.Shown.{Shown}
use Rattle.plantscript.specs.declared.step.Step.{Step}
use Rattle.plantscript.specs.declared.step.StepReply.{StepReply}
use Rattle.plantscript.specs.declared.step.StepReply.TheVariants.{Noted, Taken, Handed, Refused, Memory}
use Rattle.plantscript.specs.Runs.{Answered, Run}

run_more : (p : Shown) (ss : List Step) (rs : List StepReply) (q : Shown) (s : Step) (r : StepReply) (end : Shown)
    → Run p ss rs q → Answered q s r end → Run p (ss ++ s ∷ []) (rs ++ r ∷ []) end
run_more p [] [] q s r end run now = (end, subst (λ (x : Shown). Answered x s r end) run now, refl)
run_more p [] (x ∷ rs) q s r end run now = absurd run
run_more p (x ∷ ss) [] q s r end run now = absurd run
run_more p (x ∷ ss) (y ∷ rs) q s r end run now = (run.0, run.1, run_more run.0 ss rs q s r end run.2 now)

pub run_step : (p : Shown) (ss now : List Step) (rs replies : List StepReply) (q : Shown) (s : Step) (r : StepReply)
    (end : Shown) → Run p ss rs q → Answered q s r end → now ≡ ss ++ s ∷ [] → replies ≡ rs ++ r ∷ []
    → Run p now replies end
run_step p ss now rs replies q s r end run answered more longer =
    subst (λ (xs : List Step). Run p xs replies end) (sym more)
    (subst (λ (ys : List StepReply). Run p (ss ++ s ∷ []) ys end) (sym longer)
    (run_more p ss rs q s r end run answered))

-- all steps were taken
pub run_end : (p : Shown) (steps : List Step) (i : ℕ) (replies : List StepReply) (q end : Shown) → length steps ≤ i
    → Run p (take i steps) replies q → end ≡ q → Run p steps replies end
run_end p steps i replies q end all run is =
    subst (λ (xs : List Step). Run p xs replies end) (take_all i steps all)
    (subst (λ (x : Shown). Run p (take i steps) replies x) (sym is) run)

-- a step, and so a run, leaves what the plant is made of
answered_plant : (p : Shown) (step : Step) (reply : StepReply) (q : Shown) → Answered p step reply q
    → q.plant ≡ p.plant
answered_plant p step (Refused refusal) q answered = ap (λ (x : Shown). x.plant) answered.1
answered_plant p step Memory q answered = ap (λ (x : Shown). x.plant) answered.2
answered_plant p step Noted q answered = ap (λ (x : Shown). x.plant) answered.becomes
answered_plant p step (Taken number task) q answered = ap (λ (x : Shown). x.plant) answered.becomes
answered_plant p step (Handed number origin transaction) q answered = ap (λ (x : Shown). x.plant) answered.becomes

pub run_plant : (p : Shown) (steps : List Step) (replies : List StepReply) (q : Shown) → Run p steps replies q
    → q.plant ≡ p.plant
run_plant p [] [] q run = ap (λ (x : Shown). x.plant) run
run_plant p [] (r ∷ replies) q run = absurd run
run_plant p (s ∷ steps) [] q run = absurd run
run_plant p (s ∷ steps) (r ∷ replies) q run =
    run_plant run.0 steps replies q run.2 ∙ answered_plant p s r run.0 run.1
