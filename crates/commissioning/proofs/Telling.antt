-- What is printed ends with the lines of the differences, where there are some.
use Rattle.std.specs.Prelude.{Result, Ok, Err, OnOk, if◌then◌else◌}
use Rattle.std.proofs.Common.{◌≡◌, ℕ, Bool, true, false, List, [], Option, Some, None, sym, subst, ap, ◌∙◌}
use Rattle.std.specs.Io.KnownBytes.{Appends}
use Rattle.std.specs.Option.{option_map_or}
use Rattle.commissioning.specs.declared.asking.AskFault.{AskFault}
use Rattle.commissioning.specs.declared.declared.DeclaredBus.{DeclaredBus}
use Rattle.commissioning.specs.declared.probing.Probed.{Probed}
use Rattle.commissioning.specs.declared.serving.ProbeForm.{ProbeForm}
use Rattle.commissioning.specs.Differences.{difference_lines}
use Rattle.commissioning.specs.Serving.{EndsWith, differences_told}
use Rattle.commissioning.proofs.Appending.{appends_nothing}

-- behind any writer there is nothing more
pub ends : {W : Type 0} (contents : W → Option (List ℕ)) (w : W) → EndsWith contents [] w
ends contents w = record { before = w; appended = appends_nothing (contents w) }

abbrev told : ProbeForm → Probed → Bool → Option DeclaredBus → List ℕ
told form probed as_json declared =
    if as_json then []
    else option_map_or (λ d. difference_lines probed.survey d.plan.now d.bus) declared []

pub ends_as_json : {W E : Type 0} (contents : W → Option (List ℕ)) (form : ProbeForm) (probed : Probed) (w : W)
    (r : Result (Unit {0}) E) → form.as_json ≡ true → OnOk r (EndsWith contents (differences_told form (Ok probed)) w)
ends_as_json contents form probed w (Err e) is = tt
ends_as_json contents form probed w (Ok done) is =
    subst (λ (lines : List ℕ). EndsWith contents lines w)
    (sym (ap (λ (b : Bool). told form probed b form.declared) is)) (ends contents w)

pub ends_alone : {W : Type 0} (contents : W → Option (List ℕ)) (form : ProbeForm) (probed : Probed) (w : W)
    → form.as_json ≡ false → form.declared ≡ None → EndsWith contents (differences_told form (Ok probed)) w
ends_alone contents form probed w text none =
    subst (λ (lines : List ℕ). EndsWith contents lines w)
    (sym (ap (λ (b : Bool). told form probed b form.declared) text
    ∙ ap (λ (d : Option DeclaredBus). told form probed false d) none))
    (ends contents w)

pub ends_compared : {W E : Type 0} (contents : W → Option (List ℕ)) (form : ProbeForm) (probed : Probed)
    (declared : DeclaredBus) (before w : W) (r : Result (Unit {0}) E)
    → form.as_json ≡ false → form.declared ≡ Some declared
    → OnOk r (Appends (contents before) (contents w) (difference_lines probed.survey declared.plan.now declared.bus))
    → OnOk r (EndsWith contents (differences_told form (Ok probed)) w)
ends_compared contents form probed declared before w (Err e) text some appended = tt
ends_compared contents form probed declared before w (Ok done) text some appended =
    subst (λ (lines : List ℕ). EndsWith contents lines w)
    (sym (ap (λ (b : Bool). told form probed b form.declared) text
    ∙ ap (λ (d : Option DeclaredBus). told form probed false d) some))
    (record { before = before; appended = appended })

-- where nothing was probed, no differences are told
pub ends_unprobed : {W : Type 0} (contents : W → Option (List ℕ)) (form : ProbeForm) (r : Result Probed AskFault)
    (fault : AskFault) (w : W) → r ≡ Err fault → EndsWith contents (differences_told form r) w
ends_unprobed contents form r fault w is =
    subst (λ (x : Result Probed AskFault). EndsWith contents (differences_told form x) w) (sym is) (ends contents w)

pub ends_told : {W A E : Type 0} (contents : W → Option (List ℕ)) (form : ProbeForm) (r : Result Probed AskFault)
    (fault : AskFault) (w : W) (served : Result A E) → r ≡ Err fault
    → OnOk served (EndsWith contents (differences_told form r) w)
ends_told contents form r fault w (Err e) is = tt
ends_told contents form r fault w (Ok s) is = ends_unprobed contents form r fault w is
