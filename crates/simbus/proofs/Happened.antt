-- What happened on a simulated bus: what was heard has come, and each frame was answered.
use Rattle.std.proofs.Common.{◌≡◌, ℕ, List, [], ◌∷◌, ◌++◌, sym, ap, ◌∙◌, subst}
use Rattle.std.specs.Prelude.{reverse}
use Rattle.std.proofs.lemmas.List.{append_assoc, reverse-append}
use Rattle.std.proofs.lemmas.List.Elements.{filter_map-append}
use Rattle.buslink.specs.declared.arrivals.Arrival.{Arrival}
use Rattle.buslink.specs.BusLog.{frame_in, frames_in}
use Rattle.buslink.specs.declared.marks.Sent.{Sent}
use Rattle.simbus.specs.declared.equipment.Equipment.{Equipment}
use Rattle.simbus.specs.declared.scripts.ScriptedReply.{ScriptedReply}
use Rattle.simbus.specs.Histories.{Setup}
use Rattle.simbus.specs.Kept.{setup_of}
use Rattle.simbus.specs.Simulated.{AreAnswered, due_mark}

-- one frame more, which keeps what was declared
pub answered_more : (e new : Equipment) (script : List ScriptedReply) (h g : List Sent) (s : Sent)
    → setup_of new ≡ setup_of e → g ≡ s ∷ h → s.mark ≡ due_mark (setup_of e) script h s.frame
    → AreAnswered (setup_of e) script h → AreAnswered (setup_of new) script g
answered_more e new script h g s same more due answered =
    subst (λ (x : Setup). AreAnswered x script g) (sym same)
    (subst (λ (x : List Sent). AreAnswered (setup_of e) script x) (sym more) (due, answered))

-- what is met last is the last of what was met
pub met_more : (met : List Arrival) (next : Arrival) → reverse (next ∷ met) ≡ reverse met ++ next ∷ []
met_more met next = reverse-append (next ∷ []) met

-- what waits first is met: what has come is the same
pub come_same : (met rest : List Arrival) (next : Arrival)
    → reverse (next ∷ met) ++ rest ≡ reverse met ++ (next ∷ rest)
come_same met rest next =
    ap (λ (xs : List Arrival). xs ++ rest) (met_more met next) ∙ append_assoc (reverse met) (next ∷ []) rest

-- what was met was heard
pub heard_more : (met : List Arrival) (next : Arrival) (heard : List ℕ) → heard ≡ frames_in (reverse met)
    → heard ++ frames_in (next ∷ []) ≡ frames_in (reverse (next ∷ met))
heard_more met next heard is =
    ap (λ (xs : List ℕ). xs ++ frames_in (next ∷ [])) is
    ∙ (sym (filter_map-append frame_in (reverse met) (next ∷ []))
    ∙ ap frames_in (sym (met_more met next)))
