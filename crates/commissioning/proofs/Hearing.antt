-- Listening goes on: nothing is sent, what comes is recorded, and then more.
use Rattle.std.specs.Prelude.{Result, Ok, Err, IfOk, ◌≤◌, ◌+◌, length}
use Rattle.std.proofs.Common.{◌≡◌, ℕ, List, [], ◌∷◌, ◌++◌, Option, Some, None, map, refl, sym, ◌∙◌, ap, subst, arith}
use Rattle.std.proofs.Common.{append_assoc}
use Rattle.std.proofs.lemmas.List.{append-nil, length-append}
use Rattle.std.proofs.lemmas.Grind.{flat_map-append}
use Rattle.std.specs.Io.KnownBytes.{Appends}
use Rattle.std.specs.List.{flat_map}
use Rattle.buslink.specs.BusLog.{BusLog, one_more}
use Rattle.commissioning.specs.declared.asking.AskFault.{AskFault}
use Rattle.commissioning.specs.declared.asking.AskFault.TheVariants.{Memory, Failed}
use Rattle.commissioning.specs.declared.listening.Silenced.{Silenced}
use Rattle.commissioning.specs.declared.serving.Served.{Served}
use Rattle.commissioning.specs.Listening.{Coming, IsListened, IsRecorded, SendsNothing, Shows, lines_of}
use Rattle.commissioning.specs.ListeningSteps.{Hears, frames_of}
use Rattle.commissioning.proofs.Appending.{appends_both, appends_nothing}
use Rattle.commissioning.specs.Serving.{IsListenServed, served_by}

pub nothing_yet : (log : BusLog) → SendsNothing log log
nothing_yet log = record { sent = refl; same = record { number = refl; arrivals = refl } }

pub nothing_more : (old middle new : BusLog) → SendsNothing old middle → SendsNothing middle new → SendsNothing old new
nothing_more old middle new first more =
    record {
      sent = more.sent ∙ first.sent;
      same = record {
        number = more.same.number ∙ first.same.number;
        arrivals = more.same.arrivals ∙ first.same.arrivals;
      };
    }

map_append : {A B : Type 0} (f : A → B) (xs ys : List A) → map f (xs ++ ys) ≡ map f xs ++ map f ys
map_append f [] ys = refl
map_append f (x ∷ xs) ys = ap (λ l. f x ∷ l) (map_append f xs ys)

-- where no frame was heard, nothing is recorded
pub none_recorded : (bus : ℕ) (fault : Option AskFault) (old new : BusLog) (bytes : Option (List ℕ))
    → Hears [] fault old new → IsRecorded bus fault old new bytes bytes
none_recorded bus fault old new bytes heard = record {
  comings = [];
  heard = heard.heard;
  recorded = appends_nothing bytes;
  fault_shown = heard.fault_shown;
  room = heard.room;
}

-- where one was heard, its lines are
pub one_recorded : (bus moment frame : ℕ) (came : Option ℕ) (old new : BusLog) (before after : Option (List ℕ))
    → came ≡ Some frame → Hears (frames_of came) None old new
    → Appends before after (lines_of bus (record { moment = moment; frame = frame }))
    → IsRecorded bus None old new before after
one_recorded bus moment frame came old new before after is came_heard lines =
    let heard : Hears (frame ∷ []) None old new =
    subst (λ (o : Option ℕ). Hears (frames_of o) None old new) is came_heard in
    let coming : Coming = record { moment = moment; frame = frame } in
    let all : lines_of bus coming ≡ flat_map (lines_of bus) (coming ∷ []) = sym (append-nil (lines_of bus coming)) in
    record {
      comings = coming ∷ [];
      heard = heard.heard;
      recorded = subst (λ (bytes : List ℕ). Appends before after bytes) all lines;
      fault_shown = heard.fault_shown;
      room = heard.room;
    }

-- what a fault shows behind frames before it
shows_more : (fault : Option AskFault) (a b : ℕ) (old middle new : BusLog) → middle.failures ≡ old.failures
    → old.spare ≤ middle.spare + a → Shows fault b middle new → Shows fault (a + b) old new
shows_more None a b old middle new same room shown = shown ∙ same
shows_more (Some Failed) a b old middle new same room shown = shown ∙ ap (λ n. one_more n) same
shows_more (Some Memory) a b old middle new same room shown =
    let spare : middle.spare ≤ b = shown.1 in
    (shown.0 ∙ same, omega arith)

-- nothing has failed so far, and then comes more
pub more_recorded : (bus : ℕ) (fault : Option AskFault) (old middle new : BusLog)
    (before between after : Option (List ℕ)) → IsRecorded bus None old middle before between
    → IsRecorded bus fault middle new between after → IsRecorded bus fault old new before after
more_recorded bus fault old middle new before between after first more =
    let frames = map_append (λ (c : Coming). c.frame) first.comings more.comings in
    let lines = flat_map-append (lines_of bus) first.comings more.comings in
    let front = map (λ (c : Coming). c.frame) first.comings in
    let rest = map (λ (c : Coming). c.frame) more.comings in
    let count : length (first.comings ++ more.comings) ≡ length first.comings + length more.comings =
    length-append first.comings more.comings in
    let room_first : old.spare ≤ middle.spare + length first.comings = first.room in
    let room_more : middle.spare ≤ new.spare + length more.comings = more.room in
    record {
      comings = first.comings ++ more.comings;
      heard = more.heard ∙ ap (λ (xs : List ℕ). xs ++ rest) first.heard ∙ append_assoc old.heard front rest
          ∙ ap (λ (xs : List ℕ). old.heard ++ xs) (sym frames);
      recorded = subst (λ (bytes : List ℕ). Appends before after bytes) (sym lines)
          (appends_both before between after (flat_map (lines_of bus) first.comings)
          (flat_map (lines_of bus) more.comings) first.recorded more.recorded);
      fault_shown = subst (λ (n : ℕ). Shows fault n old new) (sym count)
          (shows_more fault (length first.comings) (length more.comings) old middle new first.fault_shown
          first.room more.fault_shown);
      room = omega arith;
    }

pub recorded_as : (bus : ℕ) (one other : Option AskFault) (old new : BusLog) (before after : Option (List ℕ))
    → one ≡ other → IsRecorded bus one old new before after → IsRecorded bus other old new before after
recorded_as bus one other old new before after same recorded =
    subst (λ (fault : Option AskFault). IsRecorded bus fault old new before after) same recorded

pub nothing_recorded_yet : (bus : ℕ) (log : BusLog) (bytes : Option (List ℕ)) → IsRecorded bus None log log bytes bytes
nothing_recorded_yet bus log bytes = none_recorded bus None log log bytes (record {
  heard = sym (append-nil log.heard);
  fault_shown = refl;
  room = omega arith;
})

pub listen_served : {E : Type 0} (bus : ℕ) (reason : Silenced) (r : Result Served E) (old new : BusLog)
    (before after : Option (List ℕ)) → IsListened bus reason old new before after
    → IfOk r (λ s. s ≡ served_by reason) → IfOk r (λ s. IsListenServed bus s old new before after)
listen_served bus reason (Ok s) old new before after listened told =
    record { reason = reason; listened = listened; told = told }
listen_served bus reason (Err e) old new before after listened told = tt
