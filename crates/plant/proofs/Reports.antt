-- A transaction has three frames at most, and a report fifteen: so the count of a bus's frames has room.
use Rattle.std.proofs.Common.{◌≡◌, ℕ, zero, suc, ◌+◌, ◌-◌, ◌*◌, ◌≤◌, Bool, true, false, eqb, map, List, [], ◌∷◌, ◌++◌}
use Rattle.std.proofs.Common.{length, length-append, Option, Some, None, sym, ap, subst, arith}
use Rattle.std.specs.Prelude.{⊤, slice_get, option_to_list, if◌then◌else◌}
use Rattle.daliframe.specs.declared.forward.Frame.{Frame}
use Rattle.daliframe.specs.declared.forward.Frame.TheVariants.{Forward16}
use Rattle.daliframe.specs.declared.addressing.Address.{Address}
use Rattle.daliframe.specs.Frames.{level_frame}
use Rattle.gearcmd.specs.declared.requests.Request.{Request}
use Rattle.gearcmd.specs.declared.requests.Command.{Command}
use Rattle.gearcmd.specs.declared.requests.Command.TheVariants.{GearLevel, GearDo, GearSet, GearPair, GearAsk}
use Rattle.gearcmd.specs.declared.requests.Command.TheVariants.{GearRead, DevDo, DevScheme, DevAsk}
use Rattle.gearcmd.specs.FrameLists.{FrameList, most_frames}
use Rattle.gearcmd.specs.Requests.{frames_of}
use Rattle.ilblocks.specs.Calls.{address_of}
use Rattle.buslink.specs.declared.marks.Mark.{Mark}
use Rattle.buslink.specs.declared.marks.Sent.{Sent}
use Rattle.buslink.specs.Attempts.{Attempt, IsReport, ReportParts, IsReportParts, marks_of, sent_with, all_sent}
use Rattle.buslink.specs.Attempts.{most_sent}
use Rattle.plantevents.specs.declared.event.Event.{Event}
use Rattle.plantevents.specs.declared.event.Event.TheVariants.{Tick, Heard, Take, Commit, Hand, Done, Down, Up}
use Rattle.plantevents.specs.Plants.{Plant}
use Rattle.plantevents.specs.Histories.{OpenHand, hand, frames}
use Rattle.plantevents.specs.Legal.{AreLegal, IsDone}
use Rattle.plantevents.specs.Waiting.{Handout, OwedLevel, request_handout, level_handout, class_handouts, handouts}
use Rattle.plantevents.specs.Waiting.{waiting, owed}

-- ---- each of a list

abbrev Each : {X : Type 0} → (X → Type 0) → List X → Type 0
Each P [] = ⊤
Each P (x ∷ xs) = P x × Each P xs

each_append : {X : Type 0} (P : X → Type 0) (xs ys : List X) → Each P xs → Each P ys → Each P (xs ++ ys)
each_append P [] ys all others = others
each_append P (x ∷ xs) ys all others = (all.0, each_append P xs ys all.1 others)

each_map : {X Y : Type 0} (P : Y → Type 0) (f : X → Y) → ((x : X) → P (f x)) → (xs : List X) → Each P (map f xs)
each_map P f is [] = tt
each_map P f is (x ∷ xs) = (is x, each_map P f is xs)

each_first : {X : Type 0} (P : X → Type 0) (xs : List X) (x : X) → Each P xs → slice_get xs 0 ≡ Some x → P x
each_first P [] x all is = absurd (cc)
each_first P (y ∷ xs) x all is = let e : y ≡ x = cc in subst P e all.0

-- ---- frames of what is handed out

few_of : (c : Command) → length (frames_of c) ≤ most_frames
few_of (GearLevel address level) = omega arith
few_of (GearDo address cmd) = omega arith
few_of (GearSet address cmd value) = omega arith
few_of (GearPair address cmd) = omega arith
few_of (GearAsk address cmd) = omega arith
few_of (GearRead address bank offset) = omega arith
few_of (DevDo address instance cmd) = omega arith
few_of (DevScheme address instance scheme) = omega arith
few_of (DevAsk address instance cmd) = omega arith

few_by : (level : ℕ) (o : Option Address)
    → length (map (λ address. Forward16 (level_frame address level)) (option_to_list o)) ≤ most_frames
few_by level None = omega arith
few_by level (Some address) = omega arith

abbrev IsShort : Handout → Type 0
IsShort x = length x.transaction.frames ≤ most_frames

class_short : (p : Plant) (b c : ℕ) (h : List Event) → Each IsShort (class_handouts p b h c)
class_short p b c h =
    each_append IsShort (map (request_handout c) (waiting p b c h)) (map (level_handout c) (owed p b c h))
    (each_map IsShort (request_handout c) (λ (r : Request). few_of r.command) (waiting p b c h))
    (each_map IsShort (level_handout c) (λ (o : OwedLevel). few_by o.level (address_of o.address)) (owed p b c h))

all_short : (p : Plant) (b : ℕ) (h : List Event) → Each IsShort (handouts p b h)
all_short p b h =
    each_append IsShort (class_handouts p b h 2) _ (class_short p b 2 h)
    (each_append IsShort (class_handouts p b h 3) _ (class_short p b 3 h)
    (each_append IsShort (class_handouts p b h 4) _ (class_short p b 4 h)
    (each_append IsShort (class_handouts p b h 5) _ (class_short p b 5 h) tt)))

handed_here : (same : Bool) (here x : OpenHand) (before : Option OpenHand)
    → length here.transaction.frames ≤ most_frames
    → (before ≡ Some x → length x.transaction.frames ≤ most_frames)
    → (if same then Some here else before) ≡ Some x → length x.transaction.frames ≤ most_frames
handed_here true here x before few earlier is =
    let e : here ≡ x = cc in subst (λ (y : OpenHand). length y.transaction.frames ≤ most_frames) e few
handed_here false here x before few earlier is = earlier is

closed_here : (same : Bool) (x : OpenHand) (before : Option OpenHand)
    → (before ≡ Some x → length x.transaction.frames ≤ most_frames)
    → (if same then None else before) ≡ Some x → length x.transaction.frames ≤ most_frames
closed_here true x before earlier is = absurd (cc)
closed_here false x before earlier is = earlier is

-- what a bus has open has three frames at most
pub hand_short : (p : Plant) (b : ℕ) (h : List Event) (x : OpenHand) → AreLegal p h → hand b h ≡ Some x
    → length x.transaction.frames ≤ most_frames
hand_short p b [] x legal is = absurd (cc)
hand_short p b (Tick m ∷ h) x legal is = hand_short p b h x legal.1 is
hand_short p b (Heard c f ∷ h) x legal is = hand_short p b h x legal.1 is
hand_short p b (Take w t s ∷ h) x legal is = hand_short p b h x legal.1 is
hand_short p b (Commit w n r ∷ h) x legal is = hand_short p b h x legal.1 is
hand_short p b (Hand c s t ∷ h) x legal is =
    handed_here (eqb c b) (record { place = length h; origin = s; transaction = t }) x (hand b h)
    (each_first IsShort (handouts p c h) (record { origin = s; transaction = t }) (all_short p c h) legal.0.first)
    (hand_short p b h x legal.1) is
hand_short p b (Done c n r ∷ h) x legal is = closed_here (eqb c b) x (hand b h) (hand_short p b h x legal.1) is
hand_short p b (Down c ∷ h) x legal is = closed_here (eqb c b) x (hand b h) (hand_short p b h x legal.1) is
hand_short p b (Up c ∷ h) x legal is = hand_short p b h x legal.1 is

-- ---- frames of a report

sent_short : (frames : List Frame) (first : ℕ) (marks : List Mark)
    → length (sent_with frames first marks) ≤ length frames
sent_short [] first marks = omega arith
sent_short (f ∷ frames) first [] = omega arith
sent_short (f ∷ frames) first (m ∷ marks) = let rest = sent_short frames 1 marks in omega arith

all_sent_short : (list : FrameList) (attempts : List Attempt) → length list.frames ≤ most_frames
    → length (all_sent list attempts) ≤ most_frames * length attempts
all_sent_short list [] few = omega arith
all_sent_short list (a ∷ more) few =
    let here = sent_short list.frames list.first_priority (marks_of a) in
    let rest = all_sent_short list more few in
    let both = length-append (sent_with list.frames list.first_priority (marks_of a)) (all_sent list more) in omega
    arith

few_attempts : (retries count : ℕ) (attempts : List Attempt) → IsReport retries count attempts
    → length attempts ≤ retries + 1
few_attempts retries count [] is = absurd is
few_attempts retries count (a ∷ []) is = omega arith
few_attempts zero count (a ∷ b ∷ more) is = absurd is
few_attempts (suc retries) count (a ∷ b ∷ more) is =
    let rest = few_attempts retries count (b ∷ more) is.2 in omega arith

pub report_short : (r : ReportParts) → IsReportParts r → length r.transaction.frames ≤ most_frames
    → length r.attempts ≤ most_sent
report_short r is few =
    let spells = is.spelled in
    let few_tries = few_attempts (r.tries - 1) (length r.transaction.frames) spells.attempts spells.legal in
    let first = is.tries.first in let last = is.tries.last in
    let sent = all_sent_short r.transaction spells.attempts few in
    let same = ap (λ (xs : List Sent). length xs) spells.sent in omega arith

done_short : (p : Plant) (b n : ℕ) (r : ReportParts) (h : List Event) → AreLegal p h → IsDone p h b n r
    → length r.attempts ≤ most_sent
done_short p b n r h legal done =
    report_short r done.report (subst (λ (t : FrameList). length t.frames ≤ most_frames) (sym done.transaction)
    (hand_short p b h done.handed legal done.is_open))

more_frames : (same : Bool) (count sent places : ℕ) → count ≤ most_sent * places → sent ≤ most_sent
    → (if same then count + sent else count) ≤ most_sent * (places + 1)
more_frames true count sent places few short = omega arith
more_frames false count sent places few short = omega arith

-- so a bus has fifteen frames for each event at most
pub frames_few : (p : Plant) (b : ℕ) (h : List Event) → AreLegal p h → frames b h ≤ most_sent * length h
frames_few p b [] legal = omega arith
frames_few p b (Tick m ∷ h) legal = let r = frames_few p b h legal.1 in omega arith
frames_few p b (Heard c f ∷ h) legal = let r = frames_few p b h legal.1 in omega arith
frames_few p b (Take w t s ∷ h) legal = let r = frames_few p b h legal.1 in omega arith
frames_few p b (Commit w n r ∷ h) legal = let r = frames_few p b h legal.1 in omega arith
frames_few p b (Hand c s t ∷ h) legal = let r = frames_few p b h legal.1 in omega arith
frames_few p b (Done c n r ∷ h) legal =
    let m = more_frames (eqb c b) (frames b h) (length r.attempts) (length h) (frames_few p b h legal.1)
    (done_short p c n r h legal.1 legal.0) in omega arith
frames_few p b (Down c ∷ h) legal = let r = frames_few p b h legal.1 in omega arith
frames_few p b (Up c ∷ h) legal = let r = frames_few p b h legal.1 in omega arith
