-- What waits to be sent on a bus: requests, and levels that are owed, by class (IEC 62386-101, clause 9, for
-- priorities; profile).
use Rattle.std.specs.Prelude.{ℕ, pos, ◌+◌, ◌==◌, ◌&&◌, Bool, false, not, List, [], ◌∷◌, ◌++◌, zero, suc, length, drop}
use Rattle.std.specs.Prelude.{map, filter_map, flat_map, nat_lt, Option, Some, None, option_and_then}
use Rattle.std.specs.Prelude.{option_to_list, if◌then◌else◌}
use Rattle.iltypes.specs.declared.value.Value.{Value}
use Rattle.iltypes.specs.declared.value.Value.TheVariants as values
use Rattle.daliframe.specs.declared.forward.Frame.{Frame}
use Rattle.daliframe.specs.declared.forward.Frame.TheVariants.{Forward16}
use Rattle.daliframe.specs.Frames.{level_frame}
pub use Rattle.limits.specs.Limits.{most_waiting}
use Rattle.gearcmd.specs.declared.requests.Request.{Request}
use Rattle.gearcmd.specs.declared.requests.TaskKind.{TaskKind}
use Rattle.gearcmd.specs.declared.requests.TaskKind.TheVariants.{Cyclic}
use Rattle.gearcmd.specs.FrameLists.{FrameList}
use Rattle.gearcmd.specs.Requests.{frames_of, class_of, task_class}
use Rattle.ilplan.specs.Calls.{address_of}
use Rattle.ilmachine.specs.Images.{Global}
use Rattle.plantevents.specs.declared.event.Origin.{Origin}
use Rattle.plantevents.specs.declared.event.Origin.TheVariants.{Queued, Output}
use Rattle.plantevents.specs.declared.event.Event.{Event}
use Rattle.plantevents.specs.declared.event.Event.TheVariants.{Commit, Hand, Up}
use Rattle.plantevents.specs.Plants.{Plant, kind_of, output_at, storing_kind}
use Rattle.plantevents.specs.Histories.{OpenScan, scan}
use Rattle.plantevents.specs.Variables.{value}

-- ---- requests

-- what a request came from: the task whose scan a worker has open
abbrev pub kind_scanned : Plant → Option OpenScan → TaskKind
kind_scanned p (Some running) = kind_of p running.task
kind_scanned p None = Cyclic

-- the request is for bus b, and as one of a task of this kind it is of class c
abbrev pub is_for : ℕ → ℕ → TaskKind → Request → Bool
is_for b c kind r = r.bus == b && class_of r.command kind == c

-- A request of class c for bus b is accepted exactly where fewer than 64 wait before it.
abbrev pub after_offer : ℕ → ℕ → TaskKind → List Request → Request → List Request
after_offer b c kind queue r =
    if is_for b c kind r && nat_lt (length queue) most_waiting then queue ++ r ∷ [] else queue

abbrev pub after_offers : ℕ → ℕ → TaskKind → List Request → List Request → List Request
after_offers b c kind queue [] = queue
after_offers b c kind queue (r ∷ more) = after_offers b c kind (after_offer b c kind queue r) more

-- how many of them are not accepted
abbrev pub refused_count : ℕ → ℕ → TaskKind → List Request → List Request → ℕ
refused_count b c kind queue [] = 0
refused_count b c kind queue (r ∷ more) =
    (if is_for b c kind r && not (nat_lt (length queue) most_waiting) then 1 else 0)
    + refused_count b c kind (after_offer b c kind queue r) more

-- the transaction is of a request of class c, which is the priority of its first frame
abbrev pub is_queued : ℕ → Origin → FrameList → Bool
is_queued c (Queued request) transaction = transaction.first_priority == c
is_queued c (Output address level) transaction = false

-- the accepted requests of class c for bus b that were not handed out, the oldest first
abbrev pub waiting : Plant → ℕ → ℕ → List Event → List Request
waiting p b c [] = []
waiting p b c (Commit w n result ∷ h) =
    after_offers b c (kind_scanned p (scan w h)) (waiting p b c h) result.after.requests
waiting p b c (Hand d s t ∷ h) = if d == b && is_queued c s t then drop 1 (waiting p b c h) else waiting p b c h
waiting p b c (e ∷ h) = waiting p b c h

-- how many were dropped
abbrev pub dropped : Plant → ℕ → ℕ → List Event → ℕ
dropped p b c [] = 0
dropped p b c (Commit w n result ∷ h) =
    dropped p b c h + refused_count b c (kind_scanned p (scan w h)) (waiting p b c h) result.after.requests
dropped p b c (e ∷ h) = dropped p b c h

-- ---- level outputs

abbrev pub is_output_at : ℕ → Origin → Bool
is_output_at a (Output address level) = address == a
is_output_at a (Queued request) = false

abbrev pub level_by : Origin → ℕ
level_by (Output address level) = level
level_by (Queued request) = 255

-- the level that was handed out last for address a of bus b since the bus came up: 255, no new level, before the first
abbrev pub handed_level : ℕ → ℕ → List Event → ℕ
handed_level b a [] = 255
handed_level b a (Hand d s t ∷ h) = if d == b && is_output_at a s then level_by s else handed_level b a h
handed_level b a (Up d ∷ h) = if d == b then 255 else handed_level b a h
handed_level b a (e ∷ h) = handed_level b a h

-- a level with its address, 0 to 63 for a short address, 64 to 79 for a group, 80 for broadcast
pub record OwedLevel : Type 0 where
  pub address : ℕ
  pub level : ℕ

abbrev pub natural_in : Option Value → Option ℕ
natural_in (Some (values.Int (pos number))) = Some number
natural_in _ = None

-- the class of a level is that of the task that stores it
abbrev pub level_class : Plant → ℕ → ℕ
level_class p global = task_class (storing_kind p global)

abbrev pub if_new : ℕ → ℕ → ℕ → Option OwedLevel
if_new before a level = if level == before then None else Some (record { address = a; level = level })

-- what the global variable that is located at the level of address a owes: its value, where it differs from the level
-- that was handed out last
abbrev pub owed_by : Plant → ℕ → ℕ → ℕ → List Event → ℕ → Option OwedLevel
owed_by p b c a h global =
    if level_class p global == c
    then option_and_then (if_new (handed_level b a h) a) (natural_in (value p (Global global) h)) else None

abbrev pub owed_at : Plant → ℕ → ℕ → List Event → ℕ → Option OwedLevel
owed_at p b c h a = option_and_then (owed_by p b c a h) (output_at p b a)

-- the numbers below n, from 0 on
abbrev pub numbers_below : ℕ → List ℕ
numbers_below zero = []
numbers_below (suc n) = numbers_below n ++ n ∷ []

abbrev pub addresses : List ℕ
addresses = numbers_below 81

-- the levels of class c that are owed on bus b, by address
abbrev pub owed : Plant → ℕ → ℕ → List Event → List OwedLevel
owed p b c h = filter_map (owed_at p b c h) addresses

-- ---- what may be handed to a bus

-- a transaction with what it is made of
pub record Handout : Type 0 where
  pub origin : Origin
  pub transaction : FrameList

-- the frames of a request of class c
abbrev pub request_handout : ℕ → Request → Handout
request_handout c r = record {
  origin = Queued r;
  transaction = record { frames = frames_of r.command; first_priority = c };
}

-- one frame, a direct level to its address
abbrev pub level_frames : OwedLevel → List Frame
level_frames o = map (λ address. Forward16 (level_frame address o.level)) (option_to_list (address_of o.address))

abbrev pub level_handout : ℕ → OwedLevel → Handout
level_handout c o = record {
  origin = Output o.address o.level;
  transaction = record { frames = level_frames o; first_priority = c };
}

-- of one class: requests, the oldest first, then owed levels by address
abbrev pub class_handouts : Plant → ℕ → List Event → ℕ → List Handout
class_handouts p b h c = map (request_handout c) (waiting p b c h) ++ map (level_handout c) (owed p b c h)

-- the classes, the highest priority first
abbrev pub classes : List ℕ
classes = 2 ∷ 3 ∷ 4 ∷ 5 ∷ []

-- what may be handed to bus b, first to last
abbrev pub handouts : Plant → ℕ → List Event → List Handout
handouts p b h = flat_map (class_handouts p b h) classes
