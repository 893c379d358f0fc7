-- Which requests were accepted, and how many were handed out, asked of a whole history.
use Rattle.std.specs.Prelude.{ℕ, ◌+◌, ◌==◌, ◌&&◌, List, [], ◌∷◌, ◌++◌, length, filter, nat_lt, if◌then◌else◌}
use Rattle.gearcmd.specs.declared.requests.Request.{Request}
use Rattle.gearcmd.specs.declared.requests.TaskKind.{TaskKind}
use Rattle.plantevents.specs.declared.event.Event.{Event}
use Rattle.plantevents.specs.declared.event.Event.TheVariants.{Commit, Hand}
use Rattle.plantevents.specs.Plants.{Plant}
use Rattle.plantevents.specs.Histories.{scan}
use Rattle.plantevents.specs.Waiting.{most_waiting, kind_scanned, is_for, is_queued, waiting}

-- the requests of one scan that are accepted for class c of bus b while queue waits there: each that is for them where
-- fewer than 64 wait before it
abbrev pub accepted_of_scan : ℕ → ℕ → TaskKind → List Request → List Request → List Request
accepted_of_scan b c kind queue [] = []
accepted_of_scan b c kind queue (r ∷ more) =
    if is_for b c kind r && nat_lt (length queue) most_waiting
    then r ∷ accepted_of_scan b c kind (queue ++ r ∷ []) more else accepted_of_scan b c kind queue more

-- the accepted requests of the Commits, in order
abbrev pub accepted_requests : Plant → ℕ → ℕ → List Event → List Request
accepted_requests p b c [] = []
accepted_requests p b c (Commit w n result ∷ h) =
    accepted_requests p b c h
    ++ accepted_of_scan b c (kind_scanned p (scan w h)) (waiting p b c h) result.after.requests
accepted_requests p b c (e ∷ h) = accepted_requests p b c h

-- how many requests of class c were handed out to bus b
abbrev pub handed_count : ℕ → ℕ → List Event → ℕ
handed_count b c [] = 0
handed_count b c (Hand d s t ∷ h) = if d == b && is_queued c s t then handed_count b c h + 1 else handed_count b c h
handed_count b c (e ∷ h) = handed_count b c h

-- how many requests of class c for bus b the Commits have
abbrev pub asked_count : Plant → ℕ → ℕ → List Event → ℕ
asked_count p b c [] = 0
asked_count p b c (Commit w n result ∷ h) =
    asked_count p b c h + length (filter (is_for b c (kind_scanned p (scan w h))) result.after.requests)
asked_count p b c (e ∷ h) = asked_count p b c h
