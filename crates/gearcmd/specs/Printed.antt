-- What a request is printed as (profile).
use Rattle.std.specs.Prelude.{ℕ, List, ◌++◌, codes, flat_map}
use Rattle.std.specs.Fmt.{decimal}
use Rattle.daliframe.specs.declared.forward.Frame.{Frame}
use Rattle.daliframe.specs.Printed as frames
use Rattle.gearcmd.specs.declared.requests.Request.{Request}
use Rattle.gearcmd.specs.declared.requests.TaskKind.{TaskKind}
use Rattle.gearcmd.specs.Requests.{frames_of, class_of}

-- frames, each behind a blank
abbrev pub printed_frames : List Frame → List ℕ
printed_frames list = flat_map (λ frame. codes " " ++ frames.printed frame) list

-- its bus, its class and its frames
abbrev pub printed_request : Request → TaskKind → List ℕ
printed_request r task =
    codes "bus " ++ decimal r.bus ++ codes " class " ++ decimal (class_of r.command task)
    ++ printed_frames (frames_of r.command)
