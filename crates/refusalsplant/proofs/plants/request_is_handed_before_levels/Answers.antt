use Rattle.std.proofs.Common.{◌≡◌, ◌∙◌, List, [], ◌∷◌, ◌++◌, Option, Some, None, ap, map, slice_get, sym}
use Rattle.std.specs.Prelude.{flat_map}
use Rattle.gearcmd.specs.declared.requests.Request.{Request}
use Rattle.gearcmd.specs.FrameLists.{FrameList}
use Rattle.plantevents.specs.declared.event.Origin.{Origin}
use Rattle.plantevents.specs.declared.event.Origin.TheVariants.{Queued}
use Rattle.plantevents.specs.Legal.{IsHand}
use Rattle.plantevents.specs.Waiting.{Handout, class_handouts, handouts, level_handout, owed, request_handout, waiting}
use Rattle.refusalsplant.proofs.Results.{if_ok}
use Rattle.refusalsplant.proofs.plants.request_is_handed_before_levels.Goals as goal

first_is : (requests : List Request) (levels more : List Handout) (request : Request)
    → slice_get requests 0 ≡ Some request
    → slice_get ((map (request_handout 2) requests ++ levels) ++ more) 0 ≡ Some (request_handout 2 request)
first_is [] levels more request first = absurd cc
first_is (r ∷ requests) levels more request first = let same : r ≡ request = cc in
    ap (λ (x : Request). Some (request_handout 2 x)) same

abbrev origin_in : Request → Option Handout → Origin
origin_in request None = Queued request
origin_in request (Some handout) = handout.origin

same_origin : (request : Request) (origin : Origin) (t : FrameList)
    → Some (request_handout 2 request) ≡ Some (record { origin = origin; transaction = t }) → origin ≡ Queued request
same_origin request origin t is = sym (ap (λ (o : Option Handout). origin_in request o) is)

pub returns : goal.returns
returns c =
    let p = c.args.plant.now.plant in
    let h = c.args.plant.now.history in
    let levels = map (level_handout 2) (owed p 0 2 h) in
    let more = flat_map (class_handouts p 0 h) (3 ∷ 4 ∷ 5 ∷ []) in
    if_ok (λ handed. IsHand p h 0 handed.origin handed.transaction) (λ handed. handed.origin ≡ Queued c.args.request)
    c.hand.result c.hand.ensures.next (λ handed is.
    same_origin c.args.request handed.origin handed.transaction
    (sym (first_is (waiting p 0 2 h) levels more c.args.request c.requires) ∙ is.first))
