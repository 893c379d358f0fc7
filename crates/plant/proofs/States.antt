-- The values of a task's slots, and what its block instances keep.
use Rattle.std.proofs.Common.{◌≡◌, ℕ, ◌+◌, ◌++◌, ◌∷◌, [], take, List, Some, length, sym, ap, ◌∙◌}
use Rattle.std.specs.Prelude.{IfSome, slice_get}
use Rattle.std.specs.List.{AllZip}
use Rattle.std.proofs.lemmas.List.{length-map, take_more}
use Rattle.std.proofs.lemmas.Slice.Zip.{AllZip-long}
use Rattle.std.proofs.lemmas.Option.{IfSome_then, get_or_from_slice_get, slice_get_within}
use Rattle.iltypes.specs.declared.value.Value.{Value}
use Rattle.iltypes.specs.Values.{AreOf}
use Rattle.ilblocks.specs.Calls.{Block, IsBlockOf}
use Rattle.ilblocks.proofs.Blocks.{as_long}
use Rattle.ilplan.specs.declared.instance.FunctionBlock.{FunctionBlock}
use Rattle.ilplan.specs.declared.slot.Slot.{Slot}
use Rattle.ilplan.specs.Beginnings.{HasEach}
use Rattle.ilcode.specs.Listings.{Listing, lasting_types}
use Rattle.ilmachine.specs.Verdicts.{Accepted}
use Rattle.ilcompile.specs.Loaded.{AreCodes}
use Rattle.ilcompile.proofs.CodeLemmas.{all_last, code_at}
use Rattle.ilmachine.specs.Images.{ProcessImage, Layout, layout_of, verified_of}
use Rattle.plantevents.specs.declared.event.Event.{Event}
use Rattle.plantevents.specs.Plants.{Plant}
use Rattle.plantbuses.specs.KeptSteps.{ImageFollows}
use Rattle.plant.proofs.Taking.{code_of}

-- one more
pub take_at : {X : Type 0} (xs : List X) (i : ℕ) (x : X) → slice_get xs i ≡ Some x
    → take (i + 1) xs ≡ take i xs ++ x ∷ []
take_at {X} xs i x is =
    take_more xs i x (slice_get_within xs i x is)
    ∙ ap (λ (y : X). take i xs ++ y ∷ []) (get_or_from_slice_get xs i x x is)

-- there is a value for each slot, and a state for each instance
pub state_of_each : (p : Plant) (t : ℕ) (h : List Event) (image : ProcessImage) (verified : Accepted) (row : List Value)
    (bs : List Block) → ImageFollows p h image → AreCodes p.plan p.codes
    → verified_of (layout_of image) t ≡ Some verified → AreOf row (lasting_types verified.code)
    → AllZip (IsBlockOf verified.code.buses) bs verified.code.kinds
    → IfSome (slice_get p.plan.tasks t) (λ task. HasEach task (record { slots = row; blocks = bs }))
state_of_each p t h image verified row bs follows coded is typed kinds =
    let code = code_of p.plan.tasks p.codes t verified
    (ap (λ (l : Layout). verified_of l t) (sym follows.laid) ∙ is) in
    IfSome_then (slice_get p.plan.tasks t) (code_at p.plan p.codes t verified coded code)
    (λ task of. record {
      values = as_long row (lasting_types verified.code) typed
          ∙ (ap length (all_last p.plan task verified of) ∙ length-map task.slots (λ (s : Slot). s.value_type));
      blocks = sym (AllZip-long (IsBlockOf verified.code.buses) bs verified.code.kinds kinds)
          ∙ (ap (λ (l : Listing). length l.kinds) of.laid ∙ length-map task.blocks (λ (b : FunctionBlock). b.kind));
    })
