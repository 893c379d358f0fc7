-- The process image once a scan was committed.
use Rattle.std.proofs.Common.{◌≡◌, ◌≢◌, ◌⊎◌, ⊎_elim, ℕ, ◌-◌, ◌≤◌, true, false, eqb, List, ◌∷◌, length}
use Rattle.std.proofs.Common.{Option, Some, None, refl, sym, ap, ◌∙◌, subst, length-drop, arith}
use Rattle.std.proofs.lemmas.Bool.Decides.{eqb_tells}
use Rattle.std.proofs.lemmas.Option.{slice_get_past}
use Rattle.std.specs.Prelude.{slice_get}
use Rattle.std.specs.Option.{option_and_then}
use Rattle.iltypes.specs.declared.value.Value.{Value}
use Rattle.iltypes.specs.Values.{AreOf}
use Rattle.ilblocks.specs.Calls.{Block}
use Rattle.ilblocks.proofs.Blocks.{as_long}
use Rattle.ilcode.specs.Listings.{lasting_types}
use Rattle.ilmachine.specs.Images.{ProcessImage, TaskImage, TaskLayout, Layout, ImageVariable, Own, IsImage, layout_of}
use Rattle.ilmachine.specs.Images.{value_of, blocks_of, own_types, written_at, written_in}
use Rattle.ilmachine.proofs.ImagePlaces.{externals_fit, layout_at}
use Rattle.ilmachine.proofs.Commits.{past_end, lawful_task}
use Rattle.plantevents.specs.Scans.{Scan}
use Rattle.plantevents.specs.declared.event.Event.{Event}
use Rattle.plantevents.specs.declared.event.Event.TheVariants.{Commit}
use Rattle.plantevents.specs.Plants.{Plant, layout}
use Rattle.plantevents.specs.Histories.{OpenScan, scan}
use Rattle.plantevents.specs.Variables.{newest, scan_write, commit_write, write_of}
use Rattle.plantevents.specs.Writes.{IsWrittenFrom, IsNotWritten}
use Rattle.plantbuses.specs.KeptSteps.{ImageFollows}

-- a task of the image, of which a scan left these values in its slots: its own variables are those behind the global
-- ones
pub record IsEnded (image : ProcessImage) (t : ℕ) (of : TaskImage) (slots : List Value) : Type 0 where
  pub is : slice_get image.tasks t ≡ Some of
  pub externals : length of.layout.externals ≤ length slots
  pub own : length of.own.slots ≡ length slots - length of.layout.externals

pub is_ended : (image : ProcessImage) (t : ℕ) (of : TaskImage) (slots : List Value) → IsImage image
    → slice_get image.tasks t ≡ Some of → AreOf of.own.slots (own_types of.layout)
    → AreOf slots (lasting_types of.layout.verified.code) → IsEnded image t of slots
is_ended image t of slots whole is owned typed =
    let types = lasting_types of.layout.verified.code in
    let fit = externals_fit image.types types of.layout.externals (lawful_task image t of whole is).typed in
    let long = as_long slots types typed in
    let own = as_long of.own.slots (own_types of.layout) owned in
    let left = length-drop (length of.layout.externals) types in
    record { is = is; externals = omega arith; own = omega arith }

-- the image once a scan of task t left these values and block instances
pub record IsCommitted (image after : ProcessImage) (t : ℕ) (slots : List Value) (instances : List Block)
    : Type 0 where
  pub same : layout_of after ≡ layout_of image
  pub written : (slot : ℕ) (v : ImageVariable) → written_in (layout_of image) t slot ≡ Some v
      → value_of after v ≡ slice_get slots slot
  pub kept : (v : ImageVariable) → ((slot : ℕ) → written_in (layout_of image) t slot ≢ Some v)
      → value_of after v ≡ value_of image v
  pub here : blocks_of after t ≡ Some instances
  pub others : (u : ℕ) → u ≢ t → blocks_of after u ≡ blocks_of image u

-- from past the last slot a variable is written that is not there
none_before : (image : ProcessImage) (t : ℕ) (of : TaskImage) (slots : List Value) (v : ImageVariable) (slot : ℕ)
    → IsEnded image t of slots → written_in (layout_of image) t slot ≡ Some v → slice_get slots slot ≡ None
    → value_of image v ≡ None
none_before image t of slots v slot ended from none =
    let past = past_end slots slot none in
    let fit = ended.externals in
    let own = ended.own in
    let number = slot - length of.layout.externals in
    let outside = slice_get_past of.layout.externals slot (omega arith) in
    let there = ap (option_and_then (λ (l : TaskLayout).
    written_at t (slot - length l.externals) (slice_get l.externals slot))) (layout_at image t of ended.is) in
    let found : Some (Own t number) ≡ Some v = sym (there ∙ ap (written_at t number) outside) ∙ from in
    let same : Own t number ≡ v = cc in
    subst (λ (x : ImageVariable). value_of image x ≡ None) same
    (ap (option_and_then (λ (u : TaskImage). slice_get u.own.slots number)) ended.is
    ∙ slice_get_past of.own.slots number (omega arith))

newest_same : {X : Type 0} (o before : Option X) → (o ≡ None → before ≡ None) → o ≡ newest o before
newest_same None before none = sym (none refl)
newest_same (Some x) before none = refl

-- what a variable's value is, written or not
value_after : (image after : ProcessImage) (t : ℕ) (of : TaskImage) (slots : List Value) (instances : List Block)
    (v : ImageVariable) → IsEnded image t of slots → IsCommitted image after t slots instances
    → IsWrittenFrom (layout_of image) t of.layout v slots ⊎ IsNotWritten (layout_of image) t of.layout v slots
    → value_of after v ≡ newest (scan_write t v slots of.layout) (value_of image v)
value_after image after t of slots instances v ended done law =
    ⊎_elim
    (λ (w : IsWrittenFrom (layout_of image) t of.layout v slots).
    done.written w.slot v w.from
    ∙ (newest_same (slice_get slots w.slot) (value_of image v) (none_before image t of slots v w.slot ended w.from)
    ∙ ap (λ (o : Option Value). newest o (value_of image v)) (sym w.value)))
    (λ (k : IsNotWritten (layout_of image) t of.layout v slots).
    done.kept v k.from ∙ ap (λ (o : Option Value). newest o (value_of image v)) (sym k.value))
    law

-- what a scan of each variable writes, as the law of scans says it
abbrev pub EachWrite : Layout → ℕ → TaskLayout → List Value → Type 0
EachWrite laid t task slots = (v : ImageVariable) → IsWrittenFrom laid t task v slots ⊎ IsNotWritten laid t task v slots

committed_by : (p : Plant) (w n : ℕ) (running : OpenScan) (result : Scan) (h : List Event)
    (image after : ProcessImage) (of : TaskImage) → ImageFollows p h image → scan w h ≡ Some running
    → IsEnded image running.task of result.after.slots
    → IsCommitted image after running.task result.after.slots result.after.blocks
    → EachWrite (layout_of image) running.task of.layout result.after.slots
    → ImageFollows p (Commit w n result ∷ h) after
committed_by p w n running result h image after of follows busy ended done law =
    let t = running.task in
    let slots = result.after.slots in
    let there : slice_get (layout p).tasks t ≡ Some of.layout =
    sym (ap (λ (l : Layout). slice_get l.tasks t) follows.laid) ∙ layout_at image t of ended.is in
    record {
      laid = done.same ∙ follows.laid;
      values = λ v. value_after image after t of slots result.after.blocks v ended done (law v)
          ∙ (ap (λ (o : Option Value). newest o (value_of image v))
          (sym (ap (commit_write p v slots) busy ∙ ap (option_and_then (scan_write t v slots)) there))
          ∙ ap (newest (write_of p v (Commit w n result) h)) (follows.values v));
      instances = λ u. ⊎_elim
          (λ (k : (eqb t u ≡ true) × (t ≡ u)).
          rw busy (rw k.0 (subst (λ (x : ℕ). blocks_of after x ≡ Some result.after.blocks) k.1 done.here)))
          (λ (k : (eqb t u ≡ false) × (t ≢ u)).
          rw busy (rw k.0 (done.others u (λ e. k.1 (sym e)) ∙ follows.instances u)))
          (eqb_tells t u);
    }

pub image_committed : (p : Plant) (w n t : ℕ) (running : OpenScan) (result : Scan) (h : List Event)
    (image after : ProcessImage) (of : TaskImage) → ImageFollows p h image → scan w h ≡ Some running
    → running.task ≡ t → IsEnded image t of result.after.slots
    → IsCommitted image after t result.after.slots result.after.blocks
    → EachWrite (layout_of image) t of.layout result.after.slots
    → ImageFollows p (Commit w n result ∷ h) after
image_committed p w n t running result h image after of follows busy same =
    subst (λ (u : ℕ). IsEnded image u of result.after.slots
    → IsCommitted image after u result.after.slots result.after.blocks
    → EachWrite (layout_of image) u of.layout result.after.slots
    → ImageFollows p (Commit w n result ∷ h) after) same
    (λ ended done law. committed_by p w n running result h image after of follows busy ended done law)
