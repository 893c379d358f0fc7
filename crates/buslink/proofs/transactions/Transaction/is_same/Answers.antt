use Rattle.std.proofs.Common.{◌≡◌, refl, ◌∙◌, ap}
use Rattle.std.specs.Bool.{Decides}
use Rattle.std.proofs.lemmas.Bool.Decides.{Decides-eqb, Decides-and, Decides-at, Decides-like}
use Rattle.std.proofs.lemmas.Slice.Eq.{slice_eq-Decides}
use Rattle.daliframe.specs.declared.forward.Frame.{Frame}
use Rattle.daliframe.specs.declared.forward.Frame.TheVariants.{Forward16, Forward24}
use Rattle.daliframe.specs.contracts.forward.FramePartialEq.TheImpl as frames
use Rattle.gearcmd.specs.FrameLists.{FrameList}
use Rattle.buslink.proofs.transactions.Transaction.is_same.Goals as goal

-- `==` holds of the same frames alone
same_frame : (a b : Frame) → Decides (frames.eq-value.it a b) (a ≡ b)
same_frame (Forward16 a) (Forward16 b) = Decides-like _ (λ e. ap Forward16 e) (λ e. cc) (Decides-eqb a b)
same_frame (Forward24 a) (Forward24 b) = Decides-like _ (λ e. ap Forward24 e) (λ e. cc) (Decides-eqb a b)
same_frame (Forward16 a) (Forward24 b) = (λ e. cc, λ e. cc)
same_frame (Forward24 a) (Forward16 b) = (λ e. cc, λ e. cc)

same_parts : (a b : FrameList) → (a.frames ≡ b.frames) × (a.first_priority ≡ b.first_priority) → a ≡ b
same_parts a b e =
    ap (λ xs. record a { frames = xs }) e.0 ∙ ap (λ n. record b { first_priority = n }) e.1

pub returns : goal.returns
returns c =
    Decides-like _ (same_parts c.args.self.now c.args.other.now)
    (λ e. (ap (λ (list : FrameList). list.frames) e, ap (λ (list : FrameList). list.first_priority) e))
    (Decides-at _ _ c.eq.ensures
    (Decides-and _ _ (slice_eq-Decides same_frame _ _ _ refl)
    (Decides-eqb c.args.self.now.first_priority c.args.other.now.first_priority)))
