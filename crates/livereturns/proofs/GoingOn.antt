-- A house that is stopped and started again: what its history says of timers and triggers.
use Rattle.std.proofs.Common.{◌≡◌, ℕ, suc, List, [], ◌∷◌, length, map, Option, Some, refl, arith}
use Rattle.std.specs.Prelude.{slice_get}
use Rattle.std.specs.List.{AllZip}
use Rattle.iltypes.specs.declared.value.Value.{Value}
use Rattle.ilblocks.specs.Calls.{Block}
use Rattle.ilblocks.specs.Stores.{Lasting}
use Rattle.ilplan.specs.declared.global.Global.{Global as GlobalVariable}
use Rattle.ilplan.specs.declared.instance.FunctionBlock.{FunctionBlock}
use Rattle.ilplan.specs.Plans.{PlannedTask, kinds_of}
use Rattle.ilmachine.specs.Images.{Global}
use Rattle.plantevents.specs.declared.event.Event.{Event}
use Rattle.plantevents.specs.Plants.{Plant}
use Rattle.plantevents.specs.Variables.{blocks, value}
use Rattle.livekeep.specs.Returns.{HasKeptStart, HasKeptStarts, IsUntouched, MayComeBack}
use Rattle.livereturns.specs.GoingOn.{MayGoOn}
use Rattle.livereturns.proofs.KeptStarts.{HasStart, HaveStarts, if_at, starts_in}
use Rattle.livereturns.proofs.KeptTriggers.{stays}

-- two lists of one length of which a relation holds place by place
zip_from : {A B : Type 0} (R : A → B → Type 0) (xs : List A) (ys : List B) → length ys ≡ length xs
    → ((k : ℕ) (x : A) (y : B) → slice_get xs k ≡ Some x → slice_get ys k ≡ Some y → R x y) → AllZip R xs ys
zip_from R [] [] long each = tt
zip_from R [] (y ∷ ys) long each = absurd (omega arith)
zip_from R (x ∷ xs) [] long each = absurd (omega arith)
zip_from R (x ∷ xs) (y ∷ ys) long each =
    (each 0 x y refl refl, zip_from R xs ys (omega arith) (λ k a b p q. each (suc k) a b p q))

by_kinds : (bs : List FunctionBlock) (states : List Block) → AllZip HasKeptStart bs states
    → AllZip HasStart states (map (λ b. b.kind) bs)
by_kinds [] [] all = tt
by_kinds [] (s ∷ states) all = absurd all
by_kinds (b ∷ bs) [] all = absurd all
by_kinds (b ∷ bs) (s ∷ states) all = (all.0, by_kinds bs states all.1)

by_blocks : (bs : List FunctionBlock) (states : List Block) → AllZip HasStart states (map (λ b. b.kind) bs)
    → AllZip HasKeptStart bs states
by_blocks [] [] all = tt
by_blocks [] (s ∷ states) all = absurd all
by_blocks (b ∷ bs) [] all = absurd all
by_blocks (b ∷ bs) (s ∷ states) all = (all.0, by_blocks bs states all.1)

module _ (p : Plant) (h : List Event) (globals : List Value) (tasks : List Lasting)
    (may : MayGoOn p h globals tasks) where
  starts_at : (k : ℕ) (task : PlannedTask) (lasting : Lasting) → slice_get p.plan.tasks k ≡ Some task
      → slice_get tasks k ≡ Some lasting → HasKeptStarts task lasting
  starts_at k task lasting at held =
      by_blocks task.blocks lasting.blocks
      (if_at (HaveStarts (kinds_of task)) (blocks p k h) lasting.blocks (may.lasting.each k lasting held).blocks
      (starts_in p h (λ n t is. by_kinds t.blocks t.states (may.begins n t is)) may.legal may.early k task at))

  untouched_at : (k : ℕ) (g : GlobalVariable) (v : Value) → slice_get p.plan.globals k ≡ Some g
      → slice_get globals k ≡ Some v → IsUntouched g v
  untouched_at k g v at held trigger =
      let known : value p (Global k) h ≡ Some v = may.values.each k v held in
      let began : value p (Global k) h ≡ Some g.initial = stays p k g at trigger (may.triggers k g at trigger) h in
      same_value v g.initial (value p (Global k) h) known began
    where
      same_value : (v w : Value) (o : Option Value) → o ≡ Some v → o ≡ Some w → v ≡ w
      same_value v w o one other = cc

  pub may_come_back : MayComeBack p.plan globals tasks
  may_come_back = record {
    distinct = may.distinct;
    typed = may.typed;
    triggers = zip_from IsUntouched p.plan.globals globals may.values.count untouched_at;
    starts = zip_from HasKeptStarts p.plan.tasks tasks may.lasting.count starts_at;
  }
