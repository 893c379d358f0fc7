use Rattle.std.proofs.Common.{◌≡◌, ◌≤◌, ◌+◌, ◌∷◌, Bool, List, length, drop, sym, ap, ◌∙◌, subst, arith}
use Rattle.std.proofs.lemmas.List.{drop_more, drop_all}
use Rattle.std.specs.Prelude.{if◌then◌else◌}
use Rattle.std.specs.List.{list_any}
use Rattle.ilplan.specs.declared.slot.Slot.{Slot}
use Rattle.plantevents.specs.Plants.{external_in, externals_from, stores_global}
use Rattle.plantbuses.specs.OutputSteps.{is_store_in, is_store_of, kind_in}
use Rattle.plantbuses.proofs.LocatedLevels.{noted_turn}
use Rattle.plantbuses.proofs.storing.note_task.Goals as goal

pub loop-number-preserved : goal.loop-number-preserved
loop-number-preserved c =
    let task = c.args.task.now in let kind = c.args.kind in let n = c.loop-number.number in
    let s = c.index-slots-number.result in let slots = c.slots-slots.result.now in
    let first = c.args.kinds.now.items in let before = c.loop-number.kinds.items in
    let after = c.note_kind.new.kinds.items in
    let read : drop n slots ≡ s ∷ drop (n + 1) slots =
    drop_more slots n s c.loop-number-test.true
    ∙ ap (λ (x : Slot). x ∷ drop (n + 1) slots) (sym c.index-slots-number.is) in
    let at = subst (λ (l : List Slot). drop n l ≡ s ∷ drop (n + 1) l) c.slots-slots.ensures.value read in
    record {
      many = c.note_kind.ensures.many ∙ c.loop-number.invariant.many;
      each = λ g below. noted_turn task task.slots n g s kind (kind_in before g) (kind_in after g)
          (if stores_global task g then kind else kind_in first g) at
          (c.note_kind.ensures.each g (let m = c.loop-number.invariant.many in omega arith)
          ∙ (ap (λ (t : Bool). if t then kind else kind_in before g) (c.stored_global-stored.ensures g)
          ∙ ap (λ (x : Slot). if is_store_in g (external_in task n x.variable) then kind else kind_in before g)
          (sym c.index-slots-number.is)))
          (c.loop-number.invariant.each g below);
    }

pub returns : goal.returns
returns c =
    let task = c.args.task.now in let n = c.loop-number.number in let now = c.loop-number.kinds.items in
    let past = subst (λ (l : List Slot). length l ≤ n) c.slots-slots.ensures.value c.loop-number-test.false in record {
      many = c.loop-number.invariant.many;
      each = λ g below.
          sym (ap (λ (l : List Slot).
          if list_any (is_store_of g) (externals_from task n l) then c.args.kind else kind_in now g)
          (drop_all n task.slots past))
          ∙ c.loop-number.invariant.each g below;
    }
