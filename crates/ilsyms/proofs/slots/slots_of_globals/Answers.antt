use Rattle.std.proofs.Common.{◌≡◌, ◌<◌, ◌∙◌, ◌+◌, ◌++◌, List, [], ◌∷◌, ap, take, sym, subst, length, get_or, false}
use Rattle.std.specs.Prelude.{filter_map, ℕ}
use Rattle.std.specs.List.{enumerate_from}
use Rattle.std.proofs.lemmas.List.{get_or_default}
use Rattle.ilplan.specs.declared.slot.Slot.{Slot}
use Rattle.ildeclared.specs.declared.global.DeclaredGlobal.{DeclaredGlobal}
use Rattle.ilscope.specs.Configured.{globals_of}
use Rattle.ilsyms.specs.TaskSteps.{instances_of}
use Rattle.ilsyms.specs.Variables.{is_named, named_slot}
use Rattle.ilsyms.proofs.TaskInstances.{rows_all}
use Rattle.ilsyms.proofs.SlotGlobals.{one_named, none_named}
use Rattle.ilsyms.proofs.slots.slots_of_globals.Goals as goal
use Rattle.ilsyms.proofs.slots.slots_of_globals.Goals.{then-index+in_ok-add_slot, else-index}

pub loop-number-preserved : goal.loop-number-preserved
loop-number-preserved c =
    let tree = c.args.scope.now.tree in
    let is = instances_of tree c.args.instances.now in
    let n = c.loop-number.number in
    let g = c.global-item.result in
    let items = c.globals-global-items.ensures.value in
    let below : n < length (globals_of tree) = rw (sym items) c.loop-number-test.true in
    let got : g ≡ get_or (globals_of tree) n g =
    c.global-item.is ∙ ap (λ (gs : List DeclaredGlobal). get_or gs n g) items
    in
    let known : c.index.result.now ≡ is_named tree is n =
    c.index.ensures
    ∙ get_or_default c.in_ok-named.named.items n c.index.result.now false
    (subst (λ m. n < m) (sym c.in_ok-named.ensures.many) below)
    ∙ c.in_ok-named.ensures.each n below
    in
    elim c.if-index.branch [
      | then-index+in_ok-add_slot w ↦
          ap (λ v. v.items) w.slots-is
          ∙ w.in_ok-add_slot.ensures _ c.loop-number.invariant
          ∙ ap (λ s. take (4096 + 1) (filter_map (named_slot tree is) (take n (enumerate_from 0 (globals_of tree))) ++ s
          ∷ []))
          w.slot_of_global.ensures
          ∙ ap (λ (ss : List Slot). take (4096 + 1) ss) (one_named tree is n g below got (sym known ∙ w.if-index.true))
      | else-index w ↦
          ap (λ v. v.items) w.slots-is
          ∙ c.loop-number.invariant
          ∙ ap (λ (ss : List Slot). take (4096 + 1) ss)
          (none_named tree is n g below got (sym known ∙ w.if-index.false))
    ]

pub returns : goal.returns
returns c =
    let tree = c.args.scope.now.tree in
    let is = instances_of tree c.args.instances.now in
    c.loop-number.invariant
    ∙ ap (λ (gs : List (ℕ × DeclaredGlobal)). take (4096 + 1) (filter_map (named_slot tree is) gs))
    (rows_all (globals_of tree) 0 c.loop-number.number
    (rw (sym c.globals-global-items.ensures.value) c.loop-number-test.false))
