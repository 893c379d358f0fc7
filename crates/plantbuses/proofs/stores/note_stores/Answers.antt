use Rattle.std.proofs.Common.{◌≡◌, ◌≤◌, ◌+◌, ◌∷◌, true, false, List, drop, length, sym, ap, ◌∙◌}
use Rattle.std.proofs.Common.{get_or, subst, arith}
use Rattle.std.proofs.lemmas.List.{drop_more, drop_all}
use Rattle.ilplan.specs.Plans.{Planned}
use Rattle.ilmachine.specs.declared.slots.StoredSlot.{StoredSlot}
use Rattle.ilmachine.proofs.StoredSlots.{no_store}
use Rattle.plantbuses.specs.OutputSteps.{is_at, level_of}
use Rattle.plantbuses.specs.StoreSteps.{OwedBesideSlots, has_store_at}
use Rattle.plantbuses.proofs.StoredLevels.{storing, store_there, beside_slots, beside_turn}
use Rattle.plantbuses.proofs.stores.note_stores.Goals as goal

pub note_store-requires-clause-global : goal.note_store-requires-clause-global
note_store-requires-clause-global c =
    let image = c.args.image.now in let t = c.args.task in
    let stores = c.stores-stores.result.now in
    let by = storing image t stores c.stores-stores.ensures.value in
    store_there c.args.plan.now image t by.of stores c.loop-stored.stored-index no_store c.stores-stores.ensures.image
    by.is by.same c.requires.types c.loop-stored-test.true

pub note_store-requires-clause-count : goal.note_store-requires-clause-count
note_store-requires-clause-count c = c.loop-stored.invariant.count ∙ c.requires.count

pub loop-stored-preserved : goal.loop-stored-preserved
loop-stored-preserved c =
    let stores = c.stores-stores.result.now in let i = c.loop-stored.stored-index in
    let s = get_or stores i no_store in
    let before = c.loop-stored.owed.items in let after = c.note_store.new.owed.items in
    let at : drop i stores ≡ s ∷ drop (i + 1) stores = drop_more stores i no_store c.loop-stored-test.true in
    record {
      count = c.note_store.ensures.count ∙ c.loop-stored.invariant.count;
      beside = λ p h same buses image was.
          beside_turn p h s (drop (i + 1) stores) before after
          (λ b class a yes. c.note_store.ensures.here p h b class a same buses image
          (subst (λ (x : Planned). is_at b a (level_of x s.global) ≡ true) same yes))
          (λ b class a low no. c.note_store.ensures.others b class a low
          (subst (λ (x : Planned). is_at b a (level_of x s.global) ≡ false) same no))
          (subst (λ (l : List StoredSlot). OwedBesideSlots p h l before) at
          (c.loop-stored.invariant.beside p h same buses image was));
    }

pub returns : goal.returns
returns c = λ p h same buses image was.
    let t = c.args.task in
    let stores = c.stores-stores.result.now in let i = c.loop-stored.stored-index in
    let by = storing c.args.image.now t stores c.stores-stores.ensures.value in
    let here = beside_slots p h c.args.image.now t by.of stores c.args.owed.now.items by.is by.same was in
    let past : length stores ≤ i = omega arith in
    let beside = c.loop-stored.invariant.beside p h same buses image here in (
      c.loop-stored.invariant.count ∙ (c.requires.count ∙ ap (λ (x : Planned). x.buses) (sym same)),
      λ b lt class a low. beside b class a lt low (ap (has_store_at p.plan b a) (drop_all i stores past)),
    )
