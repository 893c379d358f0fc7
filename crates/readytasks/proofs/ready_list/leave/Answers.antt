use Rattle.std.proofs.Common.{ℕ, ◌≡◌, ◌<◌, List, length, get_or, subst}
use Rattle.readytasks.proofs.Listing.{out_of_place, gone, others_stay}
use Rattle.readytasks.proofs.ready_list.leave.Goals as goal

abbrev Stands : List ℕ → ℕ → ℕ → Type 0
Stands list place task = (place < length list) × (get_or list place 0 ≡ task)

stands : (c : goal.After-remove) → Stands c.args.ready.now.items c.in-Some.place c.args.task
stands c = subst (λ (xs : List ℕ). Stands xs c.in-Some.place c.args.task) c.as_slice.ensures.value c.in-Some.ensures.place

pub returns-in-Some-clause-order : goal.returns-in-Some-clause-order
returns-in-Some-clause-order c rank n order =
    rw c.remove.ensures.items (out_of_place rank n _ c.in-Some.place (stands c).0 order)

pub returns-in-Some-clause-left : goal.returns-in-Some-clause-left
returns-in-Some-clause-left c rank n order =
    rw c.remove.ensures.items (gone rank n _ c.in-Some.place c.args.task (stands c).0 (stands c).1 order)

pub returns-in-Some-clause-others : goal.returns-in-Some-clause-others
returns-in-Some-clause-others c t ne =
    rw c.remove.ensures.items (others_stay _ c.in-Some.place c.args.task t (stands c).0 (stands c).1 ne)
