use Rattle.std.proofs.Common.{◌≡◌, ◌<◌, ℕ, Some, [], length, sym, ap, ◌∙◌, subst, arith}
use Rattle.std.proofs.lemmas.List.{get_or_read}
use Rattle.ilplan.specs.Plans.{Planned}
use Rattle.plantbuses.specs.KeptSteps.{KeptBus, BusFollows, no_bus}
use Rattle.plantbuses.specs.OutputSteps.{planned, is_at, level_of, AreOutputsOf, outputs_at}
use Rattle.plantbuses.specs.OwedSteps.{no_levels}
use Rattle.plantbuses.proofs.OwedBits.{noted_here, noted_others}
use Rattle.plantbuses.proofs.stores.note_store.Goals as goal

pub index_mut-requires : goal.index_mut-requires
index_mut-requires c =
    let e = c.from-number.ensures in let k = c.in-Some.ensures.known.0 in let n = c.requires.count in omega arith

pub bounds-outputs-number : goal.bounds-outputs-number
bounds-outputs-number c =
    let e = c.from-number.ensures in let k = c.in-Some.ensures.known.0 in
    let n : length c.args.outputs.now ≡ c.args.plan.now.buses = c.requires.tables.located.0 in omega arith

pub bounds-buses-number : goal.bounds-buses-number
bounds-buses-number c =
    let e = c.from-number.ensures in let k = c.in-Some.ensures.known.0 in let n = c.requires.tables.count in omega arith

pub note_level-requires : goal.note_level-requires
note_level-requires c =
    let tables = c.requires.tables in let n = c.from-number.result in
    let here = c.in-Some.ensures.known in let e = c.from-number.ensures in
    let lt : n < c.args.plan.now.buses = let k = here.0 in omega arith in
    let many : length c.args.outputs.now ≡ c.args.plan.now.buses = tables.located.0 in
    let outputs = get_or_read c.args.outputs.now n c.index-outputs-number.result (omega arith)
    c.index-outputs-number.is [] in
    let bus = get_or_read c.args.buses.now n c.index-buses-number.result (let m = tables.count in omega arith)
    c.index-buses-number.is no_bus in
    record {
      address = here.1;
      outputs = ap length outputs ∙ (tables.located.1 n lt).0;
      levels = ap (λ (x : KeptBus). length x.levels) bus ∙ tables.levels n lt;
    }

pub returns-clause-here : goal.returns-clause-here
returns-clause-here c = λ p h b class a same follows imaged yes.
    let plan = c.args.plan.now in let tables = c.requires.tables in let items = c.args.owed.now.items in
    let n = c.from-number.result in let e = c.from-number.ensures in let here = c.in-Some.ensures.known in
    let lt : n < plan.buses = let k = here.0 in omega arith in
    let many : length c.args.outputs.now ≡ plan.buses = tables.located.0 in
    let outputs = get_or_read c.args.outputs.now n c.index-outputs-number.result (omega arith)
    c.index-outputs-number.is [] in
    let bus = get_or_read c.args.buses.now n c.index-buses-number.result (let m = tables.count in omega arith)
    c.index-buses-number.is no_bus in
    let located = subst (λ (x : Planned). AreOutputsOf (planned x) n (outputs_at c.args.outputs.now n)) (sym same)
    (tables.located.1 n lt) in
    let known : n < p.plan.buses = let q = ap (λ (x : Planned). x.buses) same in omega arith in
    let is : level_of plan c.args.global ≡ Some (n, c.in-Some.address) =
    sym c.level_of.ensures.value
    ∙ (c.in-Some.is ∙ ap (λ (k : ℕ). Some (k, c.in-Some.address)) (sym c.from-number.ensures)) in
    noted_here p h items c.note_level.new.owed n c.in-Some.address (level_of plan c.args.global)
    (let m = c.requires.count in omega arith) is
    (λ k. c.note_level.ensures.here p n h k (subst (AreOutputsOf p n) (sym outputs) located)
    (subst (BusFollows p n h) (sym bus) (follows.1 n known)) imaged) b class a yes

pub returns-clause-others : goal.returns-clause-others
returns-clause-others c = λ b class a low no.
    let plan = c.args.plan.now in let items = c.args.owed.now.items in
    let n = c.from-number.result in let e = c.from-number.ensures in let k = c.in-Some.ensures.known.0 in
    let lt : n < length items = let m = c.requires.count in omega arith in
    let is : level_of plan c.args.global ≡ Some (n, c.in-Some.address) =
    sym c.level_of.ensures.value
    ∙ (c.in-Some.is ∙ ap (λ (x : ℕ). Some (x, c.in-Some.address)) (sym c.from-number.ensures)) in
    noted_others items c.index_mut.result.now c.note_level.new.owed n c.in-Some.address
    (level_of plan c.args.global) lt is
    (get_or_read items n c.index_mut.result.now lt c.index_mut.ensures.value no_levels)
    (λ cl x l ne. c.note_level.ensures.others cl x l ne) b class a low no

pub returns-in_default-clause-here : goal.returns-in_default-clause-here
returns-in_default-clause-here c = λ p h b class a same follows imaged yes.
    let none = sym (ap (is_at b a) (sym c.level_of.ensures.value ∙ c.in_default.is)) ∙ yes in absurd (cc)
