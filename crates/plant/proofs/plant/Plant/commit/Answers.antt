use Rattle.std.proofs.Common.{List, ◌∷◌, map, sym, ap, ◌∙◌, subst}
use Rattle.std.specs.Prelude.{Option, slice_get, unwrap_or}
use Rattle.gearcmd.specs.declared.requests.Request.{Request}
use Rattle.gearcmd.specs.declared.requests.TaskKind.{TaskKind}
use Rattle.gearcmd.specs.declared.requests.TaskKind.TheVariants.{Cyclic}
use Rattle.ilplan.specs.declared.global.Global.{Global as GlobalVariable}
use Rattle.ilplan.specs.Plans.{Planned}
use Rattle.ilmachine.specs.Images.{Layout}
use Rattle.plantevents.specs.declared.event.Event.TheVariants.{Commit}
use Rattle.plantevents.specs.Plants.{kind_by, kind_of}
use Rattle.plantbuses.specs.KeptSteps.{BusesFollow}
use Rattle.plantbuses.specs.StoreSteps.{AreTables, OwedBeside, externals_at}
use Rattle.plantbuses.proofs.Offered.{AreOffered, buses_offered}
use Rattle.plantbuses.proofs.OwedChanges.{owed_beside}
use Rattle.plantbuses.proofs.StoredLevels.{tables_offered}
use Rattle.plant.specs.Shown.{Shown, plant_of}
use Rattle.plant.specs.CommitSteps.{IsScanOfTask}
use Rattle.plant.proofs.Committing.{scan_kept, commit_says}
use Rattle.plant.proofs.Dropping.{drop_room}
use Rattle.plant.proofs.Taking.{task_there}
use Rattle.plant.proofs.plant.Plant.commit.Goals as goal

pub offer_all-requires-clause-countable : goal.offer_all-requires-clause-countable
offer_all-requires-clause-countable c = λ b k lt.
    drop_room _ _ b k c.outbox.result.now c.self.invariant lt c.outbox.ensures.few

pub overflow_sub-self : goal.overflow_sub-self
overflow_sub-self c =
    let w = c.args.worker in let scan = c.args.scan in
    let may = subst (λ (p : Shown). IsScanOfTask p w scan c.in-Some.task) (sym c.self.view_is)
    c.in-Some.ensures.allowed in
    scan_kept _ _ w scan.number scan c.self.invariant may.allowed

pub note_stores-requires : goal.note_stores-requires
note_stores-requires c =
    let p = c.self.inside in let says = c.self.invariant in let plant = plant_of p.setup p.workers in
    let h = p.history.items in let w = c.args.worker in let scan = c.args.scan in let t = c.in-Some.task in
    let may = subst (λ (p : Shown). IsScanOfTask p w scan t) (sym c.self.view_is) c.in-Some.ensures.allowed in
    let running = may.allowed.running in
    let imaged = c.write_scan.ensures plant w scan.number running h says.each_variable may.allowed.is_open may.task in
    let plan = c.plan-2.ensures.value in
    let made : AreOffered c.kind-kind.result c.outbox.result.now p.buses.items c.offer_all.new.buses.items = record {
      count = c.offer_all.ensures.count;
      waits = c.offer_all.ensures.waits;
      drops = c.offer_all.ensures.drops;
      same = c.offer_all.ensures.same;
    } in
    record {
      task = task_there plant c.write_scan.new.image t imaged.laid c.plan.ensures.codes may.known;
      types = ap (λ (l : Layout). l.types) imaged.laid
          ∙ ap (λ (x : Planned). map (λ (g : GlobalVariable). g.value_type) x.globals) (sym plan);
      count = says.each_owed.0 ∙ ap (λ (x : Planned). x.buses) (sym plan);
      tables = subst (λ (x : Planned). AreTables x c.deref.result.now c.deref-2.result.now) (sym plan)
          (rw (c.deref.ensures.value, c.deref-2.ensures.value)
          (tables_offered plant h p.outputs.items c.kind-kind.result c.outbox.result.now p.buses.items
          c.offer_all.new.buses.items says.each_output says.each_bus made));
    }

pub invariant_of-self : goal.invariant_of-self
invariant_of-self c =
    let p = c.self.inside in let says = c.self.invariant in let plant = plant_of p.setup p.workers in
    let h = p.history.items in let w = c.args.worker in let scan = c.args.scan in let t = c.in-Some.task in
    let may = subst (λ (p : Shown). IsScanOfTask p w scan t) (sym c.self.view_is) c.in-Some.ensures.allowed in
    let running = may.allowed.running in let is_open = may.allowed.is_open in
    let before = p.buses.items in let after = c.offer_all.new.buses.items in
    let kind = sym (ap (λ (k : Option TaskKind). unwrap_or k Cyclic) c.kind-kind.ensures.value)
    ∙ ap (λ (plan : Planned). kind_by (slice_get plan.tasks t)) c.plan.ensures.value
    ∙ ap (kind_of plant) (sym may.task) in
    let made : AreOffered c.kind-kind.result c.outbox.result.now before after = record {
      count = c.offer_all.ensures.count;
      waits = c.offer_all.ensures.waits;
      drops = c.offer_all.ensures.drops;
      same = c.offer_all.ensures.same;
    } in
    let offered = subst (λ (k : TaskKind). AreOffered k scan.after.requests before after) kind
    (subst (λ (rs : List Request). AreOffered c.kind-kind.result rs before after) c.outbox.ensures.value made) in
    let imaged = c.write_scan.ensures plant w scan.number running h says.each_variable is_open may.task in
    let run = buses_offered plant w scan.number running scan h before after is_open says.each_bus offered in
    let later = Commit w scan.number scan ∷ h in
    let beside = subst (λ (l : Layout). OwedBeside plant later (externals_at l t) p.owed.items) (sym imaged.laid)
    (owed_beside plant w scan.number t running scan h p.owed.items is_open may.task says.each_owed) in
    let owes = c.note_stores.ensures plant later (sym c.plan-2.ensures.value)
    (subst (BusesFollow plant later) (sym c.deref-2.ensures.value) run) imaged beside in
    rw (c.push.ensures, c.of-noted.ensures, c.number-number.ensures.value)
    (commit_says _ _ w scan.number scan _ _ _ _ _ says may.allowed
    (c.note_commit.ensures.follows plant w scan.number scan running h says.each_task is_open may.task) imaged
    (c.note_end.ensures plant scan.number scan h says.each_worker) run owes)
