use Rattle.std.proofs.Common.{sym, subst}
use Rattle.ilplan.specs.Plans.{Planned}
use Rattle.ilplan.specs.Beginnings.{MayBegin}
use Rattle.ilplan.proofs.BegunPlans.{all_fit, begun_lawful, globals_long}
use Rattle.ilplan.proofs.plan.Plan.begin_with.Goals as goal

pub begin_globals-requires : goal.begin_globals-requires
begin_globals-requires c =
    globals_long _ c.args.globals.now c.args.tasks.now
    (subst (λ (p : Planned). MayBegin p c.args.globals.now c.args.tasks.now) (sym c.self.view_is) c.requires)

pub begin_tasks-requires : goal.begin_tasks-requires
begin_tasks-requires c =
    all_fit _ c.args.globals.now c.args.tasks.now c.self.invariant
    (subst (λ (p : Planned). MayBegin p c.args.globals.now c.args.tasks.now) (sym c.self.view_is) c.requires)

pub invariant_of-self : goal.invariant_of-self
invariant_of-self c =
    let begins = c.args.tasks.now in
    let may = subst (λ (p : Planned). MayBegin p c.args.globals.now begins) (sym c.self.view_is) c.requires in
    rw (c.begin_globals.ensures, c.begin_tasks.ensures)
    (begun_lawful _ c.args.globals.now begins c.self.invariant may)
