use Rattle.std.proofs.Common.{◌≡◌, ◌<◌, List, get_or, length, sym, ap, subst, refl, arith}
use Rattle.std.specs.List.{enumerate_from}
use Rattle.std.proofs.lemmas.List.{take_all}
use Rattle.std.proofs.lemmas.List.FromFn.{length-enumerate_from}
use Rattle.ildeclared.specs.Faults.{IsNextOf, OfCause, SomeOf}
use Rattle.ildeclared.specs.declared.fault.NameCause.TheVariants.{WrittenTwice}
use Rattle.ildeclared.specs.declared.global.DeclaredGlobal.{DeclaredGlobal}
use Rattle.ildeclared.proofs.Least.{of_one_cause}
use Rattle.ilscope.specs.Configured.{globals_of}
use Rattle.ilscope.specs.Declarations.{declared_programs}
use Rattle.ilsyms.specs.Faults.{AreTwoStoring}
use Rattle.ilsyms.specs.WrittenTwiceSteps.{StoresBefore}
use Rattle.ilsyms.proofs.WrittenTwiceFaults.{two_more}
use Rattle.ilsyms.proofs.WrittenTwiceTasks.{set_at}
use Rattle.ilsyms.proofs.written_twice.written_twice.Goals as goal

pub loop-number-preserved : goal.loop-number-preserved
loop-number-preserved c =
    let tree = c.args.scope.now.tree in
    let tasks = c.args.tasks.now in
    let listed = c.globals-global-items.ensures.value in
    let below : c.loop-number.number < length (globals_of tree) = rw (sym listed) c.loop-number-test.true in
    let is : c.global-item.result ≡ get_or (globals_of tree) c.loop-number.number c.global-item.result =
    rw (sym listed) c.global-item.is in
    let count = c.in_ok-sets.ensures.count in
    let there : c.loop-number.number < length c.in_ok-sets.sets.items = omega (arith, below, count) in
    rw c.lesser_of-least.ensures
    (two_more tree tasks c.requires c.in_ok-sets.sets.items c.in_ok-sets.ensures.sets c.args.after c.loop-number.number
    c.global-item.result c.index.result.now c.loop-number.least c.fault_of_global.result below is
    (rw c.index.ensures
    (set_at (StoresBefore tree tasks (length (declared_programs tree))) c.in_ok-sets.sets.items c.in_ok-sets.sets.items
    c.loop-number.number c.index.result.now c.in_ok-sets.ensures.sets refl there))
    c.loop-number.invariant c.fault_of_global.ensures)

pub returns : goal.returns
returns c =
    let tree = c.args.scope.now.tree in
    let numbered = enumerate_from 0 (globals_of tree) in
    let many = length-enumerate_from 0 (globals_of tree) in
    let size = ap (λ (gs : List DeclaredGlobal). length gs) c.globals-global-items.ensures.value in
    let last = c.loop-number-test.false in
    of_one_cause c.args.after WrittenTwice (λ g place. AreTwoStoring tree g.0 × (place ≡ g.1.name.from)) numbered
    c.loop-number.least
    (subst (λ gs. IsNextOf c.args.after (λ place cause. SomeOf (λ g. OfCause WrittenTwice
    (λ at. AreTwoStoring tree g.0 × (at ≡ g.1.name.from)) place cause) gs) c.loop-number.least)
    (take_all c.loop-number.number numbered (omega (arith, many, size, last))) c.loop-number.invariant)
