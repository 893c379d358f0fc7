use Rattle.std.proofs.Common.{◌≡◌, ◌<◌, List, length, get_or, ap, sym, subst, ◌∙◌}
use Rattle.std.proofs.lemmas.List.{take_all}
use Rattle.ilsource.specs.Programs.{Written}
use Rattle.ildeclared.specs.Faults.{IsNextOf, SomeOf}
use Rattle.ildeclared.proofs.Least.{got_at, next_of_more}
use Rattle.ilscope.specs.Declarations.{declared_programs, DeclaredProgram}
use Rattle.ilscope.specs.UseFaults.{IsFaultOfBody}
use Rattle.ilscope.proofs.lines.fault_in_programs.Goals as goal

pub loop-number-preserved : goal.loop-number-preserved
loop-number-preserved c =
    let tree = c.args.scope.now.tree in
    let programs = declared_programs tree in
    let listed : c.programs-program-items.result.now ≡ programs = c.programs-program-items.ensures.value in
    let below : c.loop-number.number < length programs = rw (sym listed) c.loop-number-test.true in
    let found : c.program-item.result ≡ get_or programs c.loop-number.number _ = rw (sym listed) c.program-item.is in
    rw c.lesser_of-least.ensures
    (next_of_more c.args.after (λ (p : DeclaredProgram). IsFaultOfBody tree p) programs c.loop-number.number
    c.program-item.result
    c.loop-number.least c.in_ok-fault.fault below found c.loop-number.invariant
    (c.in_ok-fault.ensures c.program-item.result
    (got_at programs c.loop-number.number c.program-item.result below found)
    (c.lines-lines.ensures.value ∙ ap (λ (w : Written). w.lines) c.program.ensures.value)))

pub returns : goal.returns
returns c =
    let tree = c.args.scope.now.tree in
    subst (λ (ps : List DeclaredProgram). IsNextOf c.args.after
    (λ place cause. SomeOf (λ p. IsFaultOfBody tree p place cause) ps) c.loop-number.least)
    (take_all c.loop-number.number (declared_programs tree)
    (rw (sym c.programs-program-items.ensures.value) c.loop-number-test.false))
    c.loop-number.invariant
