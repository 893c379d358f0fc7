use Rattle.std.proofs.Common.{◌≡◌, ◌<◌, List, length, get_or, ap, sym, subst, ◌∙◌}
use Rattle.std.proofs.lemmas.List.{take_all}
use Rattle.ilsource.specs.declared.uses.Use.{Use}
use Rattle.ilsource.specs.declared.symbol.Symbol.{Symbol}
use Rattle.ilsource.specs.Programs.{Written}
use Rattle.ilsource.specs.declared.instruction.Line.{Line}
use Rattle.ilsource.specs.declared.name.Name.{Name}
use Rattle.ildeclared.specs.Faults.{IsNextOf, SomeOf}
use Rattle.ildeclared.proofs.Least.{got_at, next_of_more}
use Rattle.ilscope.specs.Declarations.{declared_programs, DeclaredProgram}
use Rattle.ilscope.specs.UseFaults.{IsFaultAtUses}
use Rattle.ilscope.specs.Uses.{uses_of}
use Rattle.ilscope.proofs.uses.fault_in_programs.Goals as goal

pub loop-number-preserved : goal.loop-number-preserved
loop-number-preserved c =
    let tree = c.args.scope.now.tree in
    let programs = declared_programs c.args.scope.now.tree in
    let listed : c.programs-program-items.result.now ≡ programs = c.programs-program-items.ensures.value in
    let below : c.loop-number.number < length programs = rw (sym listed) c.loop-number-test.true in
    let found : c.program-item.result ≡ get_or programs c.loop-number.number _ = rw (sym listed) c.program-item.is in
    let used : c.deref.result.now ≡ uses_of c.program-item.result.program.lines =
    c.deref.ensures.value
    ∙ c.in_ok-uses.ensures
    ∙ ap (λ (ls : List (Line Symbol Name)). uses_of ls)
    (c.lines.ensures.value ∙ ap (λ (w : Written). w.lines) c.program.ensures.value)
    in
    rw c.lesser_of-least.ensures
    (next_of_more c.args.after (λ (p : DeclaredProgram). IsFaultAtUses tree p (uses_of p.program.lines))
    programs c.loop-number.number c.program-item.result c.loop-number.least c.fault_in_uses.result below found
    c.loop-number.invariant
    (subst (λ (us : List (Use Symbol)). IsNextOf c.args.after (IsFaultAtUses tree c.program-item.result us)
    c.fault_in_uses.result)
    used
    (c.fault_in_uses.ensures c.program-item.result
    (got_at programs c.loop-number.number c.program-item.result below found))))

pub returns : goal.returns
returns c =
    let tree = c.args.scope.now.tree in
    let programs = declared_programs c.args.scope.now.tree in
    subst (λ (ps : List DeclaredProgram). IsNextOf c.args.after
    (λ place cause. SomeOf (λ p. IsFaultAtUses tree p (uses_of p.program.lines) place cause) ps)
    c.loop-number.least)
    (take_all c.loop-number.number programs
    (rw (sym c.programs-program-items.ensures.value) c.loop-number-test.false))
    c.loop-number.invariant
