use Rattle.std.proofs.Common.{◌≡◌, ℕ, ◌<◌, length, ap, sym, ◌∙◌, arith}
use Rattle.std.specs.Prelude.{bytes_eq, Some}
use Rattle.ilsource.specs.Names.{folded}
use Rattle.ilsource.specs.SourceTrees.{Tree}
use Rattle.ilsource.specs.declared.name.Name.{Name}
use Rattle.ildeclared.specs.declared.global.DeclaredGlobal.{DeclaredGlobal}
use Rattle.ilscope.specs.Configured.{global_number, globals_of}
use Rattle.ilsyms.specs.NumberingSteps.{Numbering, number_of_global}
use Rattle.ilsyms.proofs.Lists.{first_below}
use Rattle.ilsyms.proofs.NumberingGlobals.{without_number}
use Rattle.ilsyms.proofs.numbering.Numbering.global.Goals as goal

-- the number is that of one of the global variables
below : (tree : Tree) (name : Name) (number : ℕ) → global_number tree name ≡ Some number
    → number < length (globals_of tree)
below tree name number e =
    let spelled = folded tree.text in
    first_below (λ (g : DeclaredGlobal). bytes_eq (spelled name) (spelled g.name)) (globals_of tree) number e

pub offset_bounds-self-inside-number : goal.offset_bounds-self-inside-number
offset_bounds-self-inside-number c =
    let is = sym c.global_number.ensures.value ∙ c.in-Some.is in
    let low = below c.self.inside.scope.now.tree c.args.name c.in-Some.number is in
    omega (arith, low, c.self.invariant.globals.many, c.self.told2.1)

pub bounds-self-inside-number : goal.bounds-self-inside-number
bounds-self-inside-number c =
    let is = sym c.global_number.ensures.value ∙ c.in-Some.is in
    let low = below c.self.inside.scope.now.tree c.args.name c.in-Some.number is in
    omega (arith, low, c.self.invariant.globals.many)

pub returns-in-Some : goal.returns-in-Some
returns-in-Some c =
    let is = sym c.global_number.ensures.value ∙ c.in-Some.is in
    c.self.invariant.globals.each c.in-Some.number (below c.self.inside.scope.now.tree c.args.name c.in-Some.number is)
    ∙ ap (number_of_global c.self.inside.slots.now) (sym is)
    ∙ ap (λ (n : Numbering). number_of_global n.slots (global_number n.tree c.args.name)) c.self.view_is

pub returns-in-None : goal.returns-in-None
returns-in-None c =
    sym (without_number c.self.inside.slots.now)
    ∙ ap (number_of_global c.self.inside.slots.now) (sym c.in-None.is ∙ c.global_number.ensures.value)
    ∙ ap (λ (n : Numbering). number_of_global n.slots (global_number n.tree c.args.name)) c.self.view_is
