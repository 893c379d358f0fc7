use Rattle.std.proofs.Common.{◌≡◌, ◌∙◌, ◌<◌, List, ap, get_or, length, subst, sym}
use Rattle.std.specs.Prelude.{IfSome}
use Rattle.ildeclared.specs.declared.global.DeclaredGlobal.{DeclaredGlobal}
use Rattle.ilscope.specs.Configured.{globals_of}
use Rattle.ilsyms.proofs.GlobalLocations.{AreBytes, all_fit}
use Rattle.ilsyms.proofs.globals.plan_globals.Goals as goal

pub planned_global-requires : goal.planned_global-requires
planned_global-requires c =
    let tree = c.args.scope.now.tree in
    let n = c.loop-global.global-index in
    let g = c.global-item.result in
    let items = c.globals-global-items.ensures.value in
    let below : n < length (globals_of tree) = rw (sym items) c.loop-global-test.true in
    let got : g ≡ get_or (globals_of tree) n g =
    c.global-item.is ∙ ap (λ (gs : List DeclaredGlobal). get_or gs n g) items
    in
    subst (λ (x : DeclaredGlobal). IfSome x.address AreBytes) (sym got)
    (all_fit tree c.args.scope.now.wiring c.requires.wiring c.requires.named n g below)
