use Rattle.std.proofs.Common.{◌≡◌, ◌<◌, ◌+◌, ℕ, List, take, ◌∷◌, [], ◌++◌, get_or, sym, ap, ◌∙◌, subst, length}
use Rattle.std.proofs.lemmas.List.{take_all}
use Rattle.std.proofs.lemmas.Option.{get_or_from_slice_get}
use Rattle.std.specs.Prelude.{All, Some, slice_get}
use Rattle.ilsource.specs.declared.uses.Use.{Use}
use Rattle.ilsource.specs.Programs.{Written}
use Rattle.ilsource.specs.declared.instruction.Line.{Line}
use Rattle.ilsource.specs.declared.name.Name.{Name}
use Rattle.ilsource.specs.declared.symbol.Symbol.{Symbol}
use Rattle.ildeclared.proofs.Least.{got_at}
use Rattle.ilscope.specs.Configured.{globals_of}
use Rattle.ilscope.specs.Declarations.{declared_programs, DeclaredProgram}
use Rattle.ilscope.specs.UseFaults.{StoresTo}
use Rattle.ilscope.specs.Uses.{uses_of}
use Rattle.ilscope.proofs.StoredGlobals.{AreThose, all_more, none_more, one_more, stored_there}
use Rattle.ilscope.proofs.stored.stored_globals.Goals as goal
use Rattle.ilscope.proofs.stored.stored_globals.Goals.{in-Some+in_ok-push, in_default}

pub loop-used-preserved : goal.loop-used-preserved
loop-used-preserved c =
    let tree = c.args.scope.now.tree in
    let uses = c.deref-used-items.result.now in
    let here : slice_get (declared_programs tree) c.args.number ≡ Some c.index-programs-number.result =
    got_at (declared_programs tree) c.args.number c.index-programs-number.result c.requires
    (rw (sym c.programs.ensures.value) c.index-programs-number.is) in
    elim c.match-stored_global.branch [
      | in-Some+in_ok-push w ↦
          let items : c.match-stored_global.stored.items ≡ c.loop-used.stored.items ++ w.in-Some.global ∷ [] =
          ap (λ v. v.items) w.stored-is ∙ w.in_ok-push.ensures.items in
          record {
            stored = λ p at.
                subst (λ (ns : List ℕ). AreThose (λ g u. StoresTo tree g p u) ns
                (take (c.loop-used.used-index + 1) uses)) (sym items)
                (one_more (λ g u. StoresTo tree g p u) uses c.loop-used.used-index _ c.loop-used-test.true
                c.loop-used.stored.items (c.loop-used.invariant.stored p at) w.in-Some.global
                (λ number. let its = c.stored_global.ensures p at number in rw w.in-Some.is at its));
            there =
                subst (λ (ns : List ℕ). All (λ g. g < length (globals_of tree)) ns) (sym items)
                (all_more c.loop-used.stored.items w.in-Some.global (length (globals_of tree))
                c.loop-used.invariant.there
                (stored_there tree c.index-programs-number.result (get_or uses c.loop-used.used-index _)
                w.in-Some.global ((c.stored_global.ensures c.index-programs-number.result here w.in-Some.global).0
                w.in-Some.is)));
          }
      | in_default w ↦
          let items = ap (λ v. v.items) w.stored-is in
          record {
            stored = λ p at.
                subst (λ (ns : List ℕ). AreThose (λ g u. StoresTo tree g p u) ns
                (take (c.loop-used.used-index + 1) uses)) (sym items)
                (none_more (λ g u. StoresTo tree g p u) uses c.loop-used.used-index _ c.loop-used-test.true
                c.loop-used.stored.items (c.loop-used.invariant.stored p at)
                (λ number. let its = c.stored_global.ensures p at number in rw w.in_default.is at its));
            there =
                subst (λ (ns : List ℕ). All (λ g. g < length (globals_of tree)) ns) (sym items)
                c.loop-used.invariant.there;
          }
    ]

pub returns-clause-stored : goal.returns-clause-stored
returns-clause-stored c p at =
    let tree = c.args.scope.now.tree in
    let found : c.index-programs-number.result
    ≡ get_or (declared_programs tree) c.args.number c.index-programs-number.result =
    rw (sym c.programs.ensures.value) c.index-programs-number.is in
    let program = found ∙ get_or_from_slice_get (declared_programs tree) c.args.number p _ at in
    let used : c.deref-used-items.result.now ≡ uses_of p.program.lines =
    c.deref-used-items.ensures.value ∙ c.in_ok-uses.ensures
    ∙ ap (λ (ls : List (Line Symbol Name)). uses_of ls)
    (c.lines.ensures.value ∙ ap (λ (w : Written). w.lines)
    (c.program.ensures.value ∙ ap (λ (q : DeclaredProgram). q.program) program))
    in
    subst (λ (us : List (Use Symbol)). AreThose (λ g u. StoresTo tree g p u) c.loop-used.stored.items us)
    (take_all c.loop-used.used-index c.deref-used-items.result.now c.loop-used-test.false ∙ used)
    (c.loop-used.invariant.stored p at)
