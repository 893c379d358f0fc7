use Rattle.std.proofs.Common.{◌≡◌, ◌<◌, ◌≤◌, length, ap, sym, ◌∙◌, List, [], ◌∷◌, ◌++◌, map, take, get_or}
use Rattle.std.specs.Prelude.{Some, option_map}
use Rattle.std.proofs.lemmas.Simd.{map-map}
use Rattle.std.proofs.lemmas.List.{map-append, take_all}
use Rattle.ildeclared.proofs.Least.{got_at, take_more}
use Rattle.ilscope.specs.Declarations.{declared_programs, DeclaredProgram}
use Rattle.ilsource.specs.Programs.{Written}
use Rattle.ilsyms.specs.declared.tasks.TaskInstance.{TaskInstance}
use Rattle.ilsyms.specs.TaskSteps.{instance_at}
use Rattle.ilsyms.specs.Tasks.{NamedProgram, instance_named}
use Rattle.ilsyms.proofs.tasks.instances_of_programs.Goals as goal

abbrev of_program : DeclaredProgram → NamedProgram
of_program p = instance_named p.program.name p

pub loop-number-preserved : goal.loop-number-preserved
loop-number-preserved c =
    let tree = c.args.scope.now.tree in
    let programs = declared_programs tree in
    let n = c.loop-number.number in
    let p = c.program-item.result in
    let items = c.programs-program-items.ensures.value in
    let below : n < length programs = rw (sym items) c.loop-number-test.true in
    let is : p ≡ get_or programs n p = c.program-item.is ∙ ap (λ (qs : List DeclaredProgram). get_or qs n p) items in
    let there = got_at programs n p below is in
    let name = c.name-name.ensures ∙ ap (λ (w : Written). w.name) c.program.ensures.value in
    ap (λ (ts : List TaskInstance). map (instance_at tree) ts) c.in_ok-push.ensures.items
    ∙ map-append (instance_at tree) c.loop-number.instances.items _
    ∙ (λ j. c.loop-number.invariant j ++ option_map (instance_named (name j)) (there j) ∷ [])
    ∙ sym (map-append (λ q. Some (of_program q)) (take n programs) (p ∷ []))
    ∙ ap (map (λ q. Some (of_program q))) (sym (take_more programs n p below is))

pub returns : goal.returns
returns c =
    let tree = c.args.scope.now.tree in
    let programs = declared_programs tree in
    let all : length programs ≤ c.loop-number.number =
    rw (sym c.programs-program-items.ensures.value) c.loop-number-test.false
    in
    c.loop-number.invariant
    ∙ ap (λ (ps : List DeclaredProgram). map (λ p. Some (of_program p)) ps) (take_all c.loop-number.number programs all)
    ∙ sym (map-map (λ i. Some i) of_program programs)
