use Rattle.std.proofs.Common.{◌<◌, ◌∙◌, ◌+◌, List, ap, take, sym, subst, Bool, length, get_or, replicate, true}
use Rattle.std.proofs.Common.{false}
use Rattle.std.proofs.Common.{◌||◌, arith, refl}
use Rattle.std.proofs.Math.ListN.{length-set}
use Rattle.std.proofs.lemmas.List.{take_all}
use Rattle.std.proofs.lemmas.Option.{slice_get_read}
use Rattle.ildeclared.specs.declared.external.DeclaredExternal.{DeclaredExternal}
use Rattle.ildeclared.specs.declared.global.DeclaredGlobal.{DeclaredGlobal}
use Rattle.ilscope.specs.Configured.{globals_of}
use Rattle.ilscope.specs.Declarations.{DeclaredProgram}
use Rattle.ilsyms.specs.TaskSteps.{instances_of}
use Rattle.ilsyms.specs.SlotSteps.{AddsWhere}
use Rattle.ilsyms.specs.Tasks.{NamedProgram, instance_named}
use Rattle.ilsyms.specs.Variables.{is_among, is_named}
use Rattle.ilsyms.specs.declared.tasks.TaskInstance.{TaskInstance}
use Rattle.ilsyms.proofs.SlotGlobals.{adds_both, adds_same, added_to_none, named_more, named_still}
use Rattle.ilsyms.proofs.SlotGlobals.{nothing_added}
use Rattle.ilsyms.proofs.Lists.{written_back}
use Rattle.ilsyms.proofs.CountingPrograms.{none_seen, seen_kept, seen_more}
use Rattle.ilsyms.proofs.TaskInstances.{as_many, number_there, program_there, taken_more}
use Rattle.ilsyms.proofs.slots.named_globals.Goals as goal
use Rattle.ilsyms.proofs.slots.named_globals.Goals.{then-not-index, else-not-index}

-- what is read past the last instance
abbrev nowhere : TaskInstance
nowhere = record { name = record { from = 0; to = 0 }; program = 0 }

pub loop-instance-init : goal.loop-instance-init
loop-instance-init c =
    let tree = c.args.scope.now.tree in
    let globals = ap (λ (gs : List DeclaredGlobal). replicate (length gs) false) c.globals.ensures.value in
    let none = c.in_ok-named.ensures.items_if_clones_equal (λ y e. e) ∙ globals in
    let many = ap (λ (ps : List DeclaredProgram). length ps) c.programs.ensures.value in
    record {
      named =
          subst (λ (bs : List Bool). AddsWhere (λ n. false) (replicate (length (globals_of tree)) false) bs) (sym none)
          (nothing_added (replicate (length (globals_of tree)) false));
      count = let len = c.in_ok-seen.ensures.len in omega (arith, many, len, c.in_ok-seen.seen.ok.0);
      seen =
          none_seen tree c.in_ok-seen.seen.items (length c.programs.result.now)
          (c.in_ok-seen.ensures.items_if_clones_equal (λ y e. e));
    }

pub index-requires : goal.index-requires
index-requires c =
    let count = c.loop-instance.invariant.count in
    let low =
    number_there c.args.scope.now.tree c.args.instances.now c.requires c.loop-instance.instance-index nowhere
    c.loop-instance-test.true in
    omega (arith, low, count, c.loop-instance.seen.ok.0)

pub index_mut-requires : goal.index_mut-requires
index_mut-requires c =
    let count = c.loop-instance.invariant.count in
    let low =
    number_there c.args.scope.now.tree c.args.instances.now c.requires c.loop-instance.instance-index nowhere
    c.loop-instance-test.true in
    omega (arith, low, count, c.loop-instance.seen.ok.0)

pub program_of-program-requires : goal.program_of-program-requires
program_of-program-requires c =
    number_there c.args.scope.now.tree c.args.instances.now c.requires c.loop-instance.instance-index nowhere
    c.loop-instance-test.true

pub loop-instance-preserved : goal.loop-instance-preserved
loop-instance-preserved c =
    let tree = c.args.scope.now.tree in
    let given = c.args.instances.now in
    let all = instances_of tree given in
    let i = c.loop-instance.instance-index in
    let below = c.loop-instance-test.true in
    let marks = c.loop-instance.seen.items in
    let number = (get_or given i nowhere).program in
    let low = number_there tree given c.requires i nowhere below in
    let within : number < length marks = omega (arith, low, c.loop-instance.invariant.count) in
    let zeros = replicate (length (globals_of tree)) false in
    elim c.if-not-index.branch [
      | then-not-index w ↦
          let program = w.program_of-program.result.now in
          let more = taken_more tree given c.requires i nowhere below program w.program_of-program.ensures in
          let long = ap (λ (bs : List Bool). length bs) w.deref_mut.ensures.value in
          let whole = written_back c.loop-instance.named.items w.add_externals.new.named c.loop-instance.named.len
          (sym (sym long ∙ w.deref_mut.ensures.len)) (w.add_externals.ensures.many ∙ long)
          in
          let added = adds_both (is_named tree (take i all)) (λ n. is_among tree n w.externals.result.now)
          (is_named tree (take (i + 1) all)) zeros c.loop-instance.named.items w.add_externals.new.named
          c.loop-instance.invariant.named
          (subst
          (λ (bs : List Bool). AddsWhere (λ n. is_among tree n w.externals.result.now) bs w.add_externals.new.named)
          w.deref_mut.ensures.value w.add_externals.ensures)
          (λ n. ap (λ (js : List NamedProgram). is_named tree js n) more ∙ named_more tree (take i all) _ n
          ∙ ap (λ (es : List DeclaredExternal). is_named tree (take i all) n || is_among tree n es)
          (sym w.externals.ensures.value))
          in
          record {
            named =
                rw w.named-is
                (subst (λ (bs : List Bool). AddsWhere (is_named tree (take (i + 1) all)) zeros bs) (sym whole) added);
            count = rw w.seen-is (length-set marks number true ∙ c.loop-instance.invariant.count);
            seen =
                rw w.seen-is
                (seen_more tree given c.requires i nowhere below program w.program_of-program.ensures marks
                c.loop-instance.invariant.seen within);
          }
      | else-not-index w ↦
          let is = w.if-not-index.false in
          let marked = slice_get_read marks (length marks) number true refl within
          (sym is ∙ c.index.ensures ∙ ap (λ b. get_or marks number b) is) in
          let p = program_there tree given c.requires i nowhere below in
          let more = taken_more tree given c.requires i nowhere below p.0 p.1 in
          let still = named_still tree number (instance_named (get_or given i nowhere).name p.0) p.1 (take i all)
          (c.loop-instance.invariant.seen number marked)
          in
          record {
            named =
                rw w.named-is
                (adds_same (is_named tree (take i all)) (is_named tree (take (i + 1) all)) zeros
                c.loop-instance.named.items
                (λ n. ap (λ (js : List NamedProgram). is_named tree js n) more ∙ still n)
                c.loop-instance.invariant.named);
            count = rw w.seen-is c.loop-instance.invariant.count;
            seen =
                rw w.seen-is
                (seen_kept tree given c.requires i nowhere below p.0 p.1 marks c.loop-instance.invariant.seen);
          }
    ]

pub returns : goal.returns
returns c =
    let tree = c.args.scope.now.tree in
    let all = instances_of tree c.args.instances.now in
    let many = as_many tree c.args.instances.now c.requires in
    let whole = take_all c.loop-instance.instance-index all (omega (arith, many, c.loop-instance-test.false)) in
    added_to_none (is_named tree all) (length (globals_of tree)) c.loop-instance.named.items
    (subst
    (λ (is : List NamedProgram).
    AddsWhere (is_named tree is) (replicate (length (globals_of tree)) false) c.loop-instance.named.items)
    whole c.loop-instance.invariant.named)
