use Rattle.std.proofs.Common.{◌≡◌, ◌<◌, ◌++◌, List, [], get_or, length, take, refl, sym, ap, ◌∙◌, subst, arith}
use Rattle.std.specs.Prelude.{None, true}
use Rattle.std.proofs.lemmas.List.{take_all}
use Rattle.std.proofs.lemmas.Option.{slice_get_read}
use Rattle.std.proofs.Math.ListN.{length-set}
use Rattle.ilsource.specs.declared.uses.Use.{Use}
use Rattle.ilsource.specs.Programs.{Written}
use Rattle.ilsource.specs.declared.instruction.Line.{Line}
use Rattle.ilsource.specs.declared.name.Name.{Name}
use Rattle.ilsource.specs.declared.symbol.Symbol.{Symbol}
use Rattle.ilscope.specs.Declarations.{DeclaredProgram}
use Rattle.ilscope.specs.Uses.{uses_of}
use Rattle.ilsyms.specs.CountingSteps.{AreCounted}
use Rattle.ilsyms.specs.TaskSteps.{instances_of}
use Rattle.ilsyms.specs.Tasks.{NamedProgram}
use Rattle.ilsyms.specs.declared.tasks.TaskInstance.{TaskInstance}
use Rattle.ilsyms.specs.Variables.{lines_of}
use Rattle.ilsyms.proofs.CountingUses.{none_counted}
use Rattle.ilsyms.proofs.CountingPrograms.{counted_kept, counted_more, none_seen, seen_kept, seen_more}
use Rattle.ilsyms.proofs.TaskInstances.{as_many, number_there, program_there}
use Rattle.ilsyms.proofs.counting.Counted.of_programs.Goals as goal
use Rattle.ilsyms.proofs.counting.Counted.of_programs.Goals.{then-not-index+in_ok-uses+in_ok-add_uses, else-not-index}

-- what is read past the last instance
abbrev nowhere : TaskInstance
nowhere = record { name = record { from = 0; to = 0 }; program = 0 }

pub loop-instance-init : goal.loop-instance-init
loop-instance-init c =
    let many = ap (λ (ps : List DeclaredProgram). length ps) c.programs.ensures.value in
    record {
      counted = subst (λ k. AreCounted {N = Symbol} [] k None) (sym c.new.ensures) none_counted;
      count = let len = c.in_ok-seen.ensures.len in omega (arith, many, len, c.in_ok-seen.seen.ok.0);
      seen =
          none_seen c.args.scope.now.tree c.in_ok-seen.seen.items (length c.programs.result.now)
          (c.in_ok-seen.ensures.items_if_clones_equal (λ y e. e));
    }

pub index-requires : goal.index-requires
index-requires c =
    let count = c.loop-instance.invariant.count in
    let low =
    number_there c.args.scope.now.tree c.args.instances.now c.requires c.loop-instance.instance-index nowhere
    c.loop-instance-test.true in
    omega (arith, low, count, c.loop-instance.seen.ok.0)

pub index_mut-requires : goal.index_mut-requires
index_mut-requires c =
    let count = c.loop-instance.invariant.count in
    let low =
    number_there c.args.scope.now.tree c.args.instances.now c.requires c.loop-instance.instance-index nowhere
    c.loop-instance-test.true in
    omega (arith, low, count, c.loop-instance.seen.ok.0)

pub program_of-program-requires : goal.program_of-program-requires
program_of-program-requires c =
    number_there c.args.scope.now.tree c.args.instances.now c.requires c.loop-instance.instance-index nowhere
    c.loop-instance-test.true

pub loop-instance-preserved : goal.loop-instance-preserved
loop-instance-preserved c =
    let tree = c.args.scope.now.tree in
    let given = c.args.instances.now in
    let i = c.loop-instance.instance-index in
    let below = c.loop-instance-test.true in
    let count = c.loop-instance.invariant.count in
    elim c.if-not-index.branch [
      | then-not-index+in_ok-uses+in_ok-add_uses w ↦
          let front = uses_of (lines_of (take i (instances_of tree given))) in
          let used : w.deref.result.now ≡ uses_of w.program_of-program.result.now.program.lines =
          w.deref.ensures.value ∙ w.in_ok-uses.ensures
          ∙ ap (λ (ls : List (Line Symbol Name)). uses_of ls)
          (w.lines.ensures.value ∙ ap (λ (p : Written). p.lines) w.program.ensures.value)
          in
          let counted : AreCounted (front ++ uses_of w.program_of-program.result.now.program.lines)
          w.add_uses.new.self.constants w.add_uses.new.self.excess =
          subst (λ (us : List (Use Symbol)).
          AreCounted (front ++ us) w.add_uses.new.self.constants w.add_uses.new.self.excess) used
          (w.in_ok-add_uses.ensures front c.loop-instance.invariant.counted) in
          let low = number_there tree given c.requires i nowhere below in
          let number = (get_or given i nowhere).program in
          let within : number < length c.loop-instance.seen.items = omega (arith, low, count) in
          record {
            counted =
                rw w.counted-is
                (counted_more tree given c.requires i nowhere below w.program_of-program.result.now
                w.program_of-program.ensures w.add_uses.new.self.constants w.add_uses.new.self.excess counted);
            count = rw w.seen-is (length-set c.loop-instance.seen.items number true ∙ count);
            seen =
                rw w.seen-is
                (seen_more tree given c.requires i nowhere below w.program_of-program.result.now
                w.program_of-program.ensures c.loop-instance.seen.items c.loop-instance.invariant.seen within);
          }
      | else-not-index w ↦
          let low = number_there tree given c.requires i nowhere below in
          let marks = c.loop-instance.seen.items in
          let number = (get_or given i nowhere).program in
          let within : number < length marks = omega (arith, low, count) in
          let is = w.if-not-index.false in
          let marked = slice_get_read marks (length marks) number true refl within
          (sym is ∙ c.index.ensures ∙ ap (λ b. get_or marks number b) is) in
          record {
            counted =
                rw w.counted-is
                (let p = program_there tree given c.requires i nowhere below in
                counted_kept tree given c.requires i nowhere below p.0 p.1 c.loop-instance.seen.items
                c.loop-instance.invariant.seen _ _ marked c.loop-instance.invariant.counted);
            count = rw w.seen-is count;
            seen =
                rw w.seen-is
                (let p = program_there tree given c.requires i nowhere below in
                seen_kept tree given c.requires i nowhere below p.0 p.1 c.loop-instance.seen.items
                c.loop-instance.invariant.seen);
          }
    ]

pub returns : goal.returns
returns c =
    let tree = c.args.scope.now.tree in
    let given = c.args.instances.now in
    let many = as_many tree given c.requires in
    let last = c.loop-instance-test.false in
    subst (λ (is : List NamedProgram).
    AreCounted (uses_of (lines_of is)) c.loop-instance.counted.constants c.loop-instance.counted.excess)
    (take_all c.loop-instance.instance-index (instances_of tree given) (omega (arith, many, last)))
    c.loop-instance.invariant.counted
