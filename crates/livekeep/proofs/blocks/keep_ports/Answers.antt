use Rattle.std.proofs.Common.{◌≤◌, ◌++◌, List, length, sym, ap, ◌∙◌, arith}
use Rattle.std.specs.Prelude.{min}
use Rattle.std.proofs.lemmas.List.{append-nil}
use Rattle.ilblocks.specs.declared.port.Port.{Port}
use Rattle.ilblocks.specs.Ports.{ports_of}
use Rattle.livekeep.specs.KeptFiles.{KeptEntry}
use Rattle.livekeep.proofs.KeptParts.{none_over}
use Rattle.livekeep.proofs.blocks.keep_ports.Goals as goal

pub returns : goal.returns
returns c =
    let ports = ports_of c.args.kind in let values = c.args.values.now in let i = c.loop-i.i in
    let many = ap (λ (l : List Port). length l) c.ports-ports.ensures.value in
    let over : min (length ports) (length values) ≤ i = omega arith in
    let none = none_over c.args.name.now ports values i over in
    sym (append-nil c.loop-i.kept.items)
    ∙ (ap (λ (l : List KeptEntry). c.loop-i.kept.items ++ l) (sym none) ∙ c.loop-i.invariant)
