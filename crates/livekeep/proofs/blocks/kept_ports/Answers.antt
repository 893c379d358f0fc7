use Rattle.std.proofs.Common.{◌<◌, List, length, sym, ap, ◌∙◌, arith}
use Rattle.std.specs.Prelude.{slice_get}
use Rattle.std.proofs.lemmas.Option.{get_or_from_slice_get, slice_get-get_or}
use Rattle.ilblocks.specs.declared.port.Port.{Port}
use Rattle.ilblocks.specs.Ports.{ports_of}
use Rattle.livekeep.proofs.KeptParts.{one_port}
use Rattle.livekeep.proofs.blocks.kept_ports.Goals as goal

pub loop-port-preserved : goal.loop-port-preserved
loop-port-preserved c =
    let ports = ports_of c.args.kind in let items = c.ports-port-items.result.now in let i = c.loop-port.port-index in
    let same = c.ports-port-items.ensures.value in
    let many = ap (λ (l : List Port). length l) same in
    let below : i < length items = omega arith in
    let within : i < length ports = omega arith in
    one_port c.args.kept.now.values c.args.buses c.args.name.now ports i _ c.in-Some.value c.loop-port.ports.items
    c.push.new.self.items _ within
    (sym (get_or_from_slice_get ports i _ _
    (ap (λ (l : List Port). slice_get l i) (sym same) ∙ slice_get-get_or items i _ below)))
    (sym c.in-Some.is ∙ c.in_ok-value.ensures) c.in_ok-push.ensures.items c.loop-port.invariant
