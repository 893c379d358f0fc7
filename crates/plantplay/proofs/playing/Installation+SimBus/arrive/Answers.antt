use Rattle.std.proofs.Common.{◌∙◌, ℕ, List, ap, refl}
use Rattle.std.proofs.lemmas.Option.{slice_get_read}
use Rattle.buslink.specs.BusLog.{BusLog}
use Rattle.plantplay.specs.Installations.{stage_of}
use Rattle.plantplay.specs.Stage.{arriving}
use Rattle.plantplay.proofs.Buses.{log_arrives}
use Rattle.plantplay.proofs.playing.Installation+SimBus.arrive.Goals as goal

pub returns-in-Some-clause-after : goal.returns-in-Some-clause-after
returns-in-Some-clause-after c =
    let lines = c.args.self.now.lines in let place = c.from.result in let line = c.in-Some.line.now in
    let there =
    slice_get_read lines.items lines.len place line lines.ok.0 (c.in-Some.ensures.variant.0 refl) c.in-Some.ensures.value in
    ap (λ (logs : List BusLog). record { plant = c.args.self.now.plant; logs = logs })
    (log_arrives lines.items place line c.arrive.new.self there c.arrive.ensures.log)
    ∙ ap (λ (b : ℕ). arriving b (stage_of c.args.self.now)) (c.from.ensures ∙ c.number.ensures.value)
