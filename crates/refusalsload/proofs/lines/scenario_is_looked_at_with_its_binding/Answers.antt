use Rattle.std.proofs.Common.{inl, inr, map}
use Rattle.std.specs.String.{string_bytes}
use Rattle.commandline.specs.CommandLine.{IsLacking, NamesNoScenario}
use Rattle.refusalsload.proofs.Spelled.{none_taken, spelled}
use Rattle.refusalsload.proofs.lines.scenario_is_looked_at_with_its_binding.Goals as goal

pub returns : goal.returns
returns c =
    let words = map (λ word. string_bytes word) c.args.words.now in
    none_taken words c.read.result c.read.ensures.taken
    (inr (spelled NamesNoScenario IsLacking words (λ name found is. inr (inl is)) c.requires))
