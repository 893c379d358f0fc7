-- A run, told of what it left once its buses are off the stage.
use Rattle.std.proofs.Common.{◌≡◌, ◌∙◌, ap, sym, subst, ℕ, List, ◌++◌, length, map}
use Rattle.buslink.specs.BusLog.{BusLog}
use Rattle.buslink.specs.ClockLog.{ClockLog}
use Rattle.buslink.specs.Each.{Each}
use Rattle.simbus.specs.Simulated.{Simulated}
use Rattle.simbus.specs.ScriptedTicks.{ScriptedTicks}
use Rattle.ilcompile.specs.Loaded.{Loaded}
use Rattle.plantevents.specs.Histories.{given_in}
use Rattle.plantevents.specs.Legal.{AreLegal}
use Rattle.plantevents.specs.Plants.{Plant}
use Rattle.plant.specs.Shown.{Shown, is_full, plant_of}
use Rattle.workers.specs.Links.{IsLinked, IsNoLess, log_of}
use Rattle.workers.specs.Open.{HasNothingOpen}
use Rattle.workers.specs.Quiet.{IsQuiet}
use Rattle.workers.specs.Logs.{HasEnded}
use Rattle.workers.specs.declared.closed.ClosedParts.{ClosedParts}
use Rattle.workers.specs.Closings.{IsClosed}
use Rattle.workers.specs.Runs.{HasEndedQuietly, HasRun}
use Rattle.plantplay.specs.Installations.{sim_log}
use Rattle.plantrun.specs.Runs.{tick_log}

module _ (staged left : ClosedParts Simulated ScriptedTicks) (plant : left.plant ≡ staged.plant)
    (buses : left.buses.items ≡ staged.buses.items) (clock : left.clock ≡ staged.clock)
    (ended : left.ended ≡ staged.ended) where
  closed_off_stage : (p : Plant) (logs : List BusLog) (first : ClockLog)
      → IsClosed p logs first sim_log tick_log staged → IsClosed p logs first sim_log tick_log left
  closed_off_stage p logs first closed = record {
    plant = ap (λ (x : Shown). x.plant) plant ∙ closed.plant;
    legal = subst (λ (x : Shown). AreLegal p x.history) (sym plant) closed.legal;
    idle = subst HasNothingOpen (sym plant) closed.idle;
    buses =
        subst (λ (x : Shown). Each (λ b line. IsLinked (log_of logs b) b x.history (sim_log line)) 0 left.buses.items)
        (sym plant)
        (subst (λ (xs : List Simulated). Each
        (λ b line. IsLinked (log_of logs b) b staged.plant.history (sim_log line)) 0 xs) (sym buses) closed.buses);
    hears =
        subst (λ (xs : List Simulated). Each (λ b line. IsNoLess (log_of logs b).hears (sim_log line).hears) 0 xs)
        (sym buses) closed.hears;
    clock =
        subst (λ (x : Shown). (tick_log left.clock).given ≡ first.given ++ given_in x.history) (sym plant)
        (ap (λ (x : ScriptedTicks). x.log.given) clock ∙ closed.clock);
    moments = ap (λ (x : ScriptedTicks). x.log.moments) clock ∙ closed.moments;
    asks = subst (λ (x : ScriptedTicks). IsNoLess first.asks x.log.asks) (sym clock) closed.asks;
  }

  quiet_off_stage : (logs : List BusLog) (first : ClockLog) → HasEndedQuietly logs first sim_log tick_log staged
      → HasEndedQuietly logs first sim_log tick_log left
  quiet_off_stage logs first is = record {
    clock = subst (λ (x : ScriptedTicks). HasEnded first (tick_log x)) (sym clock) is.clock;
    quiet =
        subst (λ (xs : List Simulated). IsQuiet left.plant logs (map sim_log xs)) (sym buses)
        (subst (λ (x : Shown). IsQuiet x logs (map sim_log staged.buses.items)) (sym plant) is.quiet);
  }

  pub run_off_stage : (setup : Loaded) (workers limit : ℕ) (on : List Simulated) (by : ScriptedTicks)
      → HasRun setup workers limit on by sim_log tick_log staged
      → HasRun setup workers limit on by sim_log tick_log left
  run_off_stage setup workers limit on by is = record {
    closed = closed_off_stage (plant_of setup workers) (map sim_log on) (tick_log by) is.closed;
    ended = λ asked. quiet_off_stage (map sim_log on) (tick_log by) (is.ended (sym ended ∙ asked));
    full = λ limited. ap is_full plant ∙ is.full (sym ended ∙ limited);
    kept = ap (λ (x : Shown). x.limit) plant ∙ is.kept;
    count = ap (λ (xs : List Simulated). length xs) buses ∙ is.count;
    counts = is.counts;
    limited = is.limited;
    roomy = is.roomy;
  }
