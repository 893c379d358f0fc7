use Rattle.plantrun.proofs.running.run.Given as goal

abbrev pub ghosts-run_on_stage : goal.ghosts-run_on_stage
ghosts-run_on_stage g a = record { statements = a.scenario.now }
