-- The limits of this project's profile. Definitions cite these numbers; code has constants of its own, which meet them.
use Rattle.std.specs.Prelude.{ℕ, ◌≤◌}

-- bytes of a text, a binding or a scenario
abbrev pub most_bytes : ℕ
most_bytes = 1048576

-- buses, and event sources of a bus
abbrev pub most_buses : ℕ
most_buses = 64

-- buses that are few: more need a code file of version 2, and a longer history
abbrev pub few_buses : ℕ
few_buses = 16

-- attempts that a bus may be given for a transaction, and those that it has where the binding says nothing
abbrev pub most_tries : ℕ
most_tries = 5

abbrev pub usual_tries : ℕ
usual_tries = 3

-- a number of attempts that a bus may be given: one at least
pub record AreTries (tries : ℕ) : Type 0 where
  pub first : 1 ≤ tries
  pub last : tries ≤ most_tries

abbrev pub most_sources : ℕ
most_sources = 64

-- tasks and program instances
abbrev pub most_tasks : ℕ
most_tasks = 16

abbrev pub most_instances : ℕ
most_instances = 64

-- slots, different constants, block instances and words of a task
abbrev pub most_slots : ℕ
most_slots = 4096

abbrev pub most_constants : ℕ
most_constants = 4096

abbrev pub most_blocks : ℕ
most_blocks = 256

abbrev pub most_words : ℕ
most_words = 65536

-- functions of a task, inputs of a function, and calls that are open at one place
abbrev pub most_functions : ℕ
most_functions = 64

abbrev pub most_inputs : ℕ
most_inputs = 16

abbrev pub most_calls : ℕ
most_calls = 8

-- words on a path of a task's code
abbrev pub most_steps : ℕ
most_steps = 16777216

-- parentheses that are open at one place
abbrev pub most_nesting : ℕ
most_nesting = 32

-- requests of a scan
abbrev pub most_requests : ℕ
most_requests = 16

-- requests of one class that wait for a bus
abbrev pub most_waiting : ℕ
most_waiting = 64

-- events that are pending for a task
abbrev pub most_pending : ℕ
most_pending = 32

-- scan workers of a plant
abbrev pub most_workers : ℕ
most_workers = 16

-- seats of a plant: its scan workers, its buses and its clock, as many as there are at most
abbrev pub most_seats : ℕ
most_seats = 81

-- what the events of a plant's history may be limited to: at least, and at most
abbrev pub least_events : ℕ
least_events = 100

-- and at least, where the buses are more than few
abbrev pub least_events_of_many : ℕ
least_events_of_many = 500

abbrev pub most_events : ℕ
most_events = 1000000

-- what a history comes to at most over all the runs of a plant: 2^59
abbrev pub most_total : ℕ
most_total = 576460752303423488
