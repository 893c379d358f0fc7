-- Worked instances: an edge that was seen, and a timer that runs.
use Rattle.std.specs.Prelude.{ℕ, pos, List, [], ◌∷◌, Bool, true, false, codes}
use Rattle.iltypes.specs.declared.value.Value.{Value}
use Rattle.iltypes.specs.declared.value.Value.TheVariants as values
use Rattle.ilblocks.specs.Calls.{Block}
use Rattle.livekeep.specs.KeptFiles.{KeptEntry, entry_of}

abbrev pub edge : List ℕ
edge = codes "light.edge"

abbrev pub clk : Value → KeptEntry
clk value = entry_of (codes "light.edge.CLK") value

abbrev pub q : KeptEntry
q = entry_of (codes "light.edge.Q") (values.Bool false)

abbrev pub last : KeptEntry
last = entry_of (codes "light.edge.last") (values.Bool true)

-- all that is kept of it, beside a variable
abbrev pub edge_kept : List KeptEntry
edge_kept = entry_of (codes "light.seen") (values.Int (pos 3)) ∷ clk (values.Bool true) ∷ q ∷ last ∷ []

abbrev pub edge_seen : Block
edge_seen = record { ports = values.Bool true ∷ values.Bool false ∷ []; before = true; start = 0 }

abbrev pub rest : List ℕ
rest = codes "light.rest"

-- the ports of a timer, and its last input
abbrev pub rest_ports : List KeptEntry
rest_ports =
    entry_of (codes "light.rest.IN") (values.Bool true)
    ∷ entry_of (codes "light.rest.PT") (values.Int (pos 180000))
    ∷ entry_of (codes "light.rest.Q") (values.Bool false)
    ∷ entry_of (codes "light.rest.ET") (values.Int (pos 12000))
    ∷ entry_of (codes "light.rest.last") (values.Bool true)
    ∷ []

abbrev pub rest_start : List KeptEntry
rest_start = entry_of (codes "light.rest.start") (values.Int (pos 3588000)) ∷ []

abbrev pub rest_running : Block
rest_running =
    record {
      ports = values.Bool true ∷ values.Int (pos 180000) ∷ values.Bool false ∷ values.Int (pos 12000) ∷ [];
      before = true;
      start = 3588000;
    }
