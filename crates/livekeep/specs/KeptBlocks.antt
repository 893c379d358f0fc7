-- Block instances that begin with what was kept of them (profile): the value of each port, the first input as it was at
-- the last call (`last`), and of a kind that keeps it (TON) the moment at which that input became TRUE (`start`). Each is
-- kept under a name of its own, and an instance begins with all of them, or as before its first call.
use Rattle.std.specs.Prelude.{ℕ, pos, List, [], ◌∷◌, ◌++◌, codes, map, min, Bool, if◌then◌else◌}
use Rattle.std.specs.Prelude.{Option, Some, None, option_map, option_and_then, unwrap_or}
use Rattle.iltypes.specs.declared.value.IlType.{IlType}
use Rattle.iltypes.specs.declared.value.IlType.TheVariants as types
use Rattle.iltypes.specs.declared.value.Value.{Value}
use Rattle.iltypes.specs.declared.value.Value.TheVariants as values
use Rattle.ilblocks.specs.declared.kind.BlockKind.{BlockKind}
use Rattle.ilblocks.specs.declared.port.Port.{Port}
use Rattle.ilblocks.specs.Calls.{Block, at_first, natural_of, number_or_zero, truth_of}
use Rattle.ilblocks.specs.Ports.{keeps_start, numbers, ports_of, spelling, type_of}
use Rattle.ilplan.specs.declared.instance.FunctionBlock.{FunctionBlock}
use Rattle.ilplan.specs.Plans.{Planned, PlannedTask}
use Rattle.livekeep.specs.KeptFiles.{KeptEntry, entry_of, most_number}
use Rattle.livekeep.specs.KeptValues.{kept_value, own_name}

-- ---- names

-- `light.rest`: the block instance `rest` of the program instance `light`
abbrev pub block_name : List ℕ → FunctionBlock → List ℕ
block_name text b = own_name text b.instance b.name

-- `light.rest.IN`
abbrev pub part_name : List ℕ → List ℕ → List ℕ
part_name block part = block ++ (codes "." ++ part)

abbrev pub port_name : List ℕ → Port → List ℕ
port_name block port = part_name block (spelling port.name)

-- ---- what is kept of an instance of this name

-- each of these ports with its value
abbrev pub port_entries : List ℕ → List Port → List Value → List KeptEntry
port_entries block (port ∷ ports) (value ∷ more) = entry_of (port_name block port) value ∷ port_entries block ports more
port_entries block _ _ = []

-- a moment, or the greatest number that a file has
abbrev pub moment_value : ℕ → Value
moment_value moment = values.Int (pos (min moment most_number))

-- the start, of a kind that keeps it
abbrev pub start_entries : List ℕ → BlockKind → ℕ → List KeptEntry
start_entries block kind start =
    if keeps_start kind then entry_of (part_name block (codes "start")) (moment_value start) ∷ [] else []

abbrev pub state_entries : List ℕ → BlockKind → Block → List KeptEntry
state_entries block kind state =
    port_entries block (ports_of kind) state.ports
    ++ (entry_of (part_name block (codes "last")) (values.Bool state.before) ∷ start_entries block kind state.start)

abbrev pub block_entries : List ℕ → FunctionBlock → Block → List KeptEntry
block_entries text b state = state_entries (block_name text b) b.kind state

-- ---- what an instance of this name begins with, on so many buses

abbrev pub kept_port : List KeptEntry → ℕ → List ℕ → Port → Option Value
kept_port kept buses block port = kept_value kept (port_name block port) (type_of buses port.values)

-- the kept value of each of these ports, where each has one of its type
abbrev pub kept_ports : List KeptEntry → ℕ → List ℕ → List Port → Option (List Value)
kept_ports kept buses block [] = Some []
kept_ports kept buses block (port ∷ ports) =
    option_and_then (λ value. option_map (λ more. value ∷ more) (kept_ports kept buses block ports))
    (kept_port kept buses block port)

abbrev pub kept_last : List KeptEntry → List ℕ → Option Bool
kept_last kept block =
    option_map (λ value. truth_of (Some value)) (kept_value kept (part_name block (codes "last")) types.Bool)

abbrev pub moments : IlType
moments = numbers (pos 0) (pos most_number)

-- the kept start, of a kind that keeps it; the start of any other kind is 0
abbrev pub kept_start : List KeptEntry → List ℕ → BlockKind → Option ℕ
kept_start kept block kind =
    if keeps_start kind then
    option_map (λ value. natural_of (number_or_zero (Some value)))
    (kept_value kept (part_name block (codes "start")) moments)
    else Some 0

abbrev pub block_of : List Value → Bool → ℕ → Block
block_of ports last start = record { ports = ports; before = last; start = start }

-- all that was kept of it; none where a part was not kept, or is not of its type
abbrev pub kept_state : List KeptEntry → ℕ → List ℕ → BlockKind → Option Block
kept_state kept buses block kind =
    option_and_then
    (λ ports. option_and_then (λ last. option_map (block_of ports last) (kept_start kept block kind))
    (kept_last kept block))
    (kept_ports kept buses block (ports_of kind))

abbrev pub kept_block : Planned → List KeptEntry → FunctionBlock → Option Block
kept_block plan kept b = kept_state kept plan.buses (block_name plan.text b) b.kind

-- what the instance begins with: all that was kept of it, else what it has before its first call
abbrev pub block_first : Planned → List KeptEntry → FunctionBlock → Block
block_first plan kept b = unwrap_or (kept_block plan kept b) (at_first b.kind)

abbrev pub block_firsts : Planned → List KeptEntry → PlannedTask → List Block
block_firsts plan kept task = map (block_first plan kept) task.blocks

-- ---- of what was kept that with which an instance begins

abbrev pub taken_of : List ℕ → FunctionBlock → Option Block → List KeptEntry
taken_of text b (Some state) = block_entries text b state
taken_of text b None = []

abbrev pub block_taken : Planned → List KeptEntry → FunctionBlock → List KeptEntry
block_taken plan kept b = taken_of plan.text b (kept_block plan kept b)
