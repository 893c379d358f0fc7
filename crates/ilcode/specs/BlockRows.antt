-- Worked codes with the two block instances: t, a TON, and g, a GEAR_DO.
use Rattle.std.specs.Prelude.{ℕ, zero, suc, ◌+◌, Bool, true, false, List, [], ◌∷◌}
use Rattle.iltypes.specs.declared.value.Value.TheVariants as values
use Rattle.ilblocks.specs.Address.{Address}
use Rattle.ilblocks.specs.Command.TheVariants as commands
use Rattle.ilblocks.specs.Request.{Request}
use Rattle.ilblocks.specs.declared.kind.BlockKind.TheVariants.{Ton, GearDo}
use Rattle.ilblocks.specs.Calls.{Block, at_first}
use Rattle.ilblocks.specs.Stores.{Store}
use Rattle.ilcode.specs.declared.word.Word.{Word}
use Rattle.ilcode.specs.declared.word.Word.TheVariants.{Load, Pass, Call, Set, Reset}
use Rattle.ilcode.specs.declared.word.Word.TheVariants.{Store as St}
use Rattle.ilcode.specs.declared.word.WordOperand.TheVariants.{Slot, Port}
use Rattle.ilcode.specs.declared.word.Target.TheVariants as variables
use Rattle.ilcode.specs.Paths.{Standing, standing}
use Rattle.ilcode.specs.Rows.{whole}

-- t with these values of IN, PT, Q and ET, IN at its last call, and the moment at which that became TRUE
abbrev pub timer : Bool → ℕ → Bool → ℕ → Bool → ℕ → Block
timer input preset output elapsed before start =
    record {
      ports = values.Bool input ∷ whole preset ∷ values.Bool output ∷ whole elapsed ∷ [];
      before = before;
      start = start;
    }

-- g with these values of REQ, BUS, ADR and CMD, and REQ at its last call
abbrev pub gear : Bool → ℕ → ℕ → ℕ → Bool → Block
gear request bus address command before =
    record {
      ports = values.Bool request ∷ whole bus ∷ whole address ∷ whole command ∷ [];
      before = before;
      start = 0;
    }

abbrev pub no_timer : Block
no_timer = at_first Ton

abbrev pub no_gear : Block
no_gear = at_first GearDo

-- the store with these instances and requests
abbrev pub with_blocks : Block → Block → List Request → Store → Store
with_blocks t g requests store = record store { blocks = t ∷ g ∷ []; requests = requests }

abbrev pub with_timer : Block → Store → Store
with_timer t = with_blocks t no_gear []

-- a GEAR_DO request on bus 0
abbrev pub request : Address → ℕ → Request
request address command = record { bus = 0; command = commands.GearDo address command }

-- IN := d, PT := b
abbrev pub pass_in : Word
pass_in = Pass 0 0 (Slot 3)

abbrev pub pass_pt : Word
pass_pt = Pass 1 0 (Slot 1)

-- CAL t, CAL g
abbrev pub call_t : Word
call_t = Call 0

abbrev pub call_g : Word
call_g = Call 1

-- CAL t(IN := d, PT := b)
abbrev pub timed : List Word
timed = pass_in ∷ pass_pt ∷ call_t ∷ []

-- LD t.Q, LD t.ET
abbrev pub ld_q : Word
ld_q = Load false (Port 2 0)

abbrev pub ld_et : Word
ld_et = Load false (Port 3 0)

-- ST t.IN, STN t.IN, S t.IN, R t.IN, ST t.Q
abbrev pub st_in : Word
st_in = St false (variables.Port 0 0)

abbrev pub stn_in : Word
stn_in = St true (variables.Port 0 0)

abbrev pub s_in : Word
s_in = Set (variables.Port 0 0)

abbrev pub r_in : Word
r_in = Reset (variables.Port 0 0)

abbrev pub st_q : Word
st_q = St false (variables.Port 2 0)

-- CAL g(REQ := d, ADR := a, CMD := b)
abbrev pub requested : List Word
requested = Pass 0 1 (Slot 3) ∷ Pass 2 1 (Slot 0) ∷ Pass 3 1 (Slot 1) ∷ call_g ∷ []

-- the first so many words, one after another
abbrev pub straight_from : ℕ → ℕ → List Standing
straight_from zero place = []
straight_from (suc n) place = standing place [] ∷ straight_from n (place + 1)

abbrev pub straight : ℕ → List Standing
straight n = straight_from n 0
