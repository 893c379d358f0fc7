use Rattle.std.proofs.Common.{◌≡◌, ℕ, slice_index, subst}
use Rattle.gearcmd.specs.Commands.{gear_ask_opcodes}
use Rattle.refusalsbus.proofs.frames.query_22_has_opcode_a6.Goals as goal

pub returns-in-Some : goal.returns-in-Some
unfolding gear_ask_opcodes
returns-in-Some c =
    subst (λ (n : ℕ). c.gear_ask_opcode.result ≡ slice_index gear_ask_opcodes n) c.in-Some.ensures.1
    c.gear_ask_opcode.ensures.value
