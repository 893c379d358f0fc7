-- The number of a port fits in a byte.
use Rattle.std.proofs.Common.{◌≡◌, ℕ, ◌<◌, ◌≤◌, List, length, refl, arith}
use Rattle.std.specs.Prelude.{Option, Some, None, [], ◌∷◌, option_map, option_and_then, slice_get}
use Rattle.std.specs.List.{position}
use Rattle.std.proofs.lemmas.List.Quantifiers.{position-Some}
use Rattle.ilblocks.specs.declared.kind.BlockKind.{BlockKind}
use Rattle.ilblocks.specs.declared.kind.BlockKind.TheVariants as kinds
use Rattle.ilblocks.specs.declared.port.Port.{Port}
use Rattle.ilblocks.specs.Ports.{is_named, port_named, ports_of}
use Rattle.ilsource.specs.declared.name.Name.{Name}
use Rattle.ilsource.specs.Names.{text_of}
use Rattle.ildeclared.specs.declared.block.DeclaredBlock.{DeclaredBlock}
use Rattle.ilscope.specs.Declarations.{DeclaredProgram}
use Rattle.ilscope.specs.Tables.{first_at}
use Rattle.ilscope.specs.UseFaults.{port_number}
use Rattle.ilscope.specs.SameNames.{same_name}

few_ports : (kind : BlockKind) → length (ports_of kind) ≤ 5
few_ports kinds.RTrig = omega arith
few_ports kinds.Ctu = omega arith
few_ports kinds.Ton = omega arith
few_ports kinds.GearLevel = omega arith
few_ports kinds.GearDo = omega arith
few_ports kinds.GearSet = omega arith
few_ports kinds.GearPair = omega arith
few_ports kinds.GearAsk = omega arith
few_ports kinds.GearRead = omega arith
few_ports kinds.DevDo = omega arith
few_ports kinds.DevScheme = omega arith
few_ports kinds.DevAsk = omega arith

pub first_port : (ports : List Port) (name : List ℕ) (n : ℕ) → position (is_named name) ports ≡ Some n
    → n < length ports
first_port [] name n e = absurd cc
first_port (port ∷ ports) name n e = (position-Some (is_named name) (port ∷ ports) n port e).0

named_below : (kind : BlockKind) (name : List ℕ) (n : ℕ) → port_named kind name ≡ Some n → n < 5
named_below kind name n e = omega (arith, first_port (ports_of kind) name n e, few_ports kind)

in_kind : (text : List ℕ) (port : Name) (kind : BlockKind) (o : Option ℕ) (found : BlockKind × ℕ)
    → port_named kind (text_of text port) ≡ o → option_map (λ (n : ℕ). (kind, n)) o ≡ Some found → found.1 < 5
in_kind text port kind None found e h = absurd cc
in_kind text port kind (Some n) found e h =
    let same : n ≡ found.1 = cc in
    omega (arith, named_below kind (text_of text port) n e, same)

in_declared : (text : List ℕ) (port : Name) (o : Option DeclaredBlock) (found : BlockKind × ℕ)
    → option_and_then
    (λ (b : DeclaredBlock). option_map (λ (n : ℕ). (b.kind, n)) (port_named b.kind (text_of text port))) o
    ≡ Some found
    → found.1 < 5
in_declared text port None found e = absurd cc
in_declared text port (Some b) found e = in_kind text port b.kind (port_named b.kind (text_of text port)) found refl e

pub port_below : (text : List ℕ) (p : DeclaredProgram) (block port : Name) (found : BlockKind × ℕ)
    → port_number text p block port ≡ Some found → found.1 < 5
port_below text p block port found e =
    in_declared text port
    (option_and_then (slice_get p.blocks) (first_at (λ (b : DeclaredBlock). same_name text block b.name) p.blocks))
    found e
