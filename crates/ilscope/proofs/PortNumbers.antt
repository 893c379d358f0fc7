-- The number of a port is that of its name in the kind of its block.
use Rattle.std.proofs.Common.{◌≡◌, ℕ, List, refl, sym, ap, ◌∙◌}
use Rattle.std.specs.Prelude.{Option, Some, None, IfSome, option_map, option_and_then, slice_get}
use Rattle.ilblocks.specs.declared.kind.BlockKind.{BlockKind}
use Rattle.ilblocks.specs.Ports.{port_named}
use Rattle.ilsource.specs.declared.name.Name.{Name}
use Rattle.ilsource.specs.Names.{folded, text_of}
use Rattle.ildeclared.specs.declared.block.DeclaredBlock.{DeclaredBlock}
use Rattle.ilscope.specs.Declarations.{DeclaredProgram}
use Rattle.ilscope.specs.Tables.{block_number}
use Rattle.ilscope.specs.UseFaults.{port_number}

module _ (text : List ℕ) (port : Name) where
  -- the port of a block of this kind, and of a block that was found
  abbrev pub port_in_kind : BlockKind → Option (BlockKind × ℕ)
  port_in_kind kind = option_map (λ n. (kind, n)) (port_named kind (text_of text port))

  abbrev pub port_in_found : Option (ℕ × BlockKind) → Option (BlockKind × ℕ)
  port_in_found found = option_and_then (λ b. port_in_kind b.1) found

  in_block : (kind : BlockKind) (o : Option DeclaredBlock) → option_map (λ d. d.kind) o ≡ Some kind
      → option_and_then (λ (b : DeclaredBlock). port_in_kind b.kind) o ≡ port_in_kind kind
  in_block kind None e = absurd cc
  in_block kind (Some d) e = let h : d.kind ≡ kind = cc in ap port_in_kind h

  pub port_by_found : (p : DeclaredProgram) (block : Name) (found : Option (ℕ × BlockKind))
      → option_map (λ b. b.0) found ≡ block_number (folded text) p.blocks block
      → IfSome found (λ b. option_map (λ d. d.kind) (slice_get p.blocks b.0) ≡ Some b.1)
      → port_number text p block port ≡ port_in_found found
  port_by_found p block found e k =
      ap (λ (o : Option ℕ). option_and_then (λ (b : DeclaredBlock). port_in_kind b.kind)
      (option_and_then (slice_get p.blocks) o)) (sym e)
      ∙ by found k
    where
      by : (found : Option (ℕ × BlockKind))
          → IfSome found (λ b. option_map (λ d. d.kind) (slice_get p.blocks b.0) ≡ Some b.1)
          → option_and_then (λ (b : DeclaredBlock). port_in_kind b.kind)
          (option_and_then (slice_get p.blocks) (option_map (λ b. b.0) found))
          ≡ port_in_found found
      by None k = refl
      by (Some b) k = in_block b.1 (slice_get p.blocks b.0) k
