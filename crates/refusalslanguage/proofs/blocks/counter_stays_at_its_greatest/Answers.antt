use Rattle.std.proofs.Common.{◌≡◌, ◌∙◌, [], ◌∷◌, false, true, pos, Some, slice_get, refl, ap}
use Rattle.iltypes.specs.declared.value.Value.TheVariants as values
use Rattle.ilblocks.specs.declared.kind.BlockKind.TheVariants.{Ctu}
use Rattle.ilblocks.specs.Calls.{Block, after_call}
use Rattle.refusalslanguage.proofs.blocks.counter_stays_at_its_greatest.Goals as goal

pub step-requires : goal.step-requires
step-requires c =
    rw c.requires.ports (
      tt,
      (
        tt,
        (
          record { low = record { le = tt }; high = record { le = tt } },
          (tt, (record { low = record { le = tt }; high = record { le = tt } }, tt)),
        ),
      ),
    )

stays : (block : Block) → block.before ≡ false
    → block.ports
    ≡ values.Bool true ∷ values.Bool false ∷ values.Int (pos 9) ∷ values.Bool true ∷ values.Int (pos 32767) ∷ []
    → slice_get (after_call Ctu 0 block).ports 4 ≡ Some (values.Int (pos 32767))
stays block before ports = rw (ports, before) refl

pub returns : goal.returns
returns c =
    ap (λ (b : Block). slice_get b.ports 4) c.step.ensures.after
    ∙ stays c.args.block.now c.requires.before c.requires.ports
