use Rattle.std.proofs.Common.{◌≡◌, ◌∙◌, ℕ, List, [], ◌∷◌, Some, false, refl}
use Rattle.std.specs.Prelude.{reverse}
use Rattle.buslink.specs.declared.marks.Mark.TheVariants.{Quiet}
use Rattle.buslink.specs.declared.marks.Sent.{Sent}
use Rattle.simbus.specs.FrameFields.{device_fields_at}
use Rattle.simbus.specs.Histories.{Setup, instance_variables_at}
use Rattle.simbus.specs.Instances.{device_command_of}
use Rattle.simbus.specs.declared.instances.InputInstance.{InputInstance}
use Rattle.refusalsbus.specs.Sendings.{disabling}
use Rattle.refusalsbus.proofs.simulated.disabled_instance_is_not_enabled.Goals as goal

disabled : (setup : Setup) (sent : List Sent) (instance : InputInstance) (address number : ℕ)
    → setup.instances ≡ instance ∷ [] → sent ≡ disabling Quiet ∷ disabling Quiet ∷ [] → address ≡ 0 → number ≡ 0
    → instance.address ≡ 0 → instance.number ≡ 0
    → instance_variables_at setup (reverse sent) address number
    ≡ Some (record { scheme = instance.scheme; is_enabled = false })
unfolding device_command_of device_fields_at
disabled setup sent instance address number one twice device own its_device its_own =
    rw (one, twice, device, own, its_device, its_own) refl

pub returns : goal.returns
returns c =
    let bus = c.args.bus.now in
    c.instance.ensures
    ∙ disabled bus.setup bus.log.sent c.args.instance c.args.address c.args.number c.requires.instances
    c.requires.sent c.requires.address.1 c.requires.number.1 c.requires.address.0 c.requires.number.0
