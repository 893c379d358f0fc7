-- What a request spells is a legal list of frames, with its class as the first priority.
use Rattle.std.proofs.Common.{◌≡◌, ◌<◌, ◌≤◌, ◌⊎◌, inl, inr, refl, slice_index, length, arith}
use Rattle.daliframe.specs.declared.addressing.Address.TheVariants.{Short}
use Rattle.daliframe.specs.declared.schemes.EventScheme.{EventScheme}
use Rattle.daliframe.specs.declared.schemes.EventScheme.TheVariants.{Instance, Device, DeviceInstance, DeviceGroup}
use Rattle.daliframe.specs.declared.schemes.EventScheme.TheVariants.{InstanceGroup}
use Rattle.daliframe.specs.EventSchemes.{scheme_number}
use Rattle.gearcmd.specs.declared.requests.Command.{Command}
use Rattle.gearcmd.specs.declared.requests.Command.TheVariants.{GearLevel, GearDo, GearSet, GearPair, GearAsk, GearRead}
use Rattle.gearcmd.specs.declared.requests.Command.TheVariants.{DevDo, DevScheme, DevAsk}
use Rattle.gearcmd.specs.declared.requests.TaskKind.{TaskKind}
use Rattle.gearcmd.specs.declared.requests.TaskKind.TheVariants.{Cyclic, Event}
use Rattle.gearcmd.specs.Commands.{gear_do_opcodes, gear_set_opcodes, gear_pair_opcodes, gear_ask_opcodes}
use Rattle.gearcmd.specs.Commands.{dev_do_opcodes, dev_ask_opcodes}
use Rattle.gearcmd.specs.Requests.{frames_of, class_of, task_class, IsCommand, read_opcode, set_event_scheme_opcode}
use Rattle.gearcmd.proofs.Tables.{gear_do_class, gear_set_class, gear_pair_class, gear_ask_class, dev_do_class}
use Rattle.gearcmd.proofs.Tables.{dev_ask_class}
use Rattle.gearcmd.specs.FrameLists.{IsLegal, most_frames}

-- the number of a scheme is at most 4
scheme_limit : (s : EventScheme) → scheme_number s < 5
scheme_limit Instance = omega arith
scheme_limit Device = omega arith
scheme_limit DeviceInstance = omega arith
scheme_limit DeviceGroup = omega arith
scheme_limit InstanceGroup = omega arith

-- the class of a task is 2 or 4
task_class_cases : (task : TaskKind) → (task_class task ≡ 2) ⊎ (task_class task ≡ 4)
task_class_cases Event = inl refl
task_class_cases Cyclic = inr refl

pub frames_of_legal : (r : Command) (task : TaskKind) → IsCommand r → IsLegal (frames_of r) (class_of r task)
frames_of_legal (GearLevel a l) task h = inl (task_class_cases task, inl (a, l, h.0, h.1, refl))
frames_of_legal (GearDo a k) task h =
    inl (task_class_cases task, inr (a, slice_index gear_do_opcodes k, h.0, gear_do_class k h.1, refl))
frames_of_legal (GearSet a k d) task h =
    inl (refl, refl, inl ((d, h.2, refl), (a, slice_index gear_set_opcodes k, h.0, gear_set_class k h.1, refl)))
frames_of_legal (GearPair a k) task h =
    (refl, refl, inl (a, slice_index gear_pair_opcodes k, h.0, gear_pair_class k h.1, refl))
frames_of_legal (GearAsk a k) task h =
    inr (refl, inl (Short a, slice_index gear_ask_opcodes k, h.0, gear_ask_class k h.1, refl))
frames_of_legal (GearRead a b o) task h =
    inr (refl, (b, h.1, refl), (o, h.2, refl), (Short a, read_opcode, h.0, refl, refl))
frames_of_legal (DevDo a i k) task h =
    (refl, refl, inr (a, i, slice_index dev_do_opcodes k, h.0, h.1, dev_do_class k h.2, refl))
frames_of_legal (DevScheme a i s) task h =
    inl (
      refl,
      refl,
      inr (
        (scheme_number s, scheme_limit s, refl),
        (
          a,
          i,
          set_event_scheme_opcode,
          h.0,
          h.1,
          refl,
          refl,
        ),
      ),
    )
frames_of_legal (DevAsk a i k) task h =
    inr (refl, inr (a, i, slice_index dev_ask_opcodes k, h.0, h.1, dev_ask_class k h.2, refl))

-- they are one to three
pub frames_of_count : (r : Command) → (1 ≤ length (frames_of r)) × (length (frames_of r) ≤ most_frames)
frames_of_count (GearLevel a l) = (omega arith, omega arith)
frames_of_count (GearDo a k) = (omega arith, omega arith)
frames_of_count (GearSet a k d) = (omega arith, omega arith)
frames_of_count (GearPair a k) = (omega arith, omega arith)
frames_of_count (GearAsk a k) = (omega arith, omega arith)
frames_of_count (GearRead a b o) = (omega arith, omega arith)
frames_of_count (DevDo a i k) = (omega arith, omega arith)
frames_of_count (DevScheme a i s) = (omega arith, omega arith)
frames_of_count (DevAsk a i k) = (omega arith, omega arith)
