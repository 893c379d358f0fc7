-- A command whose code file is not written, by what stands against that.
use Rattle.std.proofs.Common.{◌≡◌, ℕ, List, Option, inr}
use Rattle.std.specs.Io.KnownBytes.{Appends}
use Rattle.std.specs.Option.{option_copied}
use Rattle.commandoptions.specs.declared.files.Files.{Files}
use Rattle.textanswers.specs.declared.stop.Stop.{Stop}
use Rattle.commandfiles.specs.ExitStatuses.{status_of_stop}
use Rattle.commandfiles.specs.ExitStatus.{ExitStatus}
use Rattle.commandcodes.specs.CodeFiles.{IsCodeServed, IsCodeStop}
use Rattle.commandfiles.specs.Reports.{stop_text}
use Rattle.commandfiles.specs.Served.{IsGiven}

pub stopped : (gives takes : List ℕ → List ℕ → Type 0) (files : Files) (name : Option (List ℕ)) (to : List ℕ)
    (before after : Option (List ℕ)) (status : ExitStatus) (binding read : Option (List ℕ)) (text bytes : List ℕ)
    (stop : Stop) → IsGiven gives (option_copied files.binding) read → gives files.text.now bytes → binding ≡ read
    → text ≡ bytes → IsCodeStop binding text name stop → Appends before after (stop_text stop)
    → status ≡ status_of_stop stop → IsCodeServed gives takes files name to before after status
stopped gives takes files name to before after status binding read text bytes stop given text_given same same_text stops
    line ends = (
      read,
      bytes,
      record { binding_given = given; text_given = text_given },
      inr (record { stop = stop; stops = rw (same, same_text) at stops; line = line; ends = ends }),
    )
