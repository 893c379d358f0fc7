-- The files that an inquiry reads.
use Rattle.commandoptions.specs.declared.files.Files.{Files}
use Rattle.commandoptions.specs.declared.inquiry.Inquiry.{Inquiry}
use Rattle.commandoptions.specs.declared.inquiry.Inquiry.TheVariants.{Check, Step}

-- those that the command line names, whatever the command
abbrev pub files_of : Inquiry → Files
files_of (Check files) = files
files_of (Step files task scans every) = files
