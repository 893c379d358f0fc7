-- What the answer to a code file is printed as (profile).
use Rattle.std.specs.Prelude.{ℕ, List, ◌++◌, codes}
use Rattle.std.specs.Fmt.{decimal}
use Rattle.ilcodefile.specs.Printed as files
use Rattle.ilcodefile.specs.declared.fault.FileFault.TheVariants.{Of}
use Rattle.ilverify.specs.Printed as refusals
use Rattle.textanswers.specs.declared.code_answer.CodeAnswer.{CodeAnswer}
use Rattle.textanswers.specs.declared.code_answer.CodeAnswer.TheVariants.{Accepted, Faulty, Memory, Refused}

-- the words of an accepted code and the bound; the refusal of a code; the first fault of bytes that are no file
abbrev pub printed : CodeAnswer → List ℕ
printed (Accepted words bound) = codes "code words " ++ decimal words ++ codes " bound " ++ decimal bound
printed (Refused refusal) = codes "code " ++ refusals.printed refusal
printed (Faulty cause) = files.printed (Of cause)
printed Memory = codes "no memory"
