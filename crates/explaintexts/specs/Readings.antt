-- What an answer of a text shows.
use Rattle.explaincures.specs.Trying.{IsCure, ReadsOn, ShowsCure}
use Rattle.explaincures.specs.declared.answers.FaultAnswer.{FaultAnswer}
use Rattle.explaincures.specs.declared.edits.Edit.{Edit}
use Rattle.explainpatterns.specs.declared.standing.Standing.{Standing}

-- the change was tried, and the text reads on with it behind the fault at this place
abbrev pub CuresReading : Standing → Edit → Type 0
CuresReading at = IsCure at.asked.now.binding.now at.asked.now.text.now at.line (ReadsOn at.asked.now.text.now at.line at.col)

-- a change that is shown is such a one
abbrev pub ShowsReading : Standing → FaultAnswer → Type 0
ShowsReading at =
    ShowsCure at.asked.now.binding.now at.asked.now.text.now at.line (ReadsOn at.asked.now.text.now at.line at.col)
