-- What became of a row's line: of the simulated bus, or of the line that gives the answers of a file.
use Rattle.buslink.specs.BusLog.{BusLog}
use Rattle.rows.specs.declared.simulated.RowsLine.{RowsLine}
use Rattle.rows.specs.declared.simulated.RowsLine.TheVariants.{Answering, Simulated}

abbrev pub line_log : RowsLine → BusLog
line_log (Simulated bus) = bus.log
line_log (Answering line) = line.line.log
