-- What code makes of a line, with lists of bytes for slices.
use Rattle.std.specs.Prelude.{Option, option_map}
use Rattle.livekeep.specs.KeptFiles.{SaidLine, entry_of}
use Rattle.livekeep.specs.KeptFiles.SaidLine.{Head, Digest, Entry, End, Sum}
use Rattle.livekeep.specs.declared.lines.KeptLine.{KeptLine}
use Rattle.livekeep.specs.declared.lines.KeptLine.TheVariants as code

abbrev pub line_view : KeptLine → SaidLine
line_view (code.Head at) = Head at
line_view code.Digest = Digest
line_view (code.Entry name value) = Entry (entry_of name.now value)
line_view (code.End number) = End number
line_view (code.Sum number) = Sum number

abbrev pub view : Option KeptLine → Option SaidLine
view line = option_map line_view line
