use Rattle.std.proofs.Common.{rules, ◌≡◌, ◌++◌}
use Rattle.livekeep.specs.CheckSums.{sum_of}
use Rattle.livekeep.specs.KeptFiles.{sum_line}
use Rattle.livekeep.proofs.PrintedFiles.{whole_file}
use Rattle.livekeep.proofs.page.kept_file.Goals as goal

pub returns : goal.returns
returns c =
    let lines = c.in_ok-file.file.items in
    let line = c.in_ok-line.line.bytes.items in
    let sum = c.sum_of-sum.result in
    let file = c.extend_from_slice.new.self.items in
    let total : sum ≡ sum_of lines = search rules in
    let own : line ≡ sum_line sum = search rules in
    let added : file ≡ lines ++ line = search rules in
    whole_file c.args.at c.args.values.now lines line file sum c.in_ok-file.ensures total own added
