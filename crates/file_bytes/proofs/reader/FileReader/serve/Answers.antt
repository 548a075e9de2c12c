use Rattle.std.proofs.lemmas.Grind.{common_steps}
use Rattle.std.proofs.Common.{◌≤◌, ◌+◌, ◌-◌, drop, ap, ◌∙◌, arith}
use Rattle.file_bytes.specs.Reading.{Reading}
use Rattle.file_bytes.proofs.ReadingLaws.{left_waits}
use Rattle.file_bytes.proofs.reader.FileReader.serve.Goals as goal

pub returns-clause-left : goal.returns-clause-left
returns-clause-left c =
    let n = c.min-n.result in
    let le : n ≤ c.self.inside.end - c.self.inside.start = omega (arith, c.min-n.ensures) in
    let waiting = left_waits c.self.inside.start c.self.inside.end n c.self.inside.buffer le ∙ ap (λ (r : Reading). drop n r.waiting) c.self.view_is in
    λ i. record { at = (c.self.view_is i).at + n; waiting = waiting i; ended = (c.self.view_is i).ended }

pub returns-clause-count : goal.returns-clause-count
returns-clause-count c = grind (arith, common_steps)

pub returns-clause-into : goal.returns-clause-into
returns-clause-into c = grind (arith, common_steps)

pub copy_from_slice-requires : goal.copy_from_slice-requires
copy_from_slice-requires c = grind (arith, common_steps)

pub overflow_add-self-2 : goal.overflow_add-self-2
overflow_add-self-2 c = grind (arith, common_steps)
