use Rattle.std.proofs.lemmas.Grind.{common_steps}
use Rattle.std.proofs.Common.{◌≤◌, ◌+◌, ◌-◌, length, drop, ap, ◌∙◌, arith}
use Rattle.std.proofs.lemmas.List.{length-take}
use Rattle.file_bytes.specs.Reading.{Reading}
use Rattle.file_bytes.proofs.ReadingLaws.{left_waits}
use Rattle.file_bytes.proofs.reader.FileReader.skip.Goals as goal

pub returns : goal.returns
returns c =
    let n = c.args.n in
    let whole = c.self.inside.end - c.self.inside.start in
    let count = length-take whole (drop c.self.inside.start c.self.inside.buffer) in
    let same = ap (λ (r : Reading). length r.waiting) c.self.view_is in
    let le : n ≤ whole = omega (arith, c.requires.waits, count, same) in
    let waiting = left_waits c.self.inside.start c.self.inside.end n c.self.inside.buffer le ∙ ap (λ (r : Reading). drop n r.waiting) c.self.view_is in
    λ i. record { at = (c.self.view_is i).at + n; waiting = waiting i; ended = (c.self.view_is i).ended }

pub invariant_of-self : goal.invariant_of-self
invariant_of-self c = grind (arith, common_steps)
