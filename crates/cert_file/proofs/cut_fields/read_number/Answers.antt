use Rattle.std.proofs.Common.{sym, subst}
use Rattle.source_map.specs.Readings.{ReadsFrom}
use Rattle.cert_file.specs.CutReading.{part_read}
use Rattle.cert_file.proofs.cut_fields.read_number.Goals as goal

pub returns-in-Two-clause-answer : goal.returns-in-Two-clause-answer
returns-in-Two-clause-answer g c =
    let state = g.S.Shelf.state in
    subst (λ version. ReadsFrom ⊥ c.args.name.now c.args.file.now.at (state c.args.shelf.now) (state c.read_part.new.shelf) c.read_part.new.file (part_read version c.args.count) c.read_part.result) (sym c.in-Two.is)
    c.read_part.ensures.answer
