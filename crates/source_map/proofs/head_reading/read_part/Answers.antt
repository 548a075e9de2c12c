use Rattle.std.proofs.Common.{◌∙◌, ap, arith}
use Rattle.std.specs.Int.{w16}
use Rattle.source_map.specs.MapFiles.{part_rule}
use Rattle.source_map.specs.Readings.{number_rule}
use Rattle.source_map.proofs.FieldLaws.{field_stops, number_16}
use Rattle.source_map.proofs.head_reading.read_part.Goals as goal

pub returns-in-Err-clause-answer : goal.returns-in-Err-clause-answer
returns-in-Err-clause-answer g c =
    field_stops ⊥ c.args.name.now 2 (number_rule w16 (part_rule c.args.count)) c.args.file.now.at (g.S.Shelf.state c.args.shelf.now) (g.S.Shelf.state c.number.new.shelf) c.number.new.self c.in-Err.error (c.in-Err.ensures {u = tt}).stops

pub returns-in-Ok-clause-answer : goal.returns-in-Ok-clause-answer
returns-in-Ok-clause-answer g c =
    number_16 ⊥ c.args.name.now (part_rule c.args.count) c.args.file.now.at c.in-Ok.n (g.S.Shelf.state c.args.shelf.now) (g.S.Shelf.state c.number.new.shelf) c.number.new.self c.lawful_part.result
    (omega arith) (c.lawful_part.ensures.rule ∙ ap (λ at. part_rule c.args.count at c.in-Ok.n) c.place-at.ensures) c.lawful_part.ensures.refusal (c.in-Ok.ensures {u = tt}).took
