use Rattle.std.proofs.Common.{◌∙◌, ap, arith}
use Rattle.std.specs.Int.{w32}
use Rattle.source_map.specs.Heads.{axis_rule}
use Rattle.source_map.specs.Readings.{number_rule}
use Rattle.source_map.proofs.FieldLaws.{field_stops, number_32}
use Rattle.source_map.proofs.head_reading.read_axis.Goals as goal

pub returns-in-Err-clause-answer : goal.returns-in-Err-clause-answer
returns-in-Err-clause-answer g c =
    field_stops ⊥ c.args.name.now 4 (number_rule w32 axis_rule) c.args.file.now.at (g.S.Shelf.state c.args.shelf.now) (g.S.Shelf.state c.number.new.shelf) c.number.new.self c.in-Err.error (c.in-Err.ensures {u = tt}).stops

pub returns-in-Ok-clause-answer : goal.returns-in-Ok-clause-answer
returns-in-Ok-clause-answer g c =
    number_32 ⊥ c.args.name.now axis_rule c.args.file.now.at c.in-Ok.n (g.S.Shelf.state c.args.shelf.now) (g.S.Shelf.state c.number.new.shelf) c.number.new.self c.lawful_axis.result
    (omega arith) (c.lawful_axis.ensures.axis ∙ ap (λ at. axis_rule at c.in-Ok.n) c.place-at.ensures) c.lawful_axis.ensures.refusal (c.in-Ok.ensures {u = tt}).took
