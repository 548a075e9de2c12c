use Rattle.std.proofs.Common.{◌∙◌, ap, arith}
use Rattle.std.specs.Int.{w32}
use Rattle.source_map.specs.MapFiles.{same_rule}
use Rattle.source_map.specs.Readings.{number_rule}
use Rattle.source_map.proofs.FieldLaws.{field_stops, number_32}
use Rattle.source_map.proofs.map_reading.read_same.Goals as goal

pub returns-in-Err-clause-answer : goal.returns-in-Err-clause-answer
returns-in-Err-clause-answer g c =
    field_stops ⊥ c.args.name.now 4 (number_rule w32 (same_rule c.args.wanted)) c.args.file.now.at (g.S.Shelf.state c.args.shelf.now) (g.S.Shelf.state c.number.new.shelf) c.number.new.self c.in-Err.error (c.in-Err.ensures {u = tt}).stops

pub returns-in-Ok-clause-answer : goal.returns-in-Ok-clause-answer
returns-in-Ok-clause-answer g c =
    number_32 ⊥ c.args.name.now (same_rule c.args.wanted) c.args.file.now.at c.in-Ok.n (g.S.Shelf.state c.args.shelf.now) (g.S.Shelf.state c.number.new.shelf) c.number.new.self c.lawful_same.result
    (omega arith) (c.lawful_same.ensures.rule ∙ ap (λ at. same_rule c.args.wanted at c.in-Ok.n) c.place-at.ensures) c.lawful_same.ensures.refusal (c.in-Ok.ensures {u = tt}).took
