use Rattle.std.proofs.Common.{◌∙◌, ap}
use Rattle.std.specs.Int.{w8}
use Rattle.source_map.specs.Heads.{version_rule}
use Rattle.source_map.specs.Readings.{number_rule}
use Rattle.source_map.proofs.FieldLaws.{field_stops, number_8}
use Rattle.source_map.proofs.head_reading.read_version.Goals as goal

pub returns-in-Err-clause-answer : goal.returns-in-Err-clause-answer
returns-in-Err-clause-answer g c =
    field_stops ⊥ c.args.name.now 1 (number_rule w8 (version_rule c.args.versions)) c.args.file.now.at (g.S.Shelf.state c.args.shelf.now) (g.S.Shelf.state c.u8.new.shelf) c.u8.new.self c.in-Err.error (c.in-Err.ensures {u = tt}).stops

pub returns-in-Ok-clause-answer : goal.returns-in-Ok-clause-answer
returns-in-Ok-clause-answer g c =
    number_8 ⊥ c.args.name.now (version_rule c.args.versions) c.args.file.now.at c.in-Ok.n (g.S.Shelf.state c.args.shelf.now) (g.S.Shelf.state c.u8.new.shelf) c.u8.new.self c.lawful_version.result
    (c.lawful_version.ensures.rule ∙ ap (λ at. version_rule c.args.versions at c.in-Ok.n) c.place-at.ensures) c.lawful_version.ensures.refusal (c.in-Ok.ensures {u = tt}).took
