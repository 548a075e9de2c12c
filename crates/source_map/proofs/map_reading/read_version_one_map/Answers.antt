use Rattle.std.proofs.Common.{refl}
use Rattle.source_map.proofs.VersionOne.{whole_one}
use Rattle.source_map.proofs.map_reading.read_version_one_map.Goals as goal

pub returns-clause-answer : goal.returns-clause-answer
returns-clause-answer g c =
    let state = g.S.Shelf.state in
    whole_one c.args.name.now (state c.args.shelf.now) (state c.read_whole.new.shelf) c.read_whole.result c.read_whole.ensures.answer

pub returns-clause-version : goal.returns-clause-version
returns-clause-version g c = c.read_whole.ensures.version refl
