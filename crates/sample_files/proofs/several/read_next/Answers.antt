use Rattle.sample_files.proofs.Reading.{next_answer}
use Rattle.sample_files.proofs.several.read_next.Goals as goal

pub returns-clause-answer : goal.returns-clause-answer
returns-clause-answer g c =
    next_answer c.args.asked c.args.samples.now c.args.number c.args.name.now (g.S.Shelf.state c.args.shelf.now) (g.S.Shelf.state c.read_sample_in.new.shelf) c.join.new.samples c.in-Ok.sample c.join.result c.requires.number
    (c.in-Ok.ensures {u = tt}).answer c.join.ensures
