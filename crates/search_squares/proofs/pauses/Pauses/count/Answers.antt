use Rattle.search_squares.proofs.pauses.Pauses.count.Goals as goal

pub bounds-self-level : goal.bounds-self-level
bounds-self-level c = c.requires
