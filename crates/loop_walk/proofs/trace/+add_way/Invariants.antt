use Rattle.loop_walk.proofs.trace.+add_way.Given as goal

abbrev pub decreases-add_way : goal.decreases-add_way
decreases-add_way l = l.length
