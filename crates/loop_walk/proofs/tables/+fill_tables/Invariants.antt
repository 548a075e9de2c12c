use Rattle.loop_walk.proofs.tables.+fill_tables.Given as goal

abbrev pub decreases-fill_tables : goal.decreases-fill_tables
decreases-fill_tables l = l.length
