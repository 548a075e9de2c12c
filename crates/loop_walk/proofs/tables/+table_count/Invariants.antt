use Rattle.loop_walk.proofs.tables.+table_count.Given as goal

abbrev pub decreases-table_count : goal.decreases-table_count
decreases-table_count l = l.length
