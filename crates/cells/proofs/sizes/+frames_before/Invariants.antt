use Rattle.cells.proofs.sizes.+frames_before.Given as goal

abbrev pub decreases-frames_before : goal.decreases-frames_before
decreases-frames_before l = l.n
