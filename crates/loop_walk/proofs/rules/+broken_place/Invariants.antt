use Rattle.loop_walk.proofs.rules.+broken_place.Given as goal

abbrev pub decreases-broken_place : goal.decreases-broken_place
decreases-broken_place l = l.length
