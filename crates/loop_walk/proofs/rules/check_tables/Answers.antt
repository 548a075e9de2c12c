-- A table has room among the numbers of the greatest one.
use Rattle.std.proofs.Common.{◌≡◌, ◌≤◌, ◌*◌, ℕ, refl, arith}
use Rattle.std.proofs.Math.Nat.{mul-le-mul_right}
use Rattle.std.proofs.lemmas.List.{length-replicate}
use Rattle.loop_walk.proofs.CheckLaws.{entries_from_places}
use Rattle.loop_walk.proofs.rules.check_tables.Goals as goal

pub returns-in-None-clause-hold : goal.returns-in-None-clause-hold
returns-in-None-clause-hold c = entries_from_places c.args.costs.now c.args.length c.args.tables.now c.in-None.ensures.hold

table_few : (frames big : ℕ) → frames ≤ 256 → big ≡ 65536 → frames * frames ≤ big
table_few frames big few is = omega (arith, mul-le-mul_right frames few, few, is)

pub returns-in-Some-clause-fault : goal.returns-in-Some-clause-fault
returns-in-Some-clause-fault c = (refl, c.in-Some.ensures.broken)

pub broken_place-requires-clause-nears : goal.broken_place-requires-clause-nears
broken_place-requires-clause-nears c = table_few c.args.costs.now.frames _ c.frames-frames.ensures.steps.frames.1 (length-replicate {A = ℕ} 65536 0)

pub broken_place-requires-clause-rests : goal.broken_place-requires-clause-rests
broken_place-requires-clause-rests c = table_few c.args.costs.now.frames _ c.frames-frames.ensures.steps.frames.1 (length-replicate {A = ℕ} 65536 0)
