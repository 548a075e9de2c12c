-- Records that stand are least.
use Rattle.std.proofs.Common.{◌≡◌, ℕ, List, [], ◌∷◌, length, refl, sym, subst, arith}
use Rattle.frame_distance.specs.Steps.{Steps}
use Rattle.map_canvas.specs.Maps.{empty_map}
use Rattle.loop_walk.specs.Walks.{AtMost, IsLeastWalk, steps_round, walk_cost}
use Rattle.loop_walk.specs.Tables.{entry_at, table_count}
use Rattle.loop_walk.specs.Records.{WalkStands}
use Rattle.loop_walk.proofs.WayLaws.{closed_cost, least_from}
use Rattle.cut_replay.proofs.Standing.{each_least}
use Rattle.block_check.proofs.Several as several_blocks
use Rattle.cert_file.specs.declared.file.RecordFile.TheVariants.{Blocks, Cuts, Walk}
use Rattle.standing_files.specs.Standing.{StandingRecordsAreLeast, walk_costs}

none_less : (costs : Steps) (other : List ℕ) → length other ≡ 0 → AtMost (walk_cost costs []) (walk_cost costs other)
none_less costs [] same = omega arith
none_less costs (frame ∷ other) same = absurd (omega arith)

walk_least : (costs : Steps) (walk tables : List ℕ) → WalkStands costs walk tables → IsLeastWalk costs (length walk) walk
walk_least costs [] tables stand = record { frames = refl; closed = stand.closed; least = λ other same closed. none_less costs other same }
walk_least costs (first ∷ rest) tables stand =
    let walk = first ∷ rest in
    let its = closed_cost costs (steps_round walk) stand.closed in
    least_from costs tables (length walk) (omega arith) stand.entries walk its.0 refl its.1
    (λ i lt. subst (λ o. AtMost o (entry_at costs tables (table_count (length walk)) i i)) its.1 (stand.diagonals i lt))

pub records_least : StandingRecordsAreLeast
records_least samples output (Cuts head cuts) stand = each_least samples (empty_map output) cuts stand
records_least samples output (Blocks head blocks) stand = several_blocks.each_least samples (empty_map output) blocks stand
records_least samples output (Walk head taps gap walk tables) stand = walk_least (walk_costs samples taps gap) walk tables stand
