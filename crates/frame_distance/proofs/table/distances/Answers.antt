use Rattle.std.proofs.Common.{arith}
use Rattle.std.proofs.lemmas.Grind.{common_steps}
use Rattle.std.proofs.Common.{◌≡◌, ◌*◌, ◌+◌, length, ◌∙◌, ap, get_or}
use Rattle.cells.specs.declared.place.Size.{Size}
use Rattle.cells.specs.Cells.{bytes_of}
use Rattle.frame_distance.specs.Frames.{distance_in, frame_distance}
use Rattle.frame_distance.specs.Tables.{entries_of}
use Rattle.frame_distance.proofs.EntryLaws.{entries_of-same, entries_of-inside, length-entries_of}
use Rattle.frame_distance.proofs.FrameLaws.{length-bytes_of, distance_in-bytes_of}
use Rattle.frame_distance.proofs.table.distances.Goals as goal

pub all_distances-requires-clause-frames : goal.all_distances-requires-clause-frames
all_distances-requires-clause-frames c =
    let clip = c.args.clip.now in
    rw (c.bytes-bytes.ensures, c.samples.ensures.samples, c.size-size.ensures.size) (length-bytes_of clip c.size-size.ensures.volume c.requires.part)

-- the numbers are those of the clip
numbers_are : (c : goal.In_ok-numbers) → c.in_ok-numbers.numbers.items ≡ entries_of c.args.clip.now.size.f (frame_distance c.args.clip.now) (c.args.clip.now.size.f * c.args.clip.now.size.f)
numbers_are c =
    let clip = c.args.clip.now in
    rw (c.bytes-bytes.ensures, c.samples.ensures.samples, c.size-size.ensures.size) at c.in_ok-numbers.ensures.numbers
    ∙ entries_of-same clip.size.f (distance_in (bytes_of clip) (clip.k * (clip.size.w * clip.size.h))) (frame_distance clip) (distance_in-bytes_of clip c.size-size.ensures.volume c.requires.part)

pub invariant_of-result : goal.invariant_of-result
invariant_of-result c =
    let clip = c.args.clip.now in
    record {
      frames = rw c.size-size.ensures.size (c.size-size.ensures.volume.small.axes.f.0, c.requires.frames);
      whole =
          rw c.size-size.ensures.size
          (ap length (numbers_are c) ∙ length-entries_of clip.size.f (frame_distance clip) (clip.size.f * clip.size.f));
      below = c.in_ok-numbers.ensures.small;
    }

pub returns-clause-table : goal.returns-clause-table
returns-clause-table c = λ t. record { frames = ap (λ (s : Size). s.f) c.size-size.ensures.size t; numbers = numbers_are c t }

pub returns-clause-each : goal.returns-clause-each
returns-clause-each c = λ i j row column.
    let clip = c.args.clip.now in
    let frames = ap (λ (s : Size). s.f) c.size-size.ensures.size in
    (λ t. get_or (numbers_are c t) (i * frames t + j) 0)
    ∙ entries_of-inside clip.size.f (frame_distance clip) i j 0 row column

pub all_distances-requires-clause-len : goal.all_distances-requires-clause-len
all_distances-requires-clause-len c = grind (arith, common_steps)

pub overflow_mul-len-2 : goal.overflow_mul-len-2
overflow_mul-len-2 c = grind (arith, common_steps)

pub all_distances-requires-clause-few : goal.all_distances-requires-clause-few
all_distances-requires-clause-few c = grind (arith, common_steps)

pub overflow_mul-len : goal.overflow_mul-len
overflow_mul-len c = grind (arith, common_steps)
