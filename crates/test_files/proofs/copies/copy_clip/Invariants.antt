use Rattle.std.proofs.Common.{◌≡◌}
use Rattle.y4m_clip.specs.Writing.{writer_of}
use Rattle.test_files.proofs.copies.copy_clip.Given as goal

abbrev pub invariant-loop-f : goal.invariant-loop-f
invariant-loop-f l = l.writer ≡ writer_of l.clip.form l.clip.volume.size
