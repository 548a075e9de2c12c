use Rattle.std.proofs.Common.{◌≡◌, take, length}
use Rattle.shelf_traits.specs.Decimals.{capped}
use Rattle.y4m_clip.specs.Clips.{spaced}
use Rattle.y4m_clip.proofs.head.spaced_length.Given as goal

abbrev pub invariant-loop-tag : goal.invariant-loop-tag
invariant-loop-tag l = l.total ≡ capped (length (spaced (take l.tag-index l.tags)))
