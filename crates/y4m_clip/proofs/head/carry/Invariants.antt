use Rattle.std.proofs.Common.{◌≡◌, drop, ◌++◌}
use Rattle.y4m_clip.specs.Clips.{carried}
use Rattle.y4m_clip.proofs.head.carry.Given as goal

abbrev pub invariant-loop-tag : goal.invariant-loop-tag
invariant-loop-tag l = l.list.items ++ carried (drop l.tag-index l.tags) ≡ carried l.tags
