use Rattle.std.proofs.Common.{◌≡◌, ◌++◌, take}
use Rattle.y4m_clip.specs.Clips.{spaced}
use Rattle.y4m_clip.proofs.write.add_tags.Given as goal

abbrev pub invariant-loop-tag : goal.invariant-loop-tag
invariant-loop-tag l = l.line.items ≡ l.initial.line.items ++ spaced (take l.tag-index l.tags)
