use Rattle.std.proofs.Common.{◌≡◌, drop}
use Rattle.y4m_clip.specs.Clips.{tag_value}
use Rattle.y4m_clip.proofs.head.value_of.Given as goal

abbrev pub invariant-loop-tag : goal.invariant-loop-tag
invariant-loop-tag l = tag_value l.letter (drop l.tag-index l.tags) ≡ tag_value l.letter l.tags
