use Rattle.std.proofs.Common.{◌≡◌, drop, ◌++◌, []}
use Rattle.y4m_clip.specs.Reading.{gathered}
use Rattle.y4m_clip.proofs.line.gather_all.Given as goal

abbrev pub invariant-loop-byte : goal.invariant-loop-byte
invariant-loop-byte l = l.tags.items ++ gathered l.word.items (drop l.byte-index l.text) ≡ gathered [] l.text
