use Rattle.std.proofs.Common.{◌≡◌, ◌+◌, ◌<◌, ◌∷◌, ◌++◌, length, drop, get_or, refl, sym, ap, ◌∙◌, arith, add-one, drop-cons}
use Rattle.std.proofs.lemmas.Grind.{common_steps}
use Rattle.y4m_clip.specs.Reading.{gathered}
use Rattle.y4m_clip.proofs.line.gather_all.Goals.{in-Ink+in_ok-push-in-Ink, in_default+in_ok-flush-in_default}
use Rattle.y4m_clip.proofs.line.gather_all.Goals as goal

pub loop-byte-preserved : goal.loop-byte-preserved
loop-byte-preserved c =
    let text = c.args.text.now in
    let i = c.loop-byte.byte-index in
    let below : i < length text = c.loop-byte-test.true in
    let next : drop i text ≡ get_or text i 0 ∷ drop (i + 1) text = rw (add-one, drop-cons text i 0) refl in
    let before = ap (λ rest. c.loop-byte.tags.items ++ gathered c.loop-byte.word.items rest) (sym next) ∙ c.loop-byte.invariant in
    elim c.match-classify.branch [
      | in-Ink+in_ok-push-in-Ink w ↦ grind (arith, common_steps, before)
      | in_default+in_ok-flush-in_default w ↦ grind (arith, common_steps, before)
    ]

pub returns : goal.returns
returns c = grind (arith, common_steps)
