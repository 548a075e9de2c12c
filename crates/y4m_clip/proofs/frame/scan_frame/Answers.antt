use Rattle.std.proofs.lemmas.Grind.{common_steps}
use Rattle.std.proofs.Common.{◌≡◌, ◌-◌, length, take, drop, arith, subst}
use Rattle.std.proofs.lemmas.List.{take_all, length-drop}
use Rattle.y4m_clip.specs.Frames.{IsFirstEnd}
use Rattle.y4m_clip.proofs.FrameLines.{wrong_early, open_short, with_byte, line_words}
use Rattle.y4m_clip.proofs.frame.scan_frame.Goals as goal

pub returns-then-n-text-clause-scanned : goal.returns-then-n-text-clause-scanned
returns-then-n-text-clause-scanned c = wrong_early c.args.text.now c.matched-n.result c.matched-n.ensures c.if-n-lt5.true c.if-n-text.true

pub returns-else-n-eq0-clause-scanned : goal.returns-else-n-eq0-clause-scanned
returns-else-n-eq0-clause-scanned c = (omega (arith, c.matched-n.ensures.inside), open_short c.args.text.now c.matched-n.result c.matched-n.ensures c.if-n-text.false)

pub returns-in-Some-clause-scanned : goal.returns-in-Some-clause-scanned
returns-in-Some-clause-scanned c =
    let rest : take (length c.args.text.now - 6) (drop 6 c.args.text.now) ≡ drop 6 c.args.text.now = take_all (length c.args.text.now - 6) (drop 6 c.args.text.now) (omega (arith, length-drop 6 c.args.text.now)) in
    let end : IsFirstEnd (drop 6 c.args.text.now) c.in-Some.i = subst (λ t. IsFirstEnd t c.in-Some.i) rest c.in-Some.ensures.some in (
      omega (arith, end.inside, length-drop 6 c.args.text.now),
      line_words c.args.text.now c.in-Some.i (with_byte c.args.text.now c.matched-n.result c.matched-n.ensures c.if-n-lt5.false (omega (arith, c.matched-n.ensures.inside, c.if-n-lt5.false))) c.in-32.is end,
    )

pub returns-in-None-clause-scanned : goal.returns-in-None-clause-scanned
returns-in-None-clause-scanned c = grind (arith, common_steps)

pub returns-then-text-eq5-clause-scanned : goal.returns-then-text-eq5-clause-scanned
returns-then-text-eq5-clause-scanned c = grind (arith, common_steps)

pub returns-in-10-clause-scanned : goal.returns-in-10-clause-scanned
returns-in-10-clause-scanned c = grind (arith, common_steps)

pub returns-in_default-clause-scanned : goal.returns-in_default-clause-scanned
returns-in_default-clause-scanned c = grind (arith, common_steps)

pub returns-then-n-eq0-clause-scanned : goal.returns-then-n-eq0-clause-scanned
returns-then-n-eq0-clause-scanned c = grind (arith, common_steps)
