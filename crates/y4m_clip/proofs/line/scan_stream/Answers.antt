use Rattle.std.proofs.Common.{subst}
use Rattle.y4m_clip.specs.Scanning.{RunsInLine, BreaksInLine, EndsInLine}
use Rattle.y4m_clip.proofs.Prefixes.{whole_rest, magic_broken, magic_open, with_magic, line_open, line_broken, line_ended}
use Rattle.y4m_clip.proofs.line.scan_stream.Goals as goal

pub returns-then-n-text-clause-scanned : goal.returns-then-n-text-clause-scanned
returns-then-n-text-clause-scanned c = magic_broken c.args.text.now c.matched-n.result c.matched-n.ensures c.if-n-lt9.true c.if-n-text.true

pub returns-else-n-text-clause-scanned : goal.returns-else-n-text-clause-scanned
returns-else-n-text-clause-scanned c = magic_open c.args.text.now c.matched-n.result c.matched-n.ensures c.if-n-lt9.true c.if-n-text.false

pub returns-in-Open-clause-scanned : goal.returns-in-Open-clause-scanned
returns-in-Open-clause-scanned c = line_open c.args.text.now (with_magic c.args.text.now c.matched-n.result c.matched-n.ensures c.if-n-lt9.false) (subst RunsInLine (whole_rest c.args.text.now) c.in-Open.ensures.scanned)

pub returns-in-Broken-clause-scanned : goal.returns-in-Broken-clause-scanned
returns-in-Broken-clause-scanned c = line_broken c.args.text.now c.in-Broken.i (with_magic c.args.text.now c.matched-n.result c.matched-n.ensures c.if-n-lt9.false) (subst (λ t. BreaksInLine t c.in-Broken.i) (whole_rest c.args.text.now) c.in-Broken.ensures.scanned)

pub returns-in-Ended-clause-scanned : goal.returns-in-Ended-clause-scanned
returns-in-Ended-clause-scanned c = line_ended c.args.text.now c.in-Ended.n (with_magic c.args.text.now c.matched-n.result c.matched-n.ensures c.if-n-lt9.false) (subst (λ t. EndsInLine t c.in-Ended.n) (whole_rest c.args.text.now) c.in-Ended.ensures.scanned)
