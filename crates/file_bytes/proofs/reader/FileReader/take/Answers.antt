use Rattle.std.proofs.lemmas.Grind.{common_steps}
use Rattle.std.proofs.Common.{◌≡◌, ◌∙◌, ◌-◌, length, take, ap, subst, sym, arith}
use Rattle.std.proofs.Math.Seq.{take-length}
use Rattle.file_bytes.specs.Reading.{Reading, Took, after_serving}
use Rattle.file_bytes.proofs.ReadingLaws.{took_served, waiting_count}
use Rattle.file_bytes.proofs.reader.FileReader.take.Goals as goal

pub returns-then-into-self-clause-took : goal.returns-then-into-self-clause-took
returns-then-into-self-clause-took g c =
    let state = g.S.Shelf.state in
    let name = c.args.name.now in
    let now = state c.args.shelf.now in
    let r : Reading = c.args.self.now in
    let n = c.serve.result in
    let into = c.serve.new.into in
    let inside = c.self.inside in
    let waits : length r.waiting ≡ inside.end - inside.start = ap (λ (r : Reading). length r.waiting) (sym c.self.view_is)
    ∙ waiting_count inside.start inside.end inside.buffer (omega (arith, c.self.told, c.self.invariant.1)) in
    let all : n ≡ length into = omega (arith, c.serve.ensures.count, waits, c.if-into-self.true, c.serve.auto.into) in
    subst (λ (after : Reading). Took name r.at into now after) (sym c.serve.ensures.left)
    (subst (λ piece. Took name r.at piece now (after_serving r n)) (ap (λ k. take k into) all ∙ take-length into)
    (took_served name now r n c.args.into.now into c.serve.ensures.count c.serve.ensures.into c.requires.follows))

pub returns-then-into-self-clause-reads : goal.returns-then-into-self-clause-reads
returns-then-into-self-clause-reads g c = grind (arith, common_steps)
