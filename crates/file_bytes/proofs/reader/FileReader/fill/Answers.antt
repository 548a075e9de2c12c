use Rattle.std.proofs.lemmas.Grind.{common_steps}
use Rattle.std.proofs.Common.{◌-◌, ◌≤◌, length, take, subst, sym, arith}
use Rattle.file_bytes.specs.Reading.{Reading, Took, after_serving}
use Rattle.shelf_traits.proofs.FileLaws.{only_reads_then}
use Rattle.file_bytes.proofs.ReadingLaws.{filled_more, filled_within, took_along, took_served}
use Rattle.file_bytes.proofs.reader.FileReader.fill.Goals as goal

pub filling-preserved : goal.filling-preserved
filling-preserved g c =
    let state = g.S.Shelf.state in
    let name = c.args.name.now in
    let at = c.args.self.now.at in
    let now = state c.look.new.shelf in
    let filled = c.filling.filled in
    let r : Reading = c.look.new.self in
    let n = c.serve-filled.result in
    let part = c.serve-filled.new.into in
    let looked = c.in_ok-look.ensures {u = tt} in
    let le : n ≤ length part = omega (arith, c.serve-filled.ensures.count, c.serve-filled.auto.into) in
    let all = filled_more c.filling.into part filled (length c.filling.into - filled) n c.filling.invariant.within le in
    let took : Took name c.filling.self.at (take n part) now c.serve-filled.new.self =
    subst (λ (after : Reading). Took name c.filling.self.at (take n part) now after) (sym c.serve-filled.ensures.left)
    (subst (λ at. Took name at (take n part) now (after_serving r n)) looked.at (took_served name now r n _ part c.serve-filled.ensures.count c.serve-filled.ensures.into looked.follows)) in
    record {
      within = filled_within c.filling.into part filled (length c.filling.into - filled) n c.filling.invariant.within le;
      took = subst (λ piece. Took name at piece now c.serve-filled.new.self) (sym all)
          (took_along name at (take filled c.filling.into) (take n part) (state c.filling.shelf) now c.filling.self c.serve-filled.new.self looked.reads c.filling.invariant.took took);
      reads = only_reads_then (state c.args.shelf.now) (state c.filling.shelf) now c.filling.invariant.reads looked.reads;
    }

pub returns-then-is_empty-clause-stops : goal.returns-then-is_empty-clause-stops
returns-then-is_empty-clause-stops g c = grind (arith, common_steps)

pub returns-clause-took : goal.returns-clause-took
returns-clause-took g c = grind (arith, common_steps)

pub filling-init : goal.filling-init
filling-init g c = grind (arith, common_steps)

pub filling-smaller : goal.filling-smaller
filling-smaller g c = grind (arith, common_steps)

pub returns-then-is_empty-clause-reads : goal.returns-then-is_empty-clause-reads
returns-then-is_empty-clause-reads g c =
    let state = g.S.Shelf.state in
    only_reads_then (state c.args.shelf.now) (state c.filling.shelf) (state c.look.new.shelf) c.filling.invariant.reads (c.in_ok-look.ensures {u = tt}).reads
