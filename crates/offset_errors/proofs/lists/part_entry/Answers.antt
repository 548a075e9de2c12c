use Rattle.std.proofs.lemmas.Grind.{common_steps}
use Rattle.std.proofs.Common.{sym, ◌∙◌, subst, arith}
use Rattle.cells.specs.Places.{SumFits}
use Rattle.offset_errors.proofs.Meetings.{moved_is}
use Rattle.offset_errors.proofs.lists.part_entry.Goals as goal

pub plus-requires : goal.plus-requires
plus-requires c =
    let lead = c.args.lead in
    let part = c.args.part.now in
    let at = c.args.at in
    let is = moved_is lead part.size at.x at.y at.f (sym c.is_in_part.ensures ∙ c.if-not-is_in_part.false) in
    subst (SumFits part.corner) (sym c.place.ensures)
    (c.requires.part.sums _ _ _ (record {
      column = omega (arith, is.along_x.from, is.along_x.to, c.requires.lead.w.0);
      row = omega (arith, is.along_y.from, is.along_y.to, c.requires.lead.h.0);
      frame = omega (arith, is.along_f.from, is.along_f.to, c.requires.lead.f.0);
    }))

pub returns : goal.returns
returns c = grind (arith, common_steps)

pub sample_entry-requires-clause-below : goal.sample_entry-requires-clause-below
sample_entry-requires-clause-below c = c.requires.below

pub overflow_sub-own-5 : goal.overflow_sub-own-5
overflow_sub-own-5 c = omega arith

pub overflow_sub-own-3 : goal.overflow_sub-own-3
overflow_sub-own-3 c = omega arith

pub overflow_sub-own : goal.overflow_sub-own
overflow_sub-own c = omega arith

pub overflow_sub-own-6 : goal.overflow_sub-own-6
overflow_sub-own-6 c = grind (arith, common_steps)

pub overflow_sub-own-4 : goal.overflow_sub-own-4
overflow_sub-own-4 c = grind (arith, common_steps)

pub place-requires : goal.place-requires
place-requires c = grind (arith, common_steps)

pub overflow_sub-own-2 : goal.overflow_sub-own-2
overflow_sub-own-2 c = grind (arith, common_steps)

pub sample_entry-requires-clause-cell : goal.sample_entry-requires-clause-cell
sample_entry-requires-clause-cell c = grind (arith, common_steps)
