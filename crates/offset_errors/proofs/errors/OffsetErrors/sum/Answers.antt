use Rattle.std.proofs.Common.{arith, ◌≡◌, ◌∙◌, length, sym, subst}
use Rattle.std.proofs.lemmas.Grind.{common_steps}
use Rattle.std.specs.Prelude.{Some, slice_get}
use Rattle.std.proofs.lemmas.Option.{get_or_from_slice_get}
use Rattle.cells.specs.Places.{raster_index}
use Rattle.match_error.specs.Errors.{error_sum}
use Rattle.offset_errors.specs.Errors.{AreErrors, sum_index}
use Rattle.offset_errors.specs.Offsets.{IsAtOffset}
use Rattle.offset_errors.proofs.errors.OffsetErrors.sum.Goals as goal

pub returns-in-Some : goal.returns-in-Some
returns-in-Some c = λ m sample are fits.
    let at = c.self.inside in
    let x = c.in_ok-x.x in
    let y = c.in_ok-y.y in
    let f = c.in_ok-f.f in
    let pad = at.layout.pad in
    let own : AreErrors m sample (record { rect = at.rect; part = at.part; layout = at.layout; sums = at.sums.items }) = subst (AreErrors m sample) (sym c.self.view_is) are in
    let on_x = c.in_ok-x.ensures {u = tt} in
    let on_y = c.in_ok-y.ensures {u = tt} in
    let on_f = c.in_ok-f.ensures {u = tt} in
    let to = c.args.placement.now in
    let placed : IsAtOffset pad at.layout.lead at.rect at.part x y f to = record {
      below = record { column = on_x.below; row = on_y.below; frame = on_f.below };
      apart = record { on_x = on_x.apart; on_y = on_y.apart; on_f = on_f.apart };
      a = c.in_ok-a.a.x;
      b = c.in_ok-a.a.y;
      c = c.in_ok-a.a.f;
      t = c.in_ok-t.t.x;
      u = c.in_ok-t.t.y;
      v = c.in_ok-t.t.f;
      corner = c.in_ok-a.ensures;
      from = c.in_ok-t.ensures;
      on_x = on_x.shared;
      on_y = on_y.shared;
      on_f = on_f.shared;
    } in
    let here = own.each to x y f fits placed in
    let index : c.index_at.result ≡ raster_index pad x y f = c.index_at.ensures in
    let count : c.len-n.result ≡ length at.sums.items = c.len-n.ensures ∙ at.sums.ok.0 in
    let place : c.sum_index-i.result ≡ sum_index (length at.sums.items) (raster_index pad x y f) = c.sum_index-i.ensures ∙ (λ i. sum_index (count i) (index i)) in
    let there : slice_get c.deref.result.now c.sum_index-i.result ≡ Some (error_sum m sample to) = (λ i. slice_get (c.deref.ensures.value i) (place i)) ∙ here in
    (c.in-Some.ensures {u = tt}).lookup.1 ∙ get_or_from_slice_get c.deref.result.now c.sum_index-i.result (error_sum m sample to) _ there

pub index_at-requires-clause-size : goal.index_at-requires-clause-size
index_at-requires-clause-size c = omega arith

pub index_at-requires-clause-counts : goal.index_at-requires-clause-counts
index_at-requires-clause-counts c = grind (arith, common_steps)

pub offset_on-requires-3-clause-axis : goal.offset_on-requires-3-clause-axis
offset_on-requires-3-clause-axis c = omega arith

pub returns-in_err-f : goal.returns-in_err-f
returns-in_err-f c = grind (arith, common_steps)

pub returns-in_err-y : goal.returns-in_err-y
returns-in_err-y c = grind (arith, common_steps)

pub returns-in_err-x : goal.returns-in_err-x
returns-in_err-x c = grind (arith, common_steps)

pub sum_index-i-requires : goal.sum_index-i-requires
sum_index-i-requires c = grind (arith, common_steps)

pub returns-in_err-t : goal.returns-in_err-t
returns-in_err-t c = grind (arith, common_steps)

pub offset_on-requires-2-clause-axis : goal.offset_on-requires-2-clause-axis
offset_on-requires-2-clause-axis c = omega arith

pub offset_on-requires-3-clause-rect : goal.offset_on-requires-3-clause-rect
offset_on-requires-3-clause-rect c = omega arith

pub offset_on-requires-3-clause-part : goal.offset_on-requires-3-clause-part
offset_on-requires-3-clause-part c = omega arith

pub offset_on-requires-2-clause-rect : goal.offset_on-requires-2-clause-rect
offset_on-requires-2-clause-rect c = omega arith

pub offset_on-requires-clause-axis : goal.offset_on-requires-clause-axis
offset_on-requires-clause-axis c = omega arith

pub offset_on-requires-2-clause-part : goal.offset_on-requires-2-clause-part
offset_on-requires-2-clause-part c = omega arith

pub offset_on-requires-clause-rect : goal.offset_on-requires-clause-rect
offset_on-requires-clause-rect c = omega arith

pub offset_on-requires-clause-part : goal.offset_on-requires-clause-part
offset_on-requires-clause-part c = omega arith

pub returns-in_err-a : goal.returns-in_err-a
returns-in_err-a c = grind (arith, common_steps)

pub get-requires : goal.get-requires
get-requires c = grind (arith, common_steps)
