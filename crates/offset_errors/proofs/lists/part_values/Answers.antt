use Rattle.std.proofs.Common.{◌+◌, ◌≡◌, ◌≤◌, ◌*◌, ap, map, ℕ, ◌++◌, ◌∷◌, List, [], sym, ◌∙◌, arith}
use Rattle.std.proofs.Math.Nat.{mul-le-mul}
use Rattle.std.specs.List.{range_with_len}
use Rattle.std.proofs.lemmas.List.FromFn.{map-range_with_len_more}
use Rattle.boxes.specs.Pairs.{at_index}
use Rattle.boxes.proofs.Indices.{at_index_is}
use Rattle.offset_errors.specs.Numbers.{part_number}
use Rattle.offset_errors.specs.Padded.{moved}
use Rattle.offset_errors.proofs.lists.part_values.Goals as goal

pub cells-preserved : goal.cells-preserved
cells-preserved c =
    let at = c.cells.at in
    let was = c.cells.invariant.1 in
    let g = moved c.args.lead c.args.part.now.size (part_number c.args.sample.now c.args.part.now.corner c.args.j) in
    let entry = c.part_entry.ensures ∙ sym (at_index_is c.args.pad g c.cells.i at.x at.y at.f was) in
    let next = c.next-at.ensures c.cells.i (record { column = was.column; row = was.row; index = was.index }) in (
      ◌∙◌ {A = List ℕ} c.in_ok-push.ensures.items (◌∙◌ {A = List ℕ} (λ k. c.cells.invariant.0 k ++ entry k ∷ [])
          (sym (map-range_with_len_more (at_index c.args.pad g) 0 c.cells.i c.cells.i (omega arith)))),
      record { column = next.column; row = next.row; index = next.index },
    )

pub next-at-requires : goal.next-at-requires
next-at-requires c =
    let at = c.cells.at in
    let is = c.cells.invariant.1 in
    let rows : 1 * at.f ≤ c.args.pad.h * at.f = mul-le-mul (omega (arith, is.row)) (omega arith) in
    let all : 1 * (at.y + c.args.pad.h * at.f) ≤ c.args.pad.w * (at.y + c.args.pad.h * at.f) = mul-le-mul (omega (arith, is.column)) (omega arith) in
    record { column = is.column; row = is.row; frame = omega (arith, rows, all, is.index, c.cells-test.true) }

pub returns : goal.returns
returns c =
    let g = moved c.args.lead c.args.part.now.size (part_number c.args.sample.now c.args.part.now.corner c.args.j) in
    let whole : c.cells.i ≡ c.args.n = omega (arith, c.cells-test.false, c.cells.auto.i-end) in
    c.cells.invariant.0 ∙ ap (λ n. map (at_index c.args.pad g) (range_with_len 0 n)) whole

pub part_entry-requires-clause-below : goal.part_entry-requires-clause-below
part_entry-requires-clause-below c = c.requires.below

pub part_entry-requires-clause-part : goal.part_entry-requires-clause-part
part_entry-requires-clause-part c = c.requires.part
