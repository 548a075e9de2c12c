use Rattle.std.proofs.Common.{◌≡◌, map, ◌++◌, ◌∷◌, [], ap, sym, ◌∙◌, arith}
use Rattle.std.proofs.lemmas.List.FromFn.{map-range_with_len_more}
use Rattle.std.specs.List.{range_with_len}
use Rattle.cells.specs.Places.{cell_count, place_of}
use Rattle.photo_merge.specs.Marks.{is_earlier, mark_at}
use Rattle.photo_merge.proofs.marks.earlier_marks.Goals as goal

pub loop-i-preserved : goal.loop-i-preserved
loop-i-preserved c =
    let marks = c.args.marks.now in
    let number = c.args.number in
    let its : c.is_earlier.result ≡ is_earlier number (mark_at marks (place_of c.args.size c.loop-i.i)) = c.is_earlier.ensures ∙ ap (λ p. is_earlier number (mark_at marks p)) c.place_at.ensures in
    c.in_ok-push.ensures.items
    ∙ (λ k. c.loop-i.invariant k ++ its k ∷ [])
    ∙ sym (map-range_with_len_more (λ i. is_earlier number (mark_at marks (place_of c.args.size i))) 0 c.loop-i.i c.loop-i.i (omega arith))

pub returns : goal.returns
returns c =
    let count : c.loop-i.i ≡ cell_count c.args.size = omega (arith, c.cells-count.ensures, c.loop-i-test.false, c.loop-i.auto.i-end) in
    c.loop-i.invariant ∙ ap (λ n. map (λ i. is_earlier c.args.number (mark_at c.args.marks.now (place_of c.args.size i))) (range_with_len 0 n)) count
