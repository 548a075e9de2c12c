use Rattle.std.proofs.Common.{◌≡◌, ◌++◌, ◌∷◌, [], ap, sym, ◌∙◌, subst, arith}
use Rattle.std.proofs.lemmas.List.FromFn.{map-range_with_len_more}
use Rattle.std.specs.Prelude.{map, Option}
use Rattle.std.specs.List.{range_with_len}
use Rattle.cells.specs.declared.place.At.{At}
use Rattle.cells.specs.Places.{cell_count, place_of, places}
use Rattle.map_canvas.specs.Maps.{IsMap}
use Rattle.photo_merge.specs.Merges.{source_without, without}
use Rattle.photo_merge.proofs.MapsOver.{over_indices}
use Rattle.photo_merge.proofs.Withouts.{without_is_map}
use Rattle.photo_merge.proofs.merge.without.Goals as goal

pub loop-i-preserved : goal.loop-i-preserved
loop-i-preserved c =
    let m = c.args.map.now in
    let f : At → Option At = source_without m c.args.marks.now c.args.number in
    let its : c.new.result ≡ f (place_of m.size c.loop-i.i) = c.new.ensures ∙ c.source_without-source.ensures.without ∙ ap f (c.place_at.ensures ∙ ap (λ size. place_of size c.loop-i.i) c.size-size.ensures.size) in
    c.in_ok-push.ensures.items ∙ (λ k. c.loop-i.invariant k ++ its k ∷ [])
    ∙ sym (map-range_with_len_more (λ i. f (place_of m.size i)) 0 c.loop-i.i c.loop-i.i (omega arith))

pub from_sources-requires : goal.from_sources-requires
from_sources-requires c =
    let m = c.args.map.now in
    let f : At → Option At = source_without m c.args.marks.now c.args.number in
    let size : c.size-size.result ≡ m.size = c.size-size.ensures.size in
    let cells : c.cells-count.result ≡ cell_count m.size = c.cells-count.ensures ∙ ap cell_count size in
    let count : cell_count m.size ≡ c.loop-i.i = omega (arith, cells, c.loop-i-test.false, c.loop-i.auto.i-end) in
    let items : map f (places m.size) ≡ c.loop-i.sources.items = over_indices f m.size ∙ ap (λ n. map (λ i. f (place_of m.size i)) (range_with_len 0 n)) count ∙ sym c.loop-i.invariant in
    let made : without m c.args.marks.now c.args.number ≡ record { size = c.size-size.result; sources = c.loop-i.sources.items } = λ k. record { size = sym size k; sources = items k } in
    subst IsMap made (without_is_map m c.args.marks.now c.args.number c.size-size.ensures.map)

pub returns : goal.returns
returns c =
    let m = c.args.map.now in
    let f : At → Option At = source_without m c.args.marks.now c.args.number in
    let size : c.size-size.result ≡ m.size = c.size-size.ensures.size in
    let cells : c.cells-count.result ≡ cell_count m.size = c.cells-count.ensures ∙ ap cell_count size in
    let count : cell_count m.size ≡ c.loop-i.i = omega (arith, cells, c.loop-i-test.false, c.loop-i.auto.i-end) in
    let items : map f (places m.size) ≡ c.loop-i.sources.items = over_indices f m.size ∙ ap (λ n. map (λ i. f (place_of m.size i)) (range_with_len 0 n)) count ∙ sym c.loop-i.invariant in
    c.from_sources.ensures ∙ (λ k. record { size = size k; sources = sym items k })
