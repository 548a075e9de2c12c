use Rattle.std.proofs.Common.{◌≡◌, ◌<◌, ◌++◌, ◌∷◌, [], ap, sym, ◌∙◌, subst, arith}
use Rattle.std.proofs.lemmas.List.FromFn.{map-range_with_len_more}
use Rattle.std.specs.Prelude.{map, Option, Some, IfSome}
use Rattle.std.specs.List.{range_with_len}
use Rattle.cells.specs.declared.place.At.{At}
use Rattle.cells.specs.Places.{IsSmall, cell_count, place_of, places}
use Rattle.map_canvas.specs.Maps.{IsMap, IsSource}
use Rattle.photo_merge.specs.Merges.{first_map, same_place}
use Rattle.photo_merge.proofs.MapsOver.{entry_is_source, over_indices}
use Rattle.photo_merge.proofs.Stepping.{first_is_map, first_place}
use Rattle.photo_merge.proofs.Wholes.{size_of_first}
use Rattle.photo_merge.proofs.merge.first_map.Goals as goal

pub cells-count-requires : goal.cells-count-requires
cells-count-requires c = subst IsSmall (sym (size_of_first c.args.pictures.now c.sizes.result c.at-size.result c.sizes.ensures c.at-size.ensures.size)) c.samples-samples.ensures.volume.small

pub place_at-requires-clause-small : goal.place_at-requires-clause-small
place_at-requires-clause-small c = subst IsSmall (sym (size_of_first c.args.pictures.now c.sizes.result c.at-size.result c.sizes.ensures c.at-size.ensures.size)) c.samples-samples.ensures.volume.small

pub new-requires : goal.new-requires
new-requires c =
    let pictures = c.args.pictures.now in
    let f : At → Option At = λ p. Some (same_place pictures 1 p) in
    let size = size_of_first pictures c.sizes.result c.at-size.result c.sizes.ensures c.at-size.ensures.size in
    let there = place_of pictures.size c.loop-i.i in
    let its : Some c.place_at.result ≡ f there = ap Some (c.place_at.ensures ∙ ap (λ s. place_of s c.loop-i.i) size ∙ sym (first_place pictures there)) in
    let below : c.loop-i.i < cell_count pictures.size = omega (arith, c.cells-count.ensures, ap cell_count size, c.loop-i-test.true) in
    subst (λ source. IfSome source IsSource) (sym its)
    (entry_is_source f pictures.size (first_is_map pictures c.samples-samples.ensures.volume c.requires) c.loop-i.i below)

pub loop-i-preserved : goal.loop-i-preserved
loop-i-preserved c =
    let pictures = c.args.pictures.now in
    let f : At → Option At = λ p. Some (same_place pictures 1 p) in
    let size = size_of_first pictures c.sizes.result c.at-size.result c.sizes.ensures c.at-size.ensures.size in
    let there = place_of pictures.size c.loop-i.i in
    let its : c.new.result ≡ f there = c.new.ensures ∙ ap Some (c.place_at.ensures ∙ ap (λ s. place_of s c.loop-i.i) size ∙ sym (first_place pictures there)) in
    c.in_ok-push.ensures.items ∙ (λ k. c.loop-i.invariant k ++ its k ∷ [])
    ∙ sym (map-range_with_len_more (λ i. f (place_of pictures.size i)) 0 c.loop-i.i c.loop-i.i (omega arith))

pub from_sources-requires : goal.from_sources-requires
from_sources-requires c =
    let pictures = c.args.pictures.now in
    let f : At → Option At = λ p. Some (same_place pictures 1 p) in
    let size = size_of_first pictures c.sizes.result c.at-size.result c.sizes.ensures c.at-size.ensures.size in
    let cells : c.cells-count.result ≡ cell_count pictures.size = c.cells-count.ensures ∙ ap cell_count size in
    let count : cell_count pictures.size ≡ c.loop-i.i = omega (arith, cells, c.loop-i-test.false, c.loop-i.auto.i-end) in
    let items : map f (places pictures.size) ≡ c.loop-i.sources.items = over_indices f pictures.size ∙ ap (λ n. map (λ i. f (place_of pictures.size i)) (range_with_len 0 n)) count ∙ sym c.loop-i.invariant in
    let made : first_map pictures ≡ record { size = c.at-size.result; sources = c.loop-i.sources.items } = λ k. record { size = sym size k; sources = items k } in
    subst IsMap made (first_is_map pictures c.samples-samples.ensures.volume c.requires)

pub returns : goal.returns
returns c =
    let pictures = c.args.pictures.now in
    let f : At → Option At = λ p. Some (same_place pictures 1 p) in
    let size = size_of_first pictures c.sizes.result c.at-size.result c.sizes.ensures c.at-size.ensures.size in
    let cells : c.cells-count.result ≡ cell_count pictures.size = c.cells-count.ensures ∙ ap cell_count size in
    let count : cell_count pictures.size ≡ c.loop-i.i = omega (arith, cells, c.loop-i-test.false, c.loop-i.auto.i-end) in
    let items : map f (places pictures.size) ≡ c.loop-i.sources.items = over_indices f pictures.size ∙ ap (λ n. map (λ i. f (place_of pictures.size i)) (range_with_len 0 n)) count ∙ sym c.loop-i.invariant in
    c.from_sources.ensures ∙ (λ k. record { size = size k; sources = sym items k })
