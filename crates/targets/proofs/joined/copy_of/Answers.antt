use Rattle.std.proofs.Common.{subst, sym, ◌≡◌, ◌∙◌, ◌*◌, ◌++◌, length, ap}
use Rattle.cells.specs.Places.{IsSmall, cell_count}
use Rattle.cells.specs.Cells.{bytes_of, volume_of}
use Rattle.cells.specs.Parts.{count_from}
use Rattle.map_canvas.proofs.FromMaps.{bytes_count, volume_of_cells}
use Rattle.targets.proofs.Joining.{single}
use Rattle.targets.proofs.joined.copy_of.Goals as goal

pub from_bytes-requires-clause-whole : goal.from_bytes-requires-clause-whole
from_bytes-requires-clause-whole c =
    let v = c.args.volume.now in
    let volume = c.samples-k.ensures.volume in
    let items : c.extend_from_slice.new.self.items ≡ bytes_of v = c.in_ok-extend_from_slice.ensures.items ∙ ap (λ xs. xs ++ c.bytes-all.result.now) c.in_ok-bytes.ensures.items ∙ c.bytes-all.ensures in
    ap length items
    ∙ bytes_count v.size v.k v.cells volume.cells (volume.count ∙ ap (count_from v.size) c.requires)
    ∙ (λ i. sym c.samples-k.ensures.samples i * cell_count (sym c.size-size.ensures.size i))

pub returns : goal.returns
returns c =
    let v = c.args.volume.now in
    let volume = c.samples-k.ensures.volume in
    let items : c.extend_from_slice.new.self.items ≡ bytes_of v = c.in_ok-extend_from_slice.ensures.items ∙ ap (λ xs. xs ++ c.bytes-all.result.now) c.in_ok-bytes.ensures.items ∙ c.bytes-all.ensures in
    c.from_bytes.ensures.volume
    ∙ (λ i. volume_of (c.size-size.ensures.size i) (c.samples-k.ensures.samples i) (items i))
    ∙ volume_of_cells v.size v.k v.cells volume.cells (volume.count ∙ ap (count_from v.size) c.requires)
    ∙ sym (single v c.requires)

pub from_bytes-requires-clause-small : goal.from_bytes-requires-clause-small
from_bytes-requires-clause-small c = subst IsSmall (sym c.size-size.ensures.size) c.size-size.ensures.volume.small
