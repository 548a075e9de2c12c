use Rattle.std.proofs.Common.{◌<◌, ◌++◌, ◌∙◌, append_assoc, length, take, sym, subst, ap, arith}
use Rattle.std.proofs.lemmas.List.{take_all}
use Rattle.std.specs.List.{flat_map}
use Rattle.file_bytes.specs.Writing.{Puts}
use Rattle.file_bytes.proofs.WritingLaws.{put_next, fields_next}
use Rattle.source_map.specs.Heads.{count_field, size_field}
use Rattle.source_map.proofs.HeadWriting.{size_next}
use Rattle.source_map.proofs.head.put_samples.Goals as goal

pub loop-part-preserved : goal.loop-part-preserved
loop-part-preserved g c =
    let state = g.S.Shelf.state in
    let name = c.args.name.now in
    let sizes = c.args.samples.now in
    let i = c.loop-part.part in
    let size = c.at.result in
    let count = count_field c.args.version (length sizes) in
    let front = flat_map size_field (take i sizes) in
    let lt : i < length sizes = omega (arith, c.loop-part-test.true, c.len-count.ensures.len) in
    let all = fields_next size_field sizes i size lt ∙ ap (λ s. front ++ size_field s) (size_next sizes i size c.at.ensures.size) in
    subst (λ all. Puts name all (state c.args.shelf.now) (state c.put_size.new.shelf) c.args.file.now c.put_size.new.file)
    (append_assoc count front (size_field size) ∙ ap (λ t. count ++ t) (sym all))
    (put_next name (count ++ front) (size_field size) (state c.loop-part.shelf) (state c.put_size.new.shelf)
    c.loop-part.file c.put_size.new.file c.args.file.now (state c.args.shelf.now) c.loop-part.invariant c.put_size.ensures)

pub returns : goal.returns
returns g c =
    let state = g.S.Shelf.state in
    let sizes = c.args.samples.now in
    subst (λ all. Puts c.args.name.now (count_field c.args.version (length sizes) ++ flat_map size_field all) (state c.args.shelf.now) (state c.loop-part.shelf) c.args.file.now c.loop-part.file)
    (take_all c.loop-part.part sizes (omega (arith, c.loop-part-test.false, c.len-count.ensures.len))) c.loop-part.invariant
