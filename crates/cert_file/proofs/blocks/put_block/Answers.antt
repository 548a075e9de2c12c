use Rattle.std.proofs.Common.{◌++◌, subst}
use Rattle.file_bytes.specs.Writing.{Puts}
use Rattle.file_bytes.proofs.WritingLaws.{put_next}
use Rattle.cert_file.specs.BlockForms.{block_form, boundary_form}
use Rattle.cert_file.proofs.blocks.put_block.Goals as goal

pub returns-clause-put : goal.returns-clause-put
unfolding block_form
returns-clause-put g c =
    let state = g.S.Shelf.state in
    let name = c.args.name.now in
    let start = state c.args.shelf.now in
    let file = c.args.file.now in
    let block = c.args.block.now in
    let size = block.placement.rect.size in
    let a = c.start_bytes.result in
    let b = boundary_form size.h block.left in
    let d = boundary_form size.w block.top in
    subst (λ piece. Puts name (piece ++ b ++ d) start (state c.put_side-2.new.shelf) file c.put_side-2.new.file) c.start_bytes.ensures
    (put_next name (a ++ b) d (state c.put_side.new.shelf) (state c.put_side-2.new.shelf) c.put_side.new.file c.put_side-2.new.file file start
    (put_next name a b (state c.put.new.shelf) (state c.put_side.new.shelf) c.put.new.self c.put_side.new.file file start c.put.ensures c.put_side.ensures.put)
    c.put_side-2.ensures.put)
