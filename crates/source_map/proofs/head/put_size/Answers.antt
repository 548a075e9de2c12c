use Rattle.std.proofs.Common.{◌++◌}
use Rattle.file_bytes.specs.Fields.{field_32}
use Rattle.file_bytes.proofs.WritingLaws.{put_next}
use Rattle.source_map.proofs.head.put_size.Goals as goal

pub returns : goal.returns
returns g c =
    let state = g.S.Shelf.state in
    let name = c.args.name.now in
    let size = c.args.size in
    let start = state c.args.shelf.now in
    let a = state c.put_number.new.shelf in
    let b = state c.put_number-2.new.shelf in
    put_next name (field_32 size.w ++ field_32 size.h) (field_32 size.f) b (state c.put_number-3.new.shelf) c.put_number-2.new.self c.put_number-3.new.self c.args.file.now start
    (put_next name (field_32 size.w) (field_32 size.h) a b c.put_number.new.self c.put_number-2.new.self c.args.file.now start c.put_number.ensures c.put_number-2.ensures)
    c.put_number-3.ensures
