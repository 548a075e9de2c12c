use Rattle.std.proofs.Common.{◌++◌, ◌∷◌, [], subst}
use Rattle.file_bytes.specs.Writing.{Puts}
use Rattle.file_bytes.proofs.WritingLaws.{put_next}
use Rattle.source_map.specs.Heads.{size_field}
use Rattle.source_map.proofs.head.put_start.Goals as goal

pub returns : goal.returns
returns g c =
    let state = g.S.Shelf.state in
    let name = c.args.name.now in
    let start = state c.args.shelf.now in
    let file = c.args.file.now in
    let marks = c.number.result ∷ c.args.kind ∷ [] in
    let output = size_field c.args.output in
    subst (λ v. Puts name (c.args.magic ++ v ∷ c.args.kind ∷ [] ++ output) start (state c.put_size.new.shelf) file c.put_size.new.file) c.number.ensures
    (put_next name (c.args.magic ++ marks) output (state c.put-2.new.shelf) (state c.put_size.new.shelf) c.put-2.new.self c.put_size.new.file file start
    (put_next name c.args.magic marks (state c.put.new.shelf) (state c.put-2.new.shelf) c.put.new.self c.put-2.new.self file start c.put.ensures c.put-2.ensures)
    c.put_size.ensures)
