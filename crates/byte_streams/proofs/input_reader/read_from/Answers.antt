use Rattle.std.proofs.Common.{rules, ◌≡◌, ◌≤◌, ◌++◌, length, take, subst, sym}
use Rattle.byte_streams.specs.Readers.{FileFollows}
use Rattle.byte_streams.specs.Tails.{tail_of}
use Rattle.byte_streams.proofs.Kept.{kept_on}
use Rattle.byte_streams.proofs.input_reader.read_from.Goals as goal

pub returns-clause-follows : goal.returns-clause-follows
returns-clause-follows g c =
    let n = c.in-Ok.n in
    let into = c.read_on.new.into in
    let kept = c.stand_at.new.last in
    let within : n ≤ length into = search rules in
    let is : c.keep_end.new.self ≡ tail_of g.row.KEPT (kept ++ take n into) = search rules in
    subst (λ bytes. FileFollows bytes (g.F.InputFile.place c.read_on.new.file) c.checked_add.result c.keep_end.new.self) (sym c.in-Ok.ensures.kept)
    (subst (λ l. FileFollows (g.F.InputFile.bytes c.stand_at.new.file) (g.F.InputFile.place c.read_on.new.file) c.checked_add.result l) (sym is)
    (kept_on _ _ _ c.args.at n g.row.KEPT kept into c.checked_add.result within c.in_ok-stand_at.ensures.stands c.in-Ok.ensures.read c.in-Ok.ensures.moved c.checked_add.ensures))
