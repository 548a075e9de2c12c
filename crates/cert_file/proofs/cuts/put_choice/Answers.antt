use Rattle.std.proofs.Common.{◌∷◌, [], subst, sym, arith}
use Rattle.std.proofs.lemmas.List.FromFn.{map-range_with_len_more}
use Rattle.std.specs.Prelude.{map}
use Rattle.std.specs.List.{range_with_len}
use Rattle.file_bytes.specs.Writing.{Puts}
use Rattle.file_bytes.proofs.WritingLaws.{put_next, put_none}
use Rattle.cert_file.specs.CutForms.{choice_byte}
use Rattle.cert_file.proofs.cuts.put_choice.Goals as goal

pub loop-j-init : goal.loop-j-init
loop-j-init g c = put_none c.args.name.now (g.S.Shelf.state c.args.shelf.now) c.args.file.now

pub loop-j-preserved : goal.loop-j-preserved
loop-j-preserved g c =
    let state = g.S.Shelf.state in
    let name = c.args.name.now in
    let byte = choice_byte c.args.choice.now in
    let j = c.loop-j.j in
    subst (λ all. Puts name all (state c.args.shelf.now) (state c.put.new.shelf) c.args.file.now c.put.new.self)
    (sym (map-range_with_len_more byte 0 j j (omega arith)))
    (put_next name (map byte (range_with_len 0 j)) (byte j ∷ []) (state c.loop-j.shelf) (state c.put.new.shelf)
    c.loop-j.file c.put.new.self c.args.file.now (state c.args.shelf.now) c.loop-j.invariant
    (subst (λ b. Puts name (b ∷ []) (state c.loop-j.shelf) (state c.put.new.shelf) c.loop-j.file c.put.new.self) c.byte_at.ensures c.put.ensures))
