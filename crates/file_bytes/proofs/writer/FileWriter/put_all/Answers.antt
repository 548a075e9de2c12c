use Rattle.std.proofs.Common.{List, ℕ, sym, subst, take}
use Rattle.std.proofs.lemmas.List.{take_all}
use Rattle.std.specs.List.{flat_map}
use Rattle.file_bytes.specs.Writing.{Puts}
use Rattle.file_bytes.proofs.WritingLaws.{fields_next, put_next, put_none}
use Rattle.file_bytes.proofs.writer.FileWriter.put_all.Goals as goal

pub loop-number-init : goal.loop-number-init
loop-number-init g c = put_none c.args.name.now (g.S.Shelf.state c.args.shelf.now) c.args.self.now

pub loop-number-preserved : goal.loop-number-preserved
loop-number-preserved g c =
    let state = g.S.Shelf.state in
    let name = c.args.name.now in
    let field = g.T.Field.field in
    let i = c.loop-number.number-index in
    let item = c.number-item.result in
    let fields : List ℕ = flat_map field (take i c.args.numbers.now) in
    let next = put_next name fields (field item) (state c.loop-number.shelf) (state c.put_number.new.shelf) c.loop-number.self c.put_number.new.self c.args.self.now (state c.args.shelf.now)
    c.loop-number.invariant c.put_number.ensures in
    subst (λ (piece : List ℕ). Puts name piece (state c.args.shelf.now) (state c.put_number.new.shelf) c.args.self.now c.put_number.new.self)
    (sym (rw (← c.number-item.is) at (fields_next field c.args.numbers.now i item c.loop-number-test.true))) next

pub returns : goal.returns
returns g c =
    subst (λ numbers. Puts c.args.name.now (flat_map g.T.Field.field numbers) (g.S.Shelf.state c.args.shelf.now) (g.S.Shelf.state c.loop-number.shelf) c.args.self.now c.loop-number.self)
    (take_all c.loop-number.number-index c.args.numbers.now c.loop-number-test.false) c.loop-number.invariant
