use Rattle.std.proofs.Common.{◌+◌, ◌-◌, ◌*◌, ◌++◌, ◌∷◌, [], ◌∙◌, length, subst, sym, ap, arith}
use Rattle.std.proofs.lemmas.Result.{err_from_is_err_and}
use Rattle.shelf_traits.proofs.FileLaws.{only_reads_same, only_reads_then}
use Rattle.std.specs.List.{flat_map}
use Rattle.std.specs.Prelude.{vec_capacity, vec_len}
use Rattle.file_bytes.specs.Reading.{Took}
use Rattle.file_bytes.proofs.ReadingLaws.{field_within, one_wider, room_made, stops_later, stops_list, took_nothing, took_number}
use Rattle.file_bytes.proofs.reader.FileReader.list.Goals as goal

pub loop-i-preserved : goal.loop-i-preserved
loop-i-preserved g c =
    let state = g.S.Shelf.state in
    let name = c.args.name.now in
    let at = c.args.self.now.at in
    let before = state c.loop-i.shelf in
    let after = state c.number.new.shelf in
    let n = c.in_ok-number.number in
    let read = c.in_ok-number.ensures {u = tt} in
    let all = c.push_reserved.ensures.items ∙ ap (λ items. items ++ n ∷ []) c.make_room.ensures.items in
    let took = took_number name g.T.Field.field at c.loop-i.numbers.items n before after c.loop-i.self c.number.new.self read.reads c.loop-i.invariant.took read.took in
    record {
      count = omega (arith, c.push_reserved.ensures.len, ap length c.make_room.ensures.items);
      at = omega (arith, read.took.at_is, c.loop-i.invariant.at, g.met.T.Field.long n, one_wider g.T.Field.WIDTH c.loop-i.i);
      took = subst (λ items. Took name at (flat_map g.T.Field.field items) after c.number.new.self) (sym all) took;
      reads = only_reads_then (state c.args.shelf.now) before after c.loop-i.invariant.reads read.reads;
    }

pub loop-i-init : goal.loop-i-init
loop-i-init g c =
    let now = g.S.Shelf.state c.args.shelf.now in
    let name = c.args.name.now in
    record {
      count = c.new-numbers.ensures.len;
      at = omega arith;
      took = subst (λ items. Took name c.args.self.now.at (flat_map g.T.Field.field items) now c.args.self.now) (sym c.new-numbers.ensures.items)
          (took_nothing name now c.args.self.now c.requires.follows);
      reads = only_reads_same now;
    }

pub number-requires-clause-room : goal.number-requires-clause-room
number-requires-clause-room g c = omega (arith, c.requires.room, c.loop-i.invariant.at, field_within g.T.Field.WIDTH c.loop-i.i c.args.count c.loop-i-test.true)

pub push_reserved-requires : goal.push_reserved-requires
push_reserved-requires g c =
    let room = c.in_ok-make_room.ensures {u = tt} in
    room_made (vec_len c.loop-i.numbers) (vec_len c.make_room.new.items) (vec_capacity c.loop-i.numbers) (vec_capacity c.make_room.new.items) (c.args.count - c.loop-i.i)
    (omega (arith, ap length room.items)) room.kept room.grown (omega (arith, c.loop-i-test.true))

pub returns-in_err-number-clause-stops : goal.returns-in_err-number-clause-stops
returns-in_err-number-clause-stops g c =
    let state = g.S.Shelf.state in
    let name = c.args.name.now in
    let end = c.args.self.now.at + g.T.Field.WIDTH * c.args.count in
    let was = state c.args.shelf.now in
    let now = state c.number.new.shelf in
    let error = c.in_err-number.field-0.0 in
    let p = err_from_is_err_and c.from_residual-in_err-number.result c.from_residual-in_err-number.ensures.1 in
    rw (p.1, p.2)
    (stops_list name end was now error
    (stops_later name (c.loop-i.self.at + g.T.Field.WIDTH) end was (state c.loop-i.shelf) now error
    (omega (arith, c.loop-i.invariant.at, field_within g.T.Field.WIDTH c.loop-i.i c.args.count c.loop-i-test.true)) c.loop-i.invariant.reads
    (c.in_err-number.ensures {u = tt}).stops))

pub returns-in_err-number-clause-reads : goal.returns-in_err-number-clause-reads
returns-in_err-number-clause-reads g c =
    let state = g.S.Shelf.state in
    only_reads_then (state c.args.shelf.now) (state c.loop-i.shelf) (state c.number.new.shelf) c.loop-i.invariant.reads (c.in_err-number.ensures {u = tt}).reads
