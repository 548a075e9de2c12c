use Rattle.std.proofs.Common.{◌≡◌, ◌+◌, ◌-◌, ◌<◌, ℕ, List, [], ◌∷◌, ◌++◌, ◌∙◌, ap, arith, length, subst, sym}
use Rattle.std.proofs.lemmas.List.Elements.{All-push}
use Rattle.std.proofs.lemmas.Result.{err_from_is_err_and}
use Rattle.std.specs.Int.{w16}
use Rattle.std.specs.Prelude.{All, Result, Ok, Err, vec_capacity, vec_len}
use Rattle.shelf_traits.specs.declared.fault.ReadError.{ReadError}
use Rattle.shelf_traits.proofs.FileLaws.{only_reads_same, only_reads_then}
use Rattle.cells.specs.declared.place.Size.{Size}
use Rattle.file_bytes.specs.Reading.{OfFile}
use Rattle.file_bytes.proofs.ReadingLaws.{still}
use Rattle.source_map.specs.declared.map_file.MapFile.{MapFile}
use Rattle.source_map.specs.declared.map_file.MapFile.TheVariants.{Frames}
use Rattle.source_map.specs.MapFiles.{below_rule, frames_read, sample_read}
use Rattle.source_map.specs.Readings.{Found, ReadsFrom, list_read, number_read}
use Rattle.source_map.proofs.FieldLaws.{after_value, chain, first_stops, lifted, list_more, list_stops, made, room_made, then_reads}
use Rattle.source_map.proofs.map_reading.read_frames.Goals as goal

abbrev end : Size → Size → List ℕ → ℕ → List ℕ → Result (MapFile × ℕ) ReadError
end size sample frames at bytes = Ok (Frames size sample frames, at)

abbrev rest : Size → Size → ℕ → List ℕ → Result (MapFile × ℕ) ReadError
rest size sample = chain (list_read (number_read w16 (below_rule sample.f)) size.f) (end size sample)

pub returns-in_err-sample-clause-answer : goal.returns-in_err-sample-clause-answer
returns-in_err-sample-clause-answer g c =
    let name = c.args.name.now in
    let place = c.args.file.now.at in
    let was = g.S.Shelf.state c.args.shelf.now in
    let now = g.S.Shelf.state c.read_sample.new.shelf in
    let r = c.read_sample.new.file in
    let e = c.in_err-sample.field-0.0 in
    let p = err_from_is_err_and c.from_residual.result c.from_residual.ensures.1 in
    rw (p.1, p.2)
    (first_stops (Unit {0}) name place (sample_read c.args.size) (rest c.args.size) was now r e
    (lifted (Unit {0}) name place (sample_read c.args.size) was now r (Err e) c.in_err-sample.ensures.answer))

pub loop-i-init : goal.loop-i-init
loop-i-init g c =
    let name = c.args.name.now in
    let place = c.args.file.now.at in
    let b = g.S.Shelf.state c.read_sample.new.shelf in
    let r = c.read_sample.new.file in
    let ok = c.in_ok-sample.ensures {u = tt} in
    let sample = c.in_ok-sample.sample in
    record {
      sample = subst (λ k. OfFile name b.files (λ bytes. sample_read c.args.size place bytes ≡ Ok (sample, k))) ok.place ok.answer.is;
      found = subst (λ items. Found name (place + 12) b r (list_read (number_read w16 (below_rule sample.f)) 0) items) (sym c.new-frames.ensures.items)
          (subst (λ k. Found {A = List ℕ} name k b r (list_read (number_read w16 (below_rule sample.f)) 0) []) ok.place (made ⊥ name b b r [] ok.answer.follows));
      count = c.new-frames.ensures.len;
      below = subst (All (λ e. e < sample.f)) (sym c.new-frames.ensures.items) (λ i d lt. absurd (omega (arith, lt)));
      at = omega (arith, ok.place);
      reads = ok.reads;
    }

pub returns-in_err-frame-clause-answer : goal.returns-in_err-frame-clause-answer
returns-in_err-frame-clause-answer g c =
    let state = g.S.Shelf.state in
    let name = c.args.name.now in
    let size = c.args.size in
    let sample = c.in_ok-sample.sample in
    let read = number_read w16 (below_rule sample.f) in
    let place = c.args.file.now.at in
    let was = state c.args.shelf.now in
    let b = state c.loop-i.shelf in
    let d = state c.read_below.new.shelf in
    let r = c.read_below.new.file in
    let e = c.in_err-frame.field-0.0 in
    let so = c.loop-i.invariant in
    let p = err_from_is_err_and c.from_residual-in_err-frame.result c.from_residual-in_err-frame.ensures.1 in
    rw (p.1, p.2)
    (after_value (Unit {0}) name place (place + 12) (sample_read size) (rest size) was d r sample (Err e)
    (still name (λ bytes. sample_read size place bytes ≡ Ok (sample, place + 12)) b.files d.files c.in_err-frame.ensures.reads.files so.sample)
    (first_stops (Unit {0}) name (place + 12) (list_read read size.f) (end size sample) was d r e
    (list_stops (Unit {0}) name (place + 12) c.loop-i.i size.f read was b d c.loop-i.file r c.loop-i.frames.items e
    c.loop-i-test.true so.reads c.in_err-frame.ensures.reads so.found
    (lifted (Unit {0}) name c.loop-i.file.at read b d r (Err e) c.in_err-frame.ensures.answer))))

pub returns-in_err-frame-clause-reads : goal.returns-in_err-frame-clause-reads
returns-in_err-frame-clause-reads g c =
    let state = g.S.Shelf.state in
    only_reads_then (state c.args.shelf.now) (state c.loop-i.shelf) (state c.read_below.new.shelf) c.loop-i.invariant.reads c.in_err-frame.ensures.reads

pub loop-i-preserved : goal.loop-i-preserved
loop-i-preserved g c =
    let state = g.S.Shelf.state in
    let name = c.args.name.now in
    let size = c.args.size in
    let sample = c.in_ok-sample.sample in
    let read = number_read w16 (below_rule sample.f) in
    let place = c.args.file.now.at in
    let was = state c.args.shelf.now in
    let b = state c.loop-i.shelf in
    let d = state c.read_below.new.shelf in
    let r = c.read_below.new.file in
    let so = c.loop-i.invariant in
    let ok = c.in_ok-frame.ensures {u = tt} in
    let front = c.loop-i.frames.items in
    let frame = c.in_ok-frame.frame in
    let all = c.push_reserved.ensures.items ∙ (λ k. c.make_room.ensures.items k ++ frame ∷ []) in
    record {
      sample = still name (λ bytes. sample_read size place bytes ≡ Ok (sample, place + 12)) b.files d.files ok.reads.files so.sample;
      found = subst (λ items. Found name (place + 12) d r (list_read read (c.loop-i.i + 1)) items) (sym all)
          (list_more name (place + 12) c.loop-i.i read was b d c.loop-i.file r front frame so.reads ok.reads so.found ok.answer);
      count = omega (arith, c.push_reserved.ensures.len, ap length c.make_room.ensures.items, so.count);
      below = subst (All (λ e. e < sample.f)) (sym all) (All-push (λ e. e < sample.f) front frame so.below ok.below);
      at = omega (arith, ok.place, so.at);
      reads = only_reads_then was b d so.reads ok.reads;
    }

pub returns-clause-answer : goal.returns-clause-answer
returns-clause-answer g c =
    let name = c.args.name.now in
    let size = c.args.size in
    let sample = c.in_ok-sample.sample in
    let read = number_read w16 (below_rule sample.f) in
    let place = c.args.file.now.at in
    let was = g.S.Shelf.state c.args.shelf.now in
    let b = g.S.Shelf.state c.loop-i.shelf in
    let r = c.loop-i.file in
    let items = c.loop-i.frames.items in
    let so = c.loop-i.invariant in
    let all : c.loop-i.i ≡ size.f = omega (arith, c.loop-i-test.false, c.loop-i.auto.i-end) in
    let value : MapFile = Frames size sample items in
    subst (λ frames. ReadsFrom (Unit {0}) name place was b r (frames_read size) (Ok (Frames size sample frames))) (sym c.from_vec.ensures)
    (after_value (Unit {0}) name place (place + 12) (sample_read size) (rest size) was b r sample (Ok value) so.sample
    (then_reads (Unit {0}) name (place + 12) (list_read read size.f) (end size sample) was b b r r items (Ok value) so.reads (only_reads_same b)
    (subst (λ n. Found name (place + 12) b r (list_read read n) items) all so.found)
    (made (Unit {0}) name b b r value so.found.follows)))

pub returns-clause-lawful : goal.returns-clause-lawful
returns-clause-lawful g c =
    let so = c.loop-i.invariant in
    let ok = c.in_ok-sample.ensures {u = tt} in
    record {
      size_axes = c.requires.axes;
      sample_axes = ok.axes;
      w = ok.same.0;
      h = ok.same.1;
      count = omega (arith, ap length c.from_vec.ensures, so.count, c.loop-i-test.false, c.loop-i.auto.i-end);
      entries = subst (All (λ e. e < c.in_ok-sample.sample.f)) (sym c.from_vec.ensures) so.below;
    }

pub push_reserved-requires : goal.push_reserved-requires
push_reserved-requires g c =
    let more = room_made (vec_len c.loop-i.frames) (vec_capacity c.loop-i.frames) (vec_capacity c.make_room.new.items) (c.args.size.f - c.loop-i.i)
    c.make_room.ensures.kept (c.in_ok-make_room.ensures {u = tt}).grown (omega (arith, c.loop-i-test.true)) in
    omega (arith, ap length c.make_room.ensures.items, more)
