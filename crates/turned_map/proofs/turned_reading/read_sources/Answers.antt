use Rattle.std.proofs.lemmas.Grind.{common_steps}
use Rattle.std.proofs.Common.{◌*◌, Bool, true, false, refl, ◌-◌, ◌/◌, ◌≡◌, ◌+◌, [], ◌∷◌, ◌++◌, length, subst, sym, ap, ◌∙◌, arith, ℕ, List, ◌≤◌, ◌<◌}
use Rattle.std.proofs.lemmas.Bool.{ltb-true, ltb-false}
use Rattle.std.proofs.lemmas.List.Elements.{All-push}
use Rattle.std.proofs.lemmas.Result.{err_from_is_err_and}
use Rattle.std.specs.Prelude.{Option, Err, All, IfSome, IsSomeAnd, Some, Result, Ok, max, min, nat_lt, unwrap_or, vec_capacity, vec_len}
use Rattle.shelf_traits.proofs.FileLaws.{only_reads_then, only_reads_same}
use Rattle.cells.specs.declared.place.At.{At}
use Rattle.cells.specs.Places.{cell_count, IsInside}
use Rattle.map_canvas.specs.Maps.{SourceMap, IsMap, IsSource}
use Rattle.shelf_traits.specs.Files.{OnlyReadsFile, ShelfState}
use Rattle.file_bytes.specs.Reading.{Reading}
use Rattle.source_map.specs.Readings.{Found, list_read, ReadsFrom, number_read}
use Rattle.source_map.proofs.FieldLaws.{first_stops, lifted, list_more, list_stops, chain, made, then_reads}
use Rattle.source_map.proofs.SourceLists.{map_end, sources_end}
use Rattle.turned.specs.TurnedPlaces.{IsInTurned, sample_size, turned_place}
use Rattle.turned_map.specs.TurnedFiles.{turned_source_read}
use Rattle.shelf_traits.specs.declared.fault.ReadError.{ReadError}
use Rattle.cells.specs.declared.place.Size.{Size}
use Rattle.std.specs.Int.{w16}
use Rattle.cells.specs.SizeLists.{size_of_part}
use Rattle.source_map.specs.MapFiles.{below_rule, part_rule, place_read}
use Rattle.turned.proofs.TurnedLists.{sample_there}
use Rattle.turned_map.proofs.Entries.{turned_source_is}
use Rattle.turned_map.proofs.turned_reading.read_sources.Goals as goal

abbrev end : List Size → ℕ → ℕ → At → ℕ → List ℕ → Result (Option At × ℕ) ReadError
end samples sample turn from at bytes = Ok (Some (turned_place samples (record { sample = sample; turn = turn; at = from })), at)

sized : (samples : List Size) (sample : ℕ) (size : Size) → Some size ≡ size_of_part samples sample → size ≡ sample_size samples sample
sized samples sample size is = ap (λ o. unwrap_or o (record { w = 0; h = 0; f = 0 })) is

-- a list for which room was made has room for one item more
room_made : (len was now missing : ℕ) → (len < was → now ≡ was) → (was ≤ len → now ≡ len + min (max (len / 8) 1024) missing) → 0 < missing → len < now
room_made len was now missing kept grown some = by (nat_lt len was) refl
  where
    by : (b : Bool) → nat_lt len was ≡ b → len < now
    by true lt = let below = ltb-true len was lt in omega (arith, kept below, below)
    by false lt = omega (arith, grown (ltb-false len was lt), some)

-- the place after one entry more
place_more : (start at one two end i : ℕ) → one ≡ at + 2 → two ≡ one + 2 → end ≡ two + 6 → at ≡ start + 10 * i → end ≡ start + 10 * (i + 1)
place_more start at one two end i first second third so = omega arith

-- an entry that was read field by field is a source
entry_read : (name : List ℕ) (samples : List Size) (place : ℕ) (a b c d : ShelfState) (r1 r2 r3 : Reading) (count sample turn its : ℕ) (size : Size) (from p : At) → count ≡ length samples
    → Some size ≡ size_of_part samples sample → its ≡ turn → p ≡ turned_place samples (record { sample = sample; turn = its; at = from }) → OnlyReadsFile name a b → OnlyReadsFile name b c → OnlyReadsFile name c d
    → Found name place b r1 (number_read w16 (part_rule count)) sample → Found name r1.at c r2 (number_read w16 (below_rule 8)) turn → Found name r2.at d r3 (place_read size) from
    → Found name place d r3 (turned_source_read samples) (Some p)
entry_read name samples place a b c d r1 r2 r3 count sample turn its size from p all is same there one two three first second third =
    let value : At = turned_place samples (record { sample = sample; turn = turn; at = from }) in
    let second_on : ℕ → ℕ → List ℕ → Result (Option At × ℕ) ReadError = λ (v0 : ℕ). chain (number_read w16 (below_rule 8)) (λ (v1 : ℕ). chain (place_read (sample_size samples v0)) (end samples v0 v1)) in
    subst (λ (v : At). Found name place d r3 (turned_source_read samples) (Some v)) (sym (there ∙ ap (λ (turn : ℕ). turned_place samples (record { sample = sample; turn = turn; at = from })) same))
    (then_reads ⊥ name place (number_read w16 (part_rule (length samples))) second_on a b d r1 r3 sample (Ok (Some value)) one (only_reads_then b c d two three)
    (subst (λ n. Found name place b r1 (number_read w16 (part_rule n)) sample) all first)
    (then_reads ⊥ name r1.at (number_read w16 (below_rule 8)) (λ (v1 : ℕ). chain (place_read (sample_size samples sample)) (end samples sample v1)) b c d r2 r3 turn (Ok (Some value)) two three second
    (then_reads ⊥ name r2.at (place_read (sample_size samples sample)) (end samples sample turn) c d d r3 r3 from (Ok (Some value)) three (only_reads_same d)
    (subst (λ (size : Size). Found name r2.at d r3 (place_read size) from) (sized samples sample size is) third)
    (made ⊥ name d d r3 (Some value) third.follows))))

pub returns-in_err-sample-clause-answer : goal.returns-in_err-sample-clause-answer
returns-in_err-sample-clause-answer g c =
    let state = g.S.Shelf.state in
    let name = c.args.name.now in
    let p = err_from_is_err_and c.from_residual-in_err-sample.result c.from_residual-in_err-sample.ensures.1 in
    let read = turned_source_read c.args.samples.now in
    let place = c.args.file.now.at in
    let a = state c.args.shelf.now in
    let b = state c.loop-i.shelf in
    let d = state c.read_part.new.shelf in
    let e = c.in_err-sample.field-0.0 in
    let count = cell_count c.args.size in
    rw (p.1, p.2)
    (first_stops (Unit {0}) name place (list_read read count) (map_end c.args.size) a d c.read_part.new.file e
    (list_stops (Unit {0}) name place c.loop-i.i count read a b d c.loop-i.file c.read_part.new.file c.loop-i.sources.items e
    (rw c.cells-count.ensures at c.loop-i-test.true) c.loop-i.invariant.reads c.in_err-sample.ensures.reads c.loop-i.invariant.found
    (lifted (Unit {0}) name c.loop-i.file.at read b d c.read_part.new.file (Err e)
    (first_stops ⊥ name c.loop-i.file.at (number_read w16 (part_rule (length c.args.samples.now))) (λ (v0 : ℕ). chain (number_read w16 (below_rule 8)) (λ (v1 : ℕ). chain (place_read (sample_size c.args.samples.now v0)) (λ (v2 : At). end c.args.samples.now v0 v1 v2))) (state c.loop-i.shelf) (state c.read_part.new.shelf) c.read_part.new.file c.in_err-sample.field-0.0
    (subst (λ n. ReadsFrom ⊥ name c.loop-i.file.at (state c.loop-i.shelf) (state c.read_part.new.shelf) c.read_part.new.file (number_read w16 (part_rule n)) (Err c.in_err-sample.field-0.0)) c.len.ensures.len c.in_err-sample.ensures.answer)))))

pub returns-in_err-sample-clause-reads : goal.returns-in_err-sample-clause-reads
returns-in_err-sample-clause-reads g c =
    let state = g.S.Shelf.state in
    let b = state c.loop-i.shelf in
    let d = state c.read_part.new.shelf in
    only_reads_then (state c.args.shelf.now) b d c.loop-i.invariant.reads c.in_err-sample.ensures.reads

pub returns-in_err-turn-clause-answer : goal.returns-in_err-turn-clause-answer
returns-in_err-turn-clause-answer g c =
    let state = g.S.Shelf.state in
    let name = c.args.name.now in
    let p = err_from_is_err_and c.from_residual-in_err-turn.result c.from_residual-in_err-turn.ensures.1 in
    let v0 : ℕ = c.in_ok-sample.sample in
    let ok0 = c.in_ok-sample.ensures {u = tt} in
    let read = turned_source_read c.args.samples.now in
    let place = c.args.file.now.at in
    let a = state c.args.shelf.now in
    let b = state c.loop-i.shelf in
    let d = state c.read_below.new.shelf in
    let e = c.in_err-turn.field-0.0 in
    let count = cell_count c.args.size in
    rw (p.1, p.2)
    (first_stops (Unit {0}) name place (list_read read count) (map_end c.args.size) a d c.read_below.new.file e
    (list_stops (Unit {0}) name place c.loop-i.i count read a b d c.loop-i.file c.read_below.new.file c.loop-i.sources.items e
    (rw c.cells-count.ensures at c.loop-i-test.true) c.loop-i.invariant.reads (only_reads_then b (state c.read_part.new.shelf) d (c.in_ok-sample.ensures {u = tt}).reads c.in_err-turn.ensures.reads) c.loop-i.invariant.found
    (lifted (Unit {0}) name c.loop-i.file.at read b d c.read_below.new.file (Err e)
    (then_reads ⊥ name c.loop-i.file.at (number_read w16 (part_rule (length c.args.samples.now))) (λ (v0 : ℕ). chain (number_read w16 (below_rule 8)) (λ (v1 : ℕ). chain (place_read (sample_size c.args.samples.now v0)) (λ (v2 : At). end c.args.samples.now v0 v1 v2))) (state c.loop-i.shelf) (state c.read_part.new.shelf) (state c.read_below.new.shelf) c.read_part.new.file c.read_below.new.file v0 (Err c.in_err-turn.field-0.0)
    ok0.reads c.in_err-turn.ensures.reads (subst (λ n. ReadsFrom ⊥ name c.loop-i.file.at (state c.loop-i.shelf) (state c.read_part.new.shelf) c.read_part.new.file (number_read w16 (part_rule n)) (Ok v0)) c.len.ensures.len ok0.answer)
    (first_stops ⊥ name c.read_part.new.file.at (number_read w16 (below_rule 8)) (λ (v1 : ℕ). chain (place_read (sample_size c.args.samples.now v0)) (λ (v2 : At). end c.args.samples.now v0 v1 v2)) (state c.read_part.new.shelf) (state c.read_below.new.shelf) c.read_below.new.file c.in_err-turn.field-0.0 c.in_err-turn.ensures.answer)))))

pub returns-in_err-turn-clause-reads : goal.returns-in_err-turn-clause-reads
returns-in_err-turn-clause-reads g c =
    let state = g.S.Shelf.state in
    let b = state c.loop-i.shelf in
    let d = state c.read_below.new.shelf in
    only_reads_then (state c.args.shelf.now) b d c.loop-i.invariant.reads (only_reads_then b (state c.read_part.new.shelf) d (c.in_ok-sample.ensures {u = tt}).reads c.in_err-turn.ensures.reads)

pub returns-in_err-at-clause-answer : goal.returns-in_err-at-clause-answer
returns-in_err-at-clause-answer g c =
    let state = g.S.Shelf.state in
    let name = c.args.name.now in
    let p = err_from_is_err_and c.from_residual-in_err-at.result c.from_residual-in_err-at.ensures.1 in
    let v0 : ℕ = c.in_ok-sample.sample in
    let ok0 = c.in_ok-sample.ensures {u = tt} in
    let v1 : ℕ = c.in_ok-turn.turn in
    let ok1 = c.in_ok-turn.ensures {u = tt} in
    let read = turned_source_read c.args.samples.now in
    let place = c.args.file.now.at in
    let a = state c.args.shelf.now in
    let b = state c.loop-i.shelf in
    let d = state c.read_place.new.shelf in
    let e = c.in_err-at.field-0.0 in
    let count = cell_count c.args.size in
    rw (p.1, p.2)
    (first_stops (Unit {0}) name place (list_read read count) (map_end c.args.size) a d c.read_place.new.file e
    (list_stops (Unit {0}) name place c.loop-i.i count read a b d c.loop-i.file c.read_place.new.file c.loop-i.sources.items e
    (rw c.cells-count.ensures at c.loop-i-test.true) c.loop-i.invariant.reads (only_reads_then b (state c.read_part.new.shelf) d (c.in_ok-sample.ensures {u = tt}).reads (only_reads_then (state c.read_part.new.shelf) (state c.read_below.new.shelf) d (c.in_ok-turn.ensures {u = tt}).reads c.in_err-at.ensures.reads)) c.loop-i.invariant.found
    (lifted (Unit {0}) name c.loop-i.file.at read b d c.read_place.new.file (Err e)
    (then_reads ⊥ name c.loop-i.file.at (number_read w16 (part_rule (length c.args.samples.now))) (λ (v0 : ℕ). chain (number_read w16 (below_rule 8)) (λ (v1 : ℕ). chain (place_read (sample_size c.args.samples.now v0)) (λ (v2 : At). end c.args.samples.now v0 v1 v2))) (state c.loop-i.shelf) (state c.read_part.new.shelf) (state c.read_place.new.shelf) c.read_part.new.file c.read_place.new.file v0 (Err c.in_err-at.field-0.0)
    ok0.reads (only_reads_then (state c.read_part.new.shelf) (state c.read_below.new.shelf) (state c.read_place.new.shelf) ok1.reads c.in_err-at.ensures.reads) (subst (λ n. ReadsFrom ⊥ name c.loop-i.file.at (state c.loop-i.shelf) (state c.read_part.new.shelf) c.read_part.new.file (number_read w16 (part_rule n)) (Ok v0)) c.len.ensures.len ok0.answer)
    (then_reads ⊥ name c.read_part.new.file.at (number_read w16 (below_rule 8)) (λ (v1 : ℕ). chain (place_read (sample_size c.args.samples.now v0)) (λ (v2 : At). end c.args.samples.now v0 v1 v2)) (state c.read_part.new.shelf) (state c.read_below.new.shelf) (state c.read_place.new.shelf) c.read_below.new.file c.read_place.new.file v1 (Err c.in_err-at.field-0.0)
    ok1.reads c.in_err-at.ensures.reads ok1.answer
    (first_stops ⊥ name c.read_below.new.file.at (place_read (sample_size c.args.samples.now v0)) (λ (v2 : At). end c.args.samples.now v0 v1 v2) (state c.read_below.new.shelf) (state c.read_place.new.shelf) c.read_place.new.file c.in_err-at.field-0.0
    (subst (λ (size : Size). ReadsFrom ⊥ name c.read_below.new.file.at (state c.read_below.new.shelf) (state c.read_place.new.shelf) c.read_place.new.file (place_read size) (Err c.in_err-at.field-0.0)) (sized c.args.samples.now v0 c.at.result c.at.ensures.size) c.in_err-at.ensures.answer)))))))

pub returns-in_err-at-clause-reads : goal.returns-in_err-at-clause-reads
returns-in_err-at-clause-reads g c =
    let state = g.S.Shelf.state in
    let b = state c.loop-i.shelf in
    let d = state c.read_place.new.shelf in
    only_reads_then (state c.args.shelf.now) b d c.loop-i.invariant.reads (only_reads_then b (state c.read_part.new.shelf) d (c.in_ok-sample.ensures {u = tt}).reads (only_reads_then (state c.read_part.new.shelf) (state c.read_below.new.shelf) d (c.in_ok-turn.ensures {u = tt}).reads c.in_err-at.ensures.reads))

pub turned_place-requires-clause-turned : goal.turned_place-requires-clause-turned
turned_place-requires-clause-turned g c = record {
  sample = sample_there c.args.samples.now c.in_ok-sample.sample (c.in_ok-sample.ensures {u = tt}).within.0 (subst (λ n. c.in_ok-sample.sample ≤ n) c.len.ensures.len (c.in_ok-sample.ensures {u = tt}).within.1);
  turn = subst (λ n. n < 8) (sym c.from.ensures) (c.in_ok-turn.ensures {u = tt}).below;
  inside = subst (λ (size : Size). IsInside size c.in_ok-at.at) (sized c.args.samples.now c.in_ok-sample.sample c.at.result c.at.ensures.size) (c.in_ok-at.ensures {u = tt}).inside;
}

pub loop-i-preserved : goal.loop-i-preserved
loop-i-preserved g c =
    let state = g.S.Shelf.state in
    let name = c.args.name.now in
    let ok0 = c.in_ok-sample.ensures {u = tt} in
    let ok1 = c.in_ok-turn.ensures {u = tt} in
    let ok2 = c.in_ok-at.ensures {u = tt} in
    let read = turned_source_read c.args.samples.now in
    let a = state c.args.shelf.now in
    let b = state c.loop-i.shelf in
    let d = state c.read_place.new.shelf in
    let so = c.loop-i.invariant in
    let front : List (Option At) = c.loop-i.sources.items in
    let source : Option At = Some c.turned_place.result in
    let IsSound : Option At → Type 0 = λ source. IfSome source IsSource in
    let IsIn : Option At → Type 0 = λ source. IsSomeAnd source (IsInTurned c.args.samples.now) in
    let all : c.push_reserved.new.self.items ≡ front ++ source ∷ [] = c.push_reserved.ensures.items ∙ (λ k. c.make_room.ensures.items k ++ c.new.ensures k ∷ []) in
    let reads : OnlyReadsFile name b d = only_reads_then b (state c.read_part.new.shelf) d ok0.reads (only_reads_then (state c.read_part.new.shelf) (state c.read_below.new.shelf) d ok1.reads ok2.reads) in
    let found : Found name c.loop-i.file.at d c.read_place.new.file read source = entry_read name c.args.samples.now c.loop-i.file.at b (state c.read_part.new.shelf) (state c.read_below.new.shelf) d c.read_part.new.file c.read_below.new.file c.read_place.new.file
    c.len.result c.in_ok-sample.sample c.in_ok-turn.turn c.from.result c.at.result c.in_ok-at.at c.turned_place.result
    c.len.ensures.len c.at.ensures.size c.from.ensures c.turned_place.ensures.place ok0.reads ok1.reads ok2.reads ok0.answer ok1.answer ok2.answer in
    record {
      found = subst (λ items. Found name c.args.file.now.at d c.read_place.new.file (list_read read (c.loop-i.i + 1)) items) (sym all)
          (list_more name c.args.file.now.at c.loop-i.i read a b d c.loop-i.file c.read_place.new.file front source so.reads reads so.found found);
      count = omega (arith, c.push_reserved.ensures.len, ap length c.make_room.ensures.items, so.count);
      at = place_more c.args.file.now.at c.loop-i.file.at c.read_part.new.file.at c.read_below.new.file.at c.read_place.new.file.at c.loop-i.i ok0.place ok1.place ok2.place so.at;
      sources = subst (All IsSound) (sym all) (All-push IsSound front source so.sources (turned_source_is c.args.samples.now c.turned_place.result c.requires.are c.requires.few c.turned_place.ensures.inside));
      inside = subst (All IsIn) (sym all) (All-push IsIn front source so.inside c.turned_place.ensures.inside);
      reads = only_reads_then a b d so.reads reads;
    }

pub returns-clause-answer : goal.returns-clause-answer
returns-clause-answer g c =
    let state = g.S.Shelf.state in
    let all : c.loop-i.i ≡ cell_count c.args.size = omega (arith, c.loop-i-test.false, c.loop-i.auto.i-end, c.cells-count.ensures) in
    sources_end c.args.name.now c.args.file.now.at c.loop-i.i (cell_count c.args.size) (turned_source_read c.args.samples.now) c.args.size (state c.args.shelf.now) (state c.loop-i.shelf)
    c.loop-i.file c.loop-i.sources.items c.from_sources.result all c.from_sources.ensures c.loop-i.invariant.reads c.loop-i.invariant.found

pub from_sources-requires : goal.from_sources-requires
from_sources-requires g c =
    let all : c.loop-i.i ≡ cell_count c.args.size = omega (arith, c.loop-i-test.false, c.loop-i.auto.i-end, c.cells-count.ensures) in
    record { small = c.requires.small; count = omega (arith, c.loop-i.invariant.count, all); sources = c.loop-i.invariant.sources }

pub returns-clause-map : goal.returns-clause-map
returns-clause-map g c =
    let all : c.loop-i.i ≡ cell_count c.args.size = omega (arith, c.loop-i-test.false, c.loop-i.auto.i-end, c.cells-count.ensures) in
    subst IsMap (sym c.from_sources.ensures) (record { small = c.requires.small; count = omega (arith, c.loop-i.invariant.count, all); sources = c.loop-i.invariant.sources })

pub returns-clause-inside : goal.returns-clause-inside
returns-clause-inside g c = subst (λ (m : SourceMap). All (λ source. IsSomeAnd source (IsInTurned c.args.samples.now)) m.sources) (sym c.from_sources.ensures) c.loop-i.invariant.inside

pub loop-i-init : goal.loop-i-init
loop-i-init g c = grind (arith, common_steps)

pub new-requires : goal.new-requires
new-requires g c = turned_source_is c.args.samples.now c.turned_place.result c.requires.are c.requires.few c.turned_place.ensures.inside

pub push_reserved-requires : goal.push_reserved-requires
push_reserved-requires g c =
    let more = room_made (vec_len c.loop-i.sources) (vec_capacity c.loop-i.sources) (vec_capacity c.make_room.new.items) (c.cells-count.result - c.loop-i.i)
    c.make_room.ensures.kept (c.in_ok-make_room.ensures {u = tt}).grown (omega (arith, c.loop-i-test.true)) in
    omega (arith, ap length c.make_room.ensures.items, more)
