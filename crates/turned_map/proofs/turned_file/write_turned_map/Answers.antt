use Rattle.std.proofs.Common.{◌≡◌, ◌<◌, ◌≤◌, ℕ, List, [], ◌++◌, ◌∙◌, ap, append_assoc, arith, get_or, length, refl, subst, sym, take}
use Rattle.std.proofs.lemmas.Grind.{common_steps}
use Rattle.std.proofs.lemmas.List.{append-nil, take_all}
use Rattle.std.specs.Prelude.{IsSome, IsSomeAnd, Option, None, Some}
use Rattle.std.specs.List.{flat_map}
use Rattle.shelf_traits.specs.Files.{ShelfState}
use Rattle.file_bytes.specs.Fields.{field_16}
use Rattle.file_bytes.specs.Writing.{HasPut, Pending, Puts}
use Rattle.file_bytes.proofs.WritingLaws.{put_next, fields_next}
use Rattle.cells.specs.declared.place.At.{At}
use Rattle.cells.specs.declared.place.Size.{Size}
use Rattle.map_canvas.specs.Maps.{SourceMap}
use Rattle.source_map.specs.declared.head.Head.{Head}
use Rattle.source_map.specs.declared.head.Version.TheVariants.{Two}
use Rattle.source_map.specs.Heads.{head_form}
use Rattle.source_map.specs.MapFiles.{map_magic, place_field}
use Rattle.source_map.proofs.MapWriting.{all_inside}
use Rattle.turned.specs.TurnedParts.{turned_sizes_of}
use Rattle.turned.specs.TurnedPlaces.{IsInTurned}
use Rattle.turned_map.specs.declared.turned_file.TheConstants.{TURNED_KIND}
use Rattle.turned_map.specs.TurnedFiles.{IsTurnedMap, turned_field, turned_head, turned_map_form, turned_source}
use Rattle.turned_map.proofs.Entries.{turned_low, turned_short, untouched_same}
use Rattle.turned_map.proofs.turned_file.write_turned_map.Goals as goal

-- the head that was put is the map's
head_put : (name : List ℕ) (m : SourceMap) (samples : List Size) (head : Head) (was now : ShelfState) (pending : Pending) → head ≡ turned_head m samples
    → HasPut name (head_form map_magic TURNED_KIND head) was now pending → HasPut name (head_form map_magic TURNED_KIND (turned_head m samples) ++ []) was now pending
head_put name m samples head was now pending same put =
    subst (λ text. HasPut name text was now pending) (ap (head_form map_magic TURNED_KIND) same ∙ sym (append-nil (head_form map_magic TURNED_KIND (turned_head m samples)))) put

-- the source of an entry, and that it is inside
entry_is : (m : SourceMap) (sources : List (Option At)) (i : ℕ) (item : Option At) (from : At) → sources ≡ m.sources → get_or sources i item ≡ Some from → get_or m.sources i item ≡ Some from
entry_is m sources i item from same is = ap (λ s. get_or s i item) (sym same) ∙ is

entry_inside : (m : SourceMap) (samples : List Size) (i : ℕ) (item : Option At) (from : At) → IsTurnedMap m samples → i < length m.sources → get_or m.sources i item ≡ Some from → IsInTurned samples from
entry_inside m samples i item from is lt here =
    subst (λ source. IsSomeAnd source (IsInTurned samples)) here (all_inside m (turned_sizes_of samples) Two is.map is.writable i item lt)

entry_there : (samples : List Size) (o : Option At) → IsSomeAnd o (IsInTurned samples) → IsSome o
entry_there samples None so = absurd so
entry_there samples (Some from) so = refl

-- what was put is the spelling of the map, when all sources were
map_put : (name : List ℕ) (m : SourceMap) (samples : List Size) (sources : List (Option At)) (i : ℕ) (was now : ShelfState) (pending : Pending) → sources ≡ m.sources → length sources ≤ i
    → HasPut name (head_form map_magic TURNED_KIND (turned_head m samples) ++ flat_map (turned_source samples) (take i m.sources)) was now pending → HasPut name (turned_map_form m samples) was now pending
map_put name m samples sources i was now pending same all put =
    subst (λ s. HasPut name (head_form map_magic TURNED_KIND (turned_head m samples) ++ flat_map (turned_source samples) s) was now pending) (take_all i m.sources (subst (λ s. length s ≤ i) same all)) put

pub put_head-requires : goal.put_head-requires
put_head-requires g c = grind (arith, common_steps)

pub loop-source-init : goal.loop-source-init
loop-source-init g c =
    let state = g.S.Shelf.state in
    let was = state c.args.shelf.now in
    let head : Head = record { output = c.size.result; samples = c.copy_of.result; version = Two } in
    head_put c.args.name.now c.args.map.now c.args.samples.now head was (state c.put_head.new.shelf) c.put_head.new.file
    (λ k. record { output = c.size.ensures.size k; samples = c.copy_of.ensures.sizes k; version = Two }) (c.put_head.ensures was [] c.begin-file.ensures)

pub unwrap-requires : goal.unwrap-requires
unwrap-requires g c =
    let m = c.args.map.now in
    let samples = c.args.samples.now in
    let i = c.loop-source.source-index in
    let item = c.source-item.result in
    let lt = subst (λ s. i < length s) c.sources-source-items.ensures (omega (arith, c.loop-source-test.true, c.loop-source.auto.source-index-end)) in
    subst IsSome (ap (λ s. get_or s i item) (sym c.sources-source-items.ensures) ∙ sym c.source-item.is ∙ sym c.source.ensures)
    (entry_there samples (get_or m.sources i item) (all_inside m (turned_sizes_of samples) Two c.requires.map c.requires.writable i item lt))

pub untouched_with-there-requires-clause-inside : goal.untouched_with-there-requires-clause-inside
untouched_with-there-requires-clause-inside g c =
    let m = c.args.map.now in
    let i = c.loop-source.source-index in
    entry_inside m c.args.samples.now i c.source-item.result c.unwrap.result c.requires (subst (λ s. i < length s) c.sources-source-items.ensures (omega (arith, c.loop-source-test.true, c.loop-source.auto.source-index-end)))
    (entry_is m c.sources-source-items.result.now i c.source-item.result c.unwrap.result c.sources-source-items.ensures (sym c.source-item.is ∙ sym c.source.ensures ∙ c.unwrap.ensures))

pub overflow_cast-there : goal.overflow_cast-there
overflow_cast-there g c = omega (arith, turned_low c.args.samples.now c.untouched_with-there.result c.requires.few c.untouched_with-there.ensures.untouched.is)

pub place_bytes-requires : goal.place_bytes-requires
place_bytes-requires g c = turned_short c.args.samples.now c.untouched_with-there.result c.requires.sizes c.untouched_with-there.ensures.untouched.is

pub loop-source-preserved : goal.loop-source-preserved
loop-source-preserved g c =
    let state = g.S.Shelf.state in
    let name = c.args.name.now in
    let m = c.args.map.now in
    let samples = c.args.samples.now in
    let field = turned_source samples in
    let i = c.loop-source.source-index in
    let item = c.source-item.result in
    let front = flat_map field (take i m.sources) in
    let head = head_form map_magic TURNED_KIND (turned_head m samples) in
    let there = c.untouched_with-there.result in
    let lt = subst (λ s. i < length s) c.sources-source-items.ensures (omega (arith, c.loop-source-test.true, c.loop-source.auto.source-index-end)) in
    let here = entry_is m c.sources-source-items.result.now i item c.unwrap.result c.sources-source-items.ensures (sym c.source-item.is ∙ sym c.source.ensures ∙ c.unwrap.ensures) in
    let same = untouched_same samples c.unwrap.result there (entry_inside m samples i item c.unwrap.result c.requires lt here) c.untouched_with-there.ensures.untouched in
    let all = fields_next field m.sources i item lt ∙ ap (λ source. front ++ field source) here in
    let file = c.loop-source.file in
    let was = state c.args.shelf.now in
    let start = state c.loop-source.shelf in
    let a = state c.put_number.new.shelf in
    let b = state c.put_number-in-loop-source.new.shelf in
    let end = state c.put.new.shelf in
    let place = subst (λ piece. Puts name piece b end c.put_number-in-loop-source.new.self c.put.new.self) c.place_bytes.ensures c.put.ensures in
    let put = put_next name (field_16 there.sample ++ field_16 there.turn) (place_field there.at) b end c.put_number-in-loop-source.new.self c.put.new.self file start
    (put_next name (field_16 there.sample) (field_16 there.turn) a b c.put_number.new.self c.put_number-in-loop-source.new.self file start c.put_number.ensures c.put_number-in-loop-source.ensures) place in
    subst (λ text. HasPut name text was end c.put.new.self) (append_assoc head front (field (Some c.unwrap.result)) ∙ ap (λ t. head ++ t) (sym all))
    (subst (λ piece. Puts name piece start end file c.put.new.self) (ap turned_field same) put was (head ++ front) c.loop-source.invariant)

pub returns-clause-ok : goal.returns-clause-ok
returns-clause-ok g c =
    let state = g.S.Shelf.state in
    let was = state c.args.shelf.now in
    let m = c.args.map.now in
    let samples = c.args.samples.now in
    c.finish.ensures.ok was (turned_map_form m samples)
    (map_put c.args.name.now m samples c.sources-source-items.result.now c.loop-source.source-index was (state c.loop-source.shelf) c.loop-source.file c.sources-source-items.ensures (omega (arith, c.loop-source-test.false)) c.loop-source.invariant)

pub returns-clause-err : goal.returns-clause-err
returns-clause-err g c =
    let state = g.S.Shelf.state in
    let was = state c.args.shelf.now in
    let m = c.args.map.now in
    let samples = c.args.samples.now in
    c.finish.ensures.err was (turned_map_form m samples)
    (map_put c.args.name.now m samples c.sources-source-items.result.now c.loop-source.source-index was (state c.loop-source.shelf) c.loop-source.file c.sources-source-items.ensures (omega (arith, c.loop-source-test.false)) c.loop-source.invariant)

pub returns-clause-writes : goal.returns-clause-writes
returns-clause-writes g c =
    let state = g.S.Shelf.state in
    let was = state c.args.shelf.now in
    let m = c.args.map.now in
    let samples = c.args.samples.now in
    c.finish.ensures.writes was (turned_map_form m samples)
    (map_put c.args.name.now m samples c.sources-source-items.result.now c.loop-source.source-index was (state c.loop-source.shelf) c.loop-source.file c.sources-source-items.ensures (omega (arith, c.loop-source-test.false)) c.loop-source.invariant)

pub returns-clause-failed : goal.returns-clause-failed
returns-clause-failed g c =
    let state = g.S.Shelf.state in
    let was = state c.args.shelf.now in
    let m = c.args.map.now in
    let samples = c.args.samples.now in
    c.finish.ensures.failed was (turned_map_form m samples)
    (map_put c.args.name.now m samples c.sources-source-items.result.now c.loop-source.source-index was (state c.loop-source.shelf) c.loop-source.file c.sources-source-items.ensures (omega (arith, c.loop-source-test.false)) c.loop-source.invariant)
