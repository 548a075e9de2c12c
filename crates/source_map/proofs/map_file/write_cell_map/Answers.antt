use Rattle.std.proofs.Common.{◌≡◌, ◌<◌, ◌≤◌, ℕ, List, [], ◌++◌, ◌∙◌, ap, append_assoc, arith, get_or, length, refl, subst, sym, take}
use Rattle.std.proofs.lemmas.List.{append-nil, take_all}
use Rattle.std.specs.Prelude.{IsSome, IsSomeAnd, None, Option, Some}
use Rattle.std.specs.List.{flat_map}
use Rattle.shelf_traits.specs.Files.{ShelfState}
use Rattle.file_bytes.specs.Writing.{HasPut, Pending}
use Rattle.file_bytes.proofs.WritingLaws.{fields_next}
use Rattle.cells.specs.declared.place.At.{At}
use Rattle.cells.specs.declared.place.Size.{Size}
use Rattle.map_canvas.specs.Maps.{SourceMap}
use Rattle.source_map.specs.declared.head.Version.{Version}
use Rattle.source_map.specs.Heads.{sizes_field, start_form}
use Rattle.source_map.specs.MapFiles.{IsInSamples, cell_map_form, map_magic, source_field}
use Rattle.source_map.proofs.MapWriting.{all_inside}
use Rattle.source_map.proofs.map_file.write_cell_map.Goals as goal

-- what was put before the sources is the map's, where the size is
sizes_put : (name : List ℕ) (m : SourceMap) (samples : List Size) (version : Version) (size : Size) (was now : ShelfState) (pending : Pending) → size ≡ m.size
    → HasPut name (start_form map_magic 0 version size ++ sizes_field version samples) was now pending
    → HasPut name (start_form map_magic 0 version m.size ++ sizes_field version samples ++ []) was now pending
sizes_put name m samples version size was now pending same put =
    subst (λ text. HasPut name text was now pending)
    (ap (λ s. start_form map_magic 0 version s ++ sizes_field version samples) same ∙ sym (append-nil (start_form map_magic 0 version m.size ++ sizes_field version samples))) put

-- what was put is the spelling of the map, when all sources were
map_put : (name : List ℕ) (m : SourceMap) (samples : List Size) (version : Version) (sources : List (Option At)) (i : ℕ) (was now : ShelfState) (pending : Pending) → sources ≡ m.sources → length sources ≤ i
    → HasPut name (start_form map_magic 0 version m.size ++ sizes_field version samples ++ flat_map (source_field version samples) (take i m.sources)) was now pending
    → HasPut name (cell_map_form m samples version) was now pending
map_put name m samples version sources i was now pending same all put =
    subst (λ s. HasPut name (start_form map_magic 0 version m.size ++ sizes_field version samples ++ flat_map (source_field version samples) s) was now pending)
    (take_all i m.sources (subst (λ s. length s ≤ i) same all)) put

there : (samples : List Size) (o : Option At) → IsSomeAnd o (IsInSamples samples) → IsSome o
there samples None so = absurd so
there samples (Some from) so = refl

pub loop-source-init : goal.loop-source-init
loop-source-init g c =
    let state = g.S.Shelf.state in
    let was = state c.args.shelf.now in
    sizes_put c.args.name.now c.args.map.now c.args.samples.now c.args.version c.size.result was (state c.put_samples.new.shelf) c.put_samples.new.file c.size.ensures.size
    (c.put_samples.ensures was (start_form map_magic 0 c.args.version c.size.result) (c.put_start.ensures was [] c.begin-file.ensures))

pub unwrap-from-requires : goal.unwrap-from-requires
unwrap-from-requires g c =
    let m = c.args.map.now in
    let samples = c.args.samples.now in
    let i = c.loop-source.source-index in
    let item = c.source-item.result in
    let lt = subst (λ s. i < length s) c.sources-source-items.ensures (omega (arith, c.loop-source-test.true, c.loop-source.auto.source-index-end)) in
    subst IsSome (ap (λ s. get_or s i item) (sym c.sources-source-items.ensures) ∙ sym c.source-item.is ∙ sym c.source.ensures)
    (there samples (get_or m.sources i item) (all_inside m samples c.args.version c.size.ensures.map c.requires i item lt))

pub put_source-requires-clause-inside : goal.put_source-requires-clause-inside
put_source-requires-clause-inside g c =
    let m = c.args.map.now in
    let samples = c.args.samples.now in
    let i = c.loop-source.source-index in
    let item = c.source-item.result in
    let lt = subst (λ s. i < length s) c.sources-source-items.ensures (omega (arith, c.loop-source-test.true, c.loop-source.auto.source-index-end)) in
    subst (λ source. IsSomeAnd source (IsInSamples samples)) (ap (λ s. get_or s i item) (sym c.sources-source-items.ensures) ∙ sym c.source-item.is ∙ sym c.source.ensures ∙ c.unwrap-from.ensures)
    (all_inside m samples c.args.version c.size.ensures.map c.requires i item lt)

pub loop-source-preserved : goal.loop-source-preserved
loop-source-preserved g c =
    let state = g.S.Shelf.state in
    let name = c.args.name.now in
    let m = c.args.map.now in
    let samples = c.args.samples.now in
    let version = c.args.version in
    let field = source_field version samples in
    let i = c.loop-source.source-index in
    let item = c.source-item.result in
    let front = flat_map field (take i m.sources) in
    let head = start_form map_magic 0 version m.size ++ sizes_field version samples in
    let lt = subst (λ s. i < length s) c.sources-source-items.ensures (omega (arith, c.loop-source-test.true, c.loop-source.auto.source-index-end)) in
    let all = fields_next field m.sources i item lt
    ∙ ap (λ source. front ++ field source) (ap (λ s. get_or s i item) (sym c.sources-source-items.ensures) ∙ sym c.source-item.is ∙ sym c.source.ensures ∙ c.unwrap-from.ensures) in
    let was = state c.args.shelf.now in
    subst (λ text. HasPut name text was (state c.put_source.new.shelf) c.put_source.new.file) (append_assoc head front (field (Some c.unwrap-from.result)) ∙ ap (λ t. head ++ t) (sym all))
    (c.put_source.ensures was (head ++ front) c.loop-source.invariant)

pub returns-clause-ok : goal.returns-clause-ok
returns-clause-ok g c =
    let state = g.S.Shelf.state in
    let was = state c.args.shelf.now in
    let m = c.args.map.now in
    let samples = c.args.samples.now in
    let version = c.args.version in
    c.finish.ensures.ok was (cell_map_form m samples version)
    (map_put c.args.name.now m samples version c.sources-source-items.result.now c.loop-source.source-index was (state c.loop-source.shelf) c.loop-source.file c.sources-source-items.ensures
    (omega (arith, c.loop-source-test.false)) c.loop-source.invariant)

pub returns-clause-err : goal.returns-clause-err
returns-clause-err g c =
    let state = g.S.Shelf.state in
    let was = state c.args.shelf.now in
    let m = c.args.map.now in
    let samples = c.args.samples.now in
    let version = c.args.version in
    c.finish.ensures.err was (cell_map_form m samples version)
    (map_put c.args.name.now m samples version c.sources-source-items.result.now c.loop-source.source-index was (state c.loop-source.shelf) c.loop-source.file c.sources-source-items.ensures
    (omega (arith, c.loop-source-test.false)) c.loop-source.invariant)

pub returns-clause-writes : goal.returns-clause-writes
returns-clause-writes g c =
    let state = g.S.Shelf.state in
    let was = state c.args.shelf.now in
    let m = c.args.map.now in
    let samples = c.args.samples.now in
    let version = c.args.version in
    c.finish.ensures.writes was (cell_map_form m samples version)
    (map_put c.args.name.now m samples version c.sources-source-items.result.now c.loop-source.source-index was (state c.loop-source.shelf) c.loop-source.file c.sources-source-items.ensures
    (omega (arith, c.loop-source-test.false)) c.loop-source.invariant)

pub returns-clause-failed : goal.returns-clause-failed
returns-clause-failed g c =
    let state = g.S.Shelf.state in
    let was = state c.args.shelf.now in
    let m = c.args.map.now in
    let samples = c.args.samples.now in
    let version = c.args.version in
    c.finish.ensures.failed was (cell_map_form m samples version)
    (map_put c.args.name.now m samples version c.sources-source-items.result.now c.loop-source.source-index was (state c.loop-source.shelf) c.loop-source.file c.sources-source-items.ensures
    (omega (arith, c.loop-source-test.false)) c.loop-source.invariant)
