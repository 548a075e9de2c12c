-- What comes after a head is read by its kind alone.
use Rattle.std.proofs.Common.{◌≡◌, true, ℕ, zero, suc, List, length, refl, sym, ap, ◌∙◌, arith}
use Rattle.std.proofs.lemmas.Bool.{eqb-true, ltb-true}
use Rattle.std.specs.Int.{w16, w32, w64}
use Rattle.std.specs.Prelude.{Ok, nat_le}
use Rattle.shelf_traits.specs.declared.fault.FormFault.TheVariants.{Form}
use Rattle.shelf_traits.specs.declared.fault.ReadError.TheVariants.{Bad}
use Rattle.cells.specs.declared.place.Taps.{Taps}
use Rattle.cut_check.specs.declared.record.CutRecord.{CutRecord}
use Rattle.block_check.specs.declared.block.BlockRecord.{BlockRecord}
use Rattle.source_map.specs.declared.head.Head.{Head}
use Rattle.source_map.specs.declared.head.Version.{Version}
use Rattle.source_map.specs.declared.head.Version.TheVariants.{One, Two}
use Rattle.source_map.specs.Heads.{IsKind}
use Rattle.source_map.specs.Readings.{◌>>=◌, list_read, number_read}
use Rattle.source_map.proofs.Spelled.{passed, peel, same_second, same_value}
use Rattle.cert_file.specs.declared.file.RecordFile.{RecordFile}
use Rattle.cert_file.specs.declared.file.RecordFile.TheVariants.{Blocks, Cuts, Walk}
use Rattle.cert_file.specs.declared.walk_fields.WalkStart.{WalkStart}
use Rattle.cert_file.specs.BlockReading.{blocks_read}
use Rattle.cert_file.specs.CutReading.{cuts_read}
use Rattle.cert_file.specs.RecordFiles.{blocks_file_read, cuts_file_read, kinds, records_read}
use Rattle.cert_file.specs.Rules.{any_rule, end_rule}
use Rattle.cert_file.specs.WalkForms.{table_entries, frames_of}
use Rattle.cert_file.specs.WalkReading.{few_frames_read, frames_rule, walk_file_read, walk_start_read}

-- the parts of a file of cut records, of block records, and of a walk, that was read
pub record CutsParts (head : Head) (at : ℕ) (bytes : List ℕ) (value : RecordFile) : Type 0 where
  pub count : ℕ × ℕ
  pub cuts : List CutRecord × ℕ
  pub count_is : number_read w32 any_rule at bytes ≡ Ok count
  pub cuts_are : cuts_read head.version head.samples count.0 count.1 bytes ≡ Ok cuts
  pub ends : nat_le (length bytes) cuts.1 ≡ true
  pub value_is : Cuts head cuts.0 ≡ value

pub record BlocksParts (head : Head) (at : ℕ) (bytes : List ℕ) (value : RecordFile) : Type 0 where
  pub count : ℕ × ℕ
  pub blocks : List BlockRecord × ℕ
  pub count_is : number_read w32 any_rule at bytes ≡ Ok count
  pub blocks_are : blocks_read count.0 count.1 bytes ≡ Ok blocks
  pub ends : nat_le (length bytes) blocks.1 ≡ true
  pub value_is : Blocks head blocks.0 ≡ value

pub record WalkParts (head : Head) (at : ℕ) (bytes : List ℕ) (value : RecordFile) : Type 0 where
  pub start : WalkStart × ℕ
  pub walk : List ℕ × ℕ
  pub tables : List ℕ × ℕ
  pub start_is : walk_start_read at bytes ≡ Ok start
  pub walk_is : list_read (number_read w16 any_rule) start.0.length start.1 bytes ≡ Ok walk
  pub tables_are : list_read (number_read w64 any_rule) (table_entries head start.0.length) walk.1 bytes ≡ Ok tables
  pub ends : nat_le (length bytes) tables.1 ≡ true
  pub value_is : Walk head start.0.taps start.0.gap walk.0 tables.0 ≡ value

cuts_parts : (head : Head) (at : ℕ) (bytes : List ℕ) (value : RecordFile) → cuts_file_read head at bytes ≡ Ok value → CutsParts head at bytes value
cuts_parts head at bytes value is =
    let read = cuts_read head.version head.samples in
    let a = peel {A = ℕ × ℕ} {C = RecordFile} (number_read w32 any_rule at bytes) (λ n. read n.0 n.1 bytes >>= λ cuts. end_rule cuts.1 bytes >>= λ end. Ok (Cuts head cuts.0)) value is in
    let b = peel {A = List CutRecord × ℕ} {C = RecordFile} (read a.x.0 a.x.1 bytes) (λ cuts. end_rule cuts.1 bytes >>= λ end. Ok (Cuts head cuts.0)) value a.two in
    let c = peel {A = Unit {0}} {C = RecordFile} (end_rule b.x.1 bytes) (λ end. Ok (Cuts head b.x.0)) value b.two in
    let ends = passed (nat_le (length bytes) b.x.1) tt c.x (Bad (Form b.x.1)) c.one in
    record { count = a.x; cuts = b.x; count_is = a.one; cuts_are = b.one; ends = ends.0; value_is = same_value (Cuts head b.x.0) value c.two }

blocks_parts : (head : Head) (at : ℕ) (bytes : List ℕ) (value : RecordFile) → blocks_file_read head at bytes ≡ Ok value → BlocksParts head at bytes value
blocks_parts head at bytes value is =
    let a = peel {A = ℕ × ℕ} {C = RecordFile} (number_read w32 any_rule at bytes) (λ n. blocks_read n.0 n.1 bytes >>= λ blocks. end_rule blocks.1 bytes >>= λ end. Ok (Blocks head blocks.0)) value is in
    let b = peel {A = List BlockRecord × ℕ} {C = RecordFile} (blocks_read a.x.0 a.x.1 bytes) (λ blocks. end_rule blocks.1 bytes >>= λ end. Ok (Blocks head blocks.0)) value a.two in
    let c = peel {A = Unit {0}} {C = RecordFile} (end_rule b.x.1 bytes) (λ end. Ok (Blocks head b.x.0)) value b.two in
    let ends = passed (nat_le (length bytes) b.x.1) tt c.x (Bad (Form b.x.1)) c.one in
    record { count = a.x; blocks = b.x; count_is = a.one; blocks_are = b.one; ends = ends.0; value_is = same_value (Blocks head b.x.0) value c.two }

walk_parts : (head : Head) (at : ℕ) (bytes : List ℕ) (value : RecordFile) → walk_file_read head at bytes ≡ Ok value → WalkParts head at bytes value
walk_parts head at bytes value is =
    let read_walk = λ (n : ℕ). list_read (number_read w16 any_rule) n in
    let read_tables = λ (n : ℕ). list_read (number_read w64 any_rule) (table_entries head n) in
    let made = λ (s : WalkStart) (w t : List ℕ). Walk head s.taps s.gap w t in
    let f = peel {A = Unit {0} × ℕ} {C = RecordFile} (few_frames_read (frames_of head) at bytes)
    (λ few. walk_start_read few.1 bytes >>= λ s. read_walk s.0.length s.1 bytes >>= λ w. read_tables s.0.length w.1 bytes >>= λ t. end_rule t.1 bytes >>= λ end. Ok (made s.0 w.0 t.0)) value is in
    let r = peel {A = Unit {0}} {C = Unit {0} × ℕ} (frames_rule (frames_of head)) (λ few. Ok (few, at)) f.x f.one in
    let here : at ≡ f.x.1 = same_second r.x f.x.0 at f.x.1 r.two in
    let s = peel {A = WalkStart × ℕ} {C = RecordFile} (walk_start_read f.x.1 bytes)
    (λ s. read_walk s.0.length s.1 bytes >>= λ w. read_tables s.0.length w.1 bytes >>= λ t. end_rule t.1 bytes >>= λ end. Ok (made s.0 w.0 t.0)) value f.two in
    let w = peel {A = List ℕ × ℕ} {C = RecordFile} (read_walk s.x.0.length s.x.1 bytes)
    (λ w. read_tables s.x.0.length w.1 bytes >>= λ t. end_rule t.1 bytes >>= λ end. Ok (made s.x.0 w.0 t.0)) value s.two in
    let t = peel {A = List ℕ × ℕ} {C = RecordFile} (read_tables s.x.0.length w.x.1 bytes) (λ t. end_rule t.1 bytes >>= λ end. Ok (made s.x.0 w.x.0 t.0)) value w.two in
    let e = peel {A = Unit {0}} {C = RecordFile} (end_rule t.x.1 bytes) (λ end. Ok (made s.x.0 w.x.0 t.x.0)) value t.two in
    let ends = passed (nat_le (length bytes) t.x.1) tt e.x (Bad (Form t.x.1)) e.one in
    record {
      start = s.x;
      walk = w.x;
      tables = t.x;
      start_is = ap (λ k. walk_start_read k bytes) here ∙ s.one;
      walk_is = w.one;
      tables_are = t.one;
      ends = ends.0;
      value_is = same_value (made s.x.0 w.x.0 t.x.0) value e.two;
    }

-- the kinds that there are
by_kinds : (P : ℕ → Type 0) (version : Version) (kind : ℕ) → IsKind kinds version kind → P 0 → P 1 → P 2 → P kind
by_kinds P version zero is a b c = a
by_kinds P version (suc zero) is a b c = b
by_kinds P version (suc (suc zero)) is a b c = c
by_kinds P One (suc (suc (suc n))) is a b c = absurd (omega (arith, ltb-true (suc (suc (suc n))) 3 is))
by_kinds P Two (suc (suc (suc n))) is a b c = absurd (omega (arith, eqb-true (suc (suc (suc n))) 0 is))

cuts_no_blocks : (top head : Head) (cuts : List CutRecord) (blocks : List BlockRecord) → Cuts top cuts ≡ Blocks head blocks → ⊥
cuts_no_blocks top head cuts blocks is = cc

cuts_no_walk : (top head : Head) (cuts : List CutRecord) (taps : Taps) (gap : ℕ) (walk tables : List ℕ) → Cuts top cuts ≡ Walk head taps gap walk tables → ⊥
cuts_no_walk top head cuts taps gap walk tables is = cc

blocks_no_walk : (top head : Head) (blocks : List BlockRecord) (taps : Taps) (gap : ℕ) (walk tables : List ℕ) → Blocks top blocks ≡ Walk head taps gap walk tables → ⊥
blocks_no_walk top head blocks taps gap walk tables is = cc

pub cuts_only : (kind : ℕ) (head : Head) (at : ℕ) (bytes : List ℕ) (top : Head) (cuts : List CutRecord) → IsKind kinds head.version kind → records_read kind head at bytes ≡ Ok (Cuts top cuts)
    → (kind ≡ 0) × CutsParts head at bytes (Cuts top cuts)
cuts_only kind head at bytes top cuts kind_is =
    let value = Cuts top cuts in
    by_kinds (λ k. records_read k head at bytes ≡ Ok value → (k ≡ 0) × CutsParts head at bytes value) head.version kind kind_is
    (λ so. (refl, cuts_parts head at bytes value so))
    (λ so. absurd (cuts_no_blocks top head cuts _ (sym (blocks_parts head at bytes value so).value_is)))
    (λ so. absurd (cuts_no_walk top head cuts _ _ _ _ (sym (walk_parts head at bytes value so).value_is)))

pub blocks_only : (kind : ℕ) (head : Head) (at : ℕ) (bytes : List ℕ) (top : Head) (blocks : List BlockRecord) → IsKind kinds head.version kind → records_read kind head at bytes ≡ Ok (Blocks top blocks)
    → (kind ≡ 1) × BlocksParts head at bytes (Blocks top blocks)
blocks_only kind head at bytes top blocks kind_is =
    let value = Blocks top blocks in
    by_kinds (λ k. records_read k head at bytes ≡ Ok value → (k ≡ 1) × BlocksParts head at bytes value) head.version kind kind_is
    (λ so. absurd (cuts_no_blocks head top _ blocks (cuts_parts head at bytes value so).value_is))
    (λ so. (refl, blocks_parts head at bytes value so))
    (λ so. absurd (blocks_no_walk top head blocks _ _ _ _ (sym (walk_parts head at bytes value so).value_is)))

pub walk_only : (kind : ℕ) (head : Head) (at : ℕ) (bytes : List ℕ) (top : Head) (taps : Taps) (gap : ℕ) (walk tables : List ℕ) → IsKind kinds head.version kind
    → records_read kind head at bytes ≡ Ok (Walk top taps gap walk tables) → (kind ≡ 2) × WalkParts head at bytes (Walk top taps gap walk tables)
walk_only kind head at bytes top taps gap walk tables kind_is =
    let value = Walk top taps gap walk tables in
    by_kinds (λ k. records_read k head at bytes ≡ Ok value → (k ≡ 2) × WalkParts head at bytes value) head.version kind kind_is
    (λ so. absurd (cuts_no_walk head top _ taps gap walk tables (cuts_parts head at bytes value so).value_is))
    (λ so. absurd (blocks_no_walk head top _ taps gap walk tables (blocks_parts head at bytes value so).value_is))
    (λ so. (refl, walk_parts head at bytes value so))
