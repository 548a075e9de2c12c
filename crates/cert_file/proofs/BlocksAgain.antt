-- Block records that are spelled are read again.
use Rattle.std.proofs.Common.{◌≡◌, true, false, Bool, ℕ, zero, suc, ◌+◌, ◌*◌, ◌/◌, ◌≤◌, ◌<◌, ◌^◌, List, [], ◌∷◌, ◌++◌, length, take, get_or, refl, sym, ap, ◌∙◌, subst, append_assoc, arith}
use Rattle.std.proofs.lemmas.Bool.{le-leb, lt-leb}
use Rattle.std.proofs.lemmas.List.{append-nil}
use Rattle.std.proofs.lemmas.Nat.{from_be_bytes-to_be_bytes_2}
use Rattle.std.specs.Bool.{nat_eq}
use Rattle.std.specs.Int.{w8, w16, w32}
use Rattle.std.specs.List.{flat_map}
use Rattle.std.specs.Prelude.{pos, All, IfSome, Option, Some, None, Result, Ok, nat_le, nat_lt}
use Rattle.limits.specs.declared.bounds.TheConstants.{MOST_BOX_CELLS}
use Rattle.shelf_traits.specs.declared.fault.ReadError.{ReadError}
use Rattle.cells.specs.declared.place.At.{At}
use Rattle.cells.specs.declared.place.Size.{Size}
use Rattle.cells.specs.Places.{cell_count}
use Rattle.strip_boundary.specs.declared.boundary.BoundaryRecord.{BoundaryRecord}
use Rattle.block_check.specs.declared.block.BlockRecord.{BlockRecord}
use Rattle.block_check.specs.Blocks.{HasColumns, block_cells}
use Rattle.file_bytes.specs.Fields.{field_16, field_32, fields_16, fields_32}
use Rattle.source_map.specs.declared.head.Head.{Head}
use Rattle.source_map.specs.Heads.{IsKind, head_form, head_read}
use Rattle.source_map.specs.MapFiles.{IsShort}
use Rattle.source_map.specs.Readings.{list_read, number_read}
use Rattle.source_map.proofs.Again.{Spells, alone_spells, field_spells, not_equal, spells_16, spells_32, spells_8, then_spells}
use Rattle.source_map.proofs.FieldLaws.{chain, value_alone}
use Rattle.cert_file.specs.declared.block_fields.BlockStart.{BlockStart}
use Rattle.cert_file.specs.declared.file.RecordFile.TheVariants.{Blocks}
use Rattle.cert_file.specs.BlockForms.{IsBlockInForm, IsWideBlock, IsWideBoundary, block_form, block_size_field, block_start_form, boundary_form, flag, flags_of, spot_field}
use Rattle.cert_file.specs.BlockReading.{block_read, block_size_read, block_start_read, blocks_read, boundary_read, cols_rule, flags_rule, has_left, has_top, left_read, side_read, spot_read, spot_rule, top_read}
use Rattle.cert_file.specs.CutReading.{box_axis_rule, box_cells_rule}
use Rattle.cert_file.specs.RecordFiles.{AreBlocksInLimits, AreBlocksReadAgain, blocks_form, blocks_kind, kinds, record_magic, records_read, versions}
use Rattle.cert_file.specs.Rules.{any_rule}
use Rattle.cert_file.proofs.StripColumns.{cols_are}
use Rattle.cert_file.proofs.CutsAgain.{IsFileOf, box_axis_spells, count_of, each_spells, file_again, head_spells, ruled_spells, then_ends, value_ends}
use Rattle.cert_file.proofs.NumberLists.{spells_all_16, spells_all_32}
use Rattle.cert_file.proofs.Readings.{ruled}
use Rattle.cert_file.proofs.RecordReading.{chain_to_end, value_at_end}

-- a place in frame 0
spot_spells : (p : At) → IsShort p → p.f ≡ pos 0 → Spells spot_read (spot_field p) p
spot_spells p short frame =
    let x = count_of p.x short.x in
    let y = count_of p.y short.y in
    let same : record { x = pos x.n; y = pos y.n; f = pos 0 } ≡ p = λ i. record { x = sym x.is i; y = sym y.is i; f = sym frame i } in
    subst (λ q. Spells spot_read (spot_field q) q) same (counts x.n y.n x.below y.below)
  where
    counts : (x y : ℕ) → x < 2 ^ 16 → y < 2 ^ 16 → Spells spot_read (field_16 x ++ field_16 y) (record { x = pos x; y = pos y; f = pos 0 })
    counts x y x_lt y_lt =
        field_spells 4 spot_rule (field_16 x ++ field_16 y) (record { x = pos x; y = pos y; f = pos 0 }) refl
        (λ at i. Ok (record { x = pos (from_be_bytes-to_be_bytes_2 x x_lt i); y = pos (from_be_bytes-to_be_bytes_2 y y_lt i); f = pos 0 }))

-- the size of a block
size_spells : (before : ℕ) (size : Size) → (1 ≤ size.w) × (size.w < 2 ^ 16) → (1 ≤ size.h) × (size.h < 2 ^ 16) → size.f ≡ 1 → before + cell_count size ≤ MOST_BOX_CELLS
    → Spells (block_size_read before) (block_size_field size) size
size_spells before size w h frame few =
    let axis : ℕ → List ℕ → Result (ℕ × ℕ) ReadError = number_read w16 box_axis_rule in
    let made : Size = record { w = size.w; h = size.h; f = 1 } in
    let same : made ≡ size = λ i. record { w = size.w; h = size.h; f = sym frame i } in
    let end = λ (w h : ℕ). ruled (box_cells_rule before (record { w = w; h = h; f = 1 })) in
    let a = field_16 size.w in
    let b = field_16 size.h in
    let low : nat_le (before + cell_count made) MOST_BOX_CELLS ≡ true = le-leb (before + cell_count made) MOST_BOX_CELLS (subst (λ (s : Size). before + cell_count s ≤ MOST_BOX_CELLS) (sym same) few) in
    let lawful : box_cells_rule before made ≡ Ok made = rw low refl in
    let all : a ++ (b ++ []) ≡ a ++ b = ap (λ t. a ++ t) (append-nil b) in
    subst (λ (s : Size). Spells (block_size_read before) (a ++ b) s) same
    (subst (λ piece. Spells (block_size_read before) piece made) all
    (then_spells axis (λ x. chain axis (end x)) a (b ++ []) size.w made (box_axis_spells size.w w.0 w.1)
    (then_spells axis (end size.w) b [] size.h made (box_axis_spells size.h h.0 h.1) (ruled_spells (box_cells_rule before made) made lawful))))

-- flags, and what they tell
abbrev pub there : Option BoundaryRecord → Bool
there None = false
there (Some boundary) = true

flags_spell : (left top : Option BoundaryRecord) → Spells (number_read w8 flags_rule) ((flag 1 left + flag 2 top) ∷ []) (flag 1 left + flag 2 top)
flags_spell None None = spells_8 flags_rule 0 0 (λ at. refl)
flags_spell (Some left) None = spells_8 flags_rule 1 1 (λ at. refl)
flags_spell None (Some top) = spells_8 flags_rule 2 2 (λ at. refl)
flags_spell (Some left) (Some top) = spells_8 flags_rule 3 3 (λ at. refl)

left_told : (left top : Option BoundaryRecord) → there left ≡ has_left (flag 1 left + flag 2 top)
left_told None None = refl
left_told (Some left) None = refl
left_told None (Some top) = refl
left_told (Some left) (Some top) = refl

top_told : (left top : Option BoundaryRecord) → there top ≡ has_top (flag 1 left + flag 2 top)
top_told None None = refl
top_told (Some left) None = refl
top_told None (Some top) = refl
top_told (Some left) (Some top) = refl

-- what a block record begins with
abbrev start_of : BlockRecord → BlockStart
start_of block = record { placement = block.placement; flags = flags_of block }

start_spells : (before : ℕ) (block : BlockRecord) → IsBlockInForm block → before + cell_count block.placement.rect.size ≤ MOST_BOX_CELLS
    → Spells (block_start_read before) (block_start_form block) (start_of block)
start_spells before block lawful few =
    let corner = block.placement.rect.corner in
    let size = block.placement.rect.size in
    let from = block.placement.from in
    let a = spot_field corner in
    let b = block_size_field size in
    let c = spot_field from in
    let d = flags_of block ∷ [] in
    let flags : ℕ → List ℕ → Result (ℕ × ℕ) ReadError = number_read w8 flags_rule in
    let read_size : ℕ → List ℕ → Result (Size × ℕ) ReadError = block_size_read before in
    let end = λ (p : At) (s : Size) (q : At) (n : ℕ). value_alone {A = BlockStart} (record { placement = record { rect = record { corner = p; size = s }; from = q }; flags = n }) in
    let all : a ++ (b ++ (c ++ (d ++ []))) ≡ a ++ b ++ c ++ d =
    ap (λ t. a ++ (b ++ (c ++ t))) (append-nil d) ∙ ap (λ t. a ++ t) (sym (append_assoc b c d)) ∙ sym (append_assoc a (b ++ c) d) ∙ ap (λ t. t ++ d) (sym (append_assoc a b c)) in
    subst (λ piece. Spells (block_start_read before) piece (start_of block)) all
    (then_spells spot_read (λ p. chain read_size (λ s. chain spot_read (λ q. chain flags (end p s q)))) a (b ++ (c ++ (d ++ []))) corner (start_of block)
    (spot_spells corner lawful.corner lawful.formed.first_frame)
    (then_spells read_size (λ s. chain spot_read (λ q. chain flags (end corner s q))) b (c ++ (d ++ [])) size (start_of block)
    (size_spells before size (lawful.formed.w, lawful.w) (lawful.formed.h, lawful.h) lawful.formed.one_frame few)
    (then_spells spot_read (λ q. chain flags (end corner size q)) c (d ++ []) from (start_of block) (spot_spells from lawful.from lawful.from_frame)
    (then_spells flags (end corner size from) d [] (flags_of block) (start_of block) (flags_spell block.left block.top) (alone_spells (start_of block))))))

-- a boundary
boundary_spells : (rows most : ℕ) (boundary : BoundaryRecord) → 1 ≤ rows → most < 2 ^ 16 → HasColumns rows most boundary → length boundary.path ≡ rows → IsWideBoundary boundary
    → Spells (boundary_read rows most) (boundary_form rows (Some boundary)) boundary
boundary_spells rows most boundary some small has long wide =
    let cols = length boundary.sums / rows in
    let same : cols ≡ has.cols = ap (λ n. n / rows) has.count ∙ cols_are rows has.cols some in
    let count : length boundary.sums ≡ rows * cols = has.count ∙ ap (λ n. rows * n) (sym same) in
    let from : 1 ≤ cols = omega (arith, same, has.some) in
    let to : cols ≤ most = omega (arith, same, has.most_of) in
    let some_cols : nat_eq cols 0 ≡ false = not_equal cols 0 (λ e. omega (arith, e, from)) in
    let few_cols : nat_lt most cols ≡ false = lt-leb (suc most) cols (omega (arith, to)) in
    let cols_is : Spells (number_read w16 (cols_rule most)) (field_16 cols) cols = spells_16 (cols_rule most) cols cols (omega (arith, to, small)) (λ at. rw (some_cols, few_cols) refl) in
    let read_path : ℕ → List ℕ → Result (List ℕ × ℕ) ReadError = list_read (number_read w16 any_rule) rows in
    let read_sums = λ (n : ℕ). list_read (number_read w32 any_rule) (rows * n) in
    let path_is : Spells read_path (fields_16 boundary.path) boundary.path =
    subst (λ n. Spells (list_read (number_read w16 any_rule) n) (fields_16 boundary.path) boundary.path) long (spells_all_16 boundary.path wide.path) in
    let sums_are : Spells (read_sums cols) (fields_32 boundary.sums) boundary.sums =
    subst (λ n. Spells (list_read (number_read w32 any_rule) n) (fields_32 boundary.sums) boundary.sums) count (spells_all_32 boundary.sums wide.sums) in
    let end = λ (path sums : List ℕ). value_alone {A = BoundaryRecord} (record { path = path; sums = sums }) in
    let a = field_16 cols in
    let b = fields_16 boundary.path in
    let c = fields_32 boundary.sums in
    let all : a ++ (b ++ (c ++ [])) ≡ a ++ b ++ c = ap (λ t. a ++ (b ++ t)) (append-nil c) ∙ sym (append_assoc a b c) in
    subst (λ piece. Spells (boundary_read rows most) piece boundary) all
    (then_spells (number_read w16 (cols_rule most)) (λ n. chain read_path (λ path. chain (read_sums n) (end path))) a (b ++ (c ++ [])) cols boundary cols_is
    (then_spells read_path (λ path. chain (read_sums cols) (end path)) b (c ++ []) boundary.path boundary path_is
    (then_spells (read_sums cols) (end boundary.path) c [] boundary.sums boundary sums_are (alone_spells boundary))))

-- the boundary on a side, if there is one
side_spells : (rows most : ℕ) (boundary : Option BoundaryRecord) → 1 ≤ rows → most < 2 ^ 16 → IfSome boundary (HasColumns rows most) → IfSome boundary (λ it. length it.path ≡ rows) → IfSome boundary IsWideBoundary
    → Spells (side_read (there boundary) rows most) (boundary_form rows boundary) boundary
side_spells rows most None some small has long wide = alone_spells None
side_spells rows most (Some boundary) some small has long wide =
    let piece = boundary_form rows (Some boundary) in
    subst (λ p. Spells (side_read true rows most) p (Some boundary)) (append-nil piece)
    (then_spells (boundary_read rows most) (λ b. value_alone {A = Option BoundaryRecord} (Some b)) piece [] boundary (Some boundary)
    (boundary_spells rows most boundary some small has long wide) (alone_spells {A = Option BoundaryRecord} (Some boundary)))

-- a block record, after boxes of so many cells
block_spells : (before : ℕ) (block : BlockRecord) → IsBlockInForm block → IsWideBlock block → before + cell_count block.placement.rect.size ≤ MOST_BOX_CELLS
    → Spells (block_read before) (block_form block) block
unfolding block_form
block_spells before block lawful wide few =
    let size = block.placement.rect.size in
    let start = start_of block in
    let end = λ (start : BlockStart) (left top : Option BoundaryRecord). value_alone {A = BlockRecord} (record { placement = start.placement; left = left; top = top }) in
    let a = block_start_form block in
    let b = boundary_form size.h block.left in
    let c = boundary_form size.w block.top in
    let left : Spells (left_read start) b block.left =
    subst (λ t. Spells (side_read t size.h size.w) b block.left) (left_told block.left block.top) (side_spells size.h size.w block.left lawful.formed.h lawful.w lawful.formed.left lawful.left wide.left) in
    let top : Spells (top_read start) c block.top =
    subst (λ t. Spells (side_read t size.w size.h) c block.top) (top_told block.left block.top) (side_spells size.w size.h block.top lawful.formed.w lawful.h lawful.formed.top lawful.top wide.top) in
    let all : a ++ (b ++ (c ++ [])) ≡ a ++ b ++ c = ap (λ t. a ++ (b ++ t)) (append-nil c) ∙ sym (append_assoc a b c) in
    subst (λ piece. Spells (block_read before) piece block) all
    (then_spells (block_start_read before) (λ s. chain (left_read s) (λ l. chain (top_read s) (end s l))) a (b ++ (c ++ [])) start block (start_spells before block lawful few)
    (then_spells (left_read start) (λ l. chain (top_read start) (end start l)) b (c ++ []) block.left block left
    (then_spells (top_read start) (end start block.left) c [] block.top block top (alone_spells block))))

-- the cells of the blocks up to one
cells_up_to : (blocks : List BlockRecord) (i : ℕ) (d : BlockRecord) → i < length blocks → block_cells (take i blocks) + cell_count (get_or blocks i d).placement.rect.size ≤ block_cells blocks
cells_up_to [] i d lt = absurd (omega arith)
cells_up_to (block ∷ blocks) zero d lt = omega arith
cells_up_to (block ∷ blocks) (suc i) d lt = omega (arith, cells_up_to blocks i d (omega arith))

blocks_spell : (head : Head) (blocks : List BlockRecord) → AreBlocksInLimits head blocks → All IsWideBlock blocks → Spells (blocks_read (length blocks)) (flat_map block_form blocks) blocks
blocks_spell head blocks lawful wide =
    each_spells (λ front. block_read (block_cells front)) block_form blocks
    (λ i d lt. block_spells (block_cells (take i blocks)) (get_or blocks i d) (lawful.form.each i d lt) (wide i d lt) (omega (arith, cells_up_to blocks i d lt, lawful.cells)))

-- the whole file
pub blocks_end : (head : Head) (blocks : List BlockRecord) → AreBlocksInLimits head blocks → All IsWideBlock blocks → IsFileOf (blocks_form head blocks) (Blocks head blocks)
blocks_end head blocks lawful wide =
    let value = Blocks head blocks in
    let h = head_form record_magic blocks_kind head in
    let n = field_32 (length blocks) in
    let c = flat_map block_form blocks in
    let all : h ++ (n ++ (c ++ [])) ≡ blocks_form head blocks = ap (λ t. h ++ (n ++ t)) (append-nil c) ∙ sym (append_assoc h n c) in
    let read : IsFileOf (h ++ (n ++ (c ++ []))) value =
    then_ends (head_read record_magic versions kinds) (λ head. records_read head.1 head.0) h (n ++ (c ++ [])) (head, blocks_kind) value
    (head_spells blocks_kind head lawful.form.head_is (subst (λ v. IsKind kinds v blocks_kind) (sym lawful.form.version) refl))
    (then_ends (number_read w32 any_rule) (λ n. chain_to_end (blocks_read n) (λ blocks. value_at_end (Blocks head blocks))) n (c ++ []) (length blocks) value
    (spells_32 any_rule (length blocks) (length blocks) lawful.form.count (λ at. refl))
    (then_ends (blocks_read (length blocks)) (λ blocks. value_at_end (Blocks head blocks)) c [] blocks value (blocks_spell head blocks lawful wide) (value_ends value))) in
    subst (λ bytes. IsFileOf bytes value) all read

pub blocks_again : (head : Head) (blocks : List BlockRecord) → AreBlocksReadAgain head blocks
blocks_again head blocks lawful wide = file_again (blocks_form head blocks) (Blocks head blocks) (blocks_end head blocks lawful wide)
