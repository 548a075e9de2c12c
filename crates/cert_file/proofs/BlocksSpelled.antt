-- Block records that were read are spelled by the bytes.
use Rattle.std.proofs.Common.{◌≡◌, true, false, Bool, ℕ, zero, suc, ◌+◌, ◌*◌, ◌/◌, ◌≤◌, ◌<◌, List, [], ◌∷◌, ◌++◌, length, get_or, refl, sym, ap, ◌∙◌, subst, arith}
use Rattle.std.proofs.lemmas.Bool.{eqb-false, ltb-false}
use Rattle.std.specs.Bool.{nat_eq}
use Rattle.std.specs.Int.{from_be_bytes, w8, w16, w32}
use Rattle.std.specs.List.{flat_map}
use Rattle.std.specs.Prelude.{◌||◌, pos, Option, Some, None, Result, Ok, nat_le, nat_lt}
use Rattle.limits.specs.declared.bounds.TheConstants.{MOST_BOX_CELLS}
use Rattle.shelf_traits.specs.declared.fault.FormFault.TheVariants.{Form}
use Rattle.shelf_traits.specs.declared.fault.ReadError.{ReadError}
use Rattle.shelf_traits.specs.declared.fault.ReadError.TheVariants.{Bad, Limit}
use Rattle.shelf_traits.specs.declared.fault.What.TheVariants.{Records}
use Rattle.cells.specs.declared.place.At.{At}
use Rattle.cells.specs.declared.place.Size.{Size}
use Rattle.cells.specs.Places.{cell_count}
use Rattle.strip_boundary.specs.declared.boundary.BoundaryRecord.{BoundaryRecord}
use Rattle.block_check.specs.declared.block.BlockRecord.{BlockRecord}
use Rattle.file_bytes.specs.Fields.{field_16, field_32, fields_16, fields_32}
use Rattle.source_map.specs.declared.head.Head.{Head}
use Rattle.source_map.specs.Heads.{head_form, head_read}
use Rattle.source_map.specs.Readings.{◌>>=◌, AreBytes, list_read, number_read}
use Rattle.source_map.proofs.HeadsSpelled.{head_kind, head_stood}
use Rattle.source_map.proofs.Spelled.{Spelled, Stood, both_stood, ended, field_stood, list_count, list_stood, none_stood, number_16_stood, number_32_stood, number_8_stood, otherwise, passed, peel, same_first, same_value}
use Rattle.cert_file.specs.declared.block_fields.BlockStart.{BlockStart}
use Rattle.cert_file.specs.declared.file.RecordFile.{RecordFile}
use Rattle.cert_file.specs.declared.file.RecordFile.TheVariants.{Blocks}
use Rattle.cert_file.specs.BlockForms.{block_form, block_size_field, boundary_form, flag, spot_field}
use Rattle.cert_file.specs.BlockReading.{block_read, block_size_read, block_start_read, boundary_read, cols_rule, flags_rule, has_left, has_top, left_read, side_read, spot_read, spot_rule, top_read}
use Rattle.block_check.specs.Blocks.{block_cells}
use Rattle.cert_file.specs.CutReading.{box_axis_rule, box_cells_rule, number_of_two}
use Rattle.cert_file.specs.RecordFiles.{AreBlocksSpelled, blocks_form, blocks_kind, record_file_form, kinds, record_magic, records_read, versions}
use Rattle.cert_file.specs.Rules.{any_rule}
use Rattle.cert_file.proofs.StripColumns.{cols_are}
use Rattle.cert_file.proofs.BlocksAgain.{there}
use Rattle.cert_file.proofs.ByKind.{blocks_only}
use Rattle.cert_file.proofs.CutsSpelled.{box_axis_code, each_count, each_stood, two, whole_stood}

-- a place in frame 0
abbrev spot_of : List ℕ → At
spot_of p = record { x = pos (number_of_two p 0); y = pos (number_of_two p 2); f = pos 0 }

spot_bytes : (p : List ℕ) → length p ≡ 4 → ((i : ℕ) → get_or p i 0 < 256) → (spot : At) → spot_rule 0 p ≡ Ok spot → p ≡ spot_field spot
spot_bytes (a ∷ b ∷ c ∷ d ∷ []) long small spot is =
    (λ i. sym (two a b (small 0) (small 1)) i ++ sym (two c d (small 2) (small 3)) i) ∙ ap spot_field (same_value (spot_of (a ∷ b ∷ c ∷ d ∷ [])) spot is)
spot_bytes [] long small spot is = absurd (omega (arith, long))
spot_bytes (a ∷ []) long small spot is = absurd (omega (arith, long))
spot_bytes (a ∷ b ∷ []) long small spot is = absurd (omega (arith, long))
spot_bytes (a ∷ b ∷ c ∷ []) long small spot is = absurd (omega (arith, long))
spot_bytes (a ∷ b ∷ c ∷ d ∷ e ∷ p) long small spot is = absurd (omega (arith, long))

spot_stood : Spelled spot_read spot_field
spot_stood at bytes spot end small le is =
    let f = field_stood 4 spot_rule at bytes spot end small is in
    subst (λ p. Stood at end p bytes) (spot_bytes f.piece f.long f.small spot f.ruled) f.stood

-- the size of a block, which has a cell
record SizeStood (at end : ℕ) (bytes : List ℕ) (size : Size) : Type 0 where
  w : 1 ≤ size.w
  h : 1 ≤ size.h
  stood : Stood at end (block_size_field size) bytes

axis_some : (at : ℕ) (bytes : List ℕ) (n end : ℕ) → AreBytes bytes → number_read w16 box_axis_rule at bytes ≡ Ok (n, end) → 1 ≤ n
axis_some at bytes n end small is =
    let f = field_stood 2 (λ at piece. box_axis_rule at (from_be_bytes w16 piece)) at bytes n end small is in
    let m = from_be_bytes w16 f.piece in
    let test = otherwise (nat_eq m 0) (Ok m) n (Bad (Form at)) f.ruled in
    let same = same_value m n test.1 in
    some m (eqb-false m 0 test.0) same
  where
    some : (m : ℕ) → (m ≡ 0 → ⊥) → m ≡ n → 1 ≤ n
    some zero other e = absurd (other refl)
    some (suc m) other e = omega (arith, e)

size_stood : (before at : ℕ) (bytes : List ℕ) (size : Size) (end : ℕ) → AreBytes bytes → at ≤ length bytes → block_size_read before at bytes ≡ Ok (size, end) → SizeStood at end bytes size
size_stood before at bytes size end small le is =
    let axis : ℕ → List ℕ → Result (ℕ × ℕ) ReadError = number_read w16 box_axis_rule in
    let one : Spelled axis field_16 = number_16_stood box_axis_rule (λ n. n) box_axis_code in
    let made = λ (w h : ℕ). box_cells_rule before (record { w = w; h = h; f = 1 }) in
    let a = peel {A = ℕ × ℕ} {C = Size × ℕ} (axis at bytes) (λ w. axis w.1 bytes >>= λ h. made w.0 h.0 >>= λ size. Ok (size, h.1)) (size, end) is in
    let b = peel {A = ℕ × ℕ} {C = Size × ℕ} (axis a.x.1 bytes) (λ h. made a.x.0 h.0 >>= λ size. Ok (size, h.1)) (size, end) a.two in
    let r = peel {A = Size} {C = Size × ℕ} (made a.x.0 b.x.0) (λ size. Ok (size, b.x.1)) (size, end) b.two in
    let box : Size = record { w = a.x.0; h = b.x.0; f = 1 } in
    let same : box ≡ size = (passed (nat_le (before + cell_count box) MOST_BOX_CELLS) box r.x (Limit Records (before + cell_count box) MOST_BOX_CELLS) r.one).1 ∙ same_first r.x size b.x.1 end r.two in
    let w = one at bytes a.x.0 a.x.1 small le a.one in
    let h = one a.x.1 bytes b.x.0 b.x.1 small w.within b.one in
    record {
      w = subst (λ (s : Size). 1 ≤ s.w) same (axis_some at bytes a.x.0 a.x.1 small a.one);
      h = subst (λ (s : Size). 1 ≤ s.h) same (axis_some a.x.1 bytes b.x.0 b.x.1 small b.one);
      stood = ended block_size_field r.x size at b.x.1 end bytes r.two
          (subst (λ (s : Size). Stood at b.x.1 (block_size_field s) bytes) (passed (nat_le (before + cell_count box) MOST_BOX_CELLS) box r.x (Limit Records (before + cell_count box) MOST_BOX_CELLS) r.one).1
          (both_stood at a.x.1 b.x.1 (field_16 a.x.0) (field_16 b.x.0) bytes w h));
    }

-- flags, and what they tell
flags_code : (at n x : ℕ) → flags_rule at n ≡ Ok x → n ≡ x
flags_code at n x is = same_value n x (otherwise (nat_lt 3 n) (Ok n) x (Bad (Form at)) is).1

flags_few : (at : ℕ) (bytes : List ℕ) (n end : ℕ) → AreBytes bytes → number_read w8 flags_rule at bytes ≡ Ok (n, end) → n ≤ 3
flags_few at bytes n end small is =
    let f = field_stood 1 (λ at piece. flags_rule at (from_be_bytes w8 piece)) at bytes n end small is in
    let m = from_be_bytes w8 f.piece in
    let test = otherwise (nat_lt 3 m) (Ok m) n (Bad (Form at)) f.ruled in
    let same = same_value m n test.1 in
    omega (arith, ltb-false 3 m test.0, same)

abbrev bit : ℕ → Bool → ℕ
bit n true = n
bit n false = 0

flag_bit : (n : ℕ) (boundary : Option BoundaryRecord) → flag n boundary ≡ bit n (there boundary)
flag_bit n None = refl
flag_bit n (Some boundary) = refl

two_bits : (n : ℕ) → n ≤ 3 → n ≡ bit 1 (has_left n) + bit 2 (has_top n)
two_bits zero le = refl
two_bits (suc zero) le = refl
two_bits (suc (suc zero)) le = refl
two_bits (suc (suc (suc zero))) le = refl
two_bits (suc (suc (suc (suc n)))) le = absurd (omega arith)

flags_are : (n : ℕ) (left top : Option BoundaryRecord) → n ≤ 3 → there left ≡ has_left n → there top ≡ has_top n → n ≡ flag 1 left + flag 2 top
flags_are n left top few is_left is_top =
    two_bits n few ∙ (λ k. sym (flag_bit 1 left ∙ ap (bit 1) is_left) k + sym (flag_bit 2 top ∙ ap (bit 2) is_top) k)

-- what a block record begins with
abbrev start_field : BlockStart → List ℕ
start_field start =
    spot_field start.placement.rect.corner ++ block_size_field start.placement.rect.size ++ spot_field start.placement.from ++ start.flags ∷ []

record StartStood (at end : ℕ) (bytes : List ℕ) (start : BlockStart) : Type 0 where
  w : 1 ≤ start.placement.rect.size.w
  h : 1 ≤ start.placement.rect.size.h
  flags : start.flags ≤ 3
  stood : Stood at end (start_field start) bytes

start_stood : (before at : ℕ) (bytes : List ℕ) (start : BlockStart) (end : ℕ) → AreBytes bytes → at ≤ length bytes → block_start_read before at bytes ≡ Ok (start, end) → StartStood at end bytes start
start_stood before at bytes start end small le is =
    let flags : ℕ → List ℕ → Result (ℕ × ℕ) ReadError = number_read w8 flags_rule in
    let made = λ (corner : At) (size : Size) (from : At) (flags : ℕ).
    let start : BlockStart = record { placement = record { rect = record { corner = corner; size = size }; from = from }; flags = flags } in start in
    let a = peel {A = At × ℕ} {C = BlockStart × ℕ} (spot_read at bytes)
    (λ corner. block_size_read before corner.1 bytes >>= λ size. spot_read size.1 bytes >>= λ from. flags from.1 bytes >>= λ n. Ok (made corner.0 size.0 from.0 n.0, n.1)) (start, end) is in
    let b = peel {A = Size × ℕ} {C = BlockStart × ℕ} (block_size_read before a.x.1 bytes)
    (λ size. spot_read size.1 bytes >>= λ from. flags from.1 bytes >>= λ n. Ok (made a.x.0 size.0 from.0 n.0, n.1)) (start, end) a.two in
    let c = peel {A = At × ℕ} {C = BlockStart × ℕ} (spot_read b.x.1 bytes) (λ from. flags from.1 bytes >>= λ n. Ok (made a.x.0 b.x.0 from.0 n.0, n.1)) (start, end) b.two in
    let d = peel {A = ℕ × ℕ} {C = BlockStart × ℕ} (flags c.x.1 bytes) (λ n. Ok (made a.x.0 b.x.0 c.x.0 n.0, n.1)) (start, end) c.two in
    let s1 = spot_stood at bytes a.x.0 a.x.1 small le a.one in
    let s2 = size_stood before a.x.1 bytes b.x.0 b.x.1 small s1.within b.one in
    let s3 = spot_stood b.x.1 bytes c.x.0 c.x.1 small s2.stood.within c.one in
    let s4 = number_8_stood flags_rule (λ n. n) flags_code c.x.1 bytes d.x.0 d.x.1 small s3.within d.one in
    let p1 = spot_field a.x.0 in
    let p2 = block_size_field b.x.0 in
    let p3 = spot_field c.x.0 in
    let p4 = d.x.0 ∷ [] in
    let same = same_first {A = BlockStart} (made a.x.0 b.x.0 c.x.0 d.x.0) start d.x.1 end d.two in
    record {
      w = subst (λ (s : BlockStart). 1 ≤ s.placement.rect.size.w) same s2.w;
      h = subst (λ (s : BlockStart). 1 ≤ s.placement.rect.size.h) same s2.h;
      flags = subst (λ (s : BlockStart). s.flags ≤ 3) same (flags_few c.x.1 bytes d.x.0 d.x.1 small d.one);
      stood = ended start_field (made a.x.0 b.x.0 c.x.0 d.x.0) start at d.x.1 end bytes d.two
          (both_stood at c.x.1 d.x.1 (p1 ++ p2 ++ p3) p4 bytes (both_stood at b.x.1 c.x.1 (p1 ++ p2) p3 bytes (both_stood at a.x.1 b.x.1 p1 p2 bytes s1 s2.stood) s3) s4);
    }

-- a boundary
cols_code : (most at n x : ℕ) → cols_rule most at n ≡ Ok x → n ≡ x
cols_code most at n x is = same_value n x (otherwise (nat_eq n 0 || nat_lt most n) (Ok n) x (Bad (Form at)) is).1

boundary_stood : (rows most : ℕ) → 1 ≤ rows → Spelled (boundary_read rows most) (λ boundary. boundary_form rows (Some boundary))
boundary_stood rows most some at bytes boundary end small le is =
    let read_cols : ℕ → List ℕ → Result (ℕ × ℕ) ReadError = number_read w16 (cols_rule most) in
    let read_path : ℕ → List ℕ → Result (List ℕ × ℕ) ReadError = list_read (number_read w16 any_rule) rows in
    let read_sums = λ (n : ℕ). list_read (number_read w32 any_rule) (rows * n) in
    let made = λ (path sums : List ℕ). let boundary : BoundaryRecord = record { path = path; sums = sums } in boundary in
    let a = peel {A = ℕ × ℕ} {C = BoundaryRecord × ℕ} (read_cols at bytes) (λ n. read_path n.1 bytes >>= λ path. read_sums n.0 path.1 bytes >>= λ sums. Ok (made path.0 sums.0, sums.1)) (boundary, end) is in
    let b = peel {A = List ℕ × ℕ} {C = BoundaryRecord × ℕ} (read_path a.x.1 bytes) (λ path. read_sums a.x.0 path.1 bytes >>= λ sums. Ok (made path.0 sums.0, sums.1)) (boundary, end) a.two in
    let c = peel {A = List ℕ × ℕ} {C = BoundaryRecord × ℕ} (read_sums a.x.0 b.x.1 bytes) (λ sums. Ok (made b.x.0 sums.0, sums.1)) (boundary, end) b.two in
    let s1 = number_16_stood (cols_rule most) (λ n. n) (cols_code most) at bytes a.x.0 a.x.1 small le a.one in
    let s2 = list_stood (number_read w16 any_rule) field_16 (number_16_stood any_rule (λ n. n) (λ at n x e. same_value n x e)) rows a.x.1 bytes b.x.0 b.x.1 small s1.within b.one in
    let s3 = list_stood (number_read w32 any_rule) field_32 (number_32_stood any_rule (λ n. n) (λ at n x e. same_value n x e)) (rows * a.x.0) b.x.1 bytes c.x.0 c.x.1 small s2.within c.one in
    let count = list_count (number_read w32 any_rule) (rows * a.x.0) b.x.1 bytes c.x.0 c.x.1 c.one in
    let cols : length c.x.0 / rows ≡ a.x.0 = ap (λ n. n / rows) count ∙ cols_are rows a.x.0 some in
    let p2 = fields_16 b.x.0 in
    let p3 = fields_32 c.x.0 in
    ended {A = BoundaryRecord} (λ boundary. boundary_form rows (Some boundary)) (made b.x.0 c.x.0) boundary at c.x.1 end bytes c.two
    (subst (λ n. Stood at c.x.1 (field_16 n ++ p2 ++ p3) bytes) (sym cols)
    (both_stood at b.x.1 c.x.1 (field_16 a.x.0 ++ p2) p3 bytes (both_stood at a.x.1 b.x.1 (field_16 a.x.0) p2 bytes s1 s2) s3))

-- the boundary on a side, if there is one
side_stood : (told : Bool) (rows most : ℕ) → 1 ≤ rows → Spelled (side_read told rows most) (boundary_form rows)
side_stood false rows most some at bytes boundary end small le is = ended {A = Option BoundaryRecord} (boundary_form rows) None boundary at at end bytes is (none_stood at bytes le)
side_stood true rows most some at bytes boundary end small le is =
    let a = peel {A = BoundaryRecord × ℕ} {C = Option BoundaryRecord × ℕ} (boundary_read rows most at bytes) (λ b. Ok (Some b.0, b.1)) (boundary, end) is in
    ended {A = Option BoundaryRecord} (boundary_form rows) (Some a.x.0) boundary at a.x.1 end bytes a.two (boundary_stood rows most some at bytes a.x.0 a.x.1 small le a.one)

side_told : (told : Bool) (rows most at : ℕ) (bytes : List ℕ) (boundary : Option BoundaryRecord) (end : ℕ) → side_read told rows most at bytes ≡ Ok (boundary, end) → there boundary ≡ told
side_told false rows most at bytes boundary end is = ap there (sym (same_first {A = Option BoundaryRecord} None boundary at end is))
side_told true rows most at bytes boundary end is =
    let a = peel {A = BoundaryRecord × ℕ} {C = Option BoundaryRecord × ℕ} (boundary_read rows most at bytes) (λ b. Ok (Some b.0, b.1)) (boundary, end) is in
    ap there (sym (same_first {A = Option BoundaryRecord} (Some a.x.0) boundary a.x.1 end a.two))

-- a block record
block_stood : (before : ℕ) → Spelled (block_read before) block_form
unfolding block_form
block_stood before at bytes block end small le is =
    let made = λ (start : BlockStart) (left top : Option BoundaryRecord). let block : BlockRecord = record { placement = start.placement; left = left; top = top } in block in
    let a = peel {A = BlockStart × ℕ} {C = BlockRecord × ℕ} (block_start_read before at bytes)
    (λ start. left_read start.0 start.1 bytes >>= λ left. top_read start.0 left.1 bytes >>= λ top. Ok (made start.0 left.0 top.0, top.1)) (block, end) is in
    let b = peel {A = Option BoundaryRecord × ℕ} {C = BlockRecord × ℕ} (left_read a.x.0 a.x.1 bytes) (λ left. top_read a.x.0 left.1 bytes >>= λ top. Ok (made a.x.0 left.0 top.0, top.1)) (block, end) a.two in
    let c = peel {A = Option BoundaryRecord × ℕ} {C = BlockRecord × ℕ} (top_read a.x.0 b.x.1 bytes) (λ top. Ok (made a.x.0 b.x.0 top.0, top.1)) (block, end) b.two in
    let start = a.x.0 in
    let size = start.placement.rect.size in
    let s1 = start_stood before at bytes start a.x.1 small le a.one in
    let s2 = side_stood (has_left start.flags) size.h size.w s1.h a.x.1 bytes b.x.0 b.x.1 small s1.stood.within b.one in
    let s3 = side_stood (has_top start.flags) size.w size.h s1.w b.x.1 bytes c.x.0 c.x.1 small s2.within c.one in
    let flags = flags_are start.flags b.x.0 c.x.0 s1.flags (side_told (has_left start.flags) size.h size.w a.x.1 bytes b.x.0 b.x.1 b.one) (side_told (has_top start.flags) size.w size.h b.x.1 bytes c.x.0 c.x.1 c.one) in
    let front = spot_field start.placement.rect.corner ++ block_size_field size ++ spot_field start.placement.from in
    let p2 = boundary_form size.h b.x.0 in
    let p3 = boundary_form size.w c.x.0 in
    ended block_form (made start b.x.0 c.x.0) block at c.x.1 end bytes c.two
    (subst (λ n. Stood at c.x.1 (front ++ n ∷ [] ++ p2 ++ p3) bytes) flags
    (both_stood at b.x.1 c.x.1 (start_field start ++ p2) p3 bytes (both_stood at a.x.1 b.x.1 (start_field start) p2 bytes s1.stood s2) s3))

-- the whole file
pub blocks_spelled : (bytes : List ℕ) (head : Head) (blocks : List BlockRecord) → AreBlocksSpelled bytes head blocks
blocks_spelled bytes head blocks small is =
    let value = Blocks head blocks in
    let a = peel {A = (Head × ℕ) × ℕ} {C = RecordFile} (head_read record_magic versions kinds 0 bytes) (λ h. records_read h.0.1 h.0.0 h.1 bytes) value is in
    let top = a.x.0.0 in
    let parts = blocks_only a.x.0.1 top a.x.1 bytes head blocks (head_kind record_magic versions kinds 0 bytes a.x.0 a.x.1 a.one) a.two in
    let p = parts.1 in
    let read = λ (front : List BlockRecord). block_read (block_cells front) in
    let start : 0 ≤ length bytes = omega arith in
    let h = subst (λ k. Stood 0 a.x.1 (head_form record_magic k top) bytes) parts.0 (head_stood record_magic versions kinds 0 bytes a.x.0 a.x.1 small start a.one) in
    let n = number_32_stood any_rule (λ n. n) (λ at n x e. same_value n x e) a.x.1 bytes p.count.0 p.count.1 small h.within p.count_is in
    let n' = subst (λ k. Stood a.x.1 p.count.1 (field_32 k) bytes) (sym (each_count read p.count.0 p.count.1 bytes p.blocks.0 p.blocks.1 p.blocks_are)) n in
    let r = each_stood read block_form (λ front. block_stood (block_cells front)) p.count.0 p.count.1 bytes p.blocks.0 p.blocks.1 small n.within p.blocks_are in
    let all = both_stood 0 p.count.1 p.blocks.1 (head_form record_magic blocks_kind top ++ field_32 (length p.blocks.0)) (flat_map block_form p.blocks.0) bytes
    (both_stood 0 a.x.1 p.count.1 (head_form record_magic blocks_kind top) (field_32 (length p.blocks.0)) bytes h n') r in
    whole_stood (blocks_form top p.blocks.0) bytes p.blocks.1 all p.ends ∙ ap record_file_form p.value_is
