-- Laws of pieces that are laid into a buffer one after another, and of the samples of a row of cells.
use Rattle.std.proofs.Common.{◌≡◌, ℕ, zero, suc, ◌≤◌, ◌<◌, ◌+◌, ◌*◌, List, [], ◌∷◌, ◌++◌, length, take, drop, get_or, refl, sym, ap, ◌∙◌, subst, arith, append_assoc, to_z, w32}
use Rattle.std.specs.Prelude.{pos, Some, IsSome, unwrap_or}
use Rattle.std.specs.List.{AllByRecursion, concat}
use Rattle.std.proofs.lemmas.Int.{ints}
use Rattle.std.proofs.Math.Nat.{mul-le-mul_left}
use Rattle.std.proofs.lemmas.List.{length-append, length-set, length-take-le, length-drop, append-nil, drop-drop, drop_at, take_all, take-append-le, drop-append-le, get_or-take, get_or-drop, take_more_set}
use Rattle.std.proofs.Math.ListN.{set}
use Rattle.std.proofs.Math.Seq.{take-add, take-suc}
use Rattle.std.proofs.lemmas.List.Elements.{All-take, All-drop, recursion_from_All}
use Rattle.limits.specs.declared.bounds.TheConstants.{GREATEST_AXIS}
use Rattle.cells.specs.Places.{IsInside, spot, index_in}
use Rattle.cells.specs.Cells.{Cells, HasRun, IsCell, IsVolume, index_of, row_at, run_from}
use Rattle.cells.proofs.Raster.{index_of_spot}
use Rattle.cells.proofs.PartLaws.{index_front}
use Rattle.cells.proofs.PartBoxes.{run_of_part, run_of_volume}
use Rattle.cells.proofs.CellLaws.{cell_is}
use Rattle.y4m_clip.specs.declared.form.SpaceKind.{SpaceKind}
use Rattle.y4m_clip.specs.declared.form.SpaceKind.TheVariants.{Mono, C444, C422, C411, C420}
use Rattle.y4m_clip.specs.Spaces.{cell_width, cell_height, samples_of, joined_to}
use Rattle.y4m_clip.specs.Clips.{span}
use Rattle.y4m_clip.specs.Writing.{written_cell, row_samples, plane_of, planes_of}
use Rattle.y4m_clip.specs.Laying.{Lays, run_samples}

-- Pieces.

pub nothing_laid : (was : List ℕ) (at : ℕ) → Lays [] was at was at
nothing_laid was at = record { room = refl; place = omega arith; front = sym (append-nil (take at was)) }

pub laid_then : (p q a b c : List ℕ) (at next last : ℕ) → Lays p a at b next → Lays q b next c last → Lays (p ++ q) a at c last
laid_then p q a b c at next last first second = record {
  room = second.room ∙ first.room;
  place = omega (arith, first.place, second.place, length-append p q);
  front = second.front ∙ ap (λ t. t ++ q) first.front ∙ append_assoc (take at a) p q;
}

pub laid_same : (p q a b : List ℕ) (at next : ℕ) → p ≡ q → Lays p a at b next → Lays q a at b next
laid_same p q a b at next same laid = subst (λ t. Lays t a at b next) same laid

pub laid_more : (n : ℕ) (part : ℕ → List ℕ) (a b c : List ℕ) (at next last : ℕ) → Lays (joined_to n part) a at b next → Lays (part n) b next c last → Lays (joined_to (n + 1) part) a at c last
laid_more n part a b c at next last first second =
    let one : suc n ≡ n + 1 = omega arith in
    laid_same (joined_to (suc n) part) (joined_to (n + 1) part) a c at last (ap (λ m. joined_to m part) one)
    (laid_then (joined_to n part) (part n) a b c at next last first second)

pub one_laid : (piece was : List ℕ) (at : ℕ) → length piece ≡ 1 → at < length was → Lays piece was at (set was at (get_or piece 0 0)) (at + 1)
one_laid [] was at one lt = absurd (omega arith)
one_laid (byte ∷ []) was at one lt = record { room = length-set was at byte; place = refl; front = take_more_set was at byte lt }
one_laid (byte ∷ more ∷ rest) was at one lt = absurd (omega arith)

pub two_laid : (piece was : List ℕ) (at : ℕ) → length piece ≡ 2 → at + 1 < length was → Lays piece was at (set (set was at (get_or piece 0 0)) (at + 1) (get_or piece 1 0)) (at + 2)
two_laid [] was at two lt = absurd (omega arith)
two_laid (byte ∷ []) was at two lt = absurd (omega arith)
two_laid (byte ∷ next ∷ []) was at two lt =
    let after : at + 1 + 1 ≡ at + 2 = omega arith in
    let inside : at + 1 < length (set was at byte) = omega (arith, length-set was at byte) in
    subst (Lays (byte ∷ next ∷ []) was at (set (set was at byte) (at + 1) next)) after
    (laid_then (byte ∷ []) (next ∷ []) was (set was at byte) (set (set was at byte) (at + 1) next) at (at + 1) (at + 1 + 1)
    (one_laid (byte ∷ []) was at refl (omega arith)) (one_laid (next ∷ []) (set was at byte) (at + 1) refl inside))
two_laid (byte ∷ next ∷ more ∷ rest) was at two lt = absurd (omega arith)

-- Lists that a function gives.

-- each byte of a list, so far
pub joined_bytes : (bytes : List ℕ) (w : ℕ) → w ≤ length bytes → joined_to w (λ x. get_or bytes x 0 ∷ []) ≡ take w bytes
joined_bytes bytes zero le = refl
joined_bytes bytes (suc w) le = ap (λ t. t ++ get_or bytes w 0 ∷ []) (joined_bytes bytes w (omega arith)) ∙ sym (take-suc bytes w 0 (omega arith))

-- all bytes of each run, so far
joined_runs : (bytes : List ℕ) (k w : ℕ) → run_samples bytes k 0 k w ≡ take (k * w) bytes
joined_runs bytes k zero = ap (λ m. take m bytes) (let none : 0 ≡ k * 0 = omega arith in none)
joined_runs bytes k (suc w) =
    let more : k * w + k ≡ k * suc w = omega arith in
    let from : k * w + 0 ≡ k * w = omega arith in
    (λ i. joined_runs bytes k w i ++ take k (drop (from i) bytes)) ∙ sym (take-add (k * w) k bytes) ∙ ap (λ m. take m bytes) more

pub runs_laid : (bytes was now : List ℕ) (k start count w at next : ℕ) → length bytes ≡ k * w → start + count ≤ k → count ≡ k → Lays bytes was at now next → Lays (run_samples bytes k start count w) was at now next
runs_laid bytes was now k start count w at next whole inside all laid =
    let begin : 0 ≡ start = omega arith in
    laid_same bytes (run_samples bytes k start count w) was now at next
    (sym (take_all (k * w) bytes (omega arith)) ∙ sym (joined_runs bytes k w) ∙ (λ i. run_samples bytes k (begin i) (sym all i) w)) laid

pub length-joined_below : (n k : ℕ) (part : ℕ → List ℕ) → ((i : ℕ) → i < n → length (part i) ≡ k) → length (joined_to n part) ≡ k * n
length-joined_below zero k part each = omega arith
length-joined_below (suc n) k part each =
    let more : k * suc n ≡ k * n + k = grind arith in
    omega (arith, length-append (joined_to n part) (part n), each n (omega arith), length-joined_below n k part (λ i lt. each i (omega arith)), more)

pub same_joined : (n : ℕ) (p q : ℕ → List ℕ) → ((i : ℕ) → i < n → p i ≡ q i) → joined_to n p ≡ joined_to n q
same_joined zero p q each = refl
same_joined (suc n) p q each = λ i. same_joined n p q (λ j lt. each j (omega arith)) i ++ each n (omega arith) i

pub length-span : (bytes : List ℕ) (start count : ℕ) → start + count ≤ length bytes → length (span bytes start count) ≡ count
length-span bytes start count fits = length-take-le count (drop start bytes) (omega (arith, length-drop start bytes))

-- a coordinate of a cell is the same as a signed number
pub signed_same : (n : ℕ) → n ≤ GREATEST_AXIS → to_z w32 n ≡ pos n
signed_same n le = omega (arith, ints)

-- a run of k bytes lies among w of them
pub in_runs : (k x w m : ℕ) → x < w → m ≤ k → k * x + m ≤ k * w
in_runs k x w m lt le =
    let less : k * (x + 1) ≤ k * w = mul-le-mul_left k (let e : x + 1 ≤ w = omega arith in e) in
    let more : k * (x + 1) ≡ k * x + k = grind arith in
    omega arith

pub length-run_samples : (bytes : List ℕ) (k start count w : ℕ) → length bytes ≡ k * w → start + count ≤ k → length (run_samples bytes k start count w) ≡ count * w
length-run_samples bytes k start count w whole inside =
    length-joined_below w count (λ x. span bytes (k * x + start) count) (λ x lt. length-span bytes (k * x + start) count (omega (arith, in_runs k x w (start + count) lt inside)))

-- The samples of a row of cells.

abbrev pub Have : ℕ → List (List ℕ) → Type 0
Have k cells = AllByRecursion (λ cell. length cell ≡ k) cells

span_of_cells : (k x start count : ℕ) (cells : List (List ℕ)) → Have k cells → x < length cells → start + count ≤ k → span (concat cells) (k * x + start) count ≡ span (get_or cells x []) start count
span_of_cells k x start count [] have below inside = absurd (omega arith)
span_of_cells k zero start count (cell ∷ cells) have below inside =
    let none : k * 0 + start ≡ start = omega arith in
    ap (λ m. take count (drop m (cell ++ concat cells))) none
    ∙ ap (take count) (drop-append-le start cell (concat cells) (omega (arith, have.0)))
    ∙ take-append-le count (drop start cell) (concat cells) (omega (arith, have.0, length-drop start cell))
span_of_cells k (suc x) start count (cell ∷ cells) have below inside =
    let more : k * suc x + start ≡ k + (k * x + start) = omega arith in
    ap (λ m. take count (drop m (cell ++ concat cells))) more
    ∙ ap (take count) (sym (drop-drop (k * x + start) k (cell ++ concat cells)))
    ∙ ap (λ t. take count (drop (k * x + start) t)) (drop_at cell (concat cells) k have.0)
    ∙ span_of_cells k x start count cells have.1 (omega arith) inside

-- where a row of a frame begins, and its cells
pub record IsFrameRow (v : Cells) (y f : ℕ) : Type 0 where
  pub first : ℕ
  pub start : index_of v (spot 0 y f) ≡ Some first
  pub run : HasRun v (spot 0 y f) v.size.w
  pub fits : first + v.size.w ≤ length v.cells
  pub cell : (x : ℕ) → x < v.size.w → written_cell v f y x ≡ get_or v.cells (first + x) []

pub frame_row_of : (v : Cells) → IsVolume v → (y f : ℕ) → y < v.size.h → f < v.size.f → IsFrameRow v y f
frame_row_of v is y f ly lf =
    let rest : ℕ = v.size.w * (y + v.size.h * f) in
    let at : (x : ℕ) → x < v.size.w → index_in v.size (spot x y f) ≡ Some (x + rest) = λ x lx. index_of_spot v.size x y f lx ly lf in
    let axes = is.small.axes in
    let zeroth : index_in v.size (spot 0 y f) ≡ Some (0 + rest) = at 0 (omega (arith, axes.w)) in
    let start : index_of v (spot 0 y f) ≡ Some (0 + rest) = index_front v.size v.more (spot 0 y f) (0 + rest) zeroth in
    let inside : IsInside v.size (spot 0 y f) = subst IsSome (sym zeroth) refl in
    let run : HasRun v (spot 0 y f) v.size.w = run_of_part v (spot 0 y f) v.size.w inside (omega (arith, ints)) in
    record {
      first = 0 + rest;
      start = start;
      run = run;
      fits = omega (arith, run_of_volume v (spot 0 y f) (0 + rest) v.size.w start run, is.count);
      cell = λ x lx. ap (λ o. unwrap_or o []) (cell_is v is (spot x y f) (x + rest) (at x lx)) ∙ ap (λ i. get_or v.cells i []) (let e : x + rest ≡ (0 + rest) + x = omega arith in e);
    }

have_cells : (k : ℕ) (cells : List (List ℕ)) → AllByRecursion (IsCell k) cells → Have k cells
have_cells k [] each = tt
have_cells k (cell ∷ cells) each = (each.0.samples, have_cells k cells each.1)

pub row_laid : (v : Cells) → IsVolume v → (y f start count : ℕ) → y < v.size.h → f < v.size.f → start + count ≤ v.k
    → run_samples (row_at v (spot 0 y f) v.size.w) v.k start count v.size.w ≡ row_samples v f y start count
row_laid v is y f start count ly lf inside = same_joined v.size.w _ _ each
  where
    row : IsFrameRow v y f
    row = frame_row_of v is y f ly lf

    cells : List (List ℕ)
    cells = take v.size.w (drop row.first v.cells)

    bytes_are : row_at v (spot 0 y f) v.size.w ≡ concat cells
    bytes_are = ap (run_from v.cells v.size.w) row.start

    have : Have v.k cells
    have = have_cells v.k cells (recursion_from_All (IsCell v.k) cells (All-take (IsCell v.k) v.size.w (drop row.first v.cells) (All-drop (IsCell v.k) row.first v.cells is.cells)))

    long : length cells ≡ v.size.w
    long = length-take-le v.size.w (drop row.first v.cells) (omega (arith, length-drop row.first v.cells, row.fits))

    each : (x : ℕ) → x < v.size.w → span (row_at v (spot 0 y f) v.size.w) (v.k * x + start) count ≡ span (written_cell v f y x) start count
    each x lx =
        ap (λ t. span t (v.k * x + start) count) bytes_are
        ∙ span_of_cells v.k x start count cells have (omega (arith, long)) inside
        ∙ ap (λ cell. span cell start count) (get_or-take v.size.w (drop row.first v.cells) x [] lx ∙ get_or-drop row.first v.cells x [] ∙ sym (row.cell x lx))

-- Rows and planes.

pub length-rows : (row : List ℕ) (k start count rows w : ℕ) → length row ≡ k * w → start + count * rows ≤ k
    → length (joined_to rows (λ j. run_samples row k (start + count * j) count w)) ≡ count * w * rows
length-rows row k start count rows w whole inside =
    length-joined_below rows (count * w) (λ j. run_samples row k (start + count * j) count w)
    (λ j lt. length-run_samples row k (start + count * j) count w whole (omega (arith, in_runs count j rows count lt (omega arith))))

pub rows_laid : (v : Cells) → IsVolume v → (y f start count rows : ℕ) → y < v.size.h → f < v.size.f → start + count * rows ≤ v.k
    → joined_to rows (λ j. run_samples (row_at v (spot 0 y f) v.size.w) v.k (start + count * j) count v.size.w) ≡ joined_to rows (λ j. row_samples v f y (start + count * j) count)
rows_laid v is y f start count rows ly lf inside =
    same_joined rows _ _ (λ j lt. row_laid v is y f (start + count * j) count ly lf (omega (arith, in_runs count j rows count lt (omega arith))))

-- a buffer that a piece fills
laid_all : (p was now : List ℕ) (next : ℕ) → Lays p was 0 now next → next ≡ length was → now ≡ p
laid_all p was now next laid full = sym (take_all next now (omega (arith, laid.room))) ∙ laid.front

pub mono_laid : (v : Cells) (f width height : ℕ) (a b : List ℕ) (next : ℕ) → width ≡ 1 → height ≡ 1 → length a ≡ 1 * (v.size.w * v.size.h)
    → Lays (plane_of v f 0 width height) a 0 b next → next ≡ 0 + width * v.size.w * height * v.size.h → b ≡ planes_of Mono v f
mono_laid v f width height a b next one same whole laid place =
    let full : 0 + 1 * v.size.w * 1 * v.size.h ≡ 1 * (v.size.w * v.size.h) = grind arith in
    laid_all (plane_of v f 0 width height) a b next laid (place ∙ (λ i. 0 + one i * v.size.w * same i * v.size.h) ∙ full ∙ sym whole)
    ∙ (λ i. plane_of v f 0 (one i) (same i))

-- the samples of a frame of w x h cells: those of its planes
pub frame_samples : (kind : SpaceKind) (w h : ℕ) → (kind ≡ Mono → ⊥) → cell_width kind * w * cell_height kind * h + 1 * w * 1 * h + 1 * w * 1 * h ≡ samples_of kind * (w * h)
frame_samples Mono w h some = absurd (some refl)
frame_samples C444 w h some = grind arith
frame_samples C422 w h some = grind arith
frame_samples C411 w h some = grind arith
frame_samples C420 w h some = grind arith

pub cell_samples : (kind : SpaceKind) → (kind ≡ Mono → ⊥) → cell_width kind * cell_height kind + 2 ≡ samples_of kind
cell_samples Mono some = absurd (some refl)
cell_samples C444 some = refl
cell_samples C422 some = refl
cell_samples C411 some = refl
cell_samples C420 some = refl

three_planes : (kind : SpaceKind) (v : Cells) (f : ℕ) → (kind ≡ Mono → ⊥)
    → plane_of v f 0 (cell_width kind) (cell_height kind) ++ plane_of v f (cell_width kind * cell_height kind) 1 1 ++ plane_of v f (cell_width kind * cell_height kind + 1) 1 1 ≡ planes_of kind v f
three_planes Mono v f some = absurd (some refl)
three_planes C444 v f some = refl
three_planes C422 v f some = refl
three_planes C411 v f some = refl
three_planes C420 v f some = refl

pub planes_laid : (kind : SpaceKind) (v : Cells) (f width height : ℕ) (a b c d : List ℕ) (luma blue red : ℕ) → width ≡ cell_width kind → height ≡ cell_height kind → (kind ≡ Mono → ⊥)
    → length a ≡ samples_of kind * (v.size.w * v.size.h)
    → Lays (plane_of v f 0 width height) a 0 b luma → luma ≡ 0 + width * v.size.w * height * v.size.h
    → Lays (plane_of v f (width * height) 1 1) b luma c blue → blue ≡ luma + 1 * v.size.w * 1 * v.size.h
    → Lays (plane_of v f (width * height + 1) 1 1) c blue d red → red ≡ blue + 1 * v.size.w * 1 * v.size.h
    → d ≡ planes_of kind v f
planes_laid kind v f width height a b c d luma blue red wide high some whole first place second place' third place'' =
    let p = plane_of v f 0 width height in
    let q = plane_of v f (width * height) 1 1 in
    let r = plane_of v f (width * height + 1) 1 1 in
    let all : Lays (p ++ q ++ r) a 0 d red = laid_then (p ++ q) r a c d 0 blue red (laid_then p q a b c 0 luma blue first second) third in
    let size : width * v.size.w * height * v.size.h ≡ cell_width kind * v.size.w * cell_height kind * v.size.h = λ i. wide i * v.size.w * high i * v.size.h in
    laid_all (p ++ q ++ r) a d red all (omega (arith, whole, place, place', place'', size, frame_samples kind v.size.w v.size.h some))
    ∙ (λ i. plane_of v f 0 (wide i) (high i) ++ plane_of v f (wide i * high i) 1 1 ++ plane_of v f (wide i * high i + 1) 1 1)
    ∙ three_planes kind v f some
