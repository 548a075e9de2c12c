-- Where the entries of a run of places are.
use Rattle.std.proofs.Common.{◌≡◌, ℕ, ◌+◌, ◌*◌, ◌/◌, ◌<◌, ◌≤◌, List, length, get_or, take, drop, refl, ap, sym, subst, ◌∙◌, arith, rules, ⊎_elim}
use Rattle.std.proofs.lemmas.Int.{ints}
use Rattle.std.proofs.lemmas.List.{get_or-drop, get_or-take, take-take}
use Rattle.std.proofs.lemmas.List.Sums.{sum_by_more, sum_by-take-le}
use Rattle.std.proofs.Math.Nat.{mul-le-mul_left}
use Rattle.std.proofs.lemmas.Bool.{cases_lt}
use Rattle.std.proofs.lemmas.Bool.Decides.{Decides-and, Decides-eqb}
use Rattle.std.specs.Prelude.{◌==◌, ◌&&◌, IsTrue, min, ℤ, pos, negsuc, ◌+ℤ◌, ◌-ℤ◌, FitsSigned, All, Some, IsSome}
use Rattle.std.specs.List.{sum_by}
use Rattle.std.specs.Int.{w32}
use Rattle.cells.specs.declared.place.At.{At}
use Rattle.cells.specs.declared.place.Box3.{Box3}
use Rattle.cells.specs.declared.place.Size.{Size}
use Rattle.cells.specs.Boxes.{AxisHolds, HasCells}
use Rattle.cells.specs.Cells.{Cells, IsVolume}
use Rattle.cells.specs.Places.{DifferenceFits, IsInside, IsSmall, index_in, minus, plus, raster_index, spot}
use Rattle.cells.proofs.PartBoxes.{held_small}
use Rattle.cells.proofs.Raster.{in_rows, index_of_spot}
use Rattle.search_squares.specs.declared.blocks.Block.{Block}
use Rattle.search_squares.specs.declared.sums.BlockSums.{BlockSums}
use Rattle.search_squares.specs.declared.sums.TheConstants.{LANES}
use Rattle.search_squares.specs.Blocks.{IsBlockIn, block_sum, square_of_difference}
use Rattle.search_squares.specs.Bounds.{IsBoxIn, place_along}
use Rattle.search_squares.specs.Gathered.{IsCellStep}
use Rattle.search_squares.specs.Sums.{AreBlockSums}

some_same : {A : Type 0} (x y : A) → Some x ≡ Some y → x ≡ y
some_same x y e = cc

-- two sizes are the same where `==` says so
pub same_size : (p q : Size) → IsTrue ((p.w == q.w) && ((p.h == q.h) && (p.f == q.f))) → p ≡ q
same_size p q equal =
    let parts = (Decides-and _ _ (Decides-eqb p.w q.w) (Decides-and _ _ (Decides-eqb p.h q.h) (Decides-eqb p.f q.f))).0 equal in
    λ k. record { w = parts.0 k; h = parts.1.0 k; f = parts.1.1 k }

-- a run of cells along one axis, from a number on
record Run (n : ℕ) (z : ℤ) (len : ℕ) : Type 0 where
  pub from : ℕ
  pub is : z ≡ pos from
  pub to : from + len ≤ n

run_of : (n : ℕ) (z : ℤ) (len : ℕ) → AxisHolds n z len → Run n z len
run_of n (pos a) len holds = record { from = a; is = refl; to = omega (arith, ints, holds.to) }
run_of n (negsuc a) len holds = absurd (omega (arith, ints, holds.from))

-- a box laid from each of some places along X lies in another: where the first of them is in it
pub record IsPlaced (outer : Box3) (from : At) (n : ℕ) (inner : Size) : Type 0 where
  pub x : ℕ
  pub y : ℕ
  pub f : ℕ
  pub x_is : from.x -ℤ outer.corner.x ≡ pos x
  pub y_is : from.y -ℤ outer.corner.y ≡ pos y
  pub f_is : from.f -ℤ outer.corner.f ≡ pos f
  pub columns : (j : ℕ) → j < n → (x + j) + inner.w ≤ outer.size.w
  pub rows : y + inner.h ≤ outer.size.h
  pub frames : f + inner.f ≤ outer.size.f

pub placed : (outer : Box3) (from : At) (n : ℕ) (inner : Size) → 1 ≤ n → ((j : ℕ) → j < n → IsBoxIn outer (place_along from j) inner) → IsPlaced outer from n inner
placed outer from n inner some each =
    let first = each 0 (omega arith) in
    let a = run_of outer.size.w _ inner.w first.x in
    let b = run_of outer.size.h _ inner.h first.y in
    let c = run_of outer.size.f _ inner.f first.f in
    record {
      x = a.from;
      y = b.from;
      f = c.from;
      x_is = omega (arith, ints, a.is);
      y_is = omega (arith, ints, b.is);
      f_is = omega (arith, ints, c.is);
      columns = λ j lj. let e = run_of outer.size.w _ inner.w (each j lj).x in omega (arith, ints, a.is, e.is, e.to);
      rows = b.to;
      frames = c.to;
    }

-- how far a block is from the sample's in a lane
abbrev pub difference_at : Cells → ℕ → At → ℕ → Block → ℕ
difference_at sample side from j block = square_of_difference block.sum (block_sum sample side (plus (place_along from j) block.step))

small_fits : (d : ℕ) → d < 8192 → FitsSigned w32 (pos d)
small_fits d lt = search rules

module _ (sample : Cells) (volume : IsVolume sample) (sums : BlockSums) (are : AreBlockSums sample sums) (rect : Box3) (some : HasCells rect.size) (from : At) (n : ℕ) (few : 1 ≤ n)
    (at : IsPlaced sums.rect from n rect.size) where
  abbrev inner : Size
  inner = rect.size

  abbrev outer : Size
  outer = sums.rect.size

  abbrev corner : At
  corner = sums.rect.corner

  wide : at.x + inner.w ≤ outer.w
  wide = omega (arith, at.columns 0 (omega (arith, few)))

  pub small : IsSmall outer
  small = held_small sample corner outer volume (record { w = omega (arith, wide, some.w); h = omega (arith, at.rows, some.h); f = omega (arith, at.frames, some.f) }) are.inside

  pub fits : DifferenceFits from corner
  fits = record {
    x = subst (FitsSigned w32) (sym at.x_is) (small_fits at.x (omega (arith, wide, small.axes.w)));
    y = subst (FitsSigned w32) (sym at.y_is) (small_fits at.y (omega (arith, at.rows, small.axes.h)));
    f = subst (FitsSigned w32) (sym at.f_is) (small_fits at.f (omega (arith, at.frames, small.axes.f)));
  }

  first_at : index_in outer (minus from corner) ≡ Some (raster_index outer at.x at.y at.f)
  first_at =
      (λ k. index_in outer (record { x = at.x_is k; y = at.y_is k; f = at.f_is k }))
      ∙ index_of_spot outer at.x at.y at.f (omega (arith, wide, some.w)) (omega (arith, at.rows, some.h)) (omega (arith, at.frames, some.f))

  pub first_inside : IsInside outer (minus from corner)
  first_inside = subst IsSome (sym first_at) refl

  module _ (side : ℕ) (one : 1 ≤ side) (side_is : side ≡ sums.side) (seen items : List Block) (same : seen ≡ items) (all : All (IsBlockIn rect side) items) (i : ℕ) (d : Block) (lt : i < length seen) where
    abbrev block : Block
    block = get_or seen i d

    is : IsBlockIn rect side block
    is = subst (All (IsBlockIn rect side)) (sym same) all i d lt

    pub short : IsCellStep block.step
    short = record {
      x = is.x;
      y = is.y;
      f = is.f;
      is = is.step;
      short = (omega (arith, wide, is.columns, one, small.axes.w), omega (arith, at.rows, is.rows, one, small.axes.h), omega (arith, at.frames, is.frame, small.axes.f));
    }

    -- so many entries come before that of the block
    abbrev pub Comes : ℕ → Type 0
    Comes entry = (x y f : ℕ) → block.step ≡ spot x y f → entry ≡ raster_index outer x y f

    together : (j : ℕ) → (raster_index outer at.x at.y at.f + raster_index outer is.x is.y is.f) + j ≡ raster_index outer ((at.x + is.x) + j) (at.y + is.y) (at.f + is.f)
    together j = omega arith

    indices : (first entry : ℕ) → index_in outer (minus from corner) ≡ Some first → Comes entry → first + entry ≡ raster_index outer at.x at.y at.f + raster_index outer is.x is.y is.f
    indices first entry first_is comes = λ t. some_same first _ (sym first_is ∙ first_at) t + comes is.x is.y is.f is.step t

    pub room : (first entry : ℕ) → index_in outer (minus from corner) ≡ Some first → Comes entry → first + entry + LANES ≤ length sums.sums.items
    room first entry first_is comes =
        let below : raster_index outer (at.x + is.x) (at.y + is.y) (at.f + is.f) < outer.w * (outer.h * outer.f) =
        in_rows outer.w (outer.h * outer.f) ((at.y + is.y) + outer.h * (at.f + is.f)) (at.x + is.x) (omega (arith, wide, is.columns, one))
        (in_rows outer.h outer.f (at.f + is.f) (at.y + is.y) (omega (arith, at.rows, is.rows, one)) (omega (arith, at.frames, is.frame))) in
        omega (arith, indices first entry first_is comes, together 0, below, are.long)

    there : (j : ℕ) → plus corner (spot ((at.x + is.x) + j) (at.y + is.y) (at.f + is.f)) ≡ plus (place_along from j) block.step
    there j =
        (λ k. record { x = across corner.x from.x at.x at.x_is k; y = down corner.y from.y at.y is.y at.y_is k; f = down corner.f from.f at.f is.f at.f_is k })
        ∙ ap (plus (place_along from j)) (sym is.step)
      where
        across : (z p : ℤ) (a : ℕ) → p -ℤ z ≡ pos a → z +ℤ pos ((a + is.x) + j) ≡ (p +ℤ pos j) +ℤ pos is.x
        across z p a e = omega (arith, ints, e)

        down : (z p : ℤ) (a b : ℕ) → p -ℤ z ≡ pos a → z +ℤ pos (a + b) ≡ (p +ℤ pos 0) +ℤ pos b
        down z p a b e = omega (arith, ints, e)

    -- from a run of entries that was read, and totals before and after it
    module _ (run : List ℕ) (first entry : ℕ) (first_is : index_in outer (minus from corner) ≡ Some first) (comes : Comes entry) (run_is : run ≡ take LANES (drop (first + entry) sums.sums.items))
        (j : ℕ) (lj : j < n) (most : n ≤ LANES) where
      -- the entry in a lane is the sum of the sample's block there
      lane_entry : get_or run j 0 ≡ block_sum sample side (plus (place_along from j) block.step)
      lane_entry =
          ap (λ (xs : List ℕ). get_or xs j 0) run_is
          ∙ get_or-take LANES (drop (first + entry) sums.sums.items) j 0 (omega (arith, lj, most))
          ∙ get_or-drop (first + entry) sums.sums.items j 0
          ∙ ap (λ m. get_or sums.sums.items (m + j) 0) (indices first entry first_is comes)
          ∙ ap (λ m. get_or sums.sums.items m 0) (together j)
          ∙ are.entries ((at.x + is.x) + j) (at.y + is.y) (at.f + is.f)
          (omega (arith, at.columns j lj, is.columns, side_is)) (omega (arith, at.rows, is.rows, side_is)) (omega (arith, at.frames, is.frame))
          ∙ (λ t. block_sum sample (sym side_is t) (there j t))

      -- the totals are in units of 2^16, of differences that are taken so many times
      module _ (was now factor : ℕ) (more : 65536 * now ≤ 65536 * was + factor * factor * square_of_difference block.sum (get_or run j 0))
          (before : 65536 * was ≤ factor * factor * sum_by (difference_at sample side from j) (take i items)) where
        abbrev whole : List Block → ℕ
        whole blocks = factor * factor * sum_by (difference_at sample side from j) blocks

        added : 65536 * now ≤ 65536 * was + factor * factor * difference_at sample side from j block
        added = subst (λ entry. 65536 * now ≤ 65536 * was + factor * factor * square_of_difference block.sum entry) lane_entry more

        front : 65536 * was ≤ whole (take i seen)
        front = subst (λ xs. 65536 * was ≤ whole (take i xs)) (sym same) before

        together_at_most : 65536 * now ≤ factor * factor * (sum_by (difference_at sample side from j) (take i seen) + difference_at sample side from j block)
        together_at_most = omega (arith, added, front)

        -- the total is still at most the differences of the blocks so far
        pub one_more : 65536 * now ≤ whole (take (i + 1) items)
        one_more =
            subst (λ xs. 65536 * now ≤ whole (take (i + 1) xs)) same
            (subst (λ s. 65536 * now ≤ factor * factor * s) (sym (sum_by_more (difference_at sample side from j) seen i d lt)) together_at_most)

-- the first of some blocks add up to no more than further ones
sum_of_first : (f : Block → ℕ) (blocks : List Block) (i m : ℕ) → i ≤ m → sum_by f (take i blocks) ≤ sum_by f (take m blocks)
sum_of_first f blocks i m le = subst (λ first. sum_by f first ≤ sum_by f (take m blocks)) (take-take i m blocks le) (sum_by-take-le f (take m blocks) i)

-- a total of the first blocks is at most the differences of further ones
pub further : (f : Block → ℕ) (blocks : List Block) (i m times now : ℕ) → i ≤ m → 65536 * now ≤ times * sum_by f (take i blocks) → 65536 * now ≤ times * sum_by f (take m blocks)
further f blocks i m times now le first = omega (arith, first, mul-le-mul_left times (sum_of_first f blocks i m le))

-- a total above the most for a limit is of an error above the limit
pub above_limit : (factor bytes limit error total difference most : ℕ) → factor * factor * (bytes * limit) < 65536 * (most + 1) → most < total → 65536 * total ≤ factor * factor * difference → difference ≤ bytes * error → limit < error
above_limit factor bytes limit error total difference most is above part bound =
    ⊎_elim (λ lt. lt) (λ le.
    let whole : factor * factor * difference ≤ factor * factor * (bytes * limit) = mul-le-mul_left (factor * factor) (omega (arith, bound, mul-le-mul_left bytes le)) in
    absurd (omega (arith, is, above, part, whole))) (cases_lt limit error)

-- two totals that come to more than the most show that two errors do to more than the limit
pub joint_above : (factor bytes limit most lane times total difference error : ℕ) (times' total' difference' error' : ℕ) → factor * factor * (bytes * limit) < 65536 * (most + 1) → most < lane → lane ≤ times * total + times' * total'
    → 65536 * total ≤ factor * factor * difference → difference ≤ bytes * error → 65536 * total' ≤ factor * factor * difference' → difference' ≤ bytes * error' → limit < times * error + times' * error'
joint_above factor bytes limit most lane times total difference error times' total' difference' error' is above sum part bound part' bound' =
    ⊎_elim (λ lt. lt) (λ le.
    let whole : factor * factor * (bytes * (times * error + times' * error')) ≤ factor * factor * (bytes * limit) = mul-le-mul_left (factor * factor) (mul-le-mul_left bytes le) in
    let one : 65536 * total ≤ factor * factor * (bytes * error) = omega (arith, part, mul-le-mul_left (factor * factor) bound) in
    let other : 65536 * total' ≤ factor * factor * (bytes * error') = omega (arith, part', mul-le-mul_left (factor * factor) bound') in
    absurd (omega (arith, is, above, sum, whole, mul-le-mul_left times one, mul-le-mul_left times' other))) (cases_lt limit (times * error + times' * error'))

-- the most for a limit, where it is so small that no product was cut off
pub scale_holds : (bytes limit factor bound square scaled most : ℕ) → bound ≡ min (bytes * limit) 18446744073709551615 → square ≡ factor * factor → scaled ≡ min (bound * square) 18446744073709551615 → most ≡ scaled / 65536 → most ≤ 4294967295
    → factor * factor * (bytes * limit) < 65536 * (most + 1)
scale_holds bytes limit factor bound square scaled most bound_is square_is scaled_is most_is small =
    subst (λ s. s * (bytes * limit) < 65536 * (most + 1)) square_is
    (⊎_elim none some (cases_lt square 1))
  where
    product : bound * square ≡ scaled
    product = omega (arith, scaled_is, most_is, small)

    none : square < 1 → square * (bytes * limit) < 65536 * (most + 1)
    none lt = let zero : square ≡ 0 = omega (arith, lt) in subst (λ s. s * (bytes * limit) < 65536 * (most + 1)) (sym zero) (omega arith)

    some : 1 ≤ square → square * (bytes * limit) < 65536 * (most + 1)
    some le =
        let least : bound * 1 ≤ bound * square = mul-le-mul_left bound le in
        let whole : bytes * limit ≡ bound = omega (arith, bound_is, product, least, most_is, small) in
        subst (λ n. square * n < 65536 * (most + 1)) (sym whole) (omega (arith, product, most_is))
