-- To be trusted: placements along one axis, on which the output has T cells and a part of the
-- sample S, and where the first unfilled cell has the coordinate q. (Kwatra et al. 2003 lay the
-- whole sample or a patch of it; the grid, and where a patch is laid, are own.)
use Rattle.std.specs.Prelude.{◌≡◌, ◌≤◌, ◌<◌, ◌+◌, ◌-◌, ◌*◌, ◌/◌, ℕ, ℤ, pos, negsuc, ◌+ℤ◌, ◌-ℤ◌, ◌<ℤ◌, min}
use Rattle.boxes.specs.declared.spans.Span.{Span}

-- the greater of a number and 0
abbrev pub at_least_0 : ℤ → ℕ
at_least_0 (pos n) = n
at_least_0 (negsuc n) = 0

-- the span has a cell, lies in the output and, from its source on, in the part, and has q
pub record SpanFits (T S q : ℕ) (span : Span) : Type 0 where
  pub some : 1 ≤ span.len
  pub inside : span.corner + span.len ≤ T
  pub sources : span.from + span.len ≤ S
  pub before : span.corner ≤ q
  pub covers : q < span.corner + span.len

-- the whole part, laid so that it begins at o, which may lie before the output: what of it is
-- inside
abbrev pub laid_at : ℕ → ℕ → ℤ → Span
laid_at T S o = record {
  corner = at_least_0 o;
  len = min (at_least_0 (o +ℤ pos S)) T - at_least_0 o;
  from = at_least_0 (pos (at_least_0 o) -ℤ o);
}

-- the whole part, laid so that its coordinate c comes to q
abbrev pub laid_on : ℕ → ℕ → ℕ → ℕ → Span
laid_on T S q c = laid_at T S (pos q -ℤ pos c)

-- how far copies of the part in a grid overlap, and how far one begins after another
abbrev pub grid_overlap : ℕ → ℕ → ℕ
grid_overlap S overlap = min overlap (S - 1)

abbrev pub grid_step : ℕ → ℕ → ℕ
grid_step S overlap = S - grid_overlap S overlap

-- the least multiple of the step, counted from 0, that is greater than q - S
pub record IsGridCorner (S step q corner : ℕ) : Type 0 where
  pub multiple : (k : ℕ) × (corner ≡ k * step)
  pub greater : (pos q -ℤ pos S) <ℤ pos corner
  pub least : (k : ℕ) → (pos q -ℤ pos S) <ℤ pos (k * step) → corner ≤ k * step

-- that multiple, where the step is from 1 to S
abbrev pub grid_corner : ℕ → ℕ → ℕ → ℕ
grid_corner S step q = (q + step - S) / step * step

-- the part's copy in the grid that has q
abbrev pub grid_on : ℕ → ℕ → ℕ → ℕ → Span
grid_on T S overlap q =
    let corner = grid_corner S (grid_step S overlap) q in
    record { corner = corner; len = min S (T - corner); from = 0 }

-- the length of a patch, which fits in the output and in each part, where S is the least of these
abbrev pub patch_len : ℕ → ℕ → ℕ → ℕ
patch_len T S side = min side (min S T)

-- where a patch of the length B begins: as far before q as it may overlap, and inside the output
abbrev pub patch_corner : ℕ → ℕ → ℕ → ℕ → ℕ
patch_corner T B overlap q = min (T - B) (at_least_0 (pos q -ℤ pos (min overlap (B - 1))))
