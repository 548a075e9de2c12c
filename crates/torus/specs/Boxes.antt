-- A reader has to trust this file. Where the next patch goes, where q is the first unfilled cell
-- of an output of T cells on an axis, and the sample has S. (Kwatra et al. 2003 lay patches that
-- overlap; that a patch leaves out a cell of a wrapped axis is own.)
use Rattle.std.specs.Prelude.{◌-◌, ℕ, ℤ, pos, ◌-ℤ◌, min, Bool, true, false}
use Rattle.limits.specs.declared.bounds.TheConstants.{GREATEST_AXIS}
use Rattle.cells.specs.declared.place.At.{At}
use Rattle.cells.specs.declared.place.Box3.{Box3}
use Rattle.cells.specs.declared.place.Size.{Size}
use Rattle.boxes.specs.Spans.{at_least_0, patch_corner, patch_len}
use Rattle.job_words.specs.declared.tile.TilePlan.{TilePlan}
use Rattle.torus.specs.Wraps.{on_turn}

-- the length of a patch. On a wrapped axis it leaves a cell of the output out, and has 2 cells
-- fewer than a volume may have
abbrev pub tile_len : Bool → ℕ → ℕ → ℕ → ℕ
tile_len true T S side = min side (min S (min (T - 1) (GREATEST_AXIS - 2)))
tile_len false T S side = patch_len T S side

-- where a patch of the length B begins: as far before q as it may overlap, around on a wrapped
-- axis
abbrev pub tile_corner : Bool → ℕ → ℕ → ℕ → ℕ → ℤ
tile_corner true T B overlap q = on_turn T (pos q -ℤ pos (min overlap (B - 1)))
tile_corner false T B overlap q = pos (patch_corner T B overlap q)

-- the size of a patch from a part of this size, and the box that it goes to
abbrev pub tile_inner : TilePlan → Size → Size → Size
tile_inner plan output part = record {
  w = tile_len plan.wrap.x output.w part.w plan.side;
  h = tile_len plan.wrap.y output.h part.h plan.side;
  f = tile_len plan.wrap.f output.f part.f plan.side;
}

abbrev pub tile_box : TilePlan → Size → Size → At → Box3
tile_box plan output part q = let inner = tile_inner plan output part in record {
  corner = record {
    x = tile_corner plan.wrap.x output.w inner.w plan.overlap (at_least_0 q.x);
    y = tile_corner plan.wrap.y output.h inner.h plan.overlap (at_least_0 q.y);
    f = tile_corner plan.wrap.f output.f inner.f plan.overlap (at_least_0 q.f);
  };
  size = inner;
}
