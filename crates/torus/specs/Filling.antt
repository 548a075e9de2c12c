-- How far a small canvas is filled and a choice put in, and the boxes for which there is one, for
-- contracts within the crates torus and tile_run; nobody has to trust this file. (Own.)
use Rattle.std.specs.Prelude.{◌≡◌, ◌<◌, ◌≤◌, ℕ, Bool, List, Some, None}
use Rattle.cells.specs.declared.place.At.{At}
use Rattle.cells.specs.declared.place.Box3.{Box3}
use Rattle.cells.specs.declared.place.Size.{Size}
use Rattle.cells.specs.Boxes.{HasCells}
use Rattle.cells.specs.Cells.{Cells}
use Rattle.cells.specs.Places.{IsInside, IsSmall, index_in}
use Rattle.boxes.specs.Rooms.{HasRoom}
use Rattle.map_canvas.specs.declared.canvas.Placement.{Placement}
use Rattle.map_canvas.specs.Maps.{SourceMap, map_at}
use Rattle.job_words.specs.declared.tile.Wrap.{Wrap}
use Rattle.torus.specs.Tiles.{Takes, after_around, output_cell, small_size, step_around}

-- one cell has this source, and all others are as before
pub record IsNamedAt (before : SourceMap) (p from : At) (after : SourceMap) : Type 0 where
  pub size : after.size ≡ before.size
  pub here : map_at after p ≡ Some from
  pub others : (q : At) → (q ≡ p → ⊥) → map_at after q ≡ map_at before q

-- the first n cells have the sources of the output's, and the others none
pub record IsFilledTo (m : SourceMap) (wrap : Wrap) (rect : Box3) (n : ℕ)
    (small : SourceMap) : Type 0 where
  pub size : small.size ≡ small_size wrap m.size rect
  pub filled : (p : At) (i : ℕ) → index_in small.size p ≡ Some i → i < n
      → map_at small p ≡ map_at m (output_cell wrap m.size rect p)
  pub unfilled : (p : At) (i : ℕ) → index_in small.size p ≡ Some i → n ≤ i → map_at small p ≡ None

-- of a choice over a box that may pass the edge the first n entries are put in
pub record IsPutTo (m : SourceMap) (wrap : Wrap) (placement : Placement) (choice : List Bool)
    (n : ℕ) (after : SourceMap) : Type 0 where
  pub size : after.size ≡ m.size
  pub put : (p : At) (j : ℕ) → IsInside m.size p
      → index_in placement.rect.size (step_around wrap m.size placement.rect p) ≡ Some j → j < n
      → map_at after p ≡ after_around m wrap placement choice p
  pub later : (p : At) (j : ℕ) → IsInside m.size p
      → index_in placement.rect.size (step_around wrap m.size placement.rect p) ≡ Some j → n ≤ j
      → map_at after p ≡ map_at m p
  pub outside : (p : At) → IsInside m.size p
      → index_in placement.rect.size (step_around wrap m.size placement.rect p) ≡ None
      → map_at after p ≡ map_at m p

-- a box of an output and the sample's part, for which a small canvas can be made
pub record IsTileBox (wrap : Wrap) (output : Size) (sample : Cells) (rect : Box3) : Type 0 where
  pub takes : Takes wrap output rect
  pub some : HasCells rect.size
  pub room : HasRoom sample.size rect.size
  pub small : IsSmall (small_size wrap output rect)
