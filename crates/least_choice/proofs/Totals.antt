-- A choice of least total: also where none is held, and over a full map, whose total it doesn't raise.
use Rattle.std.proofs.Common.{◌≡◌, ℕ, List, [], refl, ap, sym, ◌∙◌, arith}
use Rattle.std.specs.Prelude.{Bool, Option, Some, None, false, if◌then◌else◌}
use mathlib.Core.Bool.{false≢true}
use Rattle.cells.specs.declared.place.At.{At}
use Rattle.cells.specs.declared.place.Size.{Size}
use Rattle.cells.specs.Boxes.{HoldsBox}
use Rattle.cells.specs.Cells.{Cells}
use Rattle.cells.specs.Distances.{distance}
use Rattle.cells.specs.Places.{spot}
use Rattle.boxes.specs.Sums.{sum_box}
use Rattle.map_canvas.specs.declared.canvas.Placement.{Placement}
use Rattle.map_canvas.specs.Choices.{IsAfter, after_at, box_index, chosen, new_source}
use Rattle.map_canvas.specs.Maps.{SourceMap, map_at}
use Rattle.costs.specs.Costs.{pairs_at, total_of}
use Rattle.costs.specs.Lawful.{IsLeastChoice, IsLeastHeld, held_marks, is_new}
use Rattle.costs.proofs.Existence.{old_lawful}
use Rattle.least_choice.specs.Fewest.{IsLeastWith}
use Rattle.least_choice.specs.Totals.{KeepsTotal, map_total}

-- a choice with no entry is old everywhere
none_new : (placement : Placement) (p : At) → is_new placement [] p ≡ false
none_new placement p = by (box_index placement p)
  where
    by : (o : Option ℕ) → chosen [] o ≡ false
    by None = refl
    by (Some i) = refl

least_alone : (d : At → At → ℕ) (m : SourceMap) (placement : Placement) (choice : List Bool) → IsLeastHeld d m placement [] choice → IsLeastChoice d m placement choice
least_alone d m placement choice is = record {
  one = is.one.0;
  least = λ other lawful. is.least other (lawful, λ p held. absurd (false≢true (sym (none_new placement p) ∙ held)));
}

pub least_with : (d : At → At → ℕ) (m : SourceMap) (placement : Placement) (held : Option (List Bool)) (choice : List Bool) → IsLeastHeld d m placement (held_marks held) choice → IsLeastWith d m placement held choice
least_with d m placement None choice is = least_alone d m placement choice is
least_with d m placement (Some held) choice is = is

total_same : (d : At → At → ℕ) (size : Size) (m n : At → Option At) → ((p : At) → m p ≡ n p) → total_of d size m ≡ total_of d size n
total_same d size m n each = λ k. sum_box size (λ x y f. pairs_at d (λ p. each p k) (spot x y f))

after_nothing : (m : SourceMap) (placement : Placement) (p : At) → after_at m placement [] p ≡ map_at m p
after_nothing m placement p = ap (λ b. if b then Some (new_source placement p) else map_at m p) (none_new placement p)

pub keeps_total : (m : SourceMap) (sample : Cells) (placement : Placement) (held choice : List Bool) (after : SourceMap) → HoldsBox m.size placement.rect.corner placement.rect.size
    → IsLeastHeld (distance sample) m placement held choice → IsAfter m placement choice after → KeepsTotal sample m after
keeps_total m sample placement held choice after holds is step full =
    let d = distance sample in
    let less = is.least [] (old_lawful m placement full holds [] (none_new placement), λ p marked. none_new placement p) in
    let old : total_of d m.size (after_at m placement []) ≡ map_total sample m = total_same d m.size (after_at m placement []) (map_at m) (after_nothing m placement) in
    let new : map_total sample after ≡ total_of d m.size (after_at m placement choice) =
    ap (λ (size : Size). total_of d size (map_at after)) step.size ∙ total_same d m.size (map_at after) (after_at m placement choice) step.sources in
    omega (arith, less, old, new)
