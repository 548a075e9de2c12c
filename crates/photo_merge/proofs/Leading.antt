-- The maps of a merge, by induction on how many there are: what the last one has, and that it is one.
use Rattle.std.proofs.Common.{◌≡◌, ℕ, ◌+◌, ◌≤◌, ◌⊎◌, inl, inr, List, [], ◌∷◌, length, refl, ap, sym, ◌∙◌, subst, arith}
use Rattle.std.proofs.Common.{Bool, true, false, eq-eqb, eqb-true}
use Rattle.std.proofs.lemmas.Bool.{leb-false, leb-true}
use Rattle.std.specs.Prelude.{Some, IsSome, nat_eq, nat_le}
use mathlib.Core.Bool.{false≢true}
use Rattle.cells.specs.declared.place.At.{At}
use Rattle.cells.specs.Boxes.{HasCells}
use Rattle.cells.specs.Cells.{Cells}
use Rattle.cells.specs.Places.{IsInside}
use Rattle.map_canvas.specs.Maps.{IsFull, SourceMap, map_at}
use Rattle.photo_merge.specs.Marks.{mark_at}
use Rattle.photo_merge.specs.Merges.{MapsLead, MergesNext, first_map, same_place}
use Rattle.photo_merge.specs.MergeLaws.{ComesFrom, IsMerged, MergesAreMerged, ThereIsOneMerge}
use Rattle.photo_merge.proofs.MapsOver.{over_inside}
use Rattle.photo_merge.proofs.Nexts.{earlier_cell, either_cell, next_once, own_cell, size_stays}

-- what the map after n further pictures has
record IsMergedSoFar (pictures marks : Cells) (n : ℕ) (m : SourceMap) : Type 0 where
  size : m.size ≡ pictures.size
  own : (p : At) → IsInside pictures.size p → 1 ≤ mark_at marks p → mark_at marks p ≤ n + 1 → map_at m p ≡ Some (same_place pictures (mark_at marks p) p)
  each : (p : At) → IsInside pictures.size p → ComesFrom pictures (n + 1) m p

first_source : (pictures : Cells) (p : At) → IsInside pictures.size p → map_at (first_map pictures) p ≡ Some (same_place pictures 1 p)
first_source pictures p inside = over_inside (λ q. Some (same_place pictures 1 q)) pictures.size p inside

so_far_first : (pictures marks : Cells) → IsMergedSoFar pictures marks 0 (first_map pictures)
so_far_first pictures marks = record {
  size = refl;
  own = λ p inside from to. let is : 1 ≡ mark_at marks p = omega (arith, from, to) in first_source pictures p inside ∙ ap (λ n. Some (same_place pictures n p)) is;
  each = λ p inside. record { number = 1; from = omega arith; to = omega arith; source = first_source pictures p inside };
}

-- a number that isn't one past another and is no greater is at most the other
below_of : (k n : ℕ) → k ≤ n + 1 → (k ≡ n + 1 → ⊥) → k ≤ n
below_of k n le other = by (nat_le k n) refl
  where
    by : (t : Bool) → nat_le k n ≡ t → k ≤ n
    by true e = leb-true k n e
    by false e = absurd (other (omega (arith, leb-false k n e, le)))

module _ (pictures marks : Cells) (n : ℕ) (before after : SourceMap) (next : MergesNext pictures marks (n + 2) before after) (so_far : IsMergedSoFar pictures marks n before) where
  within : (p : At) → IsInside pictures.size p → IsInside before.size p
  within p inside = subst (λ size. IsInside size p) (sym so_far.size) inside

  own_next : (p : At) → IsInside pictures.size p → 1 ≤ mark_at marks p → mark_at marks p ≤ (n + 1) + 1 → (mark_at marks p ≡ n + 2) ⊎ (mark_at marks p ≤ n + 1) → map_at after p ≡ Some (same_place pictures (mark_at marks p) p)
  own_next p inside from to (inl is) = own_cell pictures marks (n + 2) before after next p (within p inside) is ∙ ap (λ k. Some (same_place pictures k p)) (sym is)
  own_next p inside from to (inr le) = earlier_cell pictures marks (n + 2) before after next p (within p inside) (omega (arith, from)) (omega (arith, le)) ∙ so_far.own p inside from le

  each_next : (p : At) → IsInside pictures.size p → ComesFrom pictures ((n + 1) + 1) after p
  each_next p inside = by (either_cell pictures marks (n + 2) before after next p (within p inside))
    where
      by : (map_at after p ≡ Some (same_place pictures (n + 2) p)) ⊎ (map_at after p ≡ map_at before p) → ComesFrom pictures ((n + 1) + 1) after p
      by (inl e) = record { number = n + 2; from = omega arith; to = omega arith; source = e }
      by (inr e) =
          let was = so_far.each p inside in
          record { number = was.number; from = was.from; to = omega (arith, was.to); source = e ∙ was.source }

  last_or_earlier : (k : ℕ) → k ≤ (n + 1) + 1 → (k ≡ n + 2) ⊎ (k ≤ n + 1)
  last_or_earlier k le = by (nat_eq k (n + 2)) refl
    where
      by : (t : Bool) → nat_eq k (n + 2) ≡ t → (k ≡ n + 2) ⊎ (k ≤ n + 1)
      by true e = inl (eqb-true k (n + 2) e)
      by false e = inr (below_of k (n + 1) le (λ same. false≢true (sym e ∙ eq-eqb k (n + 2) (omega (arith, same)))))

  so_far_next : IsMergedSoFar pictures marks (n + 1) after
  so_far_next = record {
    size = size_stays pictures marks (n + 2) before after next ∙ so_far.size;
    own = λ p inside from to. own_next p inside from to (last_or_earlier (mark_at marks p) to);
    each = each_next;
  }

so_far : (pictures marks : Cells) (maps : List SourceMap) (last : SourceMap) → MapsLead pictures marks maps last → IsMergedSoFar pictures marks (length maps) last
so_far pictures marks [] last lead = subst (IsMergedSoFar pictures marks 0) (sym lead) (so_far_first pictures marks)
so_far pictures marks (before ∷ maps) last lead =
    let one : length maps + 1 ≡ length (before ∷ maps) = omega arith in
    subst (λ n. IsMergedSoFar pictures marks n last) one (so_far_next pictures marks (length maps) before last lead.0 (so_far pictures marks maps before lead.1))

-- the last map has the pictures' size
pub lead_size : (pictures marks : Cells) (maps : List SourceMap) (last : SourceMap) → MapsLead pictures marks maps last → last.size ≡ pictures.size
lead_size pictures marks maps last lead = (so_far pictures marks maps last lead).size

-- the first map is full
pub first_full : (pictures : Cells) → IsFull (first_map pictures)
first_full pictures p inside = subst IsSome (sym (first_source pictures p inside)) refl

-- what the law says
pub merges_are_merged : MergesAreMerged
merges_are_merged pictures marks m merge =
    let its = subst (λ n. IsMergedSoFar pictures marks n m) merge.count (so_far pictures marks merge.maps m merge.lead) in
    record {
      size = its.size;
      own = λ p inside from to. its.own p inside from (omega (arith, to));
      each = λ p inside. let it = its.each p inside in record { number = it.number; from = it.from; to = omega (arith, it.to); source = it.source };
    }

-- the map of a merge is full
pub merge_is_full : (pictures marks : Cells) (m : SourceMap) → IsMerged pictures marks m → IsFull m
merge_is_full pictures marks m is p inside = subst IsSome (sym (is.each p (subst (λ size. IsInside size p) is.size inside)).source) refl

-- one more picture after some
pub one_more : (pictures marks : Cells) (number : ℕ) (maps : List SourceMap) (before after : SourceMap) → number ≡ length maps + 2 → MapsLead pictures marks maps before → MergesNext pictures marks number before after
    → MapsLead pictures marks (before ∷ maps) after
one_more pictures marks number maps before after is lead next = (subst (λ n. MergesNext pictures marks n before after) is next, lead)

lead_once : (pictures marks : Cells) → HasCells pictures.size → (maps others : List SourceMap) (one other : SourceMap) → length maps ≡ length others → MapsLead pictures marks maps one → MapsLead pictures marks others other → one ≡ other
lead_once pictures marks some [] [] one other count a b = a ∙ sym b
lead_once pictures marks some [] (before ∷ others) one other count a b = absurd (omega (arith, count))
lead_once pictures marks some (before ∷ maps) [] one other count a b = absurd (omega (arith, count))
lead_once pictures marks some (before ∷ maps) (earlier ∷ others) one other count a b =
    let length_is : length maps ≡ length others = omega (arith, count) in
    let same : before ≡ earlier = lead_once pictures marks some maps others before earlier length_is a.1 b.1 in
    let cells : HasCells before.size = subst HasCells (sym (so_far pictures marks maps before a.1).size) some in
    next_once pictures marks (length maps + 2) before one other cells a.0
    (subst (λ m. MergesNext pictures marks (length maps + 2) m other) (sym same) (subst (λ n. MergesNext pictures marks (n + 2) earlier other) (sym length_is) b.0))

pub one_merge : ThereIsOneMerge
one_merge pictures marks one other volume a b =
    let axes = volume.small.axes in
    lead_once pictures marks (record { w = axes.w.0; h = axes.h.0; f = axes.f.0 }) a.maps b.maps one other (a.count ∙ sym b.count) a.lead b.lead
