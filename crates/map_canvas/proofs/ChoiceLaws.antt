-- What one more cell of a choice does to a map.
use Rattle.std.proofs.Common.{◌≡◌, ◌≢◌, ℕ, ◌+◌, ◌<◌, List, [], length, take, get_or, refl, ap, sym, ◌∙◌, subst, arith, ⊎_elim, Bool, true, false, get_or-set_same, get_or-set_other}
use Rattle.std.proofs.lemmas.List.{get_or-take, get_or_past, length-take}
use Rattle.std.proofs.lemmas.Bool.{cases_lt, cases_eq}
use Rattle.std.specs.Prelude.{Option, Some, None, if◌then◌else◌}
use Rattle.cells.specs.declared.place.At.{At}
use Rattle.cells.specs.Places.{index_in, plus, minus, place_of}
use Rattle.cells.specs.Cells.{set_nth}
use Rattle.cells.proofs.Raster.{one_place}
use Rattle.cells.proofs.BoxLaws.{plus_minus, minus_plus}
use Rattle.map_canvas.specs.declared.canvas.Placement.{Placement}
use Rattle.map_canvas.specs.Maps.{SourceMap, map_at, with_source, source_at}
use Rattle.map_canvas.specs.Choices.{box_index, box_cell, box_source, new_source, chosen, after_at, IsAfter}

chosen_nil : (i : Option ℕ) → chosen [] i ≡ false
chosen_nil None = refl
chosen_nil (Some i) = refl

pub after_none : (m : SourceMap) (placement : Placement) → IsAfter m placement [] m
after_none m placement = record {
  size = refl;
  sources = λ p. ap (λ b. if b then Some (new_source placement p) else map_at m p) (sym (chosen_nil (box_index placement p)));
}

chosen_more_other : (choice : List Bool) (i : ℕ) (j : Option ℕ) → j ≢ Some i → chosen (take (i + 1) choice) j ≡ chosen (take i choice) j
chosen_more_other choice i None apart = refl
chosen_more_other choice i (Some j) apart =
    ⊎_elim (λ lt. get_or-take (i + 1) choice j false (omega arith) ∙ sym (get_or-take i choice j false lt))
    (λ le. ⊎_elim (λ lt. get_or_past (take (i + 1) choice) j false (omega (arith, length-take (i + 1) choice)) ∙ sym (get_or_past (take i choice) j false (omega (arith, length-take i choice))))
    (λ ge. absurd (apart (ap Some (omega arith)))) (cases_lt i j)) (cases_lt j i)

chosen_more_same : (choice : List Bool) (i : ℕ) → chosen (take (i + 1) choice) (Some i) ≡ get_or choice i false
chosen_more_same choice i = get_or-take (i + 1) choice i false (omega arith)

-- the cell of the box at an index has that index, and no other cell has
pub box_index_of : (placement : Placement) (i : ℕ) → index_in placement.rect.size (place_of placement.rect.size i) ≡ Some i → box_index placement (box_cell placement i) ≡ Some i
box_index_of placement i at = ap (index_in placement.rect.size) (plus_minus placement.rect.corner (place_of placement.rect.size i)) ∙ at

pub box_cell_of : (placement : Placement) (q : At) (i : ℕ) → index_in placement.rect.size (place_of placement.rect.size i) ≡ Some i → box_index placement q ≡ Some i → q ≡ box_cell placement i
box_cell_of placement q i at is = minus_plus q placement.rect.corner (place_of placement.rect.size i) (one_place placement.rect.size _ _ i is at)

pub map_at-with_same : (m : SourceMap) (p from : At) (i : ℕ) → index_in m.size p ≡ Some i → i < length m.sources → map_at (with_source m p from) p ≡ Some from
map_at-with_same m p from i at lt = ap (λ o. source_at (set_nth m.sources o (Some from)) o) at ∙ get_or-set_same m.sources i (Some from) None lt

pub map_at-with_other : (m : SourceMap) (p q from : At) → p ≢ q → map_at (with_source m p from) q ≡ map_at m q
map_at-with_other m p q from apart = by (index_in m.size p) (index_in m.size q) refl refl
  where
    by : (i j : Option ℕ) → index_in m.size p ≡ i → index_in m.size q ≡ j → source_at (set_nth m.sources i (Some from)) j ≡ source_at m.sources j
    by None j ei ej = refl
    by (Some i) None ei ej = refl
    by (Some i) (Some j) ei ej = get_or-set_other m.sources i j (Some from) None (λ e. apart (one_place m.size p q i ei (subst (λ k. index_in m.size q ≡ Some k) e ej)))

-- one more chosen cell
module _ (m now : SourceMap) (placement : Placement) (choice : List Bool) (i : ℕ) (at : index_in placement.rect.size (place_of placement.rect.size i) ≡ Some i) (so_far : IsAfter m placement (take i choice) now) where
  pub after_old : get_or choice i false ≡ false → IsAfter m placement (take (i + 1) choice) now
  after_old old = record {
    size = so_far.size;
    sources = λ q. so_far.sources q ∙ ap (λ b. if b then Some (new_source placement q) else map_at m q) (sym (same (box_index placement q)));
  }
    where
      same : (j : Option ℕ) → chosen (take (i + 1) choice) j ≡ chosen (take i choice) j
      same None = refl
      same (Some j) = ⊎_elim
          (λ is. ap (λ k. chosen (take (i + 1) choice) (Some k)) is ∙ chosen_more_same choice i ∙ old
          ∙ sym (get_or_past (take i choice) i false (omega (arith, length-take i choice))) ∙ ap (λ k. chosen (take i choice) (Some k)) (sym is))
          (λ other. chosen_more_other choice i (Some j) (λ is. other (cc))) (cases_eq j i)

  pub after_new : (o : ℕ) → index_in now.size (box_cell placement i) ≡ Some o → o < length now.sources → get_or choice i false ≡ true
      → IsAfter m placement (take (i + 1) choice) (with_source now (box_cell placement i) (box_source placement i))
  after_new o inside lt new = record {
    size = so_far.size;
    sources = λ q. by q (box_index placement q) refl;
  }
    where
      other_cell : (q : At) → box_index placement q ≢ Some i → map_at (with_source now (box_cell placement i) (box_source placement i)) q ≡ after_at m placement (take (i + 1) choice) q
      other_cell q apart =
          map_at-with_other now (box_cell placement i) q (box_source placement i) (λ e. apart (subst (λ c. box_index placement c ≡ Some i) e (box_index_of placement i at)))
          ∙ so_far.sources q ∙ ap (λ b. if b then Some (new_source placement q) else map_at m q) (sym (chosen_more_other choice i (box_index placement q) apart))

      this_cell : (q : At) → box_index placement q ≡ Some i → map_at (with_source now (box_cell placement i) (box_source placement i)) q ≡ after_at m placement (take (i + 1) choice) q
      this_cell q is =
          let own : q ≡ box_cell placement i = box_cell_of placement q i at is in
          let step : minus q placement.rect.corner ≡ place_of placement.rect.size i = one_place placement.rect.size _ _ i is at in
          let taken : chosen (take (i + 1) choice) (box_index placement q) ≡ true = ap (chosen (take (i + 1) choice)) is ∙ chosen_more_same choice i ∙ new in
          ap (map_at (with_source now (box_cell placement i) (box_source placement i))) own ∙ map_at-with_same now (box_cell placement i) (box_source placement i) o inside lt
          ∙ ap (λ s. Some (plus placement.from s)) (sym step) ∙ ap (λ b. if b then Some (new_source placement q) else map_at m q) (sym taken)

      by : (q : At) (j : Option ℕ) → box_index placement q ≡ j → map_at (with_source now (box_cell placement i) (box_source placement i)) q ≡ after_at m placement (take (i + 1) choice) q
      by q None e = other_cell q (λ is. let no : None ≡ Some i = sym e ∙ is in cc)
      by q (Some j) e = ⊎_elim (λ is. this_cell q (e ∙ ap Some is)) (λ other. other_cell q (λ is. other (let one : Some j ≡ Some i = sym e ∙ is in cc))) (cases_eq j i)
