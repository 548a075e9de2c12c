-- Entries as they count in sums that are made quickly, and rows of them that are written into a table.
use Rattle.std.proofs.Common.{◌≡◌, ℕ, ◌+◌, ◌-◌, ◌*◌, ◌/◌, ◌%◌, ◌<◌, ◌≤◌, List, length, get_or, ap, sym, ◌∙◌, subst, arith, ⊎_elim}
use Rattle.std.specs.Prelude.{◌⊎◌, Option, None, Some}
use Rattle.std.proofs.lemmas.Nat.{div-mul-add, mod-mul-add, mul-add-lt}
use Rattle.std.proofs.Math.Nat.{mul-le-mul_right}
use Rattle.std.proofs.lemmas.Bool.{cases_lt}
use borrow.Rule.Slice.PartMut.{put_mid}
use Rattle.frame_distance.specs.Steps.{Steps}
use Rattle.frame_distance.proofs.EntryLaws.{row_below, column_below}
use Rattle.loop_walk.specs.declared.product.TheConstants.{FAR}
use Rattle.loop_walk.specs.Walks.{AtMost, sum_if_both}
use Rattle.loop_walk.specs.Tables.{entry_at, second_table, table_entry, table_lengths}
use Rattle.loop_walk.specs.Records.{PlaceHolds}
use Rattle.loop_walk.specs.Products.{AreAtMostFar, AreNearEntries, IsBelowProducts, IsNearRow, near_entry}
use Rattle.loop_walk.proofs.CheckLaws.{below_at_place, below_from_place}
use Rattle.loop_walk.proofs.Numbers.{entry_of-some}
use Rattle.loop_walk.proofs.ProductLaws.{get_or-put_before, get_or-put_inside}

pub near_le : (o : Option ℕ) → near_entry o ≤ FAR
near_le None = omega arith
near_le (Some x) = omega arith

-- what is at most a sum of entries as they count is at most the sum of the entries, and a sum that reaches
-- none is none
pub at_most_near : (x s : ℕ) (a b : Option ℕ) → s ≤ near_entry a + near_entry b → (x ≤ s) ⊎ (FAR ≤ s) → AtMost (table_entry x) (sum_if_both a b)
at_most_near x s None b le is = tt
at_most_near x s (Some a) None le is = tt
at_most_near x s (Some a) (Some b) le is = ⊎_elim
    (λ below.
    let apart : x ≡ 18446744073709551615 → ⊥ = λ e. omega arith in
    subst (λ o. AtMost o (Some (a + b))) (sym (entry_of-some x apart)) (omega arith))
    (λ far. absurd (omega arith)) is

-- a table whose entries count so has no number above none
pub near_entries : (costs : Steps) (tables : List ℕ) (t : ℕ) (nears : List ℕ) → length nears ≡ costs.frames * costs.frames → AreNearEntries costs tables t nears → AreAtMostFar nears
near_entries costs tables t nears whole are k lt =
    let n = costs.frames in
    let i = k / n in
    let j = k % n in
    let below : k < n * n = omega arith in
    let at : i * n + j ≡ k = omega arith in
    subst (λ p. get_or nears p 0 ≤ FAR) at
    (let is = are i j (row_below n k below) (column_below n k below) in let le = near_le (entry_at costs tables t i j) in omega arith)

-- one more row of such a table
pub near_row_more : (costs : Steps) (tables : List ℕ) (t v : ℕ) (nears row : List ℕ) → v < costs.frames → length nears ≡ costs.frames * costs.frames → length row ≡ costs.frames
    → ((r j : ℕ) → r < v → j < costs.frames → get_or nears (r * costs.frames + j) 0 ≡ near_entry (entry_at costs tables t r j))
    → IsNearRow costs tables t v row
    → (r j : ℕ) → r < v + 1 → j < costs.frames → get_or (put_mid (v * costs.frames) (v * costs.frames + costs.frames - v * costs.frames) nears row) (r * costs.frames + j) 0 ≡ near_entry (entry_at costs tables t r j)
near_row_more costs tables t v nears row lt whole long rows here r j below column =
    let n = costs.frames in
    let room : v * n + n ≤ n * n = omega (arith, mul-le-mul_right n (let le : v + 1 ≤ n = omega arith in le)) in
    ⊎_elim
    (λ before.
    let place : r * n + j < v * n = omega (arith, mul-le-mul_right n (let le : r + 1 ≤ v = omega arith in le)) in
    get_or-put_before nears row (v * n) (v * n + n - v * n) (r * n + j) place (omega (arith, room)) ∙ rows r j before column)
    (λ from.
    let same : r ≡ v = omega arith in
    ap (λ k. get_or (put_mid (v * n) (v * n + n - v * n) nears row) (k * n + j) 0) same
    ∙ get_or-put_inside nears row (v * n) (v * n + n - v * n) j (omega arith) (omega (arith, room)) ∙ here j column ∙ ap (λ k. near_entry (entry_at costs tables t k j)) (sym same))
    (cases_lt r v)

-- an entry by its row and column
module _ (costs : Steps) (len : ℕ) (tables : List ℕ) (t i j : ℕ) (row : i < costs.frames) (column : j < costs.frames) (last : get_or (table_lengths len) t 0 ≡ len) where
  inside : i * costs.frames + j < costs.frames * costs.frames
  inside = mul-add-lt i costs.frames j costs.frames row column

  pub place_from_row : IsBelowProducts costs tables t (second_table len t) i j → PlaceHolds costs len tables (t * (costs.frames * costs.frames) + (i * costs.frames + j))
  place_from_row below =
      let n = costs.frames in
      let q = i * n + j in
      below_at_place costs len tables t q inside last
      (subst (λ r. IsBelowProducts costs tables t (second_table len t) r (q % n)) (sym (div-mul-add i n j column))
      (subst (IsBelowProducts costs tables t (second_table len t) i) (sym (mod-mul-add i n j column)) below))

  pub row_from_place : PlaceHolds costs len tables (t * (costs.frames * costs.frames) + (i * costs.frames + j)) → IsBelowProducts costs tables t (second_table len t) i j
  row_from_place holds =
      let n = costs.frames in
      let q = i * n + j in
      subst (IsBelowProducts costs tables t (second_table len t) i) (mod-mul-add i n j column)
      (subst (λ r. IsBelowProducts costs tables t (second_table len t) r (q % n)) (div-mul-add i n j column) (below_from_place costs len tables t q inside last holds))
