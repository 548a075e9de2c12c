-- The pairs of a cell with the ones before it in its row and above it: their numbers and their flows.
use Rattle.std.proofs.Common.{◌≡◌, ℕ, zero, suc, ◌+◌, ◌-◌, ◌*◌, ◌≤◌, refl, ap, sym, ◌∙◌, arith, Bool, true, false, List}
use Rattle.std.specs.Prelude.{if◌then◌else◌, nat_lt, slice_index_or}
use borrow.Author.Tests.{lt-ltb}
use mathlib.Core.Bool.{false≢true}
use Rattle.cells.specs.declared.place.Axis.TheVariants.{X, Y, F}
use Rattle.cells.specs.declared.place.Size.{Size}
use Rattle.cells.specs.Boxes.{HasCells}
use Rattle.cells.specs.Places.{raster_index}
use Rattle.boxes.specs.Pairs.{AreCounts, has_next, one_if, pair_number, pairs_before}
use Rattle.boxes.proofs.ClosedForm.{closed_is, pairs_closed}
use Rattle.boxes.proofs.PairNumbers.{pairs_back}
use Rattle.cut_check.specs.declared.record.Flow.{Flow}
use Rattle.cut_check.specs.Flows.{flow_into, no_flow, pair_flow}
use Rattle.cut_check.specs.Steps.{pairs_since_above, pairs_since_last}

-- along each axis alone
rows : (v h w p q x y z : ℕ) (b c : Bool) (k : ℕ) → x ≤ w
    → (v * (suc y + p) + x) + (w * (suc y + q) + (if b then x else 0)) + (if c then x + w * (suc y + p) else k)
    ≡ ((v * (y + p) + x) + (w * (y + q) + x) + (if c then x + w * (y + p) else k)) + (v + (if b then w else w - x) + (if c then w else 0))
rows v h w p q x y z true true k le = omega arith
rows v h w p q x y z true false k le = omega arith
rows v h w p q x y z false true k le = omega arith
rows v h w p q x y z false false k le = omega arith

closed_above : (size : Size) (x y z : ℕ) → AreCounts size x (suc y) z → pairs_closed size x (suc y) z ≡ pairs_closed size x y z + pairs_since_above size x (suc y) z
closed_above size x y z are =
    rows (size.w - 1) size.h size.w (size.h * z) ((size.h - 1) * z) x y z (nat_lt (suc y + 1) size.h) (nat_lt (z + 1) size.f) (size.w * (size.h * (size.f - 1))) (omega (arith, are.column))
    ∙ ap (λ n. (((size.w - 1) * (y + size.h * z) + x) + (size.w * (y + (size.h - 1) * z) + n) + (if nat_lt (z + 1) size.f then x + size.w * (y + size.h * z) else size.w * (size.h * (size.f - 1)))) + pairs_since_above size x (suc y) z) (sym here)
  where
    here : (if nat_lt (y + 1) size.h then x else 0) ≡ x
    here = ap (λ b. if b then x else 0) (lt-ltb (y + 1) size.h (omega (arith, are.row)))

pub pairs_above : (size : Size) (x y f : ℕ) → 1 ≤ y → AreCounts size x y f
    → pairs_before size (raster_index size x y f) ≡ pairs_before size (raster_index size x (y - 1) f) + pairs_since_above size x y f
pairs_above size x zero f some are = absurd (omega arith)
pairs_above size x (suc y) f some are =
    let cells : HasCells size = record { w = omega (arith, are.column); h = omega (arith, are.row); f = omega (arith, are.frame) } in
    let less : y ≡ suc y - 1 = omega arith in
    let last : AreCounts size x y f = record { column = are.column; row = omega (arith, are.row); frame = are.frame } in
    closed_is size cells x (suc y) f are ∙ closed_above size x y f are
    ∙ ap (λ n. n + pairs_since_above size x (suc y) f) (sym (closed_is size cells x y f last) ∙ ap (λ n. pairs_before size (raster_index size x n f)) less)

one_if_is : (b : Bool) → one_if b ≡ (if b then 1 else 0)
one_if_is true = refl
one_if_is false = refl

pub pairs_last : (size : Size) (x y f : ℕ) → 1 ≤ x → AreCounts size x y f
    → pairs_before size (raster_index size x y f) ≡ pairs_before size (raster_index size (x - 1) y f) + pairs_since_last size y f
pairs_last size x y f some are =
    let next : has_next size X (x - 1) y f ≡ true = lt-ltb (x - 1 + 1) size.w (omega (arith, are.column)) in
    pairs_back size x y f some are
    ∙ (λ k. pairs_before size (raster_index size (x - 1) y f) + (one_if (next k) + one_if_is (nat_lt (y + 1) size.h) k + one_if_is (nat_lt (f + 1) size.f) k))

pub number_above : (size : Size) (x y f : ℕ) → pair_number size Y x (y - 1) f ≡ pairs_before size (raster_index size x (y - 1) f) + (if nat_lt (x + 1) size.w then 1 else 0)
number_above size x y f = ap (λ n. pairs_before size (raster_index size x (y - 1) f) + n) (one_if_is (nat_lt (x + 1) size.w))

-- the flow of a number is that of the pair, where there is one
at_number : (b : Bool) (flows : List Flow) (number n : ℕ) → b ≡ true → number ≡ n → slice_index_or flows number no_flow ≡ (if b then slice_index_or flows n no_flow else no_flow)
at_number true flows number n next is = ap (λ k. slice_index_or flows k no_flow) is
at_number false flows number n next is = absurd (false≢true next)

pub flow_of_last : (size : Size) (flows : List Flow) (x y f number : ℕ) → 1 ≤ x → AreCounts size x y f → number ≡ pair_number size X (x - 1) y f
    → slice_index_or flows number no_flow ≡ flow_into size flows X x y f
flow_of_last size flows zero y f number some are is = absurd (omega (arith, some))
flow_of_last size flows (suc x) y f number some are is =
    at_number (has_next size X x y f) flows number (pair_number size X x y f) (lt-ltb (x + 1) size.w (omega (arith, are.column))) (is ∙ ap (λ n. pair_number size X n y f) (let less : suc x - 1 ≡ x = omega arith in less))

pub flow_of_above : (size : Size) (flows : List Flow) (x y f number : ℕ) → 1 ≤ y → AreCounts size x y f → number ≡ pair_number size Y x (y - 1) f
    → slice_index_or flows number no_flow ≡ flow_into size flows Y x y f
flow_of_above size flows x zero f number some are is = absurd (omega (arith, some))
flow_of_above size flows x (suc y) f number some are is =
    at_number (has_next size Y x y f) flows number (pair_number size Y x y f) (lt-ltb (y + 1) size.h (omega (arith, are.row))) (is ∙ ap (λ n. pair_number size Y x n f) (let less : suc y - 1 ≡ y = omega arith in less))

pub flow_before : (size : Size) (flows : List Flow) (x y f : ℕ) → 1 ≤ f → pair_flow size flows F x y (f - 1) ≡ flow_into size flows F x y f
flow_before size flows x y zero some = absurd (omega (arith, some))
flow_before size flows x y (suc f) some = ap (pair_flow size flows F x y) (let less : suc f - 1 ≡ f = omega arith in less)
