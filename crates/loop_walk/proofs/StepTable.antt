-- The table of the step costs, made of the steps.
use Rattle.std.proofs.Common.{◌≡◌, ℕ, ◌+◌, ◌*◌, ◌/◌, ◌%◌, ◌^◌, ◌<◌, List, length, get_or, refl, ap, sym, ◌∙◌, subst, arith}
use Rattle.std.specs.Prelude.{Option, None, Some, IfSome}
use Rattle.std.specs.Option.{unwrap_or}
use Rattle.std.proofs.lemmas.Nat.{mul-add-lt}
use Rattle.std.proofs.lemmas.List.FromFn.{get_or-map-range_with_len}
use Rattle.frame_distance.specs.Tables.{entries_of}
use Rattle.frame_distance.specs.Steps.{Steps, AreSteps, step_at}
use Rattle.frame_distance.proofs.EntryLaws.{entries_of-inside, length-entries_of, row_below, column_below}
use Rattle.frame_distance.proofs.StepLaws.{step_at-inside}
use Rattle.loop_walk.specs.Tables.{table_entry}
use Rattle.loop_walk.specs.Products.{IsNoneOrAtMost, IsStepTable, step_number, step_numbers}
use Rattle.loop_walk.proofs.Numbers.{entry_of-number_of, small-number_of}

below_more : (o : Option ℕ) → IfSome o (λ x. x < 2 ^ 46) → IfSome o (λ x. x < 18446744073709551615)
below_more None small = tt
below_more (Some x) small = omega arith

pub unwrapped : (o : Option ℕ) → unwrap_or o 18446744073709551615 ≡ step_number o
unwrapped None = refl
unwrapped (Some x) = refl

module _ (costs : Steps) (are : AreSteps costs) where
  pub step_small : (i j : ℕ) → i < costs.frames → j < costs.frames → IfSome (step_at costs i j) (λ x. x < 2 ^ 46)
  step_small i j row column =
      subst (λ o. IfSome o (λ x. x < 2 ^ 46)) (sym (step_at-inside costs i j row column))
      (are.below (i * costs.frames + j) None (omega (arith, are.whole, mul-add-lt i costs.frames j costs.frames row column)))

  pub step_table_is : (table : List ℕ) → table ≡ entries_of costs.frames (step_numbers costs) (costs.frames * costs.frames) → IsStepTable costs table
  step_table_is table is =
      let n = costs.frames in
      let whole : length table ≡ n * n = ap length is ∙ length-entries_of n (step_numbers costs) (n * n) in
      record {
        whole = whole;
        entries = λ i j row column.
            ap table_entry (ap (λ xs. get_or xs (i * n + j) 0) is ∙ entries_of-inside n (step_numbers costs) i j 0 row column)
            ∙ entry_of-number_of (step_at costs i j) (below_more (step_at costs i j) (step_small i j row column));
        small = λ k lt.
            let below : k < n * n = omega arith in
            subst (IsNoneOrAtMost (2 ^ 46))
            (sym (ap (λ xs. get_or xs k 0) is ∙ get_or-map-range_with_len (λ k. step_numbers costs (k / n) (k % n)) 0 (n * n) k k 0 below (omega arith)))
            (small-number_of (step_at costs (k / n) (k % n)) (2 ^ 46) (step_small (k / n) (k % n) (row_below n k below) (column_below n k below)));
      }
