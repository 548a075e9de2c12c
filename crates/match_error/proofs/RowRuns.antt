-- The runs of a row: how they are put one after another, and what sums over them are.
use Rattle.std.proofs.Common.{◌≡◌, ℕ, ◌+◌, ◌-◌, ◌*◌, ◌/◌, ◌%◌, ◌<◌, ◌≤◌, List, [], ◌∷◌, ◌++◌, length, take, drop, get_or, refl, ap, sym, ◌∙◌, subst, arith, ⊎_elim, append_assoc, length-append}
use Rattle.std.proofs.lemmas.Bool.{cases_eq}
use Rattle.std.proofs.lemmas.List.{append-nil, get_or_append_left, get_or_push, length_push}
use Rattle.std.proofs.lemmas.List.Elements.{All-cons, All-nil}
use Rattle.std.proofs.lemmas.List.Sums.{sum_by-cons}
use Rattle.std.specs.Prelude.{All}
use Rattle.std.specs.List.{sum_by}
use Rattle.cells.specs.declared.place.Box3.{Box3}
use Rattle.cells.specs.Boxes.{cell_in}
use Rattle.boxes.specs.Sums.{sum_to}
use Rattle.boxes.proofs.Additions.{counts}
use Rattle.boxes.proofs.Axes.{sum_none, sum_split}
use Rattle.map_canvas.specs.Maps.{SourceMap, IsFilled}
use Rattle.match_error.specs.declared.filled_rows.Inset.{Inset}
use Rattle.match_error.specs.declared.filled_rows.RowRun.{RowRun}
use Rattle.match_error.specs.Rows.{AreLaidRuns, AreMoreRuns, AreRowRuns, AreRunsOf, AreRunsTo, IsFilledAt, IsGap, IsInset, column_in, run_part}
use Rattle.match_error.proofs.RunLists.{last_piece, same_piece}
use Rattle.match_error.proofs.Tables.{cell_in_rows, rows_in}

-- the run of the n columns from x on
abbrev pub run_at : ℕ → ℕ → RowRun
run_at x n = record { first = x; end = x + n }

-- runs up to a column, and one more from there on
run_put : (Is : ℕ → Type 0) (from x n : ℕ) (runs : List RowRun) → AreRunsOf Is from x runs → 1 ≤ n → ((j : ℕ) → j < n → Is (x + j)) → AreRunsOf Is from (x + n) (runs ++ run_at x n ∷ [])
run_put Is from x n [] gap some cells =
    (record { gap = gap; some = omega arith; cells = λ c le lt. subst Is (whole c le) (cells (c - x) (omega arith)) }, record { order = omega arith; none = λ c le lt is. absurd (omega arith) })
  where
    whole : (c : ℕ) → x ≤ c → x + (c - x) ≡ c
    whole c le = omega arith
run_put Is from x n (run ∷ runs) are some cells = (are.0, run_put Is run.end x n runs are.1 some cells)

-- the column after them isn't one of theirs
none_put : (Is : ℕ → Type 0) (from x : ℕ) (runs : List RowRun) → AreRunsOf Is from x runs → (Is x → ⊥) → AreRunsOf Is from (x + 1) runs
none_put Is from x [] gap not = record {
  order = omega (arith, gap.order);
  none = λ c le lt is. ⊎_elim (λ same. not (subst Is same is)) (λ other. gap.none c le (omega (arith, other)) is) (cases_eq c x);
}
none_put Is from x (run ∷ runs) are not = (are.0, none_put Is run.end x runs are.1 not)

-- the runs that are put after others: of no column, of a run more, and of a column more
pub no_more : (Is : ℕ → Type 0) (was : List RowRun) → AreMoreRuns Is 0 was was
no_more Is was = record {
  more = [];
  put = sym (append-nil was);
  are = record { order = omega arith; none = λ c le lt is. absurd (omega arith) };
}

pub run_more : (Is : ℕ → Type 0) (x n : ℕ) (was now : List RowRun) → AreMoreRuns Is x was now → 1 ≤ n → ((j : ℕ) → j < n → Is (x + j)) → AreMoreRuns Is (x + n) was (now ++ run_at x n ∷ [])
run_more Is x n was now is some cells = record {
  more = is.more ++ run_at x n ∷ [];
  put = ap (λ runs. runs ++ run_at x n ∷ []) is.put ∙ append_assoc was is.more (run_at x n ∷ []);
  are = run_put Is 0 x n is.more is.are some cells;
}

pub none_more : (Is : ℕ → Type 0) (x : ℕ) (was now : List RowRun) → AreMoreRuns Is x was now → (Is x → ⊥) → AreMoreRuns Is (x + 1) was now
none_more Is x was now is not = record { more = is.more; put = is.put; are = none_put Is 0 x is.more is.are not }

-- the runs of a row stay where more come after them
kept_runs : (Is : ℕ → Type 0) (columns start end : ℕ) (was more : List RowRun) → AreRowRuns Is columns start end was → AreRowRuns Is columns start end (was ++ more)
kept_runs Is columns start end was more is = record {
  order = is.order;
  within = omega (arith, is.within, length-append was more);
  are = subst (λ runs. AreRunsOf Is 0 columns runs) (sym (same_piece start (end - start) was more (omega (arith, is.order, is.within)))) is.are;
}

-- those that come after them are the runs of the next row
next_runs : (Is : ℕ → Type 0) (columns : ℕ) (was now : List RowRun) → AreMoreRuns Is columns was now → AreRowRuns Is columns (length was) (length now) now
next_runs Is columns was now is = record {
  order = omega (arith, long);
  within = omega arith;
  are = subst (λ runs. AreRunsOf Is 0 columns runs) (sym piece) is.are;
}
  where
    long : length now ≡ length was + length is.more
    long = ap length is.put ∙ length-append was is.more

    piece : take (length now - length was) (drop (length was) now) ≡ is.more
    piece =
        ap (λ runs. take (length now - length was) (drop (length was) runs)) is.put
        ∙ last_piece (length now - length was) was is.more (omega (arith, long))

pub no_rows_yet : (m : SourceMap) (rect : Box3) → AreRunsTo m rect 0 (0 ∷ []) []
no_rows_yet m rect = record { long = omega arith; last = refl; each = λ row lt. absurd (omega arith) }

pub runs_to_more : (m : SourceMap) (rect : Box3) (rows : ℕ) (starts : List ℕ) (was now : List RowRun) → AreRunsTo m rect rows starts was
    → AreMoreRuns (IsFilledAt m rect (rows % rect.size.h) (rows / rect.size.h)) rect.size.w was now → AreRunsTo m rect (rows + 1) (starts ++ length now ∷ []) now
runs_to_more m rect rows starts was now are more = record {
  long = omega (arith, are.long, length_push starts (length now));
  last = end;
  each = λ row lt.
      ⊎_elim
      (λ same. subst (λ r. AreRowRuns (IsFilledAt m rect (r % rect.size.h) (r / rect.size.h)) rect.size.w (get_or (starts ++ length now ∷ []) r 0) (get_or (starts ++ length now ∷ []) (r + 1) 0) now) (sym same) next)
      (λ other. kept row (omega (arith, other)))
      (cases_eq row rows);
}
  where
    stays : (i : ℕ) → i ≤ rows → get_or (starts ++ length now ∷ []) i 0 ≡ get_or starts i 0
    stays i le = get_or_append_left starts (length now ∷ []) 0 i (omega (arith, are.long))

    end : get_or (starts ++ length now ∷ []) (rows + 1) 0 ≡ length now
    end = get_or_push starts (length now) 0 (rows + 1) are.long

    moved : (Is : ℕ → Type 0) (start start' end end' : ℕ) → start' ≡ start → end' ≡ end → AreRowRuns Is rect.size.w start end now → AreRowRuns Is rect.size.w start' end' now
    moved Is start start' end end' same_start same_end are =
        subst (λ n. AreRowRuns Is rect.size.w n end' now) (sym same_start) (subst (λ n. AreRowRuns Is rect.size.w start n now) (sym same_end) are)

    next : AreRowRuns (IsFilledAt m rect (rows % rect.size.h) (rows / rect.size.h)) rect.size.w (get_or (starts ++ length now ∷ []) rows 0) (get_or (starts ++ length now ∷ []) (rows + 1) 0) now
    next = moved (IsFilledAt m rect (rows % rect.size.h) (rows / rect.size.h)) _ _ _ _ (stays rows (omega arith) ∙ are.last) end (next_runs (IsFilledAt m rect (rows % rect.size.h) (rows / rect.size.h)) rect.size.w was now more)

    kept : (row : ℕ) → row < rows → AreRowRuns (IsFilledAt m rect (row % rect.size.h) (row / rect.size.h)) rect.size.w (get_or (starts ++ length now ∷ []) row 0) (get_or (starts ++ length now ∷ []) (row + 1) 0) now
    kept row lt =
        moved (IsFilledAt m rect (row % rect.size.h) (row / rect.size.h)) _ _ _ _ (stays row (omega arith)) (stays (row + 1) (omega arith))
        (subst (λ runs. AreRowRuns (IsFilledAt m rect (row % rect.size.h) (row / rect.size.h)) rect.size.w (get_or starts row 0) (get_or starts (row + 1) 0) runs) (sym more.put)
        (kept_runs (IsFilledAt m rect (row % rect.size.h) (row / rect.size.h)) rect.size.w (get_or starts row 0) (get_or starts (row + 1) 0) was more.more (are.each row lt)))

-- the columns between two, as a part of their row has them
between : (x w from to i : ℕ) → i < column_in x w to - column_in x w from → (column_in x w from + i < w) × (from ≤ x + (column_in x w from + i)) × (x + (column_in x w from + i) < to)
between x w from to i lt = (omega arith, omega arith, omega arith)

among : (x w first end i : ℕ) → column_in x w first ≤ i → i < column_in x w end → (first ≤ x + i) × (x + i < end)
among x w first end i le lt = (omega arith, omega arith)

one_run : (a b c d part rest sum : ℕ) → b ≡ a → b + part ≡ c → c + rest ≡ d → sum ≡ part + rest → a + sum ≡ d
one_run a b c d part rest sum gap here others is = omega arith

whole_row : (a b c sum : ℕ) → a + sum ≡ b → a ≡ 0 → b ≡ c → sum ≡ c
whole_row a b c sum is none all = omega arith

-- a part of w columns from column x on, in which a fact holds where it holds in the row
module _ (Is In : ℕ → Type 0) (x w : ℕ) (here : (i : ℕ) → Is (x + i) → In i) (back : (i : ℕ) → In i → Is (x + i)) where
  -- terms that are 0 where it doesn't hold
  module _ (g : ℕ → ℕ) (none : (i : ℕ) → i < w → (In i → ⊥) → g i ≡ 0) where
    -- a sum goes on over a gap as it is, and over a run by its part
    up_to : (from to : ℕ) → from ≤ to → sum_to (column_in x w to) g ≡ sum_to (column_in x w from) g + sum_to (column_in x w to - column_in x w from) (λ i. g (column_in x w from + i))
    up_to from to le = ap (λ n. sum_to n g) whole ∙ sum_split counts (column_in x w from) (column_in x w to - column_in x w from) g
      where
        whole : column_in x w to ≡ column_in x w from + (column_in x w to - column_in x w from)
        whole = omega arith

    over_gap : (from to : ℕ) → IsGap Is from to → sum_to (column_in x w to) g ≡ sum_to (column_in x w from) g
    over_gap from to gap =
        up_to from to gap.order
        ∙ ap (λ n. sum_to (column_in x w from) g + n) nothing
        ∙ plain (sum_to (column_in x w from) g)
      where
        nothing : sum_to (column_in x w to - column_in x w from) (λ i. g (column_in x w from + i)) ≡ 0
        nothing = sum_none counts (column_in x w to - column_in x w from) (λ i. g (column_in x w from + i))
            (λ i lt. let at = between x w from to i lt in none (column_in x w from + i) at.0 (λ holds. gap.none (x + (column_in x w from + i)) at.1 at.2 (back (column_in x w from + i) holds)))

        plain : (n : ℕ) → n + 0 ≡ n
        plain n = omega arith

    over_runs : (from to : ℕ) (runs : List RowRun) → AreRunsOf Is from to runs → sum_to (column_in x w from) g + sum_by (run_part g x w) runs ≡ sum_to (column_in x w to) g
    over_runs from to [] gap = plain (sum_to (column_in x w from) g) ∙ sym (over_gap from to gap)
      where
        plain : (n : ℕ) → n + 0 ≡ n
        plain n = omega arith
    over_runs from to (run ∷ runs) are =
        one_run _ _ _ _ (run_part g x w run) (sum_by (run_part g x w) runs) _ (over_gap from run.first are.0.gap)
        (sym (up_to run.first run.end (let le : run.first ≤ run.end = omega (arith, are.0.some) in le)))
        (over_runs run.end to runs are.1) (sum_by-cons (run_part g x w) run runs)

    pub over_part : (to : ℕ) (runs : List RowRun) → AreRunsOf Is 0 to runs → x + w ≤ to → sum_by (run_part g x w) runs ≡ sum_to w g
    over_part to runs are room =
        whole_row (sum_to (column_in x w 0) g) (sum_to (column_in x w to) g) (sum_to w g) (sum_by (run_part g x w) runs)
        (over_runs 0 to runs are) (ap (λ n. sum_to n g) front) (ap (λ n. sum_to n g) end)
      where
        front : column_in x w 0 ≡ 0
        front = omega arith

        end : column_in x w to ≡ w
        end = omega arith

  -- of each run the fact holds in the part
  pub in_part : (from to : ℕ) (runs : List RowRun) → AreRunsOf Is from to runs → All (λ run. (i : ℕ) → column_in x w run.first ≤ i → i < column_in x w run.end → In i) runs
  in_part from to [] gap = All-nil (λ (run : RowRun). (i : ℕ) → column_in x w run.first ≤ i → i < column_in x w run.end → In i)
  in_part from to (run ∷ runs) are =
      All-cons (λ (run : RowRun). (i : ℕ) → column_in x w run.first ≤ i → i < column_in x w run.end → In i) run runs
      (λ i le lt. let at = among x w run.first run.end i le lt in here i (are.0.cells (x + i) at.0 at.1))
      (in_part run.end to runs are.1)

-- the row in which a row of a box lies that is so far in another
pub row_below : (outer rect : Box3) (inset : Inset) (y f : ℕ) → IsInset outer rect inset → y < rect.size.h → f < rect.size.f → ((inset.y + outer.size.h * (inset.f + f)) + y) + 1 ≤ outer.size.h * outer.size.f
row_below outer rect inset y f is ly lf =
    omega (arith, rows_in outer.size.h outer.size.f inset.y (y + 1) inset.f f (omega (arith, is.rows_in)) (omega (arith, is.frames_in)))

-- its runs are those of the row of the box
pub laid_runs : (m : SourceMap) (outer rect : Box3) (inset : Inset) (y f : ℕ) (runs : List RowRun) → IsInset outer rect inset → y < rect.size.h
    → AreRunsOf (IsFilledAt m outer (((inset.y + outer.size.h * (inset.f + f)) + y) % outer.size.h) (((inset.y + outer.size.h * (inset.f + f)) + y) / outer.size.h)) 0 outer.size.w runs
    → AreLaidRuns m rect inset.x y f runs
laid_runs m outer rect inset y f runs is ly are = record {
  cells = λ n d lt. record { cells = in_part Is In inset.x rect.size.w here back 0 outer.size.w runs are n d lt };
  sum = λ g none. over_part Is In inset.x rect.size.w here back g none outer.size.w runs are is.columns_in;
}
  where
    Is : ℕ → Type 0
    Is = IsFilledAt m outer (((inset.y + outer.size.h * (inset.f + f)) + y) % outer.size.h) (((inset.y + outer.size.h * (inset.f + f)) + y) / outer.size.h)

    In : ℕ → Type 0
    In = IsFilledAt m rect y f

    cell : (i : ℕ) → cell_in outer (inset.x + i) (((inset.y + outer.size.h * (inset.f + f)) + y) % outer.size.h) (((inset.y + outer.size.h * (inset.f + f)) + y) / outer.size.h) ≡ cell_in rect i y f
    cell i = cell_in_rows outer rect inset.x inset.y inset.f is.x is.y is.f i y f (omega (arith, is.rows_in))

    here : (i : ℕ) → IsFilledAt m outer (((inset.y + outer.size.h * (inset.f + f)) + y) % outer.size.h) (((inset.y + outer.size.h * (inset.f + f)) + y) / outer.size.h) (inset.x + i) → IsFilledAt m rect y f i
    here i = subst (λ p. IsFilled m p) (cell i)

    back : (i : ℕ) → IsFilledAt m rect y f i → IsFilledAt m outer (((inset.y + outer.size.h * (inset.f + f)) + y) % outer.size.h) (((inset.y + outer.size.h * (inset.f + f)) + y) / outer.size.h) (inset.x + i)
    back i = subst (λ p. IsFilled m p) (sym (cell i))
