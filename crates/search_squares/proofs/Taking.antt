-- Cells that are taken, and the sums over those that are still free.
use Rattle.std.proofs.Common.{◌≡◌, ℕ, zero, suc, ◌+◌, ◌*◌, ◌<◌, ◌≤◌, List, length, get_or, set, refl, ap, sym, ◌∙◌, arith, ⊎_elim}
use Rattle.std.proofs.lemmas.Bool.{cases_eq, false≢true}
use Rattle.std.proofs.lemmas.List.{get_or-set_other, get_or-set_same, length-set}
use Rattle.std.specs.Prelude.{Bool, false, if◌then◌else◌}
use Rattle.boxes.specs.Sums.{sum_to}
use Rattle.boxes.proofs.Additions.{counts}
use Rattle.boxes.proofs.Axes.{sum_equal, sum_more}
use Rattle.search_squares.specs.Gathered.{IsUntaken, IsTaken, rows_sum, sum_along}

-- a sum of which one term changes
sum_changed : (n i : ℕ) (g h : ℕ → ℕ) → i < n → ((j : ℕ) → (j ≡ i → ⊥) → h j ≡ g j) → sum_to n h + g i ≡ sum_to n g + h i
sum_changed zero i g h lt same = absurd (omega arith)
sum_changed (suc n) i g h lt same =
    ⊎_elim
    (λ here.
    let front : sum_to n h ≡ sum_to n g = sum_equal counts n h g (λ j lj. same j (λ e. absurd (omega arith))) in
    omega (arith, front, ap g here, ap h here))
    (λ other.
    let front : sum_to n h + g i ≡ sum_to n g + h i = sum_changed n i g h (omega (arith, other)) same in
    let last : h n ≡ g n = same n (λ e. other (sym e)) in
    omega (arith, front, last))
    (cases_eq i n)

-- no cell is taken
pub none_taken : (end : ℕ) (part : (ℕ → ℕ) → ℕ) (free : List Bool) → ((g : ℕ → ℕ) → part g ≡ 0) → IsTaken end part free free
none_taken end part free none = record {
  long = refl;
  after = λ i le. refl;
  fewer = λ i is. is;
  sums = λ g. omega (arith, none g);
}

-- one is
pub one_taken : (free : List Bool) (i end : ℕ) → i < length free → i < end → IsUntaken free i → IsTaken end (λ g. g i) free (set free i false)
one_taken free i end lt before is = record {
  long = length-set free i false;
  after = λ j le. get_or-set_other free i j false false (λ e. absurd (omega arith));
  fewer = λ j taken.
      ⊎_elim
      (λ here. absurd (false≢true (sym (ap (λ n. get_or (set free i false) n false) here ∙ get_or-set_same free i false false lt) ∙ taken)))
      (λ other. sym (get_or-set_other free i j false false other) ∙ taken)
      (cases_eq j i);
  sums = λ g.
      let now = λ (j : ℕ). if get_or (set free i false) j false then g j else 0 in
      let was = λ (j : ℕ). if get_or free j false then g j else 0 in
      let long : sum_to (length (set free i false)) now ≡ sum_to (length free) now = ap (λ n. sum_to n now) (length-set free i false) in
      let all : sum_to (length free) now + was i ≡ sum_to (length free) was + now i =
      sum_changed (length free) i was now lt (λ j other. ap (λ b. if b then g j else 0) (get_or-set_other free i j false false other)) in
      let gone : now i ≡ 0 = ap (λ b. if b then g i else 0) (get_or-set_same free i false false lt) in
      let there : was i ≡ g i = ap (λ b. if b then g i else 0) is in
      omega (arith, long, all, gone, there);
}

-- some, and then others
both_taken : (first second end : ℕ) (p q r : (ℕ → ℕ) → ℕ) (was mid now : List Bool) → IsTaken first p was mid → IsTaken second q mid now → first ≤ end → second ≤ end → ((g : ℕ → ℕ) → p g + q g ≡ r g)
    → IsTaken end r was now
both_taken first second end p q r was mid now one two le_one le_two sum = record {
  long = two.long ∙ one.long;
  after = λ i le. two.after i (omega arith) ∙ one.after i (omega arith);
  fewer = λ i is. one.fewer i (two.fewer i is);
  sums = λ g. omega (arith, one.sums g, two.sums g, sum g);
}

-- one more cell of a row
pub row_more : (start n : ℕ) (was mid : List Bool) → IsTaken (start + n) (sum_along start n) was mid → start + n < length mid → IsUntaken mid (start + n)
    → IsTaken (start + (n + 1)) (sum_along start (n + 1)) was (set mid (start + n) false)
row_more start n was mid taken lt is =
    both_taken (start + n) (start + (n + 1)) (start + (n + 1)) (sum_along start n) (λ g. g (start + n)) (sum_along start (n + 1)) was mid _ taken
    (one_taken mid (start + n) (start + (n + 1)) lt (omega arith) is) (omega arith) (omega arith)
    (λ g. sym (sum_more counts n (λ i. g (start + i))))

-- one more row of a block
pub block_more : (start w side n : ℕ) (was mid now : List Bool) → IsTaken (start + w * n) (rows_sum start w side n) was mid → IsTaken (start + w * n + side) (sum_along (start + w * n) side) mid now → side ≤ w
    → IsTaken (start + w * (n + 1)) (rows_sum start w side (n + 1)) was now
block_more start w side n was mid now taken row across =
    both_taken (start + w * n) (start + w * n + side) (start + w * (n + 1)) (rows_sum start w side n) (sum_along (start + w * n) side) (rows_sum start w side (n + 1)) was mid now taken row
    (omega arith) (omega arith)
    (λ g. sym (sum_more counts n (λ j. sum_along (start + w * j) side g)))
