-- The lengths on the way to a length, and induction along them.
use Rattle.std.proofs.Common.{◌≡◌, ℕ, zero, suc, ◌+◌, ◌-◌, ◌/◌, ◌%◌, ◌<◌, ◌≤◌, [], ◌∷◌, ◌++◌, length, refl, ap, sym, ◌∙◌, arith, ⊎_elim, get_or, subst}
use Rattle.std.specs.Prelude.{if◌then◌else◌}
use Rattle.std.proofs.lemmas.Bool.{cases_eq, eq-eqb, ne_eqb, lt-leb, le-leb, cases_lt}
use Rattle.std.proofs.lemmas.List.{length_push, get_or_push, get_or_append_left}
use Rattle.loop_walk.specs.Tables.{length_before, lengths_within, table_lengths, table_count, second_table}

pub before-odd : (m : ℕ) → m % 2 ≡ 1 → length_before m ≡ m - 1
before-odd m odd = ap (λ b. if b then m - 1 else m / 2) (eq-eqb (m % 2) 1 odd)

pub before-even : (m : ℕ) → (m % 2 ≡ 1 → ⊥) → length_before m ≡ m / 2
before-even m even = ap (λ b. if b then m - 1 else m / 2) (ne_eqb (m % 2) 1 even)

-- what the length before is: from 1 on, and less
pub record IsBefore (m b : ℕ) : Type 0 where
  pub some : 1 ≤ b
  pub less : b < m
  pub odd : m % 2 ≡ 1 → m ≡ b + 1
  pub even : (m % 2 ≡ 1 → ⊥) → m ≡ b + b

pub is_before : (m : ℕ) → 2 ≤ m → IsBefore m (length_before m)
is_before m two = ⊎_elim
    (λ odd. let e = before-odd m odd in record { some = omega arith; less = omega arith; odd = λ o. omega arith; even = λ no. absurd (no odd) })
    (λ even. let e = before-even m even in record { some = omega arith; less = omega arith; odd = λ o. absurd (even o); even = λ no. omega arith })
    (cases_eq (m % 2) 1)

-- enough room gives the same lengths
within-one : (bound m : ℕ) → m ≤ 1 → lengths_within bound m ≡ []
within-one zero m one = refl
within-one (suc bound) m one = ap (λ b. if b then [] else lengths_within bound (length_before m) ++ m ∷ []) (le-leb m 1 one)

within-more : (bound m : ℕ) → 2 ≤ m → lengths_within (suc bound) m ≡ lengths_within bound (length_before m) ++ m ∷ []
within-more bound m two = ap (λ b. if b then [] else lengths_within bound (length_before m) ++ m ∷ []) (lt-leb m 1 (omega arith))

within-same : (a b m : ℕ) → m ≤ a → m ≤ b → lengths_within a m ≡ lengths_within b m
within-same zero b m la lb = sym (within-one b m (omega arith))
within-same (suc a) zero m la lb = within-one (suc a) m (omega arith)
within-same (suc a) (suc b) m la lb = ⊎_elim
    (λ one. within-one (suc a) m (omega arith) ∙ sym (within-one (suc b) m (omega arith)))
    (λ two.
    let before = is_before m two in
    within-more a m two
    ∙ ap (λ l. l ++ m ∷ []) (within-same a b (length_before m) (omega (arith, before.less)) (omega (arith, before.less)))
    ∙ sym (within-more b m two))
    (cases_lt m 2)

pub table_lengths-one : (m : ℕ) → m ≤ 1 → table_lengths m ≡ []
table_lengths-one m one = within-one m m one

pub table_lengths-more : (m : ℕ) → 2 ≤ m → table_lengths m ≡ table_lengths (length_before m) ++ m ∷ []
table_lengths-more zero two = absurd (omega arith)
table_lengths-more (suc m) two =
    let before = is_before (suc m) two in
    within-more m (suc m) two ∙ ap (λ l. l ++ suc m ∷ []) (within-same m (length_before (suc m)) (length_before (suc m)) (omega (arith, before.less)) (omega arith))

pub table_count-one : (m : ℕ) → m ≤ 1 → table_count m ≡ 0
table_count-one m one = ap length (table_lengths-one m one)

pub table_count-more : (m : ℕ) → 2 ≤ m → table_count m ≡ table_count (length_before m) + 1
table_count-more m two = ap length (table_lengths-more m two) ∙ length_push (table_lengths (length_before m)) m

-- the length of the last table, and of those before it
pub last_length : (m d : ℕ) → 2 ≤ m → get_or (table_lengths m) (table_count (length_before m)) d ≡ m
last_length m d two = ap (λ l. get_or l (table_count (length_before m)) d) (table_lengths-more m two) ∙ get_or_push (table_lengths (length_before m)) m d (table_count (length_before m)) refl

pub earlier_length : (m t d : ℕ) → 2 ≤ m → t < table_count (length_before m) → get_or (table_lengths m) t d ≡ get_or (table_lengths (length_before m)) t d
earlier_length m t d two lt = ap (λ l. get_or l t d) (table_lengths-more m two) ∙ get_or_append_left (table_lengths (length_before m)) (m ∷ []) d t lt

-- induction: from the length before to a length
pub by_length : (P : ℕ → Type 0) → P 1 → ((m : ℕ) → 2 ≤ m → P (length_before m) → P m) → (m : ℕ) → 1 ≤ m → P m
by_length P one more m some = within m m (omega arith) some
  where
    within : (bound m : ℕ) → m ≤ bound → 1 ≤ m → P m
    within zero m le some = absurd (omega arith)
    within (suc bound) m le some = ⊎_elim
        (λ below. let is : 1 ≡ m = omega arith in subst P is one)
        (λ two. let before = is_before m two in more m two (within bound (length_before m) (omega (arith, before.less)) before.some))
        (cases_lt m 2)

-- the rest of a length is a length of the way too, and its table is the second one
pub second-odd : (m t : ℕ) → m % 2 ≡ 1 → second_table m t ≡ 0
second-odd m t odd = ap (λ b. if b then 0 else t) (eq-eqb (m % 2) 1 odd)

pub second-even : (m t : ℕ) → (m % 2 ≡ 1 → ⊥) → second_table m t ≡ t
second-even m t even = ap (λ b. if b then 0 else t) (ne_eqb (m % 2) 1 even)

pub second_is : (m : ℕ) → 2 ≤ m → second_table m (table_count (length_before m)) ≡ table_count (m - length_before m)
second_is m two =
    let before = is_before m two in
    ⊎_elim
    (λ odd.
    let rest : m - length_before m ≤ 1 = omega (arith, before.odd odd) in
    second-odd m (table_count (length_before m)) odd ∙ sym (table_count-one (m - length_before m) rest))
    (λ even.
    let rest : length_before m ≡ m - length_before m = omega (arith, before.even even) in
    second-even m (table_count (length_before m)) even ∙ ap table_count rest)
    (cases_eq (m % 2) 1)
