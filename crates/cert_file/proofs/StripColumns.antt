-- The columns of a strip.
use Rattle.std.proofs.Common.{◌≡◌, ℕ, ◌+◌, ◌*◌, ◌/◌, ◌≤◌, ◌∙◌, ap, arith}
use Rattle.std.proofs.lemmas.Nat.{div-mul-add}

-- as many as its cells say
pub cols_are : (rows cols : ℕ) → 1 ≤ rows → rows * cols / rows ≡ cols
cols_are rows cols some = ap (λ n. n / rows) (let e : rows * cols ≡ cols * rows + 0 = omega arith in e) ∙ div-mul-add cols rows 0 some
