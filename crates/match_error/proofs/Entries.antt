-- Entries put after those of the row above, one after another.
use Rattle.std.proofs.Common.{◌≡◌, ℕ, ◌+◌, ◌<◌, List, [], ◌∷◌, ◌++◌, length, get_or, ap, sym, ◌∙◌, arith, ⊎_elim, add-zero, length-append}
use Rattle.std.proofs.lemmas.Bool.{cases_eq}
use Rattle.std.proofs.lemmas.List.{get_or_append_left, get_or-append-add}

-- so many entries come after others: each that of the row above and a number more
pub record ArePut (was now : List ℕ) (above count : ℕ) (g : ℕ → ℕ) : Type 0 where
  pub long : length now ≡ length was + count
  pub kept : (i : ℕ) → i < length was → get_or now i 0 ≡ get_or was i 0
  pub more : (j : ℕ) → j < count → get_or now (length was + j) 0 ≡ get_or was (above + j) 0 + g j

pub none_put : (was : List ℕ) (above : ℕ) (g : ℕ → ℕ) → ArePut was was above 0 g
none_put was above g = record {
  long = omega arith;
  kept = λ i lt k. get_or was i 0;
  more = λ j lt. absurd (omega arith);
}

pub one_put : (was now : List ℕ) (above count v : ℕ) (g : ℕ → ℕ) → ArePut was now above count g → v ≡ get_or was (above + count) 0 + g count → ArePut was (now ++ v ∷ []) above (count + 1) g
one_put was now above count v g put is = record {
  long = omega (arith, put.long, length-append now (v ∷ []));
  kept = λ i lt. get_or_append_left now (v ∷ []) 0 i (omega (arith, put.long)) ∙ put.kept i lt;
  more = λ j lt.
      ⊎_elim (λ same. ap (λ n. get_or (now ++ v ∷ []) (length was + n) 0) same ∙ last ∙ is ∙ ap (λ n. get_or was (above + n) 0 + g n) (sym same))
      (λ other. get_or_append_left now (v ∷ []) 0 (length was + j) (omega (arith, put.long, other)) ∙ put.more j (omega (arith, other)))
      (cases_eq j count);
}
  where
    here : length was + count ≡ length now + 0
    here = omega (arith, put.long)

    last : get_or (now ++ v ∷ []) (length was + count) 0 ≡ v
    last = ap (λ n. get_or (now ++ v ∷ []) n 0) here ∙ get_or-append-add now (v ∷ []) 0 0

pub first_put : (was : List ℕ) (above v : ℕ) (g : ℕ → ℕ) → v ≡ get_or was above 0 → g 0 ≡ 0 → ArePut was (was ++ v ∷ []) above 1 g
first_put was above v g is none = one_put was was above 0 v g (none_put was above g) (omega (arith, is, none, ap (λ n. get_or was n 0) (add-zero above)))

-- the entry of the row above is still the same
pub above_kept : (was now read : List ℕ) (above w x : ℕ) (g : ℕ → ℕ) → ArePut was now above (x + 1) g → read ≡ now → length was ≡ above + (w + 1) → x < w → get_or read (above + 1 + x) 0 ≡ get_or was (above + (x + 1)) 0
above_kept was now read above w x g put same long lt =
    (λ t. get_or (same t) (turned t) 0) ∙ put.kept (above + (x + 1)) (omega (arith, long))
  where
    turned : above + 1 + x ≡ above + (x + 1)
    turned = omega arith
