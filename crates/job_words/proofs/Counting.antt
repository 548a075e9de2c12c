-- Every accepted word sets one more key of the table, so there are no more settings than keys.
use Rattle.std.proofs.Common.{◌≡◌, ℕ, ◌+◌, ◌≤◌, List, [], ◌∷◌, ◌++◌, length, refl, sym, ap, ◌∙◌, subst, arith, Bool, true, false, cond}
use Rattle.std.specs.Prelude.{Option, Some, None, is_some}
use Rattle.std.specs.Option.{option_or}
use Rattle.job_words.specs.declared.table.Row.{Row}
use Rattle.job_words.specs.declared.settings.Value.{Value}
use Rattle.job_words.specs.declared.settings.Setting.{Setting}
use Rattle.job_words.specs.Keys.{same_key}
use Rattle.job_words.specs.Words.{has_text, row_of, value_at}
use Rattle.job_words.proofs.Keyed.{value_at-append, key_itself}
use Rattle.job_words.proofs.Accepting.{Accepted}

abbrev pub counted : Bool → ℕ
counted true = 1
counted false = 0

-- how many keys of the table are set
abbrev pub set_count : List Row → List Setting → ℕ
set_count [] settings = 0
set_count (row ∷ rows) settings = counted (is_some (value_at row.key settings)) + set_count rows settings

counted_le : (b : Bool) → counted b ≤ 1
counted_le true = omega arith
counted_le false = omega arith

pub set_count_le : (rows : List Row) (settings : List Setting) → set_count rows settings ≤ length rows
set_count_le [] settings = omega arith
set_count_le (row ∷ rows) settings = omega (arith, counted_le (is_some (value_at row.key settings)), set_count_le rows settings)

still : (o p : Option Value) → counted (is_some o) ≤ counted (is_some (option_or o p))
still None p = omega arith
still (Some v) p = omega arith

still_set : (row : Row) (settings : List Setting) (new : Setting) → counted (is_some (value_at row.key settings)) ≤ counted (is_some (value_at row.key (settings ++ new ∷ [])))
still_set row settings new =
    subst (λ o. counted (is_some (value_at row.key settings)) ≤ counted (is_some o)) (sym (value_at-append row.key settings (new ∷ []))) (still (value_at row.key settings) (value_at row.key (new ∷ [])))

no_fewer : (rows : List Row) (settings : List Setting) (new : Setting) → set_count rows settings ≤ set_count rows (settings ++ new ∷ [])
no_fewer [] settings new = omega arith
no_fewer (row ∷ rows) settings new = omega (arith, still_set row settings new, no_fewer rows settings new)

-- the value of a key that a new setting is the first to set
pub now_set : (row : Row) (settings : List Setting) (new : Setting) → new.key ≡ row.key → value_at row.key settings ≡ None → value_at row.key (settings ++ new ∷ []) ≡ Some new.value
now_set row settings new key unset =
    value_at-append row.key settings (new ∷ []) ∙ ap (λ o. option_or o (value_at row.key (new ∷ []))) unset
    ∙ found (same_key new.key row.key) (subst (λ k. same_key k row.key ≡ true) (sym key) (key_itself row.key))
  where
    found : (b : Bool) → b ≡ true → Rattle.std.specs.Option.option_map (λ (s : Setting). s.value) (cond b (Some new) None) ≡ Some new.value
    found true e = refl
    found false e = absurd (cc)

one_more_at : (b : Bool) (r : Row) (rows : List Row) (settings : List Setting) (new : Setting) (row : Row) (text : List ℕ) → has_text text r ≡ b → cond b (Some r) (row_of rows text) ≡ Some row
    → new.key ≡ row.key → value_at row.key settings ≡ None → (row_of rows text ≡ Some row → set_count rows settings + 1 ≤ set_count rows (settings ++ new ∷ []))
    → set_count (r ∷ rows) settings + 1 ≤ set_count (r ∷ rows) (settings ++ new ∷ [])
one_more_at true r rows settings new row text test found key unset later =
    let is : r ≡ row = cc in
    let before : counted (is_some (value_at r.key settings)) ≡ 0 = ap (λ o. counted (is_some o)) (ap (λ (q : Row). value_at q.key settings) is ∙ unset) in
    let after : counted (is_some (value_at r.key (settings ++ new ∷ []))) ≡ 1 =
    ap (λ o. counted (is_some o)) (ap (λ (q : Row). value_at q.key (settings ++ new ∷ [])) is ∙ now_set row settings new key unset) in
    omega (arith, before, after, no_fewer rows settings new)
one_more_at false r rows settings new row text test found key unset later = omega (arith, still_set r settings new, later found)

-- one more key is set
one_more : (rows : List Row) (settings : List Setting) (new : Setting) (row : Row) (text : List ℕ) → row_of rows text ≡ Some row → new.key ≡ row.key → value_at row.key settings ≡ None
    → set_count rows settings + 1 ≤ set_count rows (settings ++ new ∷ [])
one_more [] settings new row text found key unset = absurd (cc)
one_more (r ∷ rows) settings new row text found key unset =
    one_more_at (has_text text r) r rows settings new row text refl found key unset (λ later. one_more rows settings new row text later key unset)

pub one_more_set : (rows : List Row) (settings : List Setting) (new : Setting) → Accepted rows settings new → set_count rows settings + 1 ≤ set_count rows (settings ++ new ∷ [])
one_more_set rows settings new a = one_more rows settings new a.row a.text a.found a.key a.unset
