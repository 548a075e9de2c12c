-- What a filter that maps keeps of a list.
use Rattle.std.proofs.Common.{◌≡◌, ℕ, suc, ◌+◌, ◌<◌, ◌≤◌, List, [], ◌∷◌, ◌++◌, length, get_or, take, ap, ◌∙◌, sym, arith, add-one}
use Rattle.std.specs.Prelude.{Option, Some, None, filter_map}
use Rattle.std.specs.List.{cons_option}
use Rattle.std.proofs.lemmas.List.Elements.{filter_map-append}
use Rattle.std.proofs.Math.Seq.{take-suc}

-- of one item more
pub kept_more : {X Y : Type 0} (h : X → Option Y) (xs : List X) (i : ℕ) (d : X) (o : Option Y) (before now : List Y) → i < length xs → o ≡ h (get_or xs i d)
    → before ≡ filter_map h (take i xs) → now ≡ before ++ cons_option o [] → now ≡ filter_map h (take (i + 1) xs)
kept_more h xs i d o before now lt is so_far step =
    let more : filter_map h (take (i + 1) xs) ≡ filter_map h (take i xs) ++ cons_option (h (get_or xs i d)) [] =
    ap (λ k. filter_map h (take k xs)) (add-one i) ∙ ap (filter_map h) (take-suc xs i d lt) ∙ filter_map-append h (take i xs) (get_or xs i d ∷ []) in
    step ∙ ap (λ ys. ys ++ cons_option o []) so_far ∙ ap (λ p. filter_map h (take i xs) ++ cons_option p []) is ∙ sym more

one_kept : {Y : Type 0} (o : Option Y) (ys : List Y) → length (cons_option o ys) ≤ suc (length ys)
one_kept None ys = omega arith
one_kept (Some y) ys = omega arith

-- no more than there are
pub length-filter_map : {X Y : Type 0} (h : X → Option Y) (xs : List X) → length (filter_map h xs) ≤ length xs
length-filter_map h [] = omega arith
length-filter_map h (x ∷ xs) = omega (arith, one_kept (h x) (filter_map h xs), length-filter_map h xs)
