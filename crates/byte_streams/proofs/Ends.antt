-- The end of two lists, one after the other.
use Rattle.std.proofs.Common.{◌≡◌, ℕ, ◌+◌, ◌-◌, ◌≤◌, ◌<◌, List, ◌++◌, length, drop, sym, ap, ◌∙◌, arith, inl, inr, ◌⊎◌, le_refl}
use Rattle.std.specs.Prelude.{min}
use Rattle.std.proofs.Common.{length-append}
use Rattle.std.proofs.Math.Seq.{drop-append-add}
use Rattle.std.proofs.lemmas.List.{drop-append-le, drop_all}
use Rattle.byte_streams.specs.Tails.{tail_of}

fits_or : (a b : ℕ) → (a ≤ b) ⊎ (b < a)
fits_or a b = grind arith

pub tails : (room : ℕ) (xs ys : List ℕ) → length xs ≤ room
    → drop (length xs - min (length xs) (room - min (length ys) room)) xs ++ drop (length ys - min (length ys) room) ys ≡ tail_of room (xs ++ ys)
tails room xs ys within = by (fits_or (length ys) room)
  where
    by : (length ys ≤ room) ⊎ (room < length ys) → drop (length xs - min (length xs) (room - min (length ys) room)) xs ++ drop (length ys - min (length ys) room) ys ≡ tail_of room (xs ++ ys)
    by (inl few) =
        let front : length xs - min (length xs) (room - min (length ys) room) ≡ length xs + length ys - room = grind arith in
        let all : length ys - min (length ys) room ≡ 0 = grind arith in
        ap (λ n. drop n xs ++ drop (length ys - min (length ys) room) ys) front
        ∙ ap (λ n. drop (length xs + length ys - room) xs ++ drop n ys) all
        ∙ sym (drop-append-le (length xs + length ys - room) xs ys (grind arith))
        ∙ ap (λ n. drop (n - room) (xs ++ ys)) (sym (length-append xs ys))
    by (inr many) =
        let front : length xs - min (length xs) (room - min (length ys) room) ≡ length xs = grind arith in
        let rest : length ys - min (length ys) room ≡ length ys - room = grind arith in
        let at : length xs + (length ys - room) ≡ length xs + length ys - room = grind arith in
        ap (λ n. drop n xs ++ drop (length ys - min (length ys) room) ys) front
        ∙ ap (λ zs. zs ++ drop (length ys - min (length ys) room) ys) (drop_all (length xs) xs (le_refl (length xs)))
        ∙ ap (λ n. drop n ys) rest
        ∙ sym (drop-append-add xs ys (length ys - room))
        ∙ ap (λ n. drop n (xs ++ ys)) at
        ∙ ap (λ n. drop (n - room) (xs ++ ys)) (sym (length-append xs ys))
