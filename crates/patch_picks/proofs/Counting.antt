-- Lists that are filtered: the entry that is the n-th to pass, and lists that agree on what passes.
use Rattle.std.proofs.Common.{◌≡◌, ℕ, suc, zero, ◌+◌, ◌<◌, Bool, true, false, cond, List, [], ◌∷◌, ◌++◌, length, map, take, get_or, refl, sym, subst, ap, ◌∙◌, arith}
use Rattle.std.proofs.lemmas.Bool.{false≢true}
use Rattle.std.proofs.lemmas.List.{map-append, take_more}
use Rattle.std.proofs.lemmas.List.Elements.{All-contains, All-head, All-tail}
use Rattle.std.proofs.lemmas.Option.{slice_get-get_or, slice_get_within, get_or_from_slice_get, none-some, same_Some}
use Rattle.std.specs.Prelude.{All, Contains, replicate, Some, slice_get}
use Rattle.std.specs.List.{AllZip, filter}

-- the entry at an index
pub Contains-slice_get : {X : Type 0} (xs : List X) (x : X) → Contains xs x → (i : ℕ) × (slice_get xs i ≡ Some x)
Contains-slice_get xs x has = (has.0, slice_get-get_or xs has.0 x has.1 ∙ ap Some has.2)

pub slice_get-Contains : {X : Type 0} (xs : List X) (x : X) (i : ℕ) → slice_get xs i ≡ Some x → Contains xs x
slice_get-Contains xs x i at = (i, slice_get_within xs i x at, get_or_from_slice_get xs i x x at)

-- lists whose entries agree have as many that pass, also among as many first entries
alike : {X Y : Type 0} (x : X) (y : Y) (a b : Bool) (xs : List X) (ys : List Y) → a ≡ b → length xs ≡ length ys → length (cond a (x ∷ xs) xs) ≡ length (cond b (y ∷ ys) ys)
alike x y true true xs ys e rest = ap (λ n. suc n) rest
alike x y true false xs ys e rest = absurd (false≢true (sym e))
alike x y false true xs ys e rest = absurd (false≢true e)
alike x y false false xs ys e rest = rest

pub kept_alike : {X Y : Type 0} (R : X → Y → Type 0) (p : X → Bool) (q : Y → Bool) → ((x : X) (y : Y) → R x y → p x ≡ q y) → (xs : List X) (ys : List Y) → AllZip R xs ys → length (filter p xs) ≡ length (filter q ys)
kept_alike R p q same [] [] zip = refl
kept_alike R p q same [] (y ∷ ys) zip = absurd zip
kept_alike R p q same (x ∷ xs) [] zip = absurd zip
kept_alike R p q same (x ∷ xs) (y ∷ ys) zip = alike x y (p x) (q y) (filter p xs) (filter q ys) (same x y zip.0) (kept_alike R p q same xs ys zip.1)

pub AllZip-take : {X Y : Type 0} (R : X → Y → Type 0) (xs : List X) (ys : List Y) (i : ℕ) → AllZip R xs ys → AllZip R (take i xs) (take i ys)
AllZip-take R xs ys zero zip = tt
AllZip-take R [] [] (suc i) zip = tt
AllZip-take R [] (y ∷ ys) (suc i) zip = absurd zip
AllZip-take R (x ∷ xs) [] (suc i) zip = absurd zip
AllZip-take R (x ∷ xs) (y ∷ ys) (suc i) zip = (zip.0, AllZip-take R xs ys i zip.1)

-- an entry that passes comes after those before it that pass
pub passed_at : {X : Type 0} (q : X → Bool) (xs : List X) (i : ℕ) (x : X) → slice_get xs i ≡ Some x → q x ≡ true → slice_get (filter q xs) (length (filter q (take i xs))) ≡ Some x
passed_at q [] i x at passes = absurd (none-some x at)
passed_at q (y ∷ ys) zero x at passes = here (q y) (subst (λ z. q z ≡ true) (sym (same_Some y x at)) passes)
  where
    here : (b : Bool) → b ≡ true → slice_get (cond b (y ∷ filter q ys) (filter q ys)) 0 ≡ Some x
    here true e = at
    here false e = absurd (false≢true e)
passed_at q (y ∷ ys) (suc i) x at passes = behind (q y) (passed_at q ys i x at passes)
  where
    behind : (b : Bool) → slice_get (filter q ys) (length (filter q (take i ys))) ≡ Some x → slice_get (cond b (y ∷ filter q ys) (filter q ys)) (length (cond b (y ∷ filter q (take i ys)) (filter q (take i ys)))) ≡ Some x
    behind true rest = rest
    behind false rest = rest

-- the partner of an entry
pub AllZip-right : {X Y : Type 0} (R : X → Y → Type 0) (xs : List X) (ys : List Y) (i : ℕ) (y : Y) → AllZip R xs ys → slice_get ys i ≡ Some y → (x : X) × (slice_get xs i ≡ Some x) × R x y
AllZip-right R [] [] i y zip at = absurd (none-some y at)
AllZip-right R [] (z ∷ zs) i y zip at = absurd zip
AllZip-right R (x ∷ xs) [] i y zip at = absurd zip
AllZip-right R (x ∷ xs) (z ∷ zs) zero y zip at = (x, refl, subst (R x) (same_Some z y at) zip.0)
AllZip-right R (x ∷ xs) (z ∷ zs) (suc i) y zip at = AllZip-right R xs zs i y zip.1 at

pub AllZip-left : {X Y : Type 0} (R : X → Y → Type 0) (xs : List X) (ys : List Y) (i : ℕ) (x : X) → AllZip R xs ys → slice_get xs i ≡ Some x → (y : Y) × (slice_get ys i ≡ Some y) × R x y
AllZip-left R [] ys i x zip at = absurd (none-some x at)
AllZip-left R (z ∷ zs) [] i x zip at = absurd zip
AllZip-left R (z ∷ zs) (y ∷ ys) zero x zip at = (y, refl, subst (λ w. R w y) (same_Some z x at) zip.0)
AllZip-left R (z ∷ zs) (y ∷ ys) (suc i) x zip at = AllZip-left R zs ys i x zip.1 at

-- one and the same list, and a list over a map
pub AllZip-same : {X : Type 0} (R : X → X → Type 0) → ((x : X) → R x x) → (xs : List X) → AllZip R xs xs
AllZip-same R each [] = tt
AllZip-same R each (x ∷ xs) = (each x, AllZip-same R each xs)

pub AllZip-weaker : {X Y : Type 0} (R S : X → Y → Type 0) → ((x : X) (y : Y) → R x y → S x y) → (xs : List X) (ys : List Y) → AllZip R xs ys → AllZip S xs ys
AllZip-weaker R S each [] [] zip = tt
AllZip-weaker R S each [] (y ∷ ys) zip = absurd zip
AllZip-weaker R S each (x ∷ xs) [] zip = absurd zip
AllZip-weaker R S each (x ∷ xs) (y ∷ ys) zip = (each x y zip.0, AllZip-weaker R S each xs ys zip.1)

pub AllZip-from_map : {X Y Z : Type 0} (R : X → Y → Type 0) (f : Z → Y) (xs : List X) (zs : List Z) → AllZip R xs (map f zs) → AllZip (λ x z. R x (f z)) xs zs
AllZip-from_map R f [] [] zip = tt
AllZip-from_map R f [] (z ∷ zs) zip = absurd zip
AllZip-from_map R f (x ∷ xs) [] zip = absurd zip
AllZip-from_map R f (x ∷ xs) (z ∷ zs) zip = (zip.0, AllZip-from_map R f xs zs zip.1)

-- an entry of a list that is mapped
pub map_at : {X Y : Type 0} (f : X → Y) (xs : List X) (i : ℕ) (y : Y) → slice_get (map f xs) i ≡ Some y → (x : X) × (slice_get xs i ≡ Some x) × (f x ≡ y)
map_at f [] i y at = absurd (none-some y at)
map_at f (x ∷ xs) zero y at = (x, refl, same_Some (f x) y at)
map_at f (x ∷ xs) (suc i) y at = map_at f xs i y at

pub map_more : {X Y : Type 0} (f : X → Y) (xs : List X) (i : ℕ) (x : X) → slice_get xs i ≡ Some x → map f (take (i + 1) xs) ≡ map f (take i xs) ++ f x ∷ []
map_more f xs i x at =
    ap (map f) (take_more xs i x (slice_get_within xs i x at)) ∙ map-append f (take i xs) (get_or xs i x ∷ [])
    ∙ ap (λ y. map f (take i xs) ++ f y ∷ []) (get_or_from_slice_get xs i x x at)

pub All-slice_get : {X : Type 0} (P : X → Type 0) (xs : List X) (i : ℕ) (x : X) → All P xs → slice_get xs i ≡ Some x → P x
All-slice_get P xs i x all at = All-contains P xs x all (slice_get-Contains xs x i at)

-- what holds of the entry at each index holds of all
pub All-each : {X : Type 0} (P : X → Type 0) (xs : List X) → ((i : ℕ) (x : X) → slice_get xs i ≡ Some x → P x) → All P xs
All-each P xs each = λ k d lt. each k (get_or xs k d) (slice_get-get_or xs k d lt)

pub first_at : {X : Type 0} (xs : List X) → 0 < length xs → (x : X) × (slice_get xs 0 ≡ Some x)
first_at [] some = absurd (omega (arith, some))
first_at (x ∷ xs) some = (x, refl)

-- one entry beside each of a list
pub AllZip-replicate : {X Y : Type 0} (R : X → Y → Type 0) (x : X) (ys : List Y) → All (R x) ys → AllZip R (replicate (length ys) x) ys
AllZip-replicate R x [] all = tt
AllZip-replicate R x (y ∷ ys) all = (All-head (R x) y ys all, AllZip-replicate R x ys (All-tail (R x) y ys all))
