-- The turns of a list of samples, by their numbers.
use Rattle.std.proofs.Common.{◌≡◌, ℕ, zero, suc, ◌+◌, ◌-◌, ◌*◌, ◌/◌, ◌%◌, ◌<◌, ◌≤◌, List, [], ◌∷◌, ◌++◌, length, map, drop, get_or, refl, ap, sym, ◌∙◌, subst, arith}
use Rattle.std.proofs.lemmas.List.FromFn.{map-range_with_len_more}
use Rattle.std.proofs.lemmas.Option.{slice_get-get_or}
use Rattle.std.specs.Prelude.{Some, slice_get}
use Rattle.std.specs.List.{AllByRecursion, flat_map, range_with_len}
use Rattle.cells.specs.declared.place.Size.{Size}
use Rattle.cells.specs.Places.{HasAxes}
use Rattle.cells.specs.SizeLists.{AreSizes, size_of_part}
use Rattle.turned.specs.Turns.{turn_size}
use Rattle.turned.specs.TurnedParts.{all_turns, turned_sizes_of}
use Rattle.turned.specs.TurnedPlaces.{sample_size}
use Rattle.turned.proofs.Turns.{each_turn, turn_axes}

some_same : {A : Type 0} (x y : A) → Some x ≡ Some y → x ≡ y
some_same x y e = cc

-- the turns of each, as a function of the turn gives them
abbrev pub each_of : {X Y : Type 0} → (ℕ → X → Y) → X → List Y
each_of g x = map (λ t. g t x) all_turns

pub turn_nth : {X Y : Type 0} (g : ℕ → X → Y) (xs : List X) (n t : ℕ) (x : X) → slice_get xs n ≡ Some x → t < 8 → slice_get (flat_map (each_of g) xs) (8 * n + t) ≡ Some (g t x)
turn_nth g [] n t x e lt = cc
turn_nth g (y ∷ xs) zero t x e lt =
    ap (slice_get (flat_map (each_of g) (y ∷ xs))) (let first : 8 * 0 + t ≡ t = omega arith in first)
    ∙ each_turn (λ i. slice_get (flat_map (each_of g) (y ∷ xs)) i ≡ Some (g i y)) refl refl refl refl refl refl refl refl t lt
    ∙ ap (λ z. Some (g t z)) (some_same y x e)
turn_nth g (y ∷ xs) (suc n) t x e lt =
    ap (slice_get (flat_map (each_of g) (y ∷ xs))) (let later : 8 * suc n + t ≡ suc (suc (suc (suc (suc (suc (suc (suc (8 * n + t)))))))) = omega arith in later)
    ∙ turn_nth g xs n t x e lt

pub turn_count : {X Y : Type 0} (g : ℕ → X → Y) (xs : List X) → length (flat_map (each_of g) xs) ≡ 8 * length xs
turn_count g [] = refl
turn_count g (x ∷ xs) = let rest = turn_count g xs in omega (arith, rest)

pub below_of : {X : Type 0} (xs : List X) (i : ℕ) (x : X) → slice_get xs i ≡ Some x → i < length xs
below_of [] i x e = cc
below_of (y ∷ xs) zero x e = omega arith
below_of (y ∷ xs) (suc i) x e = let rest = below_of xs i x e in omega (arith, rest)

-- which turn of which sample a part is
pub record IsTurnOf (samples : List Size) (i : ℕ) (size : Size) : Type 0 where
  pub sample : Size
  pub numbered : slice_get samples (i / 8) ≡ Some sample
  pub is : size ≡ turn_size (i % 8) sample

pub turn_of : (samples : List Size) (i : ℕ) (size : Size) → slice_get (turned_sizes_of samples) i ≡ Some size → IsTurnOf samples i size
turn_of samples i size e =
    let below : i < 8 * length samples = subst (λ n. i < n) (turn_count turn_size samples) (below_of (turned_sizes_of samples) i size e) in
    let sample = get_or samples (i / 8) size in
    let at : slice_get samples (i / 8) ≡ Some sample = slice_get-get_or samples (i / 8) size (omega (arith, below)) in
    let split : 8 * (i / 8) + i % 8 ≡ i = omega arith in
    let turn : i % 8 < 8 = omega arith in
    record {
      sample = sample;
      numbered = at;
      is = some_same size (turn_size (i % 8) sample)
          (sym e ∙ ap (slice_get (turned_sizes_of samples)) (sym split) ∙ turn_nth turn_size samples (i / 8) (i % 8) sample at turn);
    }

-- the turns of sizes have axes where the sizes have
pub turns_axes : (sizes : List Size) → AllByRecursion HasAxes sizes → AllByRecursion HasAxes (turned_sizes_of sizes)
turns_axes [] all = tt
turns_axes (size ∷ sizes) all =
    let at : (t : ℕ) → HasAxes (turn_size t size) = λ t. turn_axes t size all.0 in
    (at 0, (at 1, (at 2, (at 3, (at 4, (at 5, (at 6, (at 7, turns_axes sizes all.1))))))))

-- turn 0 keeps a size, so turned sizes tell the sizes
pub sizes_told : (sizes other : List Size) → turned_sizes_of sizes ≡ turned_sizes_of other → sizes ≡ other
sizes_told [] [] e = refl
sizes_told [] (o ∷ other) e = cc
sizes_told (s ∷ sizes) [] e = cc
sizes_told (s ∷ sizes) (o ∷ other) e =
    (λ k. ap (λ xs. get_or xs 0 s) e k ∷ sizes_told sizes other (ap (drop 8) e) k)

-- the turns of 1 or 2 sizes are the sizes of parts
pub turned_are : (samples : List Size) → AreSizes samples → length samples ≤ 2 → AreSizes (turned_sizes_of samples)
turned_are samples are few =
    let count = turn_count turn_size samples in
    record {
      some = omega (arith, count, are.some);
      few = omega (arith, count, few);
      axes = turns_axes samples are.axes;
    }

-- a sample by its number
pub sample_there : (samples : List Size) (number : ℕ) → 1 ≤ number → number ≤ length samples → size_of_part samples number ≡ Some (sample_size samples number)
sample_there samples zero from to = absurd (omega (arith, from))
sample_there [] (suc n) from to = absurd (omega (arith, to))
sample_there (s ∷ samples) (suc zero) from to = refl
sample_there (s ∷ samples) (suc (suc n)) from to = sample_there samples (suc n) (omega arith) (omega (arith, to))

pub sample_bounds : (samples : List Size) (number : ℕ) (size : Size) → size_of_part samples number ≡ Some size → (1 ≤ number) × (number ≤ length samples)
sample_bounds samples zero size e = cc
sample_bounds samples (suc n) size e = let below = below_of samples n size e in (omega arith, omega (arith, below))

pub sample_axes : (samples : List Size) (number : ℕ) (size : Size) → AllByRecursion HasAxes samples → size_of_part samples number ≡ Some size → HasAxes size
sample_axes samples zero size all e = cc
sample_axes [] (suc n) size all e = cc
sample_axes (s ∷ samples) (suc zero) size all e = subst HasAxes (some_same s size e) all.0
sample_axes (s ∷ samples) (suc (suc n)) size all e = sample_axes samples (suc n) size all.1 e

-- the sizes of one sample after its turns, and of two
pub sizes_of_one : (samples : List Size) (size : Size) → Some size ≡ size_of_part samples 1 → length samples ≤ 1 → size ∷ [] ++ map (λ t. turn_size t size) (range_with_len 1 7) ≡ turned_sizes_of samples
sizes_of_one [] size e few = cc
sizes_of_one (s ∷ []) size e few = ap (λ z. z ∷ [] ++ map (λ t. turn_size t z) (range_with_len 1 7)) (some_same size s e)
sizes_of_one (s ∷ o ∷ more) size e few = absurd (omega (arith, few))

pub sizes_of_two : (samples : List Size) (size other : Size) → Some size ≡ size_of_part samples 1 → Some other ≡ size_of_part samples 2 → length samples ≤ 2
    → size ∷ [] ++ map (λ t. turn_size t size) (range_with_len 1 7) ++ map (λ t. turn_size t other) (range_with_len 0 8) ≡ turned_sizes_of samples
sizes_of_two [] size other e e' few = cc
sizes_of_two (s ∷ []) size other e e' few = cc
sizes_of_two (s ∷ o ∷ []) size other e e' few =
    ap (λ z. z ∷ [] ++ map (λ t. turn_size t z) (range_with_len 1 7) ++ map (λ t. turn_size t other) (range_with_len 0 8)) (some_same size s e)
    ∙ ap (λ z. s ∷ [] ++ map (λ t. turn_size t s) (range_with_len 1 7) ++ map (λ t. turn_size t z) (range_with_len 0 8)) (some_same other o e')
sizes_of_two (s ∷ o ∷ n ∷ more) size other e e' few = absurd (omega (arith, few))

-- one turn more
pub sizes_more : (size : Size) (first turn : ℕ) → first ≤ turn → map (λ t. turn_size t size) (range_with_len first (turn + 1 - first)) ≡ map (λ t. turn_size t size) (range_with_len first (turn - first)) ++ turn_size turn size ∷ []
sizes_more size first turn le =
    ap (λ n. map (λ t. turn_size t size) (range_with_len first n)) (let e : turn + 1 - first ≡ (turn - first) + 1 = omega (arith, le) in e)
    ∙ map-range_with_len_more (λ t. turn_size t size) first (turn - first) turn (omega (arith, le))
