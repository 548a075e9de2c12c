-- Places of the turned samples: one cell comes to each, and the way back.
use Rattle.std.proofs.Common.{◌≡◌, ℕ, zero, suc, ◌+◌, ◌-◌, ◌*◌, ◌/◌, ◌%◌, ◌<◌, ◌≤◌, List, [], ◌∷◌, refl, ap, sym, ◌∙◌, subst, arith}
use Rattle.std.proofs.lemmas.Option.{slice_get-map}
use Rattle.std.specs.Prelude.{Option, Some, None, option_map, slice_get, unwrap_or}
use Rattle.cells.specs.declared.place.At.{At}
use Rattle.cells.specs.declared.place.Size.{Size}
use Rattle.cells.specs.declared.sizes.PartPlace.{PartPlace}
use Rattle.cells.specs.Places.{IsInside}
use Rattle.cells.specs.Cells.{Cells, IsVolume, cell_at, sizes_of}
use Rattle.cells.specs.PartLists.{parts_of}
use Rattle.cells.specs.SizeLists.{IsInPart, IsPartPlace, size_of_part, stock_place}
use Rattle.cells.proofs.CellLaws.{inside_has_cell}
use Rattle.cells.proofs.PartLists.{is_part, one_part_has, stands_in}
use Rattle.cells.proofs.PartPlaces.{none_behind}
use Rattle.turned.specs.declared.places.Turned.{Turned}
use Rattle.turned.specs.Turns.{turn_from, turn_size, turn_to}
use Rattle.turned.specs.TurnedParts.{turned, turned_of, turned_sizes_of}
use Rattle.turned.specs.TurnedPlaces.{IsTurned, IsUntouched, sample_size, turned_number, turned_place}
use Rattle.turned.proofs.Turns.{turn_back, turn_inside, turn_outside, turn_there, turn_to_inside}
use Rattle.turned.proofs.TurnedLists.{IsTurnOf, turn_nth, turn_of}
use Rattle.turned.proofs.TurnedCells.{parts_turned, sizes_of_parts, sizes_turned, turned_at}

some_same : {A : Type 0} (x y : A) → Some x ≡ Some y → x ≡ y
some_same x y e = cc

-- a place of a list of parts has one part, and leads back
pub one_part_place : (sizes : List Size) (p : At) (a b : PartPlace) → IsPartPlace sizes p a → IsPartPlace sizes p b → a ≡ b
one_part_place [] p a b ha hb = absurd (none_behind 1 p a ha)
one_part_place (size ∷ more) p a b ha hb = (one_part_has (record { size = size; more = more; k = 1; cells = [] }) p).one a b ha hb

pub leads_back : (sizes : List Size) (p : At) (a : PartPlace) → IsPartPlace sizes p a → stock_place sizes a.part a.at ≡ p
leads_back [] p a ha = absurd (none_behind 1 p a ha)
leads_back (size ∷ more) p a ha = (one_part_has (record { size = size; more = more; k = 1; cells = [] }) p).back a ha

-- the turned part of a sample, in the list of sizes
slot_of : (samples : List Size) (sample turn : ℕ) (size : Size) → size_of_part samples sample ≡ Some size → turn < 8 → slice_get (turned_sizes_of samples) (8 * (sample - 1) + turn) ≡ Some (turn_size turn size)
slot_of samples zero turn size e lt = cc
slot_of samples (suc n) turn size e lt =
    ap (slice_get (turned_sizes_of samples)) (let same : 8 * (suc n - 1) + turn ≡ 8 * n + turn = omega arith in same)
    ∙ turn_nth turn_size samples n turn size e lt

-- the place to which a turn moves a cell lies in the turned part
pub place_is_part : (samples : List Size) (there : Turned) → IsTurned samples there
    → IsPartPlace (turned_sizes_of samples) (turned_place samples there) (record { part = turned_number there.sample there.turn; at = turn_to there.turn (sample_size samples there.sample) there.at })
place_is_part samples there is = record {
  before = 8 * (there.sample - 1) + there.turn;
  part = omega arith;
  size = turn_size there.turn (sample_size samples there.sample);
  is = slot_of samples there.sample there.turn (sample_size samples there.sample) is.sample is.turn;
  inside = turn_to_inside there.turn (sample_size samples there.sample) there.at is.inside;
  stock = ap (λ n. stock_place (turned_sizes_of samples) n (turn_to there.turn (sample_size samples there.sample) there.at))
      (let next : suc (8 * (there.sample - 1) + there.turn) ≡ 8 * (there.sample - 1) + there.turn + 1 = omega arith in next);
}

-- which is that part's, and there is such a part
pub place_in_part : (samples : List Size) (there : Turned) → IsTurned samples there
    → IsInPart (turned_sizes_of samples) (turned_number there.sample there.turn) (turn_to there.turn (sample_size samples there.sample) there.at)
place_in_part samples there is size e =
    let next : turned_number there.sample there.turn ≡ suc (8 * (there.sample - 1) + there.turn) = omega arith in
    let same = some_same (turn_size there.turn (sample_size samples there.sample)) size
    (sym (slot_of samples there.sample there.turn (sample_size samples there.sample) is.sample is.turn) ∙ sym (ap (size_of_part (turned_sizes_of samples)) next) ∙ e) in
    subst (λ s. IsInside s (turn_to there.turn (sample_size samples there.sample) there.at)) same (turn_to_inside there.turn (sample_size samples there.sample) there.at is.inside)

pub place_untouched : (samples : List Size) (there : Turned) → IsTurned samples there → IsUntouched samples (turned_place samples there) there
place_untouched samples there is = record {
  is = is;
  place = turn_to there.turn (sample_size samples there.sample) there.at;
  part = place_is_part samples there is;
  from = sym (turn_back there.turn (sample_size samples there.sample) there.at);
}

pub untouched_back : (samples : List Size) (p : At) (there : Turned) → IsUntouched samples p there → turned_place samples there ≡ p
untouched_back samples p there u =
    ap (stock_place (turned_sizes_of samples) (turned_number there.sample there.turn))
    (ap (turn_to there.turn (sample_size samples there.sample)) u.from ∙ turn_there there.turn (sample_size samples there.sample) u.place)
    ∙ leads_back (turned_sizes_of samples) p (record { part = turned_number there.sample there.turn; at = u.place }) u.part

-- one cell comes to each place
sample_some : (samples : List Size) (sample : ℕ) (size : Size) → size_of_part samples sample ≡ Some size → 1 ≤ sample
sample_some samples zero size e = cc
sample_some samples (suc n) size e = omega arith

pub untouched_one : (samples : List Size) (p : At) (a b : Turned) → IsUntouched samples p a → IsUntouched samples p b → a ≡ b
untouched_one samples p a b ua ub =
    λ k. record { sample = sample k; turn = turn k; at = (ua.from ∙ (λ j. turn_from (turn j) (sample_size samples (sample j)) (place j)) ∙ sym ub.from) k }
  where
    part_a : PartPlace
    part_a = record { part = turned_number a.sample a.turn; at = ua.place }

    part_b : PartPlace
    part_b = record { part = turned_number b.sample b.turn; at = ub.place }

    same : part_a ≡ part_b
    same = one_part_place (turned_sizes_of samples) p part_a part_b ua.part ub.part

    number : turned_number a.sample a.turn ≡ turned_number b.sample b.turn
    number = ap (λ (there : PartPlace). there.part) same

    place : ua.place ≡ ub.place
    place = ap (λ (there : PartPlace). there.at) same

    from_a : 1 ≤ a.sample
    from_a = sample_some samples a.sample (sample_size samples a.sample) ua.is.sample

    from_b : 1 ≤ b.sample
    from_b = sample_some samples b.sample (sample_size samples b.sample) ub.is.sample

    turn_a : a.turn < 8
    turn_a = ua.is.turn

    turn_b : b.turn < 8
    turn_b = ub.is.turn

    sample : a.sample ≡ b.sample
    sample = omega (arith, number, from_a, from_b, turn_a, turn_b)

    turn : a.turn ≡ b.turn
    turn = omega (arith, number, from_a, from_b, turn_a, turn_b)

-- what the part that has a place tells of the cell that comes there
module _ (samples : List Size) (p : At) (there : PartPlace) (has : IsPartPlace (turned_sizes_of samples) p there) where
  index : there.part - 1 ≡ has.before
  index = omega (arith, has.part)

  pub turn_at : IsTurnOf samples has.before has.size
  turn_at = turn_of samples has.before has.size has.is

  pub found_sample : size_of_part samples ((there.part - 1) / 8 + 1) ≡ Some turn_at.sample
  found_sample = ap (size_of_part samples) (let e : (there.part - 1) / 8 + 1 ≡ suc (has.before / 8) = omega (arith, ap (λ n. n / 8) index) in e) ∙ turn_at.numbered

  pub found_size : sample_size samples ((there.part - 1) / 8 + 1) ≡ turn_at.sample
  found_size = ap (λ o. unwrap_or o (record { w = 0; h = 0; f = 0 })) found_sample

  pub found_turn : (there.part - 1) % 8 < 8
  found_turn = omega arith

  pub found_inside : IsInside (turn_size ((there.part - 1) % 8) (sample_size samples ((there.part - 1) / 8 + 1))) there.at
  found_inside =
      subst (λ size. IsInside size there.at)
      (turn_at.is ∙ (λ k. turn_size (sym (ap (λ n. n % 8) index) k) (sym found_size k))) has.inside

  pub found_untouched : IsUntouched samples p (record {
    sample = (there.part - 1) / 8 + 1;
    turn = (there.part - 1) % 8;
    at = turn_from ((there.part - 1) % 8) (sample_size samples ((there.part - 1) / 8 + 1)) there.at;
  })
  found_untouched = record {
    is = record {
      sample = found_sample ∙ ap Some (sym found_size);
      turn = found_turn;
      inside = turn_inside ((there.part - 1) % 8) (sample_size samples ((there.part - 1) / 8 + 1)) there.at found_inside;
    };
    place = there.at;
    part = subst (λ n. IsPartPlace (turned_sizes_of samples) p (record { part = n; at = there.at }))
        (let e : there.part ≡ 8 * ((there.part - 1) / 8 + 1 - 1) + (there.part - 1) % 8 + 1 = omega (arith, has.part) in e) has;
    from = refl;
  }

-- the part of a volume that has a size
pub record HasPart (v : Cells) (n : ℕ) (size : Size) : Type 0 where
  pub part : Cells
  pub is : slice_get (parts_of v) n ≡ Some part
  pub size_is : part.size ≡ size

pub part_of_size : (v : Cells) (n : ℕ) (size : Size) → slice_get (sizes_of v) n ≡ Some size → HasPart v n size
part_of_size v n size e =
    by (slice_get (parts_of v) n) refl
    (sym (slice_get-map (λ (part : Cells). part.size) (parts_of v) n) ∙ ap (λ sizes. slice_get sizes n) (sizes_of_parts v) ∙ e)
  where
    by : (o : Option Cells) → slice_get (parts_of v) n ≡ o → option_map (λ (part : Cells). part.size) (slice_get (parts_of v) n) ≡ Some size → HasPart v n size
    by None none is = let never : None ≡ Some size = ap (option_map (λ (part : Cells). part.size)) (sym none) ∙ is in cc
    by (Some part) some is = record {
      part = part;
      is = some;
      size_is = some_same part.size size (ap (option_map (λ (part : Cells). part.size)) (sym some) ∙ is);
    }

-- a place of the turned volume has the bytes of the cell that comes there
cell_moved : (v : Cells) → IsVolume v → (n t : ℕ) (size : Size) (q : At) → slice_get (sizes_of v) n ≡ Some size → t < 8 → IsInside (turn_size t size) q
    → cell_at (turned_of v) (stock_place (turned_sizes_of (sizes_of v)) (suc (8 * n + t)) q) ≡ cell_at v (stock_place (sizes_of v) (suc n) (turn_from t size q))
unfolding turned
cell_moved v is n t size q e lt inside =
    ap (λ sizes. cell_at (turned_of v) (stock_place sizes (suc (8 * n + t)) q)) (sym (sizes_turned v))
    ∙ stands_in (turned_of v) (suc (8 * n + t)) (turned t part) numbered q here
    ∙ turned_at t part q here (inside_has_cell part (is_part v (suc n) part is has.is).volume (turn_from t part.size q) from)
    ∙ sym (stands_in v (suc n) part has.is (turn_from t part.size q) from)
    ∙ ap (λ s. cell_at v (stock_place (sizes_of v) (suc n) (turn_from t s q))) has.size_is
  where
    has : HasPart v n size
    has = part_of_size v n size e

    part : Cells
    part = has.part

    here : IsInside (turn_size t part.size) q
    here = subst (λ s. IsInside (turn_size t s) q) (sym has.size_is) inside

    from : IsInside part.size (turn_from t part.size q)
    from = turn_inside t part.size q here

    numbered : slice_get (parts_of (turned_of v)) (8 * n + t) ≡ Some (turned t part)
    numbered = ap (λ parts. slice_get parts (8 * n + t)) (parts_turned v) ∙ turn_nth turned (parts_of v) n t part has.is lt

pub same_cell_of : (v : Cells) → IsVolume v → (p : At) (there : Turned) → IsUntouched (sizes_of v) p there → cell_at (turned_of v) p ≡ cell_at v (stock_place (sizes_of v) there.sample there.at)
same_cell_of v is p there u = by there.sample refl
  where
    size : Size
    size = sample_size (sizes_of v) there.sample

    inside : IsInside (turn_size there.turn size) u.place
    inside = turn_outside there.turn size u.place (subst (IsInside size) u.from u.is.inside)

    by : (sample : ℕ) → there.sample ≡ sample → cell_at (turned_of v) p ≡ cell_at v (stock_place (sizes_of v) there.sample there.at)
    by zero e = let never : None ≡ Some size = ap (size_of_part (sizes_of v)) (sym e) ∙ u.is.sample in cc
    by (suc n) e =
        ap (cell_at (turned_of v)) (sym (leads_back (turned_sizes_of (sizes_of v)) p (record { part = turned_number there.sample there.turn; at = u.place }) u.part)
        ∙ ap (λ m. stock_place (turned_sizes_of (sizes_of v)) m u.place) (let number : turned_number there.sample there.turn ≡ suc (8 * n + there.turn) = omega (arith, e) in number))
        ∙ cell_moved v is n there.turn size u.place (ap (size_of_part (sizes_of v)) (sym e) ∙ u.is.sample) u.is.turn inside
        ∙ (λ k. cell_at v (stock_place (sizes_of v) (sym e k) (sym u.from k)))
