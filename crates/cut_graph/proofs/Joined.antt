-- Sums over a list that is made part by part, and where its parts are in it.
use Rattle.std.proofs.Common.{◌≡◌, ℕ, zero, suc, ◌+◌, ◌*◌, ◌<◌, ◌≤◌, refl, ap, sym, ◌∙◌, subst, arith, ⊎_elim, Bool, List, [], ◌∷◌, ◌++◌, length, get_or, drop, length-append, drop-drop, drop-cons}
use Rattle.std.proofs.lemmas.Int.{ints}
use Rattle.std.proofs.lemmas.List.{get_or_append_left, get_or-append-add}
use Rattle.std.proofs.lemmas.Bool.{cases_eq}
use Rattle.std.specs.Prelude.{ℤ, pos, ◌+ℤ◌, ◌-ℤ◌}
use Rattle.cells.specs.declared.place.At.{At}
use Rattle.cells.specs.declared.place.Axis.{Axis}
use Rattle.cells.specs.declared.place.Axis.TheVariants.{X, Y, F}
use Rattle.cells.specs.Places.{cell_count}
use Rattle.cells.proofs.Raster.{in_rows}
use Rattle.map_canvas.specs.declared.canvas.Placement.{Placement}
use Rattle.map_canvas.specs.Maps.{SourceMap}
use Rattle.boxes.specs.Sums.{signed_sum_box, signed_sum_to, sum_box}
use Rattle.boxes.proofs.Additions.{Addition, counts, integers, sum_of, sum_over}
use Rattle.boxes.proofs.Axes.{sum_equal, sum_first}
use Rattle.boxes.proofs.Boxes.{at_counts, box_equal, box_raster}
use Rattle.max_flow.specs.declared.network.Pipe.{Pipe}
use Rattle.max_flow.specs.Networks.{FlowNetwork, no_pipe, pipe_at}
use Rattle.max_flow.specs.Flows.{FitsPipe, IsFlow, capacity_out, pipe_flow, net_leaving, part_if}
use Rattle.boxes.specs.Pairs.{AreCounts, at_index}
use Rattle.cut_graph.specs.declared.places.Places.{Places}
use Rattle.cut_graph.specs.Pipes.{first_pipe, joined, pipes_along, pipes_from, pipes_of}

-- what a list gives that begins at some place of a whole list, such that two lists one after another give what both give
pub record IsAdditive {A P : Type 0} (add : Addition A) (given : List P → ℕ → A) : Type 0 where
  pub none : (o : ℕ) → given [] o ≡ add.none
  pub append : (xs ys : List P) (o : ℕ) → given (xs ++ ys) o ≡ add.plus (given xs o) (given ys (o + length xs))

-- a part of a list, that begins at some place of it
pub record StandsAt {P : Type 0} (whole part : List P) (o : ℕ) : Type 0 where
  pub fits : o + length part ≤ length whole
  pub same : (k : ℕ) (d : P) → k < length part → get_or whole (o + k) d ≡ get_or part k d

module _ {A P : Type 0} (add : Addition A) (given : List P → ℕ → A) (is : IsAdditive add given) where
  -- lists one after another give the sum of what each gives from where it begins
  pub sum_joined : (g : ℕ → List P) (n : ℕ) → given (joined g n) 0 ≡ sum_of add n (λ i. given (g i) (length (joined g i)))
  sum_joined g zero = is.none 0
  sum_joined g (suc n) =
      is.append (joined g n) (g n) 0
      ∙ (λ k. add.plus (sum_joined g n k) (given (g n) (first k)))
    where
      first : 0 + length (joined g n) ≡ length (joined g n)
      first = omega arith

  sum_three : (xs ys zs : List P) (o : ℕ)
      → given (xs ++ (ys ++ zs)) o ≡ add.plus (add.plus (given xs o) (given ys (o + length xs))) (given zs (o + length xs + length ys))
  sum_three xs ys zs o = is.append xs (ys ++ zs) o ∙ ap (add.plus (given xs o)) (is.append ys zs (o + length xs)) ∙ sym (add.assoc _ _ _)

stands_left : {P : Type 0} (xs ys : List P) → StandsAt (xs ++ ys) xs 0
stands_left xs ys = record {
  fits = omega (arith, length-append xs ys);
  same = λ k d lt. ap (λ i. get_or (xs ++ ys) i d) (first k) ∙ get_or_append_left xs ys d k lt;
}
  where
    first : (k : ℕ) → 0 + k ≡ k
    first k = omega arith

stands_right : {P : Type 0} (xs ys : List P) → StandsAt (xs ++ ys) ys (length xs)
stands_right xs ys = record { fits = omega (arith, length-append xs ys); same = λ k d lt. get_or-append-add xs ys k d }

-- a part of a part
stands_in : {P : Type 0} (whole part inner : List P) (o i j : ℕ) → o + i ≡ j → StandsAt whole part o → StandsAt part inner i → StandsAt whole inner j
stands_in whole part inner o i j e at within = record {
  fits = omega (arith, at.fits, within.fits);
  same = λ k d lt. ap (λ n. get_or whole n d) (index k) ∙ at.same (i + k) d (omega (arith, within.fits)) ∙ within.same k d lt;
}
  where
    index : (k : ℕ) → j + k ≡ o + (i + k)
    index k = omega arith

-- the second and the third of three lists
stands_second : {P : Type 0} (xs ys zs : List P) → StandsAt (xs ++ (ys ++ zs)) ys (length xs)
stands_second xs ys zs = stands_in (xs ++ (ys ++ zs)) (ys ++ zs) ys (length xs) 0 (length xs) (omega arith) (stands_right xs (ys ++ zs)) (stands_left ys zs)

stands_third : {P : Type 0} (xs ys zs : List P) → StandsAt (xs ++ (ys ++ zs)) zs (length xs + length ys)
stands_third xs ys zs = stands_in (xs ++ (ys ++ zs)) (ys ++ zs) zs (length xs) (length ys) _ refl (stands_right xs (ys ++ zs)) (stands_right ys zs)

-- of lists one after another, each begins after those before it
pub joined_at : {P : Type 0} (g : ℕ → List P) (n i : ℕ) → i < n → StandsAt (joined g n) (g i) (length (joined g i))
joined_at g zero i lt = absurd (omega arith)
joined_at g (suc n) i lt =
    ⊎_elim (λ same. subst (λ j. StandsAt (joined g n ++ g n) (g j) (length (joined g j))) (sym same) (stands_right (joined g n) (g n)))
    (λ other. stands_in (joined g n ++ g n) (joined g n) (g i) 0 _ _ (omega arith) (stands_left (joined g n) (g n)) (joined_at g n i (omega (arith, other)))) (cases_eq i n)

module _ (d : At → At → ℕ) (m : SourceMap) (placement : Placement) (places : Places) where
  -- a sum over all pipes is a sum over the cells of the box, of what the pipes of each of its three pairs give
  pub sum_pipes : {A : Type 0} (add : Addition A) (given : List Pipe → ℕ → A) → IsAdditive add given
      → given (pipes_of d m placement places) 0
      ≡ sum_over add placement.rect.size (λ x y f. add.plus
      (add.plus (given (pipes_along d m placement places X x y f) (first_pipe d m placement places X x y f)) (given (pipes_along d m placement places Y x y f) (first_pipe d m placement places Y x y f)))
      (given (pipes_along d m placement places F x y f) (first_pipe d m placement places F x y f)))
  sum_pipes add given is =
      sum_joined add given is _ (cell_count placement.rect.size) ∙ box_raster add placement.rect.size _
      ∙ box_equal add placement.rect.size _ _ (λ x y f lx ly lf. ap (λ ps. given ps (first_pipe d m placement places X x y f)) (at_counts placement.rect.size (pipes_from d m placement places) x y f lx ly)
      ∙ sum_three add given is _ _ _ _)

  -- the pipes of a pair come from its first pipe on
  pub pair_stands : (axis : Axis) (x y f : ℕ) → AreCounts placement.rect.size x y f
      → StandsAt (pipes_of d m placement places) (pipes_along d m placement places axis x y f) (first_pipe d m placement places axis x y f)
  pair_stands axis x y f at = by axis
    where
      below : x + placement.rect.size.w * (y + placement.rect.size.h * f) < cell_count placement.rect.size
      below = in_rows placement.rect.size.w _ _ x at.column (in_rows placement.rect.size.h placement.rect.size.f f y at.row at.frame)

      cell : StandsAt (pipes_of d m placement places) (pipes_from d m placement places x y f) (first_pipe d m placement places X x y f)
      cell = subst (λ ps. StandsAt (pipes_of d m placement places) ps (first_pipe d m placement places X x y f)) (at_counts placement.rect.size (pipes_from d m placement places) x y f at.column at.row)
          (joined_at (at_index placement.rect.size (pipes_from d m placement places)) (cell_count placement.rect.size) _ below)

      by : (axis : Axis) → StandsAt (pipes_of d m placement places) (pipes_along d m placement places axis x y f) (first_pipe d m placement places axis x y f)
      by X = stands_in _ _ _ (first_pipe d m placement places X x y f) 0 _ (omega arith) cell (stands_left _ _)
      by Y = stands_in _ _ _ _ _ _ refl cell (stands_second _ _ _)
      by F = stands_in _ _ _ (first_pipe d m placement places X x y f) (length (pipes_along d m placement places X x y f) + length (pipes_along d m placement places Y x y f)) _ (omega arith) cell (stands_third _ _ _)

-- what pipes can carry out of a set of nodes
pub capacity_additive : (side : ℕ → Bool) → IsAdditive counts (λ pipes _. capacity_out side pipes)
capacity_additive side = record { none = λ o. refl; append = λ xs ys o. append xs ys }
  where
    append : (xs ys : List Pipe) → capacity_out side (xs ++ ys) ≡ capacity_out side xs + capacity_out side ys
    append [] ys = omega arith
    append (x ∷ xs) ys = omega (arith, append xs ys)

-- what leaves a set of nodes along pipes, with their flows from the place where they begin
pub leaving_additive : (side : ℕ → Bool) (flows : List ℤ) → IsAdditive integers (λ pipes o. net_leaving side pipes (drop o flows))
leaving_additive side flows = record {
  none = λ o. refl;
  append = λ xs ys o. append xs ys (drop o flows) ∙ ap (λ l. net_leaving side xs (drop o flows) +ℤ net_leaving side ys l) (drop-drop (length xs) o flows);
}
  where
    none : (ys : List Pipe) → net_leaving side ys [] ≡ pos 0
    none [] = refl
    none (y ∷ ys) = refl

    append : (xs ys : List Pipe) (l : List ℤ) → net_leaving side (xs ++ ys) l ≡ net_leaving side xs l +ℤ net_leaving side ys (drop (length xs) l)
    append [] ys l = omega (arith, ints)
    append (x ∷ xs) ys [] = omega (arith, ints, none ys)
    append (x ∷ xs) ys (flow ∷ l) = omega (arith, ints, append xs ys l)

module _ (d : At → At → ℕ) (m : SourceMap) (placement : Placement) (places : Places) (side : ℕ → Bool) where
  -- the capacity of all pipes, pair by pair
  pub capacity_of_pairs : capacity_out side (pipes_of d m placement places)
      ≡ sum_box placement.rect.size (λ x y f. capacity_out side (pipes_along d m placement places X x y f) + capacity_out side (pipes_along d m placement places Y x y f)
      + capacity_out side (pipes_along d m placement places F x y f))
  capacity_of_pairs = sum_pipes d m placement places counts (λ pipes _. capacity_out side pipes) (capacity_additive side)

  -- what leaves along the pipes of a pair
  abbrev pub pair_leaving : List ℤ → Axis → ℕ → ℕ → ℕ → ℤ
  pair_leaving flows axis x y f = net_leaving side (pipes_along d m placement places axis x y f) (drop (first_pipe d m placement places axis x y f) flows)

  -- what leaves along all pipes, pair by pair
  pub leaving_of_pairs : (flows : List ℤ) → net_leaving side (pipes_of d m placement places) flows
      ≡ signed_sum_box placement.rect.size (λ x y f. (pair_leaving flows X x y f +ℤ pair_leaving flows Y x y f) +ℤ pair_leaving flows F x y f)
  leaving_of_pairs flows = sum_pipes d m placement places integers (λ pipes o. net_leaving side pipes (drop o flows)) (leaving_additive side flows)

-- what leaves a set of nodes along one pipe
abbrev pub pipe_leaving : (ℕ → Bool) → Pipe → ℤ → ℤ
pipe_leaving side pipe flow = part_if (side pipe.from) flow -ℤ part_if (side pipe.to) flow

-- what leaves along pipes whose flows begin at a place of a list of flows, pipe by pipe
pub leaving_by_pipe : (side : ℕ → Bool) (pipes : List Pipe) (flows : List ℤ) (o : ℕ) → o + length pipes ≤ length flows
    → net_leaving side pipes (drop o flows) ≡ signed_sum_to (length pipes) (λ k. pipe_leaving side (pipe_at pipes k) (pipe_flow flows (o + k)))
leaving_by_pipe side [] flows o fits = refl
leaving_by_pipe side (p ∷ ps) flows o fits =
    ap (net_leaving side (p ∷ ps)) (drop-cons flows o (pos 0) (omega arith))
    ∙ (λ k. pipe_leaving side p (pipe_flow flows (first k)) +ℤ (leaving_by_pipe side ps flows (suc o) (omega arith) ∙ sum_equal integers (length ps) _ _ (λ i lt. ap (λ j. pipe_leaving side (pipe_at ps i) (pipe_flow flows j)) (next i))) k)
    ∙ sym (sum_first integers (length ps) _)
  where
    first : o ≡ o + 0
    first = omega arith

    next : (i : ℕ) → suc o + i ≡ o + suc i
    next i = omega arith

-- the flow of each pipe of a pair fits the pipe
pub pair_fits : (d : At → At → ℕ) (m : SourceMap) (placement : Placement) (places : Places) (network : FlowNetwork) (flows : List ℤ)
    → network.pipes ≡ pipes_of d m placement places → IsFlow network flows → (axis : Axis) (x y f k : ℕ) → AreCounts placement.rect.size x y f → k < length (pipes_along d m placement places axis x y f)
    → FitsPipe (pipe_at (pipes_along d m placement places axis x y f) k) (pipe_flow flows (first_pipe d m placement places axis x y f + k))
pair_fits d m placement places network flows same flow axis x y f k at lt =
    let stands = pair_stands d m placement places axis x y f at in
    subst (λ p. FitsPipe p (pipe_flow flows (first_pipe d m placement places axis x y f + k))) (ap (λ ps. pipe_at ps (first_pipe d m placement places axis x y f + k)) same ∙ stands.same k no_pipe lt)
    (flow.fits (first_pipe d m placement places axis x y f + k) (omega (arith, stands.fits, ap length same)))
