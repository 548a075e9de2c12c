-- Raster order: indices are below the count, two places with one index are one place, and each index
-- below the count has its place.
use Rattle.std.proofs.Common.{◌≡◌, ℕ, ◌+◌, ◌*◌, ◌/◌, ◌%◌, ◌<◌, ◌≤◌, refl, ap, sym, ◌∙◌, subst, arith, ⊎_elim}
use Rattle.std.proofs.Math.Nat.{mul-le-mul_left}
use Rattle.std.proofs.lemmas.Bool.{cases_lt}
use Rattle.std.specs.Prelude.{ℤ, pos, negsuc, ◌+ℤ◌, ◌≤ℤ◌, Bool, true, false, nat_lt, if◌then◌else◌, Option, Some, None, IsSome, unwrap_or}
use borrow.Author.Tests.{ltb-true, lt-ltb}
use mathlib.Core.Bool.{false≢true}
use Rattle.std.proofs.lemmas.Int.{ints}
use Rattle.cells.specs.declared.place.At.{At}
use Rattle.cells.specs.declared.place.Size.{Size}
use Rattle.cells.specs.Places.{on_axis, index_on_axes, index_in, cell_count, place_of, spot}

-- one more row fits
pub in_rows : (w h y x : ℕ) → x < w → y < h → x + w * y < w * h
in_rows w h y x lt below = omega (arith, mul-le-mul_left w (let le : y + 1 ≤ h = omega arith in le))

-- a run within a row stays within the rows
pub run_in_rows : (w h y x n : ℕ) → x + n ≤ w → y < h → x + w * y + n ≤ w * h
run_in_rows w h y x n le below = omega (arith, mul-le-mul_left w (let more : y + 1 ≤ h = omega arith in more))

pub row_split : (w x y a b : ℕ) → x < w → y < w → x + w * a ≡ y + w * b → (x ≡ y) × (a ≡ b)
row_split w x y a b lx ly e =
    ⊎_elim (λ lt. absurd (omega (arith, e, mul-le-mul_left w (let le : a + 1 ≤ b = omega arith in le))))
    (λ le. ⊎_elim (λ lt. absurd (omega (arith, e, mul-le-mul_left w (let more : b + 1 ≤ a = omega arith in more))))
    (λ ge. let same : a ≡ b = omega arith in (omega (arith, e, ap (λ k. w * k) same), same)) (cases_lt b a)) (cases_lt a b)

-- a coordinate that is on its axis
pub record OnAxis (n : ℕ) (z : ℤ) (c : ℕ) : Type 0 where
  pub is : z ≡ pos c
  pub below : c < n

some_same : {A : Type 0} (x y : A) → Some x ≡ Some y → x ≡ y
some_same x y e = cc

pub on_axis_is : (n : ℕ) (z : ℤ) (c : ℕ) → on_axis n z ≡ Some c → OnAxis n z c
on_axis_is n (pos d) c e = tested (nat_lt d n) refl
  where
    tested : (b : Bool) → nat_lt d n ≡ b → OnAxis n (pos d) c
    tested true t =
        let found : Some d ≡ Some c = ap (λ b. if b then Some d else None) (sym t) ∙ e in
        record { is = ap pos (some_same d c found); below = subst (λ k. k < n) (some_same d c found) (ltb-true d n t) }
    tested false t = let none : None ≡ Some c = ap (λ b. if b then Some d else None) (sym t) ∙ e in cc
on_axis_is n (negsuc d) c e = cc

pub on_axis_in : (n c : ℕ) → c < n → on_axis n (pos c) ≡ Some c
on_axis_in n c lt = ap (λ b. if b then Some c else None) (lt-ltb c n lt)

-- the three counts of a place inside, and its index
pub record IsAt (size : Size) (p : At) (i : ℕ) : Type 0 where
  pub x : ℕ
  pub y : ℕ
  pub f : ℕ
  pub x_on : OnAxis size.w p.x x
  pub y_on : OnAxis size.h p.y y
  pub f_on : OnAxis size.f p.f f
  pub index : i ≡ x + size.w * (y + size.h * f)

pub index_parts : (size : Size) (p : At) (i : ℕ) → index_in size p ≡ Some i → IsAt size p i
index_parts size p i e = split (on_axis size.w p.x) (on_axis size.h p.y) (on_axis size.f p.f) refl refl refl e
  where
    split : (a b c : Option ℕ) → on_axis size.w p.x ≡ a → on_axis size.h p.y ≡ b → on_axis size.f p.f ≡ c → index_on_axes size a b c ≡ Some i → IsAt size p i
    split (Some x) (Some y) (Some f) ex ey ef is = record {
      x = x;
      y = y;
      f = f;
      x_on = on_axis_is _ _ _ ex;
      y_on = on_axis_is _ _ _ ey;
      f_on = on_axis_is _ _ _ ef;
      index = some_same _ _ (sym is);
    }
    split None b c ex ey ef is = cc
    split (Some x) None c ex ey ef is = cc
    split (Some x) (Some y) None ex ey ef is = cc

-- the index of three counts that are on their axes
pub index_of_spot : (size : Size) (x y f : ℕ) → x < size.w → y < size.h → f < size.f → index_in size (spot x y f) ≡ Some (x + size.w * (y + size.h * f))
index_of_spot size x y f lx ly lf = λ k. index_on_axes size (on_axis_in size.w x lx k) (on_axis_in size.h y ly k) (on_axis_in size.f f lf k)

pub index_below : (size : Size) (p : At) (i : ℕ) → index_in size p ≡ Some i → i < cell_count size
index_below size p i e =
    let at = index_parts size p i e in
    subst (λ k. k < cell_count size) (sym at.index) (in_rows size.w (size.h * size.f) (at.y + size.h * at.f) at.x at.x_on.below (in_rows size.h size.f at.f at.y at.y_on.below at.f_on.below))

-- a run of cells along X ends within the volume
pub run_below : (size : Size) (p : At) (i w : ℕ) → index_in size p ≡ Some i → (p.x +ℤ pos w) ≤ℤ pos size.w → i + w ≤ cell_count size
run_below size p i w e room =
    let at = index_parts size p i e in
    let fits : at.x + w ≤ size.w = omega (arith, ints, at.x_on.is, room) in
    subst (λ k. k + w ≤ cell_count size) (sym at.index) (run_in_rows size.w (size.h * size.f) (at.y + size.h * at.f) at.x w fits (in_rows size.h size.f at.f at.y at.y_on.below at.f_on.below))

same_place : (p q : At) → p.x ≡ q.x → p.y ≡ q.y → p.f ≡ q.f → p ≡ q
same_place p q x y f = λ i. record { x = x i; y = y i; f = f i }

pub one_place : (size : Size) (p q : At) (i : ℕ) → index_in size p ≡ Some i → index_in size q ≡ Some i → p ≡ q
one_place size p q i ep eq =
    let a = index_parts size p i ep in
    let b = index_parts size q i eq in
    let low = row_split size.w a.x b.x _ _ a.x_on.below b.x_on.below (sym a.index ∙ b.index) in
    let high = row_split size.h a.y b.y a.f b.f a.y_on.below b.y_on.below low.1 in
    same_place p q (a.x_on.is ∙ ap pos low.0 ∙ sym b.x_on.is) (a.y_on.is ∙ ap pos high.0 ∙ sym b.y_on.is) (a.f_on.is ∙ ap pos high.1 ∙ sym b.f_on.is)

pub below_of_div : (w n i : ℕ) → 0 < w → i < w * n → i / w < n
below_of_div w n i some lt = ⊎_elim (λ less. less) (λ ge. absurd (omega (arith, mul-le-mul_left w ge))) (cases_lt (i / w) n)

-- the place at an index is inside, and has that index
pub place_at : (size : Size) (i : ℕ) → 1 ≤ size.w → 1 ≤ size.h → i < cell_count size → index_in size (place_of size i) ≡ Some i
place_at size i w h lt =
    let x : i % size.w < size.w = omega arith in
    let y : i / size.w % size.h < size.h = omega arith in
    let f : i / size.w / size.h < size.f = below_of_div size.h size.f (i / size.w) h (below_of_div size.w (size.h * size.f) i w lt) in
    let inner : i / size.w % size.h + size.h * (i / size.w / size.h) ≡ i / size.w = omega arith in
    let outer : i % size.w + size.w * (i / size.w) ≡ i = omega arith in
    index_of_spot size (i % size.w) (i / size.w % size.h) (i / size.w / size.h) x y f ∙ ap (λ n. Some (i % size.w + size.w * n)) inner ∙ ap Some outer

pub has_index : {A : Type 0} (o : Option A) (d : A) → IsSome o → o ≡ Some (unwrap_or o d)
has_index None d some = absurd (false≢true some)
has_index (Some a) d some = refl
