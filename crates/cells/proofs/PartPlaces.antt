-- Where a place of the joined volume lies in its part.
use Rattle.std.proofs.Common.{◌≡◌, ◌+◌, ◌∷◌, [], List, ℕ, zero, suc, refl, ap, sym, ◌∙◌, subst, arith}
use Rattle.std.proofs.lemmas.Int.{ints}
use Rattle.std.specs.Prelude.{ℤ, pos, ◌+ℤ◌, ◌-ℤ◌, ◌<ℤ◌, Option, Some, None, IsNone, IfSome, slice_get}
use mathlib.Core.Bool.{false≢true}
use Rattle.cells.specs.declared.place.Size.{Size}
use Rattle.cells.specs.declared.place.At.{At}
use Rattle.cells.specs.declared.sizes.PartPlace.{PartPlace}
use Rattle.cells.specs.Places.{IsInside}
use Rattle.cells.specs.Parts.{past}
use Rattle.cells.specs.SizeLists.{IsPartAlong, IsPartFound, frames_to_part}
use Rattle.cells.proofs.BoxTests.{of_inside, on_axis_bounds}

pub in_front : (number : ℕ) (size : Size) (more : List Size) (p : At) → IsInside size p → IsPartAlong number (size ∷ more) p (record { part = number; at = p })
in_front number size more p inside = record {
  before = 0;
  part = omega arith;
  size = size;
  is = refl;
  inside = inside;
  stock = λ k. record { x = p.x; y = p.y; f = same p.f k };
}
  where
    same : (z : ℤ) → z +ℤ pos 0 ≡ z
    same z = omega (arith, ints)

pub not_before : (number : ℕ) (sizes : List Size) (p : At) (there : PartPlace) → p.f <ℤ pos 0 → IsPartAlong number sizes p there → ⊥
not_before number sizes p there before along =
    let f = on_axis_bounds along.size.f there.at.f (of_inside along.size there.at along.inside).f in
    let e : there.at.f +ℤ pos (frames_to_part sizes along.before) ≡ p.f = λ k. (along.stock k).f in
    omega (arith, ints, before, f.0, e)

some_same : {A : Type 0} (x y : A) → Some x ≡ Some y → x ≡ y
some_same x y e = cc

no_frames : (sizes : List Size) → frames_to_part sizes 0 ≡ 0
no_frames [] = refl
no_frames (size ∷ sizes) = refl

-- not in the first part: then after it
split : (number : ℕ) (size : Size) (more : List Size) (p : At) (there : PartPlace) (before : ℕ) → there.part ≡ number + before → (s : Size) → slice_get (size ∷ more) before ≡ Some s → IsInside s there.at
    → record { x = there.at.x; y = there.at.y; f = there.at.f +ℤ pos (frames_to_part (size ∷ more) before) } ≡ p → (IsInside size p → ⊥) → IsPartAlong (number + 1) more (past size p) there
split number size more p there zero part s is inside stock out = absurd (out (subst (λ q. IsInside size q) here (subst (λ t. IsInside t there.at) (sym (some_same size s is)) inside)))
  where
    same : (z : ℤ) → z ≡ z +ℤ pos 0
    same z = omega (arith, ints)

    here : there.at ≡ p
    here = (λ k. record { x = there.at.x; y = there.at.y; f = same there.at.f k }) ∙ stock
split number size more p there (suc n) part s is inside stock out = record {
  before = n;
  part = omega (arith, part);
  size = s;
  is = is;
  inside = inside;
  stock = (λ k. record { x = there.at.x; y = there.at.y; f = back there.at.f (frames_to_part more n) k }) ∙ ap (past size) stock;
}
  where
    back : (z : ℤ) (m : ℕ) → z +ℤ pos m ≡ (z +ℤ pos (size.f + 1 + m)) -ℤ pos (size.f + 1)
    back z m = omega (arith, ints)

pub behind_of : (number : ℕ) (size : Size) (more : List Size) (p : At) (there : PartPlace) → (IsInside size p → ⊥) → IsPartAlong number (size ∷ more) p there → IsPartAlong (number + 1) more (past size p) there
behind_of number size more p there out along = split number size more p there along.before along.part along.size along.is along.inside along.stock out

pub of_behind : (number : ℕ) (size : Size) (more : List Size) (p : At) (there : PartPlace) → IsPartAlong (number + 1) more (past size p) there → IsPartAlong number (size ∷ more) p there
of_behind number size more p there along = record {
  before = suc along.before;
  part = omega (arith, along.part);
  size = along.size;
  is = along.is;
  inside = along.inside;
  stock = λ k. record { x = (along.stock k).x; y = (along.stock k).y; f = f k };
}
  where
    e : there.at.f +ℤ pos (frames_to_part more along.before) ≡ p.f -ℤ pos (size.f + 1)
    e = λ k. (along.stock k).f

    f : there.at.f +ℤ pos (size.f + 1 + frames_to_part more along.before) ≡ p.f
    f = omega (arith, ints, e)

pub none_behind : (number : ℕ) (p : At) (there : PartPlace) → IsPartAlong number [] p there → ⊥
none_behind number p there along = by along.size along.is
  where
    by : (s : Size) → slice_get {X = Size} [] along.before ≡ Some s → ⊥
    by s e = cc

pub found_behind : (number : ℕ) (size : Size) (more : List Size) (p : At) (o : Option PartPlace) → (IsInside size p → ⊥)
    → IsPartFound (number + 1) more (past size p) o → IsPartFound number (size ∷ more) p o
found_behind number size more p None out none = λ there along. none there (behind_of number size more p there out along)
found_behind number size more p (Some there) out along = of_behind number size more p there along

pub none_found : (number : ℕ) (sizes : List Size) (p : At) (o : Option PartPlace) → IsPartFound number sizes p o → IsNone o → (there : PartPlace) → IsPartAlong number sizes p there → ⊥
none_found number sizes p None found none = found
none_found number sizes p (Some there) found none = λ other along. false≢true (sym none)

pub some_found : (number : ℕ) (sizes : List Size) (p : At) (o : Option PartPlace) → IsPartFound number sizes p o → IfSome o (IsPartAlong number sizes p)
some_found number sizes p None found = tt
some_found number sizes p (Some there) found = found
