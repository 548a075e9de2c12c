-- Lists of sizes, seen part by part.
use Rattle.std.proofs.Common.{◌≡◌, ◌∙◌, ℕ, suc, ◌+◌, ◌<◌, List, [], ◌∷◌, length, refl, sym, ap, arith, add-one}
use Rattle.std.proofs.lemmas.Option.{same_Some}
use Rattle.std.proofs.lemmas.Bool.Decides.{Decides-and, Decides-eqb}
use Rattle.std.specs.Bool.{Decides}
use Rattle.std.specs.Prelude.{◌==◌, ◌&&◌, Some, slice_get}
use Rattle.cells.specs.declared.place.Size.{Size}
use Rattle.cells.specs.SizeLists.{size_of_part}

pub part_is : (sizes : List Size) (i : ℕ) (size : Size) → Some size ≡ size_of_part sizes (i + 1) → slice_get sizes i ≡ Some size
part_is sizes i size is = sym (is ∙ ap (size_of_part sizes) (add-one i))

pub same_sizes : (a b : List Size) → length a ≡ length b → ((k : ℕ) → k < length a → slice_get a k ≡ slice_get b k) → a ≡ b
same_sizes [] [] len each = refl
same_sizes [] (y ∷ b) len each = absurd (omega arith)
same_sizes (x ∷ a) [] len each = absurd (omega arith)
same_sizes (x ∷ a) (y ∷ b) len each =
    let first : x ≡ y = same_Some x y (each 0 (omega arith)) in
    let others : a ≡ b = same_sizes a b (omega arith) (λ k lt. each (suc k) (omega arith)) in
    cc

pub one_size : (sizes : List Size) (size got : Size) → length sizes ≡ 1 → Some got ≡ size_of_part sizes 1 → got ≡ size → sizes ≡ size ∷ []
one_size [] size got len is same = absurd (omega arith)
one_size (x ∷ []) size got len is same =
    let first : got ≡ x = same_Some got x is in
    cc
one_size (x ∷ (y ∷ sizes)) size got len is same = absurd (omega arith)

pub only_size : (sizes : List Size) (size got : Size) → Some got ≡ size_of_part sizes 1 → sizes ≡ size ∷ [] → got ≡ size
only_size sizes size got is one = same_Some got size (is ∙ ap (λ all. size_of_part all 1) one)

-- what `==` answers at two sizes
pub size_test : (p q : Size) → Decides ((p.w == q.w) && ((p.h == q.h) && (p.f == q.f))) (p ≡ q)
size_test p q =
    let each = Decides-and _ _ (Decides-eqb p.w q.w) (Decides-and _ _ (Decides-eqb p.h q.h) (Decides-eqb p.f q.f)) in (
      λ e. let parts = each.0 e in λ k. record { w = parts.0 k; h = parts.1.0 k; f = parts.1.1 k },
      λ same. each.1 (ap (λ (size : Size). size.w) same, (ap (λ (size : Size). size.h) same, ap (λ (size : Size). size.f) same)),
    )

pub first_is : (size other : Size) (sizes others : List Size) → size ∷ sizes ≡ other ∷ others → size ≡ other
first_is size other sizes others same = cc
