-- The comparison of keys that the enum derives says what the texts of keys say.
use Rattle.std.proofs.Common.{◌≡◌, List, [], ◌∷◌, refl, ap, subst, Bool, true, false, inl, inr, eqb-true}
use Rattle.std.specs.Prelude.{nat_eq}
use Rattle.std.proofs.lemmas.Bool.{eq-eqb}
use denote.Struct.Field.{Field}
use denote.Struct.Values.{Values}
use denote.Enum.Declared.{Choice, values_one}
use denote.Enum.Compared.{Each, by}
use Rattle.job_words.specs.contracts.keys.Key.{enum}
use Rattle.job_words.specs.declared.keys.Key.{Key}
use Rattle.job_words.specs.declared.keys.Key.TheVariants.{Sample, More, Target, Marks, Out, Map, Record, NewMap, NewRecord, Width, Height, Length, N, Frames, Place, Side, Block, Overlap, Tol, Alpha, Rounds, Seed, Taps, Gap, Wrap, Turns}
use Rattle.job_words.specs.Keys.{same_key}
use Rattle.job_words.proofs.Keyed.{key_exact, key_itself}
use Rattle.job_words.proofs.Texting.{equal_tests}

-- for each variant, fields that compare as equal are equal
abbrev Exact : (Fss : List (List Field)) → Each Bool Fss → Type 0
Exact [] each = Unit {0}
Exact (Fs ∷ Fss) each = ((x y : Values Fs) → each.0 x y ≡ true → x ≡ y) × Exact Fss each.1

by_exact : (Fss : List (List Field)) (each : Each Bool Fss) (c d : Choice Fss) → by false false Fss each c d ≡ true → Exact Fss each → c ≡ d
by_exact [] each c d e exact = absurd c
by_exact (Fs ∷ Fss) each (inl x) (inl y) e exact = ap inl (exact.0 x y e)
by_exact (Fs ∷ Fss) each (inl x) (inr d) e exact = absurd (cc)
by_exact (Fs ∷ Fss) each (inr c) (inl y) e exact = absurd (cc)
by_exact (Fs ∷ Fss) each (inr c) (inr d) e exact = ap inr (by_exact Fss each.1 c d e exact.1)

-- a variant without fields
bare : (f : Values [] → Values [] → Bool) (x y : Values []) → f x y ≡ true → x ≡ y
bare f x y e = refl

-- the comparison of two keys, as the enum derives it: by their variants, and then by their numbers
abbrev fields_alike : Each Bool enum.parts
fields_alike = ((λ x y. true), ((λ x y. nat_eq x.0 y.0), ((λ x y. true), ((λ x y. true), ((λ x y. true), ((λ x y. true), ((λ x y. true), ((λ x y. true), ((λ x y. true), ((λ x y. true), ((λ x y. true), ((λ x y. true), ((λ x y. true), ((λ x y. true), ((λ x y. true), ((λ x y. true), ((λ x y. true), ((λ x y. true), ((λ x y. true), ((λ x y. true), ((λ x y. true), ((λ x y. true), ((λ x y. true), ((λ x y. true), ((λ x y. true), ((λ x y. true), tt))))))))))))))))))))))))))

abbrev alike : Key → Key → Bool
alike a b = by false false enum.parts fields_alike (enum.as_values a) (enum.as_values b)

eq_exact : (a b : Key) → alike a b ≡ true → a ≡ b
eq_exact a b e =
    values_one enum a b (by_exact enum.parts fields_alike (enum.as_values a) (enum.as_values b) e
    (bare _, ((λ x y same. ap (λ n. (n, tt)) (eqb-true x.0 y.0 same)), (bare _, (bare _, (bare _, (bare _, (bare _, (bare _, (bare _, (bare _, (bare _, (bare _, (bare _, (bare _, (bare _, (bare _, (bare _, (bare _, (bare _, (bare _, (bare _, (bare _, (bare _, (bare _, (bare _, (bare _, tt)))))))))))))))))))))))))))

eq_itself : (a : Key) → alike a a ≡ true
eq_itself (More n) = eq-eqb n n refl
eq_itself Sample = refl
eq_itself Target = refl
eq_itself Marks = refl
eq_itself Out = refl
eq_itself Map = refl
eq_itself Record = refl
eq_itself NewMap = refl
eq_itself NewRecord = refl
eq_itself Width = refl
eq_itself Height = refl
eq_itself Length = refl
eq_itself N = refl
eq_itself Frames = refl
eq_itself Place = refl
eq_itself Side = refl
eq_itself Block = refl
eq_itself Overlap = refl
eq_itself Tol = refl
eq_itself Alpha = refl
eq_itself Rounds = refl
eq_itself Seed = refl
eq_itself Taps = refl
eq_itself Gap = refl
eq_itself Wrap = refl
eq_itself Turns = refl

pub keys_compared : (a b : Key) → alike a b ≡ same_key a b
keys_compared a b =
    equal_tests (alike a b) (same_key a b)
    (λ e. subst (λ k. same_key a k ≡ true) (eq_exact a b e) (key_itself a))
    (λ e. subst (λ k. alike a k ≡ true) (key_exact a b e) (eq_itself a))
