-- What has been read from a place on so far, and one read more.
use Rattle.std.proofs.Common.{◌≡◌, ℕ, ◌+◌, ◌-◌, ◌≤◌, List, ◌++◌, length, take, drop, sym, ap, subst, ◌∙◌, arith, rules}
use Rattle.std.specs.Prelude.{Option, Some, None, IfSome}
use Rattle.std.proofs.lemmas.List.{places}
use borrow.Rule.Slice.PartMut.{put_mid}
use lib.Seq.{take-add}
use Rattle.byte_streams.specs.Places.{IsAt, ReadsSome}
use Rattle.byte_streams.proofs.Filled.{filled}

-- n bytes from a place on are in the buffer, and the file stands behind them
pub record ReadSoFar (xs : List ℕ) (at place : ℕ) (into : List ℕ) (n : ℕ) : Type 0 where
  pub stands : place ≡ at + n
  pub read : take n into ≡ take n (drop at xs)
  pub fits : n ≤ length xs - at

abbrev pub KnownSoFar : Option (List ℕ) → ℕ → ℕ → List ℕ → ℕ → Type 0
KnownSoFar bytes at place into n = IfSome bytes (λ xs. ReadSoFar xs at place into n)

pub read_more : (bytes : Option (List ℕ)) (at place now n m room : ℕ) (old part : List ℕ)
    → n ≤ length old → m ≤ length part
    → KnownSoFar bytes at place old n
    → ReadsSome bytes place part m → IsAt bytes now (place + m)
    → KnownSoFar bytes at now (put_mid n room old part) (n + m)
read_more None at place now n m room old part within fits before read moved = tt
read_more (Some xs) at place now n m room old part within fits before read moved =
    let from : drop place xs ≡ drop (at + n) xs = ap (λ p. drop p xs) before.stands in
    let sum : (at + n) + m ≡ at + (n + m) = omega arith in
    let deeper : drop (at + n) xs ≡ drop n (drop at xs) = search (rules, places) in
    let part_is : take m part ≡ take m (drop n (drop at xs)) = subst (λ ys. take m part ≡ take m ys) (from ∙ deeper) read.read in
    record {
      stands = moved ∙ ap (λ p. p + m) before.stands ∙ sum;
      read = sym (filled n m room old part within fits) ∙ ap (λ ys. ys ++ take m part) before.read ∙ ap (λ ys. take n (drop at xs) ++ ys) part_is ∙ sym (take-add n m (drop at xs));
      fits = longer (length xs) at place n m before.fits before.stands read.fits;
    }
  where
    longer : (l at place n m : ℕ) → n ≤ l - at → place ≡ at + n → m ≤ l - place → n + m ≤ l - at
    longer l at place n m h is more = grind arith
