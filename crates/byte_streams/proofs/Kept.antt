-- What is kept of a file, after more of it was read.
use Rattle.std.proofs.Common.{◌≡◌, ℕ, ◌+◌, ◌-◌, ◌≤◌, ◌<◌, ◌^◌, List, ◌++◌, length, take, drop, zero, suc, refl, Bool, true, false, sym, ap, subst, ◌∙◌, arith, rules, append_assoc, length-append, length-drop, length-take}
use Rattle.std.specs.Prelude.{Option, Some, None, min, nat_le, if◌then◌else◌}
use Rattle.std.specs.Option.{SomeIff}
use Rattle.std.proofs.Math.Seq.{take-add, take-append-add}
use Rattle.std.proofs.lemmas.List.{take-append-drop, take-take, take_min, length-take-le, drop-take, places}
use Rattle.std.proofs.lemmas.Bool.{leb-true}
use Rattle.std.proofs.Math.Seq.{drop-append-add}
use borrow.Rule.Slice.PartMut.{put_mid}
use Rattle.byte_streams.specs.Places.{EndsAt, IsAt, KnownReads}
use Rattle.byte_streams.specs.Readers.{FileFollows, HasRead, KeptOf}
use Rattle.byte_streams.proofs.Filled.{filled}
use Rattle.byte_streams.specs.Tails.{copied_count, tail_of}

same_front : (m n : ℕ) (xs : List ℕ) → min m (length xs) ≡ min n (length xs) → take m xs ≡ take n xs
same_front m n xs same = sym (take_min m xs) ∙ ap (λ k. take k xs) same ∙ take_min n xs

fits : (a l p x i : ℕ) → i ≤ l → a + l ≡ min p x → a + i ≤ p
fits a l p x i within sum = grind arith

same_counts : (a l p x i : ℕ) → i ≤ l → a ≡ min (p - l) x → a + l ≡ min p x → min (a + i) x ≡ min (p - (l - i)) x
same_counts a l p x i within front sum = grind arith

-- the end of what ends at a place ends there
EndsAt-drop : (xs kept : List ℕ) (p i : ℕ) → i ≤ length kept → EndsAt xs p kept → EndsAt xs p (drop i kept)
EndsAt-drop xs kept p i within ends =
    let before = take (p - length kept) xs in
    let a = length before in
    let front : a ≡ min (p - length kept) (length xs) = length-take (p - length kept) xs in
    let sum : a + length kept ≡ min p (length xs) = sym (length-append before kept) ∙ ap length ends ∙ length-take p xs in
    let more : before ++ take i kept ≡ take (p - (length kept - i)) xs =
    sym (take-append-add before kept i) ∙ ap (take (a + i)) ends ∙ take-take (a + i) p xs (fits a (length kept) p (length xs) i within sum)
    ∙ same_front (a + i) (p - (length kept - i)) xs (same_counts a (length kept) p (length xs) i within front sum) in
    ap (λ n. take (p - n) xs ++ drop i kept) (length-drop i kept)
    ∙ ap (λ l. l ++ drop i kept) (sym more)
    ∙ append_assoc before (take i kept) (drop i kept)
    ∙ ap (λ l. before ++ l) (take-append-drop i kept)
    ∙ ends

same_rest : (p k n : ℕ) → (p + n) - (k + n) ≡ p - k
same_rest p k n = omega arith

-- what is read behind it ends after as many bytes
EndsAt-append : (xs kept part : List ℕ) (p n : ℕ) → length part ≡ n → part ≡ take n (drop p xs) → EndsAt xs p kept → EndsAt xs (p + n) (kept ++ part)
EndsAt-append xs kept part p n long is ends =
    let both : length (kept ++ part) ≡ length kept + n = length-append kept part ∙ ap (λ m. length kept + m) long in
    ap (λ m. take ((p + n) - m) xs ++ (kept ++ part)) both
    ∙ ap (λ m. take m xs ++ (kept ++ part)) (same_rest p (length kept) n)
    ∙ sym (append_assoc (take (p - length kept) xs) kept part)
    ∙ ap (λ l. l ++ part) ends
    ∙ ap (λ l. take p xs ++ l) is
    ∙ sym (take-add p n xs)

shorter : (l room : ℕ) → l - room ≤ l
shorter l room = omega arith

-- a reader that read on stands behind what it read, and what it keeps ends there
pub kept_on : (bytes : Option (List ℕ)) (was now at n room : ℕ) (kept into : List ℕ) (place : Option ℕ)
    → n ≤ length into
    → FileFollows bytes was (Some at) kept → KnownReads bytes was into n → IsAt bytes now (was + n)
    → SomeIff place (at + n < 2 ^ 64) (at + n)
    → FileFollows bytes now place (tail_of room (kept ++ take n into))
kept_on None was now at n room kept into place within before read moved sum = tt
kept_on (Some xs) was now at n room kept into None within before read moved sum = tt
kept_on (Some xs) was now at n room kept into (Some place) within before read moved sum =
    let all = kept ++ take n into in
    let is : place ≡ at + n = sum.1 in
    record {
      stands = moved ∙ ap (λ m. m + n) before.stands ∙ sym is;
      ends = subst (λ p. EndsAt xs p (tail_of room all)) (sym is)
          (EndsAt-drop xs all (at + n) (length all - room) (shorter (length all) room)
          (EndsAt-append xs kept (take n into) at n (length-take-le n into within) (read.read ∙ ap (λ p. take n (drop p xs)) before.stands) before.ends));
    }

front_count : (a k p x at back c : ℕ) → a ≡ min (p - k) x → a + k ≡ min p x → back ≡ p - at → back ≤ k → suc c ≤ back
    → a + (k - back) ≡ at
front_count a k p x at back c front sum is reaches some = grind arith

copied_fits : (a k p x at back c : ℕ) → a ≡ min (p - k) x → a + k ≡ min p x → back ≡ p - at → back ≤ k → suc c ≤ back
    → suc c ≤ x - at
copied_fits a k p x at back c front sum is reaches some = grind arith

whole_place : (p at back c : ℕ) → back ≡ p - at → suc c ≤ back → p ≡ at + back
whole_place p at back c is some = grind arith

-- what ends at a place has, so far before its end, the bytes that are so far before the place
EndsAt-back : (xs kept into : List ℕ) (p at back c : ℕ) → back ≡ p - at → back ≤ length kept → c ≤ back
    → take c into ≡ take c (drop (length kept - back) kept) → EndsAt xs p kept → HasRead xs at into c
EndsAt-back xs kept into p at back zero is reaches within copied ends = record { fits = omega arith; read = refl }
EndsAt-back xs kept into p at back (suc c) is reaches within copied ends =
    let before = take (p - length kept) xs in
    let a = length before in
    let n = suc c in
    let front : a ≡ min (p - length kept) (length xs) = length-take (p - length kept) xs in
    let sum : a + length kept ≡ min p (length xs) = sym (length-append before kept) ∙ ap length ends ∙ length-take p xs in
    let part : drop (length kept - back) kept ≡ take back (drop at xs) =
    sym (drop-append-add before kept (length kept - back))
    ∙ ap (λ m. drop m (before ++ kept)) (front_count a (length kept) p (length xs) at back c front sum is reaches within)
    ∙ ap (drop at) ends
    ∙ ap (λ m. drop at (take m xs)) (whole_place p at back c is within)
    ∙ drop-take at back xs in
    record {
      fits = copied_fits a (length kept) p (length xs) at back c front sum is reaches within;
      read = copied ∙ ap (take n) part ∙ take-take n back (drop at xs) within;
    }

-- what is copied of the kept bytes is what the file has from there on
pub copied_back : (xs kept into : List ℕ) (p at back room c : ℕ) → back ≡ p - at → c ≡ copied_count back (length kept) room
    → take c into ≡ take c (drop (length kept - back) kept) → EndsAt xs p kept → HasRead xs at into c
copied_back xs kept into p at back room c is count copied ends = by (nat_le back (length kept)) refl
  where
    by : (b : Bool) → nat_le back (length kept) ≡ b → HasRead xs at into c
    by true reaches =
        let most : c ≡ min back room = count ∙ ap (λ b. if b then min back room else 0) reaches in
        EndsAt-back xs kept into p at back c is (leb-true back (length kept) reaches) (grind arith) copied ends
    by false short =
        let none : 0 ≡ c = sym (count ∙ ap (λ b. if b then min back room else 0) short) in
        subst (λ n. HasRead xs at into n) none (record { fits = omega arith; read = refl })

both_counts : (l x at n m part : ℕ) → n ≤ l → part ≡ l - n → n ≤ x - at → m ≡ min part (x - (at + n)) → n + m ≡ min l (x - at)
both_counts l x at n m part within rest before count = grind arith

kept_of : (xs : List ℕ) (now : ℕ) (place : Option ℕ) (kept : List ℕ) → FileFollows (Some xs) now place kept → KeptOf xs place kept
kept_of xs now None kept follows = tt
kept_of xs now (Some place) kept follows = follows.ends

-- what was copied and what was read behind it are one read
pub both_read : (bytes : Option (List ℕ)) (now : ℕ) (place : Option ℕ) (kept : List ℕ) (at n m : ℕ) (old part : List ℕ)
    → n ≤ length old → m ≤ length part → length part ≡ length old - n
    → FileFollows bytes now place kept → ((xs : List ℕ) → KeptOf xs place kept → HasRead xs at old n)
    → KnownReads bytes (at + n) part m
    → KnownReads bytes at (put_mid n (length old - n) old part) (n + m)
both_read None now place kept at n m old part within fits rest follows copied read = tt
both_read (Some xs) now place kept at n m old part within fits rest follows copied read =
    let has = copied xs (kept_of xs now place kept follows) in
    let all = put_mid n (length old - n) old part in
    let long : length all ≡ length old = search (rules, places) in
    let deeper : drop (at + n) xs ≡ drop n (drop at xs) = search (rules, places) in
    record {
      count = both_counts (length old) (length xs) at n m (length part) within rest has.fits read.count ∙ ap (λ l. min l (length xs - at)) (sym long);
      read = sym (filled n m (length old - n) old part within fits)
          ∙ ap (λ ys. ys ++ take m part) has.read
          ∙ ap (λ ys. take n (drop at xs) ++ ys) (read.read ∙ ap (take m) deeper)
          ∙ sym (take-add n m (drop at xs));
    }
