-- Laws of a file that is being read.
use Rattle.std.proofs.Common.{◌≡◌, ℕ, ◌+◌, ◌-◌, ◌*◌, ◌≤◌, ◌<◌, List, [], ◌∷◌, ◌++◌, length, take, drop, min, ◌/◌, refl, sym, ap, ◌∙◌, subst, arith}
use Rattle.std.proofs.lemmas.List.{drop-take, drop-drop, length-append, length-take, length-take-le, length-drop, take-take, take_at, append-nil}
use Rattle.std.proofs.lemmas.List.Concat.{flat_map-append}
use Rattle.std.proofs.Math.Nat.{mul-add, mul-one}
use Rattle.std.specs.List.{flat_map}
use Rattle.std.proofs.Math.Seq.{take-add, take-append-add}
use Rattle.std.proofs.lemmas.Slice.{take-put_mid}
use borrow.Rule.Slice.PartMut.{put_mid}
use Rattle.std.specs.Prelude.{Option, Some, None, max}
use Rattle.shelf_traits.specs.Files.{Files, ShelfState, OnlyReads, Told, content_of}
use Rattle.shelf_traits.specs.declared.fault.FormFault.TheVariants.{Form, Depth, Space, Cell, NoFrames, Sample, Trailing}
use Rattle.shelf_traits.specs.declared.fault.ReadError.{ReadError}
use Rattle.shelf_traits.specs.declared.fault.ReadError.TheVariants.{ReadFault, Bad, Limit, NoMemory}
use Rattle.shelf_traits.proofs.FileLaws.{rose_later}
use Rattle.file_bytes.specs.Reading.{Reading, OfFile, IsAhead, Follows, StandsAt, Took, StopsShort, StopsInList, after_serving}

-- how many bytes wait
pub waiting_count : (start end : ℕ) (buffer : List ℕ) → end ≤ length buffer → length (take (end - start) (drop start buffer)) ≡ end - start
waiting_count start end buffer le = length-take-le (end - start) (drop start buffer) (omega (arith, length-drop start buffer))

-- what is left of the bytes that wait
pub left_waits : (start end n : ℕ) (buffer : List ℕ) → n ≤ end - start → take (end - (start + n)) (drop (start + n) buffer) ≡ drop n (take (end - start) (drop start buffer))
left_waits start end n buffer le =
    let m = end - (start + n) in
    let whole : end - start ≡ n + m = omega arith in
    ap (take m) (sym (drop-drop n start buffer)) ∙ sym (drop-take n m (drop start buffer)) ∙ ap (λ k. drop n (take k (drop start buffer))) (sym whole)

-- a file's bytes stay while it is read
pub still : (name : List ℕ) (P : List ℕ → Type 0) (a b : Option Files) → Told a b (λ before after. after ≡ before) → OfFile name a P → OfFile name b P
still name P a None same was = tt
still name P None (Some files) same was = absurd same
still name P (Some before) (Some files) same was = subst (λ f. P (content_of f name)) (sym same) was

-- two facts of a file's bytes give a third
pub both : (name : List ℕ) (P Q R : List ℕ → Type 0) (files : Option Files) → ((bytes : List ℕ) → P bytes → Q bytes → R bytes)
    → OfFile name files P → OfFile name files Q → OfFile name files R
both name P Q R None join p q = tt
both name P Q R (Some files) join p q = join (content_of files name) p q

-- one piece and then another
pub stands_along : (at : ℕ) (p q bytes : List ℕ) → StandsAt at p bytes → StandsAt (at + length p) q bytes → StandsAt at (p ++ q) bytes
stands_along at p q bytes first second = record {
  is = (λ k. first.is k ++ (second.is ∙ ap (take (length q)) (sym (drop-drop (length p) at bytes))) k)
      ∙ sym (take-add (length p) (length q) (drop at bytes)) ∙ ap (λ n. take n (drop at bytes)) (sym (length-append p q));
  within = omega (arith, second.within, length-append p q);
}

pub took_along : {names : List (List ℕ)} (name : List ℕ) (at : ℕ) (p q : List ℕ) (a b : ShelfState) (r r' : Reading) → OnlyReads names a b
    → Took name at p a r → Took name r.at q b r' → Took name at (p ++ q) b r'
took_along name at p q a b r r' reads first second = record {
  at_is = second.at_is ∙ ap (λ n. n + length q) first.at_is ∙ (let e : at + length p + length q ≡ at + length (p ++ q) = omega (arith, length-append p q) in e);
  found = both name (StandsAt at p) (StandsAt (at + length p) q) (StandsAt at (p ++ q)) b.files (stands_along at p q)
      (still name (StandsAt at p) a.files b.files reads.files first.found)
      (subst (λ place. OfFile name b.files (StandsAt place q)) first.at_is second.found);
  follows = second.follows;
}

-- a refusal of a shorter read is one of a longer read, from an earlier state on
pub stops_later : {names : List (List ℕ)} (name : List ℕ) (end end' : ℕ) (a b c : ShelfState) (error : ReadError) → end ≤ end' → OnlyReads names a b
    → StopsShort name end b c error → StopsShort name end' a c error
stops_later name end end' a b c ReadFault le reads stops = rose_later (a.reads name) (b.reads name) (c.reads name) (reads.reads name) stops
stops_later name end end' a b c (Bad (Form place)) le reads stops = shorter c.files stops
  where
    shorter : (files : Option Files) → OfFile name files (λ bytes. (place ≡ length bytes) × (place < end)) → OfFile name files (λ bytes. (place ≡ length bytes) × (place < end'))
    shorter None short = tt
    shorter (Some files) short = (short.0, (let lt : place < end = short.1 in omega arith))
stops_later name end end' a b c (Bad Depth) le reads stops = absurd stops
stops_later name end end' a b c (Bad Space) le reads stops = absurd stops
stops_later name end end' a b c (Bad Cell) le reads stops = absurd stops
stops_later name end end' a b c (Bad NoFrames) le reads stops = absurd stops
stops_later name end end' a b c (Bad (Sample at)) le reads stops = absurd stops
stops_later name end end' a b c (Bad (Trailing at)) le reads stops = absurd stops
stops_later name end end' a b c (Limit what number bound) le reads stops = absurd stops
stops_later name end end' a b c NoMemory le reads stops = absurd stops

-- after so many of the bytes that wait were given, the others are those of the file from there on
pub ahead_still : (r : Reading) (n : ℕ) (bytes : List ℕ) → n ≤ length r.waiting → IsAhead r bytes → IsAhead (after_serving r n) bytes
ahead_still r n bytes le ahead =
    let left : length (drop n r.waiting) ≡ length r.waiting - n = length-drop n r.waiting in
    let whole : length r.waiting ≡ n + length (drop n r.waiting) = omega arith in
    record {
      waiting = ap (drop n) (ahead.waiting ∙ ap (λ k. take k (drop r.at bytes)) whole)
          ∙ drop-take n (length (drop n r.waiting)) (drop r.at bytes)
          ∙ ap (take (length (drop n r.waiting))) (drop-drop n r.at bytes);
      within = omega (arith, ahead.within);
      ended = λ so. let e = ahead.ended so in omega arith;
    }

served_stand : (r : Reading) (n : ℕ) (bytes : List ℕ) → n ≤ length r.waiting → IsAhead r bytes → StandsAt r.at (take n r.waiting) bytes
served_stand r n bytes le ahead =
    let count : length (take n r.waiting) ≡ n = length-take n r.waiting ∙ (let e : min n (length r.waiting) ≡ n = omega arith in e) in
    record {
      is = ap (take n) ahead.waiting ∙ take-take n (length r.waiting) (drop r.at bytes) le ∙ ap (λ k. take k (drop r.at bytes)) (sym count);
      within = omega (arith, ahead.within);
    }

pub took_served : (name : List ℕ) (now : ShelfState) (r : Reading) (n : ℕ) (into into' : List ℕ) → n ≡ min (length r.waiting) (length into)
    → into' ≡ take n r.waiting ++ drop n into → Follows name now r → Took name r.at (take n into') now (after_serving r n)
took_served name now r n into into' count copied follows =
    let le : n ≤ length r.waiting = omega arith in
    let given : length (take n r.waiting) ≡ n = length-take n r.waiting ∙ (let e : min n (length r.waiting) ≡ n = omega arith in e) in
    let piece : take n into' ≡ take n r.waiting = ap (take n) copied ∙ take_at (take n r.waiting) (drop n into) n given in
    subst (λ p. Took name r.at p now (after_serving r n)) (sym piece) (record {
      at_is = ap (λ k. r.at + k) (sym given);
      found = weaker name (IsAhead r) (StandsAt r.at (take n r.waiting)) now.files (λ bytes ahead. served_stand r n bytes le ahead) follows;
      follows = weaker name (IsAhead r) (IsAhead (after_serving r n)) now.files (λ bytes ahead. ahead_still r n bytes le ahead) follows;
    })
  where
    weaker : (name : List ℕ) (P Q : List ℕ → Type 0) (files : Option Files) → ((bytes : List ℕ) → P bytes → Q bytes) → OfFile name files P → OfFile name files Q
    weaker name P Q None so p = tt
    weaker name P Q (Some files) so p = so (content_of files name) p

-- nothing was read yet
pub took_nothing : (name : List ℕ) (now : ShelfState) (r : Reading) → Follows name now r → Took name r.at [] now r
took_nothing name now r follows = record {
  at_is = omega arith;
  found = at_end now.files follows;
  follows = follows;
}
  where
    at_end : (files : Option Files) → OfFile name files (IsAhead r) → OfFile name files (StandsAt r.at [])
    at_end None so = tt
    at_end (Some files) so = record { is = refl; within = omega (arith, so.within) }

-- the bytes of a buffer that are filled after more of them were written
pub filled_more : (into part : List ℕ) (filled k m : ℕ) → filled ≤ length into → m ≤ length part
    → take (filled + m) (put_mid filled k into part) ≡ take filled into ++ take m part
filled_more into part filled k m within le =
    let count : length (take filled into) ≡ filled = length-take filled into ∙ (let e : min filled (length into) ≡ filled = omega arith in e) in
    sym (take-take (filled + m) (filled + length part) (put_mid filled k into part) (omega arith))
    ∙ ap (take (filled + m)) (take-put_mid filled k into part (filled + length part) refl within)
    ∙ ap (λ n. take (n + m) (take filled into ++ part)) (sym count)
    ∙ take-append-add (take filled into) part m

pub filled_within : (into part : List ℕ) (filled k m : ℕ) → filled ≤ length into → m ≤ length part → filled + m ≤ length (put_mid filled k into part)
filled_within into part filled k m within le =
    let whole = ap length (take-put_mid filled k into part (filled + length part) refl within) in
    let left = length-take (filled + length part) (put_mid filled k into part) in
    let right = length-append (take filled into) part in
    let count = length-take filled into in
    omega (arith, whole, left, right, count)

-- a number after those before it
pub took_number : {names : List (List ℕ)} {X : Type 0} (name : List ℕ) (field : X → List ℕ) (at : ℕ) (numbers : List X) (n : X) (a b : ShelfState) (r r' : Reading) → OnlyReads names a b
    → Took name at (flat_map field numbers) a r → Took name r.at (field n) b r' → Took name at (flat_map field (numbers ++ n ∷ [])) b r'
took_number name field at numbers n a b r r' reads first second =
    subst (λ piece. Took name at piece b r')
    (sym (flat_map-append field numbers (n ∷ []) ∙ ap (λ last. flat_map field numbers ++ last) (append-nil (field n))))
    (took_along name at (flat_map field numbers) (field n) a b r r' reads first second)

-- the place after one field more
pub one_wider : (width i : ℕ) → width * (i + 1) ≡ width * i + width
one_wider width i = mul-add width i 1 ∙ ap (λ k. width * i + k) (mul-one width)

-- the fields of a list end after each of them
pub field_within : (width i count : ℕ) → i < count → width * i + width ≤ width * count
field_within width i count lt =
    let rest : count ≡ (i + 1) + (count - (i + 1)) = omega arith in
    let whole : width * count ≡ width * (i + 1) + width * (count - (i + 1)) = ap (λ k. width * k) rest ∙ mul-add width (i + 1) (count - (i + 1)) in
    omega (arith, whole, one_wider width i)

-- a refusal of one number is one of the list
pub stops_list : (name : List ℕ) (end : ℕ) (was now : ShelfState) (error : ReadError) → StopsShort name end was now error → StopsInList name end was now error
stops_list name end was now ReadFault stops = stops
stops_list name end was now (Bad fault) stops = stops
stops_list name end was now (Limit what number bound) stops = absurd stops
stops_list name end was now NoMemory stops = absurd stops

-- a list has room for one more after room was made for some that are missing
pub room_made : (len len' capacity capacity' missing : ℕ) → len' ≡ len → (len < capacity → capacity' ≡ capacity)
    → (capacity ≤ len → capacity' ≡ len + min (max (len / 8) 1024) missing) → 0 < missing → len' < capacity'
room_made len len' capacity capacity' missing same kept grown some = grind arith
