-- Laws of files that come one after another in one list of bytes: what is found, and what an edit
-- of the bytes changes.
use Rattle.std.proofs.Common.{◌≡◌, ℕ, zero, suc, ◌+◌, ◌-◌, ◌<◌, ◌≤◌, List, [], ◌∷◌, ◌++◌, length, get_or, take, drop, refl, sym, ap, ◌∙◌, arith, Bool, true, false, cond, nat_eq, ne_eqb, add-one, zero-add, add-zero, add_assoc, append_assoc, append-nil, take-append-drop, take-add, length-take-le, length-drop, length-append, drop_of_length-le}
use Rattle.std.proofs.lemmas.List.{drop-drop, nil_from_length}
use Rattle.std.proofs.Math.ListN.{set}
use Rattle.std.proofs.Math.Seq.{take-append_seam, drop-append_seam, drop-cons}
use Rattle.std.specs.Prelude.{Some, None, position}
use Rattle.std.specs.List.{position_from}
use Rattle.std.proofs.lemmas.Iterator.Adapters.{position_from-zero}
use Rattle.std.specs.Cmp.Lexicographic.{pointwise}
use Rattle.shelf_core.specs.declared.tape.TapeSpan.{TapeSpan}
use Rattle.shelf_core.specs.Tapes.{has_name, no_span, cut, spent, spanned, nameless, CoversBytes}

-- How many bytes come before a file.

more : (k : ℕ) (spans : List TapeSpan) (s : TapeSpan) → k < length spans → s ≡ get_or spans k no_span → spanned (take (suc k) spans) ≡ spanned (take k spans) + (s.name + s.bytes)
more k [] s lt at = absurd (omega arith)
more zero (x ∷ spans) s lt at = add-zero (x.name + x.bytes) ∙ ap (λ (y : TapeSpan). y.name + y.bytes) (sym at) ∙ sym (zero-add (s.name + s.bytes))
more (suc k) (x ∷ spans) s lt at = ap (λ n. (x.name + x.bytes) + n) (more k spans s (omega arith) at) ∙ sym (add_assoc (x.name + x.bytes) (spanned (take k spans)) (s.name + s.bytes))

pub spanned_more : (k : ℕ) (spans : List TapeSpan) (s : TapeSpan) → k < length spans → s ≡ get_or spans k no_span → spanned (take (k + 1) spans) ≡ spanned (take k spans) + (s.name + s.bytes)
spanned_more k spans s lt at = ap (λ n. spanned (take n spans)) (add-one k) ∙ more k spans s lt at

pub spanned_take : (k : ℕ) (spans : List TapeSpan) → spanned (take k spans) ≤ spanned spans
spanned_take zero spans = omega arith
spanned_take (suc k) [] = omega arith
spanned_take (suc k) (x ∷ spans) = omega (arith, spanned_take k spans)

pub spanned_part : (k : ℕ) (spans : List TapeSpan) (s : TapeSpan) → k < length spans → s ≡ get_or spans k no_span → spanned (take k spans) + (s.name + s.bytes) ≤ spanned spans
spanned_part k spans s lt at = omega (arith, more k spans s lt at, spanned_take (suc k) spans)

pub spanned_set : (i : ℕ) (spans : List TapeSpan) (s t : TapeSpan) → i < length spans → s ≡ get_or spans i no_span → spanned (set spans i t) + (s.name + s.bytes) ≡ spanned spans + (t.name + t.bytes)
spanned_set i [] s t lt at = absurd (omega arith)
spanned_set zero (x ∷ spans) s t lt at = omega (arith, ap (λ (y : TapeSpan). y.name) at, ap (λ (y : TapeSpan). y.bytes) at)
spanned_set (suc i) (x ∷ spans) s t lt at = omega (arith, spanned_set i spans s t (omega arith) at)

pub spanned_push : (spans : List TapeSpan) (s : TapeSpan) → spanned (spans ++ s ∷ []) ≡ spanned spans + (s.name + s.bytes)
spanned_push [] s = omega arith
spanned_push (x ∷ spans) s = omega (arith, spanned_push spans s)

-- The files.

-- the first file, where its name and bytes come first
cut_one : (s : TapeSpan) (after : List TapeSpan) (name own back : List ℕ) → s.name ≡ length name → s.bytes ≡ length own → cut (s ∷ after) (name ++ (own ++ back)) ≡ (name, own) ∷ cut after back
cut_one s after name own back named sized = λ i. (first i, second i) ∷ cut after (rest i)
  where
    behind : drop s.name (name ++ (own ++ back)) ≡ own ++ back
    behind = ap (λ n. drop n (name ++ (own ++ back))) named ∙ drop-append_seam name (own ++ back)

    first : take s.name (name ++ (own ++ back)) ≡ name
    first = ap (λ n. take n (name ++ (own ++ back))) named ∙ take-append_seam name (own ++ back)

    second : take s.bytes (drop s.name (name ++ (own ++ back))) ≡ own
    second = ap (take s.bytes) behind ∙ ap (λ n. take n (own ++ back)) sized ∙ take-append_seam own back

    rest : drop (s.name + s.bytes) (name ++ (own ++ back)) ≡ back
    rest = sym (drop-drop s.bytes s.name (name ++ (own ++ back))) ∙ ap (drop s.bytes) behind ∙ ap (λ n. drop n (own ++ back)) sized ∙ drop-append_seam own back

-- the first file stays, whatever comes after it
cut_front : (s : TapeSpan) (after : List TapeSpan) (bytes back : List ℕ) → s.name + s.bytes ≤ length bytes
    → cut (s ∷ after) (take (s.name + s.bytes) bytes ++ back) ≡ (take s.name bytes, take s.bytes (drop s.name bytes)) ∷ cut after back
cut_front s after bytes back within =
    ap (cut (s ∷ after)) (ap (λ front. front ++ back) (take-add s.name s.bytes bytes) ∙ append_assoc (take s.name bytes) (take s.bytes (drop s.name bytes)) back)
    ∙ cut_one s after (take s.name bytes) (take s.bytes (drop s.name bytes)) back
    (sym (length-take-le s.name bytes (omega arith))) (sym (length-take-le s.bytes (drop s.name bytes) (omega (arith, length-drop s.name bytes))))

pub length_cut : (spans : List TapeSpan) (bytes : List ℕ) → length (cut spans bytes) ≡ length spans
length_cut [] bytes = refl
length_cut (s ∷ spans) bytes = ap suc (length_cut spans (drop (s.name + s.bytes) bytes))

pub spent_cut : (spans : List TapeSpan) (bytes : List ℕ) → spanned spans ≡ length bytes → spent (cut spans bytes) ≡ length bytes
spent_cut [] bytes covered = covered
spent_cut (s ∷ spans) bytes covered =
    let rest = spent_cut spans (drop (s.name + s.bytes) bytes) (omega (arith, length-drop (s.name + s.bytes) bytes)) in
    let name = length-take-le s.name bytes (omega arith) in
    let own = length-take-le s.bytes (drop s.name bytes) (omega (arith, length-drop s.name bytes)) in
    omega (arith, rest, name, own, length-drop (s.name + s.bytes) bytes)

-- file i comes after those before it
pub cut_at : (i : ℕ) (spans : List TapeSpan) (bytes : List ℕ) (s : TapeSpan) (d : List ℕ × List ℕ) → i < length spans → s ≡ get_or spans i no_span
    → get_or (cut spans bytes) i d ≡ (take s.name (drop (spanned (take i spans)) bytes), take s.bytes (drop (spanned (take i spans) + s.name) bytes))
cut_at i [] bytes s d lt at = absurd (omega arith)
cut_at zero (x ∷ spans) bytes s d lt at =
    ap (λ (y : TapeSpan). (take y.name bytes, take y.bytes (drop y.name bytes))) (sym at)
    ∙ ap (λ n. (take s.name bytes, take s.bytes (drop n bytes))) (sym (zero-add s.name))
cut_at (suc i) (x ∷ spans) bytes s d lt at =
    let k : ℕ = x.name + x.bytes in
    let p : ℕ = spanned (take i spans) in
    cut_at i spans (drop k bytes) s d (omega arith) at
    ∙ ap (λ (l : List ℕ). (take s.name l, take s.bytes (drop (p + s.name) (drop k bytes)))) (drop-drop p k bytes)
    ∙ ap (λ (l : List ℕ). (take s.name (drop (k + p) bytes), take s.bytes l)) (drop-drop (p + s.name) k bytes ∙ ap (λ n. drop n bytes) (sym (add_assoc k p s.name)))

-- a file whose bytes are exchanged for others
pub cut_set : (i : ℕ) (spans : List TapeSpan) (bytes other : List ℕ) (s t : TapeSpan) (d : List ℕ × List ℕ) → spanned spans ≡ length bytes → i < length spans → s ≡ get_or spans i no_span → t.name ≡ s.name → t.bytes ≡ length other
    → cut (set spans i t) (take (spanned (take i spans) + s.name) bytes ++ (other ++ drop ((spanned (take i spans) + s.name) + s.bytes) bytes)) ≡ set (cut spans bytes) i ((get_or (cut spans bytes) i d).0, other)
cut_set i [] bytes other s t d covered lt at named sized = absurd (omega arith)
cut_set zero (x ∷ spans) bytes other s t d covered lt at named sized =
    ap (λ n. cut (t ∷ spans) (take n bytes ++ (other ++ drop (n + s.bytes) bytes))) (zero-add s.name)
    ∙ cut_one t spans (take s.name bytes) other (drop (s.name + s.bytes) bytes) (named ∙ sym (length-take-le s.name bytes (omega (arith, ap (λ (y : TapeSpan). y.name) at)))) sized
    ∙ ap (λ (y : TapeSpan). (take y.name bytes, other) ∷ cut spans (drop (y.name + y.bytes) bytes)) at
cut_set (suc i) (x ∷ spans) bytes other s t d covered lt at named sized =
    let k : ℕ = x.name + x.bytes in
    let p : ℕ = spanned (take i spans) in
    let tail : List ℕ = drop k bytes in
    let rest : List ℕ = take (p + s.name) tail ++ (other ++ drop ((p + s.name) + s.bytes) tail) in
    let parted : take ((k + p) + s.name) bytes ++ (other ++ drop (((k + p) + s.name) + s.bytes) bytes) ≡ take k bytes ++ rest
    = ap (λ n. take n bytes ++ (other ++ drop (n + s.bytes) bytes)) (add_assoc k p s.name)
    ∙ ap (λ n. take (k + (p + s.name)) bytes ++ (other ++ drop n bytes)) (add_assoc k (p + s.name) s.bytes)
    ∙ ap (λ (l : List ℕ). take (k + (p + s.name)) bytes ++ (other ++ l)) (sym (drop-drop ((p + s.name) + s.bytes) k bytes))
    ∙ ap (λ (l : List ℕ). l ++ (other ++ drop ((p + s.name) + s.bytes) tail)) (take-add k (p + s.name) bytes)
    ∙ append_assoc (take k bytes) (take (p + s.name) tail) (other ++ drop ((p + s.name) + s.bytes) tail) in
    ap (cut (x ∷ set spans i t)) parted
    ∙ cut_front x (set spans i t) bytes rest (omega arith)
    ∙ ap (λ (files : List (List ℕ × List ℕ)). (take x.name bytes, take x.bytes (drop x.name bytes)) ∷ files)
    (cut_set i spans tail other s t d (omega (arith, length-drop k bytes)) (omega arith) at named sized)

-- a file that lost its bytes
pub cut_cleared : (i : ℕ) (spans : List TapeSpan) (bytes : List ℕ) (s : TapeSpan) (d : List ℕ × List ℕ) → spanned spans ≡ length bytes → i < length spans → s ≡ get_or spans i no_span
    → cut (set spans i (record { name = s.name; bytes = 0 })) (take (spanned (take i spans) + s.name) bytes ++ drop ((spanned (take i spans) + s.name) + s.bytes) bytes) ≡ set (cut spans bytes) i ((get_or (cut spans bytes) i d).0, [])
cut_cleared i spans bytes s d covered lt at = cut_set i spans bytes [] s (record { name = s.name; bytes = 0 }) d covered lt at refl refl

-- a file with a piece after its bytes
pub cut_appended : (i : ℕ) (spans : List TapeSpan) (bytes piece : List ℕ) (s : TapeSpan) (d : List ℕ × List ℕ) → spanned spans ≡ length bytes → i < length spans → s ≡ get_or spans i no_span
    → cut (set spans i (record { name = s.name; bytes = s.bytes + length piece })) (take ((spanned (take i spans) + s.name) + s.bytes) bytes ++ (piece ++ drop ((spanned (take i spans) + s.name) + s.bytes) bytes))
    ≡ set (cut spans bytes) i ((get_or (cut spans bytes) i d).0, (get_or (cut spans bytes) i d).1 ++ piece)
cut_appended i spans bytes piece s d covered lt at =
    let p : ℕ = spanned (take i spans) + s.name in
    let own : List ℕ = take s.bytes (drop p bytes) in
    let t : TapeSpan = record { name = s.name; bytes = s.bytes + length piece } in
    let long = length-take-le s.bytes (drop p bytes) (omega (arith, length-drop p bytes, spanned_part i spans s lt at)) in
    ap (λ (l : List ℕ). cut (set spans i t) (l ++ (piece ++ drop (p + s.bytes) bytes))) (take-add p s.bytes bytes)
    ∙ ap (cut (set spans i t)) (append_assoc (take p bytes) own (piece ++ drop (p + s.bytes) bytes) ∙ ap (λ (l : List ℕ). take p bytes ++ l) (sym (append_assoc own piece (drop (p + s.bytes) bytes))))
    ∙ cut_set i spans bytes (own ++ piece) s t d covered lt at refl (omega (arith, length-append own piece, long))
    ∙ ap (λ (file : List ℕ × List ℕ). set (cut spans bytes) i ((get_or (cut spans bytes) i d).0, file.1 ++ piece)) (sym (cut_at i spans bytes s d lt at))

-- a file with no byte after all
pub cut_pushed : (spans : List TapeSpan) (bytes name : List ℕ) (s : TapeSpan) → spanned spans ≡ length bytes → s.name ≡ length name → s.bytes ≡ 0 → cut (spans ++ s ∷ []) (bytes ++ name) ≡ cut spans bytes ++ (name, []) ∷ []
cut_pushed [] bytes name s covered named empty =
    ap (λ (l : List ℕ). cut (s ∷ []) (l ++ name)) (nil_from_length bytes (sym covered)) ∙ ap (cut (s ∷ [])) (sym (append-nil name)) ∙ cut_one s [] name [] [] named empty
cut_pushed (x ∷ spans) bytes name s covered named empty =
    let k : ℕ = x.name + x.bytes in
    ap (cut (x ∷ (spans ++ s ∷ []))) (ap (λ (l : List ℕ). l ++ name) (sym (take-append-drop k bytes)) ∙ append_assoc (take k bytes) (drop k bytes) name)
    ∙ cut_front x (spans ++ s ∷ []) bytes (drop k bytes ++ name) (omega arith)
    ∙ ap (λ (files : List (List ℕ × List ℕ)). (take x.name bytes, take x.bytes (drop x.name bytes)) ∷ files)
    (cut_pushed spans (drop k bytes) name s (omega (arith, length-drop k bytes)) named empty)

-- Names, of which at most one is empty.

pub nameless_set : (i : ℕ) (spans : List TapeSpan) (s t : TapeSpan) → i < length spans → s ≡ get_or spans i no_span → t.name ≡ s.name → nameless (set spans i t) ≡ nameless spans
nameless_set i [] s t lt at named = absurd (omega arith)
nameless_set zero (x ∷ spans) s t lt at named = ap (λ n. cond (nat_eq n 0) 1 0 + nameless spans) (named ∙ ap (λ (y : TapeSpan). y.name) at)
nameless_set (suc i) (x ∷ spans) s t lt at named = ap (λ n. cond (nat_eq x.name 0) 1 0 + n) (nameless_set i spans s t (omega arith) at named)

pub nameless_push : (spans : List TapeSpan) (s : TapeSpan) → nameless (spans ++ s ∷ []) ≡ nameless spans + cond (nat_eq s.name 0) 1 0
nameless_push [] s = omega arith
nameless_push (x ∷ spans) s = omega (arith, nameless_push spans s)

-- each file has a byte, or an empty name
pub few_files : (spans : List TapeSpan) → length spans ≤ nameless spans + spanned spans
few_files [] = omega arith
few_files (x ∷ spans) = counted x.name refl (few_files spans)
  where
    counted : (n : ℕ) → x.name ≡ n → length spans ≤ nameless spans + spanned spans → length (x ∷ spans) ≤ nameless (x ∷ spans) + spanned (x ∷ spans)
    counted zero e rest = let one : ◌≡◌ {A = ℕ} (cond (nat_eq x.name 0) 1 0) 1 = ap (λ n. cond (nat_eq n 0) 1 0) e in omega (arith, one, rest)
    counted (suc n) e rest = omega (arith, e, rest)

no_more : (n k : ℕ) → k ≡ suc n → ◌≡◌ {A = ℕ} (cond (nat_eq k 0) 1 0) 0
no_more n k e = let zero_is : ℕ = 0 in let one_is : ℕ = 1 in ap (λ (b : Bool). cond b one_is zero_is) (ne_eqb k 0 (λ z. omega (arith, e, z)))

named : (spans : List TapeSpan) (bytes : List ℕ) (i : ℕ) → position_from (has_name []) i (cut spans bytes) ≡ None → nameless spans ≡ 0
named [] bytes i none = refl
named (x ∷ spans) bytes i none = tested x.name (pointwise nat_eq (take x.name bytes) []) refl refl (named spans (drop (x.name + x.bytes) bytes) (i + 1))
  where
    tested : (n : ℕ) (b : Bool) → x.name ≡ n → pointwise nat_eq (take x.name bytes) [] ≡ b
        → (position_from (has_name []) (i + 1) (cut spans (drop (x.name + x.bytes) bytes)) ≡ None → nameless spans ≡ 0) → nameless (x ∷ spans) ≡ 0
    tested n true e t later = let here : Some i ≡ None = ap (λ b. cond b (Some i) (position_from (has_name []) (i + 1) (cut spans (drop (x.name + x.bytes) bytes)))) (sym t) ∙ none in cc
    tested zero false e t later = let here : true ≡ false = ap (λ n. pointwise nat_eq (take n bytes) []) (sym e) ∙ t in cc
    tested (suc n) false e t later =
        omega (arith, no_more n x.name e, later (ap (λ b. cond b (Some i) (position_from (has_name []) (i + 1) (cut spans (drop (x.name + x.bytes) bytes)))) (sym t) ∙ none))

-- where no name is empty
pub all_named : (spans : List TapeSpan) (bytes : List ℕ) → position (has_name []) (cut spans bytes) ≡ None → nameless spans ≡ 0
all_named spans bytes none = named spans bytes 0 (sym (position_from-zero (has_name []) (cut spans bytes)) ∙ none)

-- The search by name.

-- the file that comes next
next : (i start : ℕ) (spans : List TapeSpan) (bytes : List ℕ) → i < length spans
    → cut (drop i spans) (drop start bytes) ≡ (take (get_or spans i no_span).name (drop start bytes), take (get_or spans i no_span).bytes (drop (get_or spans i no_span).name (drop start bytes)))
    ∷ cut (drop (i + 1) spans) (drop (start + ((get_or spans i no_span).name + (get_or spans i no_span).bytes)) bytes)
next i start spans bytes lt =
    let s : TapeSpan = get_or spans i no_span in
    ap (λ (l : List TapeSpan). cut l (drop start bytes)) (drop-cons spans i no_span lt)
    ∙ ap (λ (l : List ℕ). (take s.name (drop start bytes), take s.bytes (drop s.name (drop start bytes))) ∷ cut (drop (suc i) spans) l) (drop-drop (s.name + s.bytes) start bytes)
    ∙ ap (λ n. (take s.name (drop start bytes), take s.bytes (drop s.name (drop start bytes))) ∷ cut (drop n spans) (drop (start + (s.name + s.bytes)) bytes)) (sym (add-one i))

-- it has the name
pub find_here : (name : List ℕ) (i start : ℕ) (spans : List TapeSpan) (bytes : List ℕ) → i < length spans → pointwise nat_eq (take (get_or spans i no_span).name (drop start bytes)) name ≡ true
    → position_from (has_name name) i (cut (drop i spans) (drop start bytes)) ≡ Some i
find_here name i start spans bytes lt here =
    let s : TapeSpan = get_or spans i no_span in
    ap (position_from (has_name name) i) (next i start spans bytes lt)
    ∙ ap (λ b. cond b (Some i) (position_from (has_name name) (i + 1) (cut (drop (i + 1) spans) (drop (start + (s.name + s.bytes)) bytes)))) here

-- it has another name
pub find_later : (name : List ℕ) (i start : ℕ) (spans : List TapeSpan) (bytes : List ℕ) → i < length spans → pointwise nat_eq (take (get_or spans i no_span).name (drop start bytes)) name ≡ false
    → position_from (has_name name) (i + 1) (cut (drop (i + 1) spans) (drop (start + ((get_or spans i no_span).name + (get_or spans i no_span).bytes)) bytes)) ≡ position_from (has_name name) i (cut (drop i spans) (drop start bytes))
find_later name i start spans bytes lt other =
    let s : TapeSpan = get_or spans i no_span in
    sym (ap (position_from (has_name name) i) (next i start spans bytes lt)
    ∙ ap (λ b. cond b (Some i) (position_from (has_name name) (i + 1) (cut (drop (i + 1) spans) (drop (start + (s.name + s.bytes)) bytes)))) other)

-- no file is left
pub find_end : (name : List ℕ) (i : ℕ) (spans : List TapeSpan) (bytes : List ℕ) → length spans ≤ i → position_from (has_name name) i (cut (drop i spans) bytes) ≡ None
find_end name i spans bytes past = ap (λ (l : List TapeSpan). position_from (has_name name) i (cut l bytes)) (drop_of_length-le spans past)

-- The tape after an edit, as its code makes it.

same_span : (i : ℕ) (spans : List TapeSpan) (d e : TapeSpan) → i < length spans → get_or spans i d ≡ get_or spans i e
same_span i [] d e lt = absurd (omega arith)
same_span zero (x ∷ spans) d e lt = refl
same_span (suc i) (x ∷ spans) d e lt = same_span i spans d e (omega arith)

-- the span that was read in place
pub own_span : (i : ℕ) (spans : List TapeSpan) (s : TapeSpan) → i < length spans → s ≡ get_or spans i s → s ≡ get_or spans i no_span
own_span i spans s lt at = at ∙ same_span i spans s no_span lt

pub length_taken_out : (at n : ℕ) (bytes : List ℕ) → at + n ≤ length bytes → length (take at bytes ++ drop (at + n) bytes) + n ≡ length bytes
length_taken_out at n bytes within = omega (arith, length-append (take at bytes) (drop (at + n) bytes), length-take-le at bytes (omega arith), length-drop (at + n) bytes)

pub length_put_in : (at : ℕ) (bytes piece : List ℕ) → at ≤ length bytes → length (take at bytes ++ (piece ++ drop at bytes)) ≡ length bytes + length piece
length_put_in at bytes piece within =
    omega (arith, length-append (take at bytes) (piece ++ drop at bytes), length-append piece (drop at bytes), length-take-le at bytes within, length-drop at bytes)

pub cleared : (i start len : ℕ) (spans : List TapeSpan) (bytes after : List ℕ) (s : TapeSpan) → spanned spans ≡ length bytes → i < length spans → s ≡ get_or spans i s
    → start ≡ spanned (take i spans) + (get_or spans i no_span).name → len ≡ (get_or spans i no_span).bytes → after ≡ take start bytes ++ drop (start + len) bytes
    → cut (set spans i (record { name = s.name; bytes = 0 })) after ≡ set (cut spans bytes) i ((get_or (cut spans bytes) i ([], [])).0, [])
cleared i start len spans bytes after s covered lt at starts lasts edited =
    let t : TapeSpan = get_or spans i no_span in
    ap (λ (x : TapeSpan). cut (set spans i (record { name = x.name; bytes = 0 })) after) (own_span i spans s lt at)
    ∙ ap (cut (set spans i (record { name = t.name; bytes = 0 }))) (edited ∙ ap (λ n. take n bytes ++ drop (n + len) bytes) starts ∙ ap (λ n. take (spanned (take i spans) + t.name) bytes ++ drop ((spanned (take i spans) + t.name) + n) bytes) lasts)
    ∙ cut_cleared i spans bytes t ([], []) covered lt refl

pub appended : (i start len : ℕ) (spans : List TapeSpan) (bytes piece after : List ℕ) (s : TapeSpan) → spanned spans ≡ length bytes → i < length spans → s ≡ get_or spans i s
    → start ≡ spanned (take i spans) + (get_or spans i no_span).name → len ≡ (get_or spans i no_span).bytes → after ≡ take (start + len) bytes ++ (piece ++ drop (start + len) bytes)
    → cut (set spans i (record { name = s.name; bytes = s.bytes + length piece })) after
    ≡ set (cut spans bytes) i ((get_or (cut spans bytes) i ([], [])).0, (get_or (cut spans bytes) i ([], [])).1 ++ piece)
appended i start len spans bytes piece after s covered lt at starts lasts edited =
    let t : TapeSpan = get_or spans i no_span in
    ap (λ (x : TapeSpan). cut (set spans i (record { name = x.name; bytes = x.bytes + length piece })) after) (own_span i spans s lt at)
    ∙ ap (cut (set spans i (record { name = t.name; bytes = t.bytes + length piece }))) (edited ∙ ap (λ n. take (n + len) bytes ++ (piece ++ drop (n + len) bytes)) starts
    ∙ ap (λ n. take ((spanned (take i spans) + t.name) + n) bytes ++ (piece ++ drop ((spanned (take i spans) + t.name) + n) bytes)) lasts)
    ∙ cut_appended i spans bytes piece t ([], []) covered lt refl

pub content_at : (i start len : ℕ) (spans : List TapeSpan) (bytes : List ℕ) → i < length spans
    → start ≡ spanned (take i spans) + (get_or spans i no_span).name → len ≡ (get_or spans i no_span).bytes → take ((start + len) - start) (drop start bytes) ≡ (get_or (cut spans bytes) i ([], [])).1
content_at i start len spans bytes lt starts lasts =
    let t : TapeSpan = get_or spans i no_span in
    let long : (start + len) - start ≡ t.bytes = omega arith in
    ap (λ n. take n (drop start bytes)) long ∙ ap (λ n. take t.bytes (drop n bytes)) starts
    ∙ ap (λ (file : List ℕ × List ℕ). file.1) (sym (cut_at i spans bytes t ([], []) lt refl))

-- the memory still suffices after an edit of one file
pub laid_set : (room space space' marks i : ℕ) (spans : List TapeSpan) (bytes after : List ℕ) (s t : TapeSpan) → CoversBytes room spans bytes space marks → i < length spans → s ≡ get_or spans i s → t.name ≡ s.name
    → length after + s.bytes ≡ length bytes + t.bytes → length after ≤ room → space ≤ space' → CoversBytes room (set spans i t) after space' marks
laid_set room space space' marks i spans bytes after s t laid lt at named sized within no_less =
    let own = own_span i spans s lt at in
    record {
      covered = omega (arith, laid.covered, spanned_set i spans s t lt own);
      within = within;
      one_nameless = omega (arith, laid.one_nameless, nameless_set i spans s t lt own named);
      has_space = omega (arith, laid.has_space);
      has_marks = laid.has_marks;
    }

-- there is a mark for one more file
pub mark_left : (room space marks : ℕ) (spans : List TapeSpan) (bytes name : List ℕ) → CoversBytes room spans bytes space marks → position (has_name name) (cut spans bytes) ≡ None → length bytes + length name ≤ room → length spans < marks
mark_left room space marks spans bytes [] laid missing fits = omega (arith, laid.covered, laid.has_marks, few_files spans, all_named spans bytes missing)
mark_left room space marks spans bytes (x ∷ name) laid missing fits = omega (arith, laid.covered, laid.has_marks, laid.one_nameless, few_files spans)

-- and the memory suffices with it
pub laid_push : (room space space' marks marks' : ℕ) (spans : List TapeSpan) (bytes name : List ℕ) (s : TapeSpan) → CoversBytes room spans bytes space marks → position (has_name name) (cut spans bytes) ≡ None → length bytes + length name ≤ room
    → s.name ≡ length name → s.bytes ≡ 0 → space ≤ space' → marks ≤ marks' → CoversBytes room (spans ++ s ∷ []) (bytes ++ name) space' marks'
laid_push room space space' marks marks' spans bytes name s laid missing fits sized empty no_less no_fewer = record {
  covered = omega (arith, laid.covered, spanned_push spans s, length-append bytes name);
  within = omega (arith, length-append bytes name);
  one_nameless = one name missing sized;
  has_space = omega (arith, laid.has_space);
  has_marks = omega (arith, laid.has_marks);
}
  where
    one : (name : List ℕ) → position (has_name name) (cut spans bytes) ≡ None → s.name ≡ length name → nameless (spans ++ s ∷ []) ≤ 1
    one [] missing sized = counted (nat_eq s.name 0) refl
      where
        counted : (b : Bool) → nat_eq s.name 0 ≡ b → nameless (spans ++ s ∷ []) ≤ 1
        counted true e = let own : ◌≡◌ {A = ℕ} (cond (nat_eq s.name 0) 1 0) 1 = ap (λ (b : Bool). let one : ℕ = 1 in let none : ℕ = 0 in cond b one none) e in omega (arith, own, nameless_push spans s, all_named spans bytes missing)
        counted false e = let own : ◌≡◌ {A = ℕ} (cond (nat_eq s.name 0) 1 0) 0 = ap (λ (b : Bool). let one : ℕ = 1 in let none : ℕ = 0 in cond b one none) e in omega (arith, own, nameless_push spans s, all_named spans bytes missing)
    one (x ∷ name) missing sized = omega (arith, no_more (length name) s.name sized, nameless_push spans s, laid.one_nameless)
