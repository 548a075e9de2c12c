-- Bytes have one header at most, one answer of the header at most, and one answer of the raster at most.
use Rattle.std.proofs.Common.{◌≡◌, ℕ, zero, suc, ◌≤◌, ◌<◌, ◌+◌, ◌*◌, ◌⊎◌, inl, inr, List, [], ◌∷◌, ◌++◌, length, take, drop, refl, sym, ap, ◌∙◌, subst, arith, cond, ⊎_elim, append_assoc}
use Rattle.std.specs.Prelude.{Result, Ok, Err, slice_index, nat_lt, if◌then◌else◌}
use Rattle.std.specs.List.{AllByRecursion}
use Rattle.std.proofs.lemmas.Bool.{cases_lt, lt-ltb, le-ltb}
use Rattle.std.proofs.lemmas.List.{length-take-le, length-append, append-nil, take-append-drop, take-take}
use Rattle.std.proofs.lemmas.List.Elements.{recursion_from_All}
use Rattle.std.proofs.Math.Seq.{take-append_seam, drop-append_seam}
use Rattle.limits.specs.declared.bounds.TheConstants.{GREATEST_AXIS, MOST_HEADER_BYTES, MOST_SAMPLE_CELLS}
use Rattle.cells.specs.Cells.{volume_of}
use Rattle.shelf_traits.specs.declared.fault.ReadError.{ReadError}
use Rattle.shelf_traits.specs.declared.fault.ReadError.TheVariants.{ReadFault, Bad, Limit, NoMemory}
use Rattle.shelf_traits.specs.declared.fault.FormFault.TheVariants.{Form, Depth, Space, Cell, NoFrames, Sample, Trailing}
use Rattle.shelf_traits.specs.declared.fault.What.TheVariants.{Axis, Cells as CellsLimit, Header as HeaderLimit, Frames, Output, Loop, Records, Parts}
use Rattle.netpbm_p6.specs.declared.picture.Picture.{Picture}
use Rattle.netpbm_p6.specs.Header.{IsHeader, IsPrefix, IsProperPrefix}
use Rattle.shelf_traits.specs.Decimals.{capped}
use Rattle.netpbm_p6.specs.Pictures.{picture_size, Headed, raster_length, IsPictureOf, IsRead, ShortHeaded, Within, BreaksAt, HeaderTooLong, AxisPasses, Refuses}
use Rattle.netpbm_p6.proofs.Headers.{same_header, same_numbers}

-- One header.

record SameHeader {bytes : List ℕ} (a b : Headed bytes) : Type 0 where
  header : a.header ≡ b.header
  raster : a.raster ≡ b.raster
  width : a.width ≡ b.width
  height : a.height ≡ b.height
  maxval : a.maxval ≡ b.maxval

one_header : {bytes : List ℕ} (a b : Headed bytes) → SameHeader a b
one_header {bytes} a b =
    let header = same_header a.header b.header a.raster b.raster a.width a.height a.maxval b.width b.height b.maxval a.is_header b.is_header (sym a.is ∙ b.is) in
    let numbers = same_numbers a.header b.header a.width a.height a.maxval b.width b.height b.maxval a.is_header b.is_header header in
    record {
      header = header;
      raster = sym (drop-append_seam a.header a.raster) ∙ (λ i. drop (length (header i)) ((sym a.is ∙ b.is) i)) ∙ drop-append_seam b.header b.raster;
      width = numbers.0;
      height = numbers.1;
      maxval = numbers.2;
    }

same_picture : (p q : Picture) → p.maxval ≡ q.maxval → p.volume ≡ q.volume → p ≡ q
same_picture p q maxval volume = λ i. record { maxval = maxval i; volume = volume i }

pub one_picture : (bytes : List ℕ) (first second : Picture) → IsPictureOf bytes first → IsPictureOf bytes second → first ≡ second
one_picture bytes first second a b =
    let same = one_header a.headed b.headed in
    same_picture first second (a.maxval ∙ same.maxval ∙ sym b.maxval)
    (a.volume ∙ (λ i. volume_of (picture_size (same.width i) (same.height i)) 3 (same.raster i)) ∙ sym b.volume)

-- The answer of a header and its raster, tried in order.

-- the raster's, from a place on
abbrev raster_of : ℕ → ℕ → ℕ → List ℕ → Result (Unit {0}) ReadError
raster_of maxval at zero [] = Ok tt
raster_of maxval at zero (b ∷ bytes) = Err (Bad (Trailing at))
raster_of maxval at (suc want) [] = Err (Bad (Form at))
raster_of maxval at (suc want) (b ∷ bytes) = if nat_lt maxval b then Err (Bad (Sample at)) else raster_of maxval (at + 1) want bytes

sample_fits : {A : Type 0} (maxval b : ℕ) (x y : A) → b ≤ maxval → cond (nat_lt maxval b) x y ≡ y
sample_fits maxval b x y fits = ap (λ t. cond t x y) (le-ltb maxval b fits)

above_answer : (maxval at want index : ℕ) (bytes : List ℕ) → index < want → index < length bytes → AllByRecursion (λ b. b ≤ maxval) (take index bytes) → maxval < slice_index bytes index
    → raster_of maxval at want bytes ≡ Err (Bad (Sample (at + index)))
above_answer maxval at zero index bytes early inside before above = absurd (omega arith)
above_answer maxval at (suc want) index [] early inside before above = absurd (omega arith)
above_answer maxval at (suc want) zero (b ∷ bytes) early inside before above =
    ap (λ t. cond t (Err (Bad (Sample at))) (raster_of maxval (at + 1) want bytes)) (lt-ltb maxval b above) ∙ ap (λ n. Err (Bad (Sample n))) (omega arith)
above_answer maxval at (suc want) (suc index) (b ∷ bytes) early inside before above =
    sample_fits maxval b _ _ before.0 ∙ above_answer maxval (at + 1) want index bytes (omega arith) (omega arith) before.1 above ∙ ap (λ n. Err (Bad (Sample n))) (omega arith)

short_answer : (maxval at want : ℕ) (bytes : List ℕ) → length bytes < want → AllByRecursion (λ b. b ≤ maxval) bytes → raster_of maxval at want bytes ≡ Err (Bad (Form (at + length bytes)))
short_answer maxval at zero bytes short fit = absurd (omega arith)
short_answer maxval at (suc want) [] short fit = ap (λ n. Err (Bad (Form n))) (omega arith)
short_answer maxval at (suc want) (b ∷ bytes) short fit =
    sample_fits maxval b _ _ fit.0 ∙ short_answer maxval (at + 1) want bytes (omega arith) fit.1 ∙ ap (λ n. Err (Bad (Form n))) (omega arith)

past_answer : (maxval at want : ℕ) (bytes : List ℕ) → want < length bytes → AllByRecursion (λ b. b ≤ maxval) (take want bytes) → raster_of maxval at want bytes ≡ Err (Bad (Trailing (at + want)))
past_answer maxval at want [] longer fit = absurd (omega arith)
past_answer maxval at zero (b ∷ bytes) longer fit = ap (λ n. Err (Bad (Trailing n))) (omega arith)
past_answer maxval at (suc want) (b ∷ bytes) longer fit =
    sample_fits maxval b _ _ fit.0 ∙ past_answer maxval (at + 1) want bytes (omega arith) fit.1 ∙ ap (λ n. Err (Bad (Trailing n))) (omega arith)

whole_answer : (maxval at want : ℕ) (bytes : List ℕ) → length bytes ≡ want → AllByRecursion (λ b. b ≤ maxval) bytes → raster_of maxval at want bytes ≡ Ok tt
whole_answer maxval at zero [] whole fit = refl
whole_answer maxval at zero (b ∷ bytes) whole fit = absurd (omega arith)
whole_answer maxval at (suc want) [] whole fit = absurd (omega arith)
whole_answer maxval at (suc want) (b ∷ bytes) whole fit = sample_fits maxval b _ _ fit.0 ∙ whole_answer maxval (at + 1) want bytes (omega arith) fit.1

-- the limits, and then the raster
abbrev answer_of : ℕ → ℕ → ℕ → ℕ → List ℕ → Result (Unit {0}) ReadError
answer_of w h m at raster =
    if nat_lt 255 m then Err (Bad Depth)
    else if nat_lt GREATEST_AXIS w then Err (Limit Axis (capped w) GREATEST_AXIS)
    else if nat_lt GREATEST_AXIS h then Err (Limit Axis (capped h) GREATEST_AXIS)
    else if nat_lt MOST_SAMPLE_CELLS (w * h) then Err (Limit CellsLimit (w * h) MOST_SAMPLE_CELLS)
    else raster_of m at (3 * (w * h)) raster

abbrev judged : {bytes : List ℕ} → Headed bytes → Result (Unit {0}) ReadError
judged headed = answer_of headed.width headed.height headed.maxval (length headed.header) headed.raster

one_judged : {bytes : List ℕ} (a b : Headed bytes) → judged a ≡ judged b
one_judged a b = let same = one_header a b in λ i. answer_of (same.width i) (same.height i) (same.maxval i) (length (same.header i)) (same.raster i)

if_not : {A : Type 0} (bound n : ℕ) (x y z : A) → n ≤ bound → y ≡ z → cond (nat_lt bound n) x y ≡ z
if_not bound n x y z le rest = ap (λ t. cond t x y) (le-ltb bound n le) ∙ rest

if_so : {A : Type 0} (bound n : ℕ) (x y : A) → bound < n → cond (nat_lt bound n) x y ≡ x
if_so bound n x y lt = ap (λ t. cond t x y) (lt-ltb bound n lt)

within_answer : (w h m at : ℕ) (raster : List ℕ) (r : Result (Unit {0}) ReadError) → m ≤ 255 → w ≤ GREATEST_AXIS → h ≤ GREATEST_AXIS → w * h ≤ MOST_SAMPLE_CELLS → raster_of m at (3 * (w * h)) raster ≡ r → answer_of w h m at raster ≡ r
within_answer w h m at raster r depth wide high cells rest = if_not 255 m _ _ r depth (if_not GREATEST_AXIS w _ _ r wide (if_not GREATEST_AXIS h _ _ r high (if_not MOST_SAMPLE_CELLS (w * h) _ _ r cells rest)))

axis_answer : (w h m at number : ℕ) (raster : List ℕ) → m ≤ 255 → AxisPasses w h number → answer_of w h m at raster ≡ Err (Limit Axis number GREATEST_AXIS)
axis_answer w h m at number raster depth (inl wide) = if_not 255 m _ _ _ depth (if_so GREATEST_AXIS w _ _ wide.0 ∙ ap (λ n. Err (Limit Axis n GREATEST_AXIS)) (sym wide.1))
axis_answer w h m at number raster depth (inr high) =
    if_not 255 m _ _ _ depth (if_not GREATEST_AXIS w _ _ _ high.0 (if_so GREATEST_AXIS h _ _ high.1 ∙ ap (λ n. Err (Limit Axis n GREATEST_AXIS)) (sym high.2)))

cells_answer : (w h m at : ℕ) (raster : List ℕ) → m ≤ 255 → w ≤ GREATEST_AXIS → h ≤ GREATEST_AXIS → MOST_SAMPLE_CELLS < w * h → answer_of w h m at raster ≡ Err (Limit CellsLimit (w * h) MOST_SAMPLE_CELLS)
cells_answer w h m at raster depth wide high many = if_not 255 m _ _ _ depth (if_not GREATEST_AXIS w _ _ _ wide (if_not GREATEST_AXIS h _ _ _ high (if_so MOST_SAMPLE_CELLS (w * h) _ _ many)))

within_judged : {bytes : List ℕ} (within : Within bytes) (r : Result (Unit {0}) ReadError)
    → raster_of within.headed.maxval (length within.headed.header) (raster_length within.headed) within.headed.raster ≡ r → judged within.headed ≡ r
within_judged within r rest =
    within_answer within.headed.width within.headed.height within.headed.maxval (length within.headed.header) within.headed.raster r within.depth within.limits.width_fits within.limits.height_fits within.limits.cells_fit rest

-- The three causes of a refusal: the header breaks, it is too long, or its answer.

abbrev IsJudged : List ℕ → ReadError → Type 0
IsJudged bytes e = (short : ShortHeaded bytes) × (judged short.headed ≡ Err e)

abbrev Cause : List ℕ → ReadError → Type 0
Cause bytes e = ((at : ℕ) × BreaksAt bytes at × (e ≡ Bad (Form at))) ⊎ (HeaderTooLong bytes × (e ≡ Limit HeaderLimit (MOST_HEADER_BYTES + 1) MOST_HEADER_BYTES)) ⊎ IsJudged bytes e

within_cause : {bytes : List ℕ} (e : ReadError) (within : Within bytes)
    → raster_of within.headed.maxval (length within.headed.header) (raster_length within.headed) within.headed.raster ≡ Err e → Cause bytes e
within_cause e within rest = inr (inr (record { headed = within.headed; short = within.limits.header_fits }, within_judged within (Err e) rest))

length_headed : {bytes : List ℕ} (headed : Headed bytes) → length headed.header + length headed.raster ≡ length bytes
length_headed headed = omega (arith, ap length headed.is, length-append headed.header headed.raster)

cause_of : (bytes : List ℕ) (e : ReadError) → Refuses bytes e → Cause bytes e
cause_of bytes (Bad (Form at)) (inl breaks) = inl (at, breaks, refl)
cause_of bytes (Bad (Form at)) (inr early) =
    within_cause (Bad (Form at)) early.within
    (short_answer early.within.headed.maxval (length early.within.headed.header) (raster_length early.within.headed) early.within.headed.raster early.short
    (recursion_from_All (λ b. b ≤ early.within.headed.maxval) early.within.headed.raster early.samples)
    ∙ ap (λ n. Err (Bad (Form n))) (length_headed early.within.headed ∙ sym early.place))
cause_of bytes (Bad Depth) (short, deep) = inr (inr (short, if_so 255 short.headed.maxval _ _ deep))
cause_of bytes (Bad (Sample at)) above =
    within_cause (Bad (Sample at)) above.within
    (above_answer above.within.headed.maxval (length above.within.headed.header) (raster_length above.within.headed) above.index above.within.headed.raster above.early above.inside
    (recursion_from_All (λ b. b ≤ above.within.headed.maxval) (take above.index above.within.headed.raster) above.before) above.above
    ∙ ap (λ n. Err (Bad (Sample n))) (sym above.place))
cause_of bytes (Bad (Trailing at)) goes =
    within_cause (Bad (Trailing at)) goes.within
    (past_answer goes.within.headed.maxval (length goes.within.headed.header) (raster_length goes.within.headed) goes.within.headed.raster goes.longer
    (recursion_from_All (λ b. b ≤ goes.within.headed.maxval) (take (raster_length goes.within.headed) goes.within.headed.raster) goes.samples)
    ∙ ap (λ n. Err (Bad (Trailing n))) (sym goes.place))
cause_of bytes (Limit HeaderLimit number bound) long = inr (inl (long.0, λ i. Limit HeaderLimit (long.1 i) (long.2 i)))
cause_of bytes (Limit Axis number bound) passes =
    let headed = passes.0.headed in
    inr (inr (passes.0, axis_answer headed.width headed.height headed.maxval (length headed.header) number headed.raster passes.1 passes.2 ∙ ap (λ n. Err (Limit Axis number n)) (sym passes.3)))
cause_of bytes (Limit CellsLimit number bound) passes =
    let headed = passes.0.headed in
    inr (inr (
      passes.0,
      cells_answer headed.width headed.height headed.maxval (length headed.header) headed.raster passes.1 passes.2.width_fits passes.2.height_fits passes.2.passes
          ∙ (λ i. Err (Limit CellsLimit (sym passes.2.number_is i) (sym passes.3 i))),
    ))
cause_of bytes ReadFault refuses = absurd refuses
cause_of bytes NoMemory refuses = absurd refuses
cause_of bytes (Bad Space) refuses = absurd refuses
cause_of bytes (Bad Cell) refuses = absurd refuses
cause_of bytes (Bad NoFrames) refuses = absurd refuses
cause_of bytes (Limit Frames number bound) refuses = absurd refuses
cause_of bytes (Limit Output number bound) refuses = absurd refuses
cause_of bytes (Limit Loop number bound) refuses = absurd refuses
cause_of bytes (Limit Records number bound) refuses = absurd refuses
cause_of bytes (Limit Parts number bound) refuses = absurd refuses

-- No two of them hold, and no two places.

-- a front of a front of a header is one
shorter_prefix : (bytes : List ℕ) (i j : ℕ) → i ≤ j → IsPrefix (take j bytes) → IsPrefix (take i bytes)
shorter_prefix bytes i j le prefix = record {
  rest = drop i (take j bytes) ++ prefix.rest;
  width = prefix.width;
  height = prefix.height;
  maxval = prefix.maxval;
  header = subst (λ text. IsHeader text prefix.width prefix.height prefix.maxval) (ap (λ t. t ++ prefix.rest) (sym split) ∙ append_assoc (take i bytes) (drop i (take j bytes)) prefix.rest) prefix.header;
}
  where
    split : take i bytes ++ drop i (take j bytes) ≡ take j bytes
    split = ap (λ t. t ++ drop i (take j bytes)) (sym (take-take i j bytes le)) ∙ take-append-drop i (take j bytes)

-- what goes wrong at a place is no longer a front later
not_before : (bytes : List ℕ) (i j : ℕ) → BreaksAt bytes i → IsPrefix (take j bytes) → j ≤ length bytes → i < j → ⊥
not_before bytes i j breaks prefix inside less = wrong breaks.here
  where
    wrong : (length bytes ≡ i) ⊎ ((i < length bytes) × (IsPrefix (take (i + 1) bytes) → ⊥)) → ⊥
    wrong (inl ends) = omega arith
    wrong (inr goes) = goes.1 (shorter_prefix bytes (i + 1) j (omega arith) prefix)

one_break : (bytes : List ℕ) (i j : ℕ) → BreaksAt bytes i → BreaksAt bytes j → i ≡ j
one_break bytes i j a b =
    ⊎_elim (λ less. absurd (not_before bytes i j a b.before.starts b.inside less))
    (λ ge. ⊎_elim (λ more. absurd (not_before bytes j i b a.before.starts a.inside more)) (λ le. omega arith) (cases_lt j i)) (cases_lt i j)

break_not_long : (bytes : List ℕ) (i : ℕ) → BreaksAt bytes i → HeaderTooLong bytes → ⊥
break_not_long bytes i breaks long = not_before bytes i (MOST_HEADER_BYTES + 1) breaks long.lawful (omega (arith, long.longer)) (omega (arith, breaks.early))

-- the bytes of the header are the first ones
header_front : {bytes : List ℕ} (headed : Headed bytes) → take (length headed.header) bytes ≡ headed.header
header_front headed = ap (take (length headed.header)) headed.is ∙ take-append_seam headed.header headed.raster

-- a proper front of a header that reaches to the header's end has it as a front, and so is it
no_header_inside : {bytes : List ℕ} (headed : Headed bytes) (at : ℕ) → length headed.header ≤ at → at ≤ length bytes → IsProperPrefix (take at bytes) → ⊥
no_header_inside {bytes} headed at le inside proper =
    let front : take (length headed.header) (take at bytes) ≡ headed.header = take-take (length headed.header) at bytes le ∙ header_front headed in
    let starts = proper.starts in
    let joins : headed.header ++ (drop (length headed.header) (take at bytes) ++ starts.rest) ≡ (take at bytes ++ starts.rest) ++ []
    = sym (append_assoc headed.header (drop (length headed.header) (take at bytes)) starts.rest)
    ∙ ap (λ t. t ++ starts.rest) (ap (λ t. t ++ drop (length headed.header) (take at bytes)) (sym front) ∙ take-append-drop (length headed.header) (take at bytes))
    ∙ sym (append-nil (take at bytes ++ starts.rest)) in
    let same : headed.header ≡ take at bytes ++ starts.rest
    = same_header headed.header (take at bytes ++ starts.rest) _ [] headed.width headed.height headed.maxval starts.width starts.height starts.maxval headed.is_header starts.header joins in
    let long : length headed.header ≡ at = omega (arith, ap length same, length-append (take at bytes) starts.rest, length-take-le at bytes inside) in
    proper.proper headed.width headed.height headed.maxval
    (subst (λ text. IsHeader text headed.width headed.height headed.maxval) (sym (header_front headed) ∙ ap (λ n. take n bytes) long) headed.is_header)

break_not_headed : (bytes : List ℕ) (i : ℕ) (headed : Headed bytes) → BreaksAt bytes i → ⊥
break_not_headed bytes i headed breaks =
    ⊎_elim (λ less. not_before bytes i (length headed.header) breaks whole (omega (arith, length_headed headed)) less)
    (λ le. no_header_inside headed i le breaks.inside breaks.before) (cases_lt i (length headed.header))
  where
    whole : IsPrefix (take (length headed.header) bytes)
    whole = record {
      rest = [];
      width = headed.width;
      height = headed.height;
      maxval = headed.maxval;
      header = subst (λ text. IsHeader text headed.width headed.height headed.maxval) (sym (header_front headed) ∙ sym (append-nil (take (length headed.header) bytes))) headed.is_header;
    }

long_not_short : (bytes : List ℕ) → HeaderTooLong bytes → ShortHeaded bytes → ⊥
long_not_short bytes long short = no_header_inside short.headed MOST_HEADER_BYTES short.short (omega (arith, long.longer)) long.starts

err_same : (e f : ReadError) (r : Result (Unit {0}) ReadError) → r ≡ Err e → r ≡ Err f → e ≡ f
err_same e f r a b = cc

ok_not_err : (e : ReadError) (r : Result (Unit {0}) ReadError) → r ≡ Ok tt → r ≡ Err e → ⊥
ok_not_err e r a b = cc

same_cause : (bytes : List ℕ) (e f : ReadError) → Cause bytes e → Cause bytes f → e ≡ f
same_cause bytes e f (inl a) (inl b) = a.2 ∙ ap (λ n. Bad (Form n)) (one_break bytes a.0 b.0 a.1 b.1) ∙ sym b.2
same_cause bytes e f (inl a) (inr (inl b)) = absurd (break_not_long bytes a.0 a.1 b.0)
same_cause bytes e f (inl a) (inr (inr b)) = absurd (break_not_headed bytes a.0 b.0.headed a.1)
same_cause bytes e f (inr (inl a)) (inl b) = absurd (break_not_long bytes b.0 b.1 a.0)
same_cause bytes e f (inr (inl a)) (inr (inl b)) = a.1 ∙ sym b.1
same_cause bytes e f (inr (inl a)) (inr (inr b)) = absurd (long_not_short bytes a.0 b.0)
same_cause bytes e f (inr (inr a)) (inl b) = absurd (break_not_headed bytes b.0 a.0.headed b.1)
same_cause bytes e f (inr (inr a)) (inr (inl b)) = absurd (long_not_short bytes b.0 a.0)
same_cause bytes e f (inr (inr a)) (inr (inr b)) = err_same e f (judged a.0.headed) a.1 (one_judged a.0.headed b.0.headed ∙ b.1)

pub one_refusal : (bytes : List ℕ) (first second : ReadError) → Refuses bytes first → Refuses bytes second → first ≡ second
one_refusal bytes first second a b = same_cause bytes first second (cause_of bytes first a) (cause_of bytes second b)

read_judged : (bytes : List ℕ) (picture : Picture) → (read : IsRead bytes picture) → judged read.stands.headed ≡ Ok tt
read_judged bytes picture read =
    let stands = read.stands in
    within_judged (record { headed = stands.headed; depth = stands.depth; limits = read.limits }) (Ok tt)
    (whole_answer stands.headed.maxval (length stands.headed.header) (raster_length stands.headed) stands.headed.raster stands.whole
    (recursion_from_All (λ b. b ≤ stands.headed.maxval) stands.headed.raster stands.samples))

read_no_cause : (bytes : List ℕ) (picture : Picture) (e : ReadError) → IsRead bytes picture → Cause bytes e → ⊥
read_no_cause bytes picture e read (inl breaks) = break_not_headed bytes breaks.0 read.stands.headed breaks.1
read_no_cause bytes picture e read (inr (inl long)) = long_not_short bytes long.0 (record { headed = read.stands.headed; short = read.limits.header_fits })
read_no_cause bytes picture e read (inr (inr refused)) =
    ok_not_err e (judged read.stands.headed) (read_judged bytes picture read) (one_judged read.stands.headed refused.0.headed ∙ refused.1)

pub not_both : (bytes : List ℕ) (picture : Picture) (refusal : ReadError) → IsRead bytes picture → Refuses bytes refusal → ⊥
not_both bytes picture refusal read refuses = read_no_cause bytes picture refusal read (cause_of bytes refusal refuses)
