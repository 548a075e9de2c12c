-- Bytes have one refusal at most, and none where they stand for a clip that is read.
use Rattle.std.proofs.Common.{◌≡◌, ℕ, ◌≤◌, ◌<◌, ◌+◌, ◌*◌, ◌/◌, ◌%◌, ◌⊎◌, inl, inr, List, [], ◌++◌, length, take, drop, eqb, cond, refl, sym, ap, ◌∙◌, subst, arith, append_assoc, ⊎_elim, Bool, true, false}
use Rattle.std.specs.Prelude.{nat_lt, ◌&&◌, if◌then◌else◌, Result, Ok, Err}
use Rattle.std.proofs.lemmas.Bool.{cases_lt, cases_Bool, and_parts, and_from, eqb-true, eq-eqb, ne_eqb, lt-ltb, le-ltb}
use Rattle.std.proofs.lemmas.List.{length-append, append-nil, take-append-drop, take-take, length-take-le}
use Rattle.std.proofs.Math.Seq.{take-append_seam}
use Rattle.limits.specs.declared.bounds.TheConstants.{GREATEST_AXIS, MOST_LINE_BYTES, MOST_TAG_BYTES}
use Rattle.shelf_traits.specs.declared.fault.ReadError.{ReadError}
use Rattle.shelf_traits.specs.declared.fault.ReadError.TheVariants.{ReadFault, Bad, Limit, NoMemory}
use Rattle.shelf_traits.specs.declared.fault.FormFault.TheVariants.{Form, Depth, Space, Cell, NoFrames, Sample, Trailing}
use Rattle.shelf_traits.specs.declared.fault.What.TheVariants.{Axis, Cells as CellsLimit, Header, Frames, Output, Loop, Records, Parts}
use Rattle.y4m_clip.specs.declared.form.SpaceKind.{SpaceKind}
use Rattle.y4m_clip.specs.declared.form.Clip.{Clip}
use Rattle.y4m_clip.specs.StreamLine.{IsStreamLine, IsLinePrefix, IsProperLinePrefix}
use Rattle.y4m_clip.specs.Spaces.{GivesSpace, cell_width, cell_height}
use Rattle.shelf_traits.specs.Decimals.{capped}
use Rattle.y4m_clip.specs.Clips.{tag_value, carried, spaced, Lined, HasSpaceKind, IsWhole, pixels_w, pixels_h, cells_w, cells_h, LineFits, Fronted}
use Rattle.y4m_clip.specs.Refusals.{LineBreaks, LineTooLong, ShortLined, KindLined, ShortSized, SizePasses, width_of, height_of, bound_of, RefusesClip, IsReadClip}
use Rattle.y4m_clip.specs.Reading.{line_limit}
use Rattle.y4m_clip.proofs.FileLines.{no_longer, shorter_prefix}
use Rattle.y4m_clip.proofs.OneClip.{one_lined, one_kind}
use Rattle.y4m_clip.proofs.OneStop.{Stops, one_stop, none_stops}

-- The stream line: it breaks at one place, or is too long, or stands.

prefix_before : (bytes : List ℕ) (i j : ℕ) → i ≤ j → IsLinePrefix (take j bytes) → IsLinePrefix (take i bytes)
prefix_before bytes i j le prefix = subst IsLinePrefix (take-take i j bytes le) (shorter_prefix (take j bytes) i prefix)

not_before : (bytes : List ℕ) (i j : ℕ) → LineBreaks bytes i → IsLinePrefix (take j bytes) → j ≤ length bytes → i < j → ⊥
not_before bytes i j breaks prefix inside less = wrong breaks.here
  where
    wrong : (length bytes ≡ i) ⊎ ((i < length bytes) × (IsLinePrefix (take (i + 1) bytes) → ⊥)) → ⊥
    wrong (inl ends) = omega arith
    wrong (inr goes) = goes.1 (prefix_before bytes (i + 1) j (omega arith) prefix)

one_break : (bytes : List ℕ) (i j : ℕ) → LineBreaks bytes i → LineBreaks bytes j → i ≡ j
one_break bytes i j a b =
    ⊎_elim (λ less. absurd (not_before bytes i j a b.before.starts b.inside less))
    (λ ge. ⊎_elim (λ more. absurd (not_before bytes j i b a.before.starts a.inside more)) (λ le. omega arith) (cases_lt j i)) (cases_lt i j)

break_not_long : (bytes : List ℕ) (i : ℕ) → LineBreaks bytes i → LineTooLong bytes → ⊥
break_not_long bytes i breaks long = not_before bytes i (GREATEST_AXIS + 1) breaks long.lawful (omega (arith, long.longer)) (omega (arith, breaks.early))

line_front : {bytes : List ℕ} (lined : Lined bytes) → take (length lined.line) bytes ≡ lined.line
line_front lined = ap (take (length lined.line)) lined.is ∙ take-append_seam lined.line lined.rest

line_inside : {bytes : List ℕ} (lined : Lined bytes) → length lined.line ≤ length bytes
line_inside lined = omega (arith, ap length lined.is, length-append lined.line lined.rest)

-- a proper front that reaches to the line's end has the line as a front, and so is it
no_line_inside : {bytes : List ℕ} (lined : Lined bytes) (at : ℕ) → length lined.line ≤ at → at ≤ length bytes → IsProperLinePrefix (take at bytes) → ⊥
no_line_inside {bytes} lined at le inside proper =
    let starts = proper.starts in
    let behind = drop (length lined.line) (take at bytes) in
    let front : take (length lined.line) (take at bytes) ≡ lined.line = take-take (length lined.line) at bytes le ∙ line_front lined in
    let joins : lined.line ++ behind ≡ take at bytes = ap (λ t. t ++ behind) (sym front) ∙ take-append-drop (length lined.line) (take at bytes) in
    let whole : take at bytes ++ starts.rest ≡ lined.line ++ (behind ++ starts.rest) = ap (λ t. t ++ starts.rest) (sym joins) ∙ append_assoc lined.line behind starts.rest in
    let none : behind ++ starts.rest ≡ [] = no_longer lined.line (behind ++ starts.rest) lined.tags starts.tags lined.is_line (subst (λ t. IsStreamLine t starts.tags) whole starts.line) in
    let long : length lined.line ≡ at = omega (arith, ap length none, length-append behind starts.rest, ap length joins, length-append lined.line behind, length-take-le at bytes inside) in
    proper.proper lined.tags (subst (λ t. IsStreamLine t lined.tags) (sym (line_front lined) ∙ ap (λ n. take n bytes) long) lined.is_line)

break_not_lined : (bytes : List ℕ) (i : ℕ) → Lined bytes → LineBreaks bytes i → ⊥
break_not_lined bytes i lined breaks =
    ⊎_elim (λ less. not_before bytes i (length lined.line) breaks whole (line_inside lined) less) (λ le. no_line_inside lined i le breaks.inside breaks.before) (cases_lt i (length lined.line))
  where
    whole : IsLinePrefix (take (length lined.line) bytes)
    whole = record { rest = []; tags = lined.tags; line = subst (λ t. IsStreamLine t lined.tags) (sym (line_front lined) ∙ sym (append-nil (take (length lined.line) bytes))) lined.is_line }

long_not_short : (bytes : List ℕ) → LineTooLong bytes → ShortLined bytes → ⊥
long_not_short bytes long short = no_line_inside short.lined MOST_LINE_BYTES short.short (omega (arith, long.longer)) long.starts

-- The tags of a line with a colour kind: whole cells, and then the limits.

abbrev limits_of : ℕ → List (List ℕ) → SpaceKind → Result (Unit {0}) ReadError
limits_of most tags kind =
    if nat_lt MOST_TAG_BYTES (length (spaced (carried tags))) then Err (Limit Header (length (spaced (carried tags))) MOST_TAG_BYTES)
    else if nat_lt GREATEST_AXIS (cells_w tags kind) then Err (Limit Axis (capped (pixels_w tags) / cell_width kind) GREATEST_AXIS)
    else if nat_lt GREATEST_AXIS (cells_h tags kind) then Err (Limit Axis (capped (pixels_h tags) / cell_height kind) GREATEST_AXIS)
    else if nat_lt most (cells_w tags kind * cells_h tags kind) then Err (Limit CellsLimit (cells_w tags kind * cells_h tags kind) most)
    else Ok tt

abbrev are_whole : List (List ℕ) → SpaceKind → Bool
are_whole tags kind = eqb (pixels_w tags % cell_width kind) 0 && eqb (pixels_h tags % cell_height kind) 0

abbrev answer_of : ℕ → List (List ℕ) → SpaceKind → Result (Unit {0}) ReadError
answer_of most tags kind = cond (are_whole tags kind) (limits_of most tags kind) (Err (Bad Cell))

whole_answer : (most : ℕ) (tags : List (List ℕ)) (kind : SpaceKind) (r : Result (Unit {0}) ReadError) → IsWhole tags kind → limits_of most tags kind ≡ r → answer_of most tags kind ≡ r
whole_answer most tags kind r whole rest =
    ap (λ t. cond t (limits_of most tags kind) (Err (Bad Cell)))
    (and_from _ _ (eq-eqb (pixels_w tags % cell_width kind) 0 whole.0) (eq-eqb (pixels_h tags % cell_height kind) 0 whole.1)) ∙ rest

broken_answer : (most : ℕ) (tags : List (List ℕ)) (kind : SpaceKind) → (IsWhole tags kind → ⊥) → answer_of most tags kind ≡ Err (Bad Cell)
broken_answer most tags kind broken = split (cases_Bool (are_whole tags kind))
  where
    split : (are_whole tags kind ≡ true) ⊎ (are_whole tags kind ≡ false) → answer_of most tags kind ≡ Err (Bad Cell)
    split (inl e) =
        let both = and_parts (eqb (pixels_w tags % cell_width kind) 0) (eqb (pixels_h tags % cell_height kind) 0) e in
        absurd (broken (eqb-true (pixels_w tags % cell_width kind) 0 both.0, eqb-true (pixels_h tags % cell_height kind) 0 both.1))
    split (inr e) = ap (λ t. cond t (limits_of most tags kind) (Err (Bad Cell))) e

if_not : {A : Type 0} (bound n : ℕ) (x y z : A) → n ≤ bound → y ≡ z → cond (nat_lt bound n) x y ≡ z
if_not bound n x y z le rest = ap (λ t. cond t x y) (le-ltb bound n le) ∙ rest

if_so : {A : Type 0} (bound n : ℕ) (x y : A) → bound < n → cond (nat_lt bound n) x y ≡ x
if_so bound n x y lt = ap (λ t. cond t x y) (lt-ltb bound n lt)

axis_limit : (most : ℕ) (tags : List (List ℕ)) (kind : SpaceKind) (number : ℕ) → length (spaced (carried tags)) ≤ MOST_TAG_BYTES → SizePasses tags kind number → limits_of most tags kind ≡ Err (Limit Axis number GREATEST_AXIS)
axis_limit most tags kind number fits (inl wide) = if_not MOST_TAG_BYTES (length (spaced (carried tags))) _ _ _ fits (if_so GREATEST_AXIS (cells_w tags kind) _ _ wide.0 ∙ ap (λ n. Err (Limit Axis n GREATEST_AXIS)) (sym wide.1))
axis_limit most tags kind number fits (inr high) =
    if_not MOST_TAG_BYTES (length (spaced (carried tags))) _ _ _ fits
    (if_not GREATEST_AXIS (cells_w tags kind) _ _ _ high.0 (if_so GREATEST_AXIS (cells_h tags kind) _ _ high.1 ∙ ap (λ n. Err (Limit Axis n GREATEST_AXIS)) (sym high.2)))

cells_limit : (most : ℕ) (tags : List (List ℕ)) (kind : SpaceKind) → length (spaced (carried tags)) ≤ MOST_TAG_BYTES → cells_w tags kind ≤ GREATEST_AXIS → cells_h tags kind ≤ GREATEST_AXIS → most < cells_w tags kind * cells_h tags kind
    → limits_of most tags kind ≡ Err (Limit CellsLimit (cells_w tags kind * cells_h tags kind) most)
cells_limit most tags kind fits wide high many =
    if_not MOST_TAG_BYTES (length (spaced (carried tags))) _ _ _ fits
    (if_not GREATEST_AXIS (cells_w tags kind) _ _ _ wide (if_not GREATEST_AXIS (cells_h tags kind) _ _ _ high (if_so most (cells_w tags kind * cells_h tags kind) _ _ many)))

no_limit : (most : ℕ) (line : List ℕ) (tags : List (List ℕ)) (kind : SpaceKind) → LineFits line tags kind most → limits_of most tags kind ≡ Ok tt
no_limit most line tags kind fits =
    if_not MOST_TAG_BYTES (length (spaced (carried tags))) _ _ _ fits.tags_fit
    (if_not GREATEST_AXIS (cells_w tags kind) _ _ _ fits.width_fits
    (if_not GREATEST_AXIS (cells_h tags kind) _ _ _ fits.height_fits (if_not most (cells_w tags kind * cells_h tags kind) _ _ _ fits.cells_fit refl)))

abbrev judged : {bytes : List ℕ} → ℕ → KindLined bytes → Result (Unit {0}) ReadError
judged most lined = answer_of most lined.lined.lined.tags lined.kind

same_kind : {bytes : List ℕ} (a b : Lined bytes) (k l : SpaceKind) → HasSpaceKind a.tags k → HasSpaceKind b.tags l → k ≡ l
same_kind a b k l first second = one_kind (tag_value 67 b.tags) k l (subst (λ tags. GivesSpace (tag_value 67 tags) k) (one_lined a b).tags first.space) second.space

one_judged : {bytes : List ℕ} (most : ℕ) (a b : KindLined bytes) → judged most a ≡ judged most b
one_judged most a b = λ i. answer_of most ((one_lined a.lined.lined b.lined.lined).tags i) (same_kind a.lined.lined b.lined.lined a.kind b.kind a.is_kind b.is_kind i)

-- The causes of a refusal.

of_sized : {bytes : List ℕ} → ShortSized bytes → KindLined bytes
of_sized short = record { lined = record { lined = short.sized.lined; short = short.short }; kind = short.sized.kind; is_kind = short.sized.is_kind }

of_front : {bytes : List ℕ} {most : ℕ} → Fronted bytes most → KindLined bytes
of_front front = record { lined = record { lined = front.sized.lined; short = front.fits.line_fits }; kind = front.sized.kind; is_kind = front.sized.is_kind }

front_judged : {bytes : List ℕ} {most : ℕ} (front : Fronted bytes most) → judged most (of_front front) ≡ Ok tt
unfolding of_front
front_judged {bytes} {most} front =
    whole_answer most front.sized.lined.tags front.sized.kind (Ok tt) front.sized.whole (no_limit most front.sized.lined.line front.sized.lined.tags front.sized.kind front.fits)

-- no colour kind
record NoKind (bytes : List ℕ) (e : ReadError) : Type 0 where
  short : ShortLined bytes
  none : (kind : SpaceKind) → HasSpaceKind short.lined.tags kind → ⊥
  is : e ≡ Bad Space

-- a colour kind, and tags that are refused
record Judged (most : ℕ) (bytes : List ℕ) (e : ReadError) : Type 0 where
  lined : KindLined bytes
  is : judged most lined ≡ Err e

-- frames that stop
record StopsBehind (most : ℕ) (bytes : List ℕ) (e : ReadError) : Type 0 where
  front : Fronted bytes most
  stops : Stops front.sized.kind (width_of front) (height_of front) most (length bytes) front.sized.lined.rest e

abbrev Cause : ℕ → List ℕ → ReadError → Type 0
Cause most bytes e =
    ((at : ℕ) × LineBreaks bytes at × (e ≡ Bad (Form at)))
    ⊎ (LineTooLong bytes × (e ≡ line_limit)) ⊎ NoKind bytes e ⊎ Judged most bytes e ⊎ StopsBehind most bytes e

sized_cause : (most : ℕ) (bytes : List ℕ) (e : ReadError) (short : ShortSized bytes) → limits_of most short.sized.lined.tags short.sized.kind ≡ Err e → Cause most bytes e
unfolding of_sized
sized_cause most bytes e short limit = inr (inr (inr (inl record { lined = of_sized short; is = whole_answer most short.sized.lined.tags short.sized.kind (Err e) short.sized.whole limit })))

stop_cause : (most : ℕ) (bytes : List ℕ) (e : ReadError) (front : Fronted bytes most) → Stops front.sized.kind (width_of front) (height_of front) most (length bytes) front.sized.lined.rest e → Cause most bytes e
stop_cause most bytes e front stops = inr (inr (inr (inr record { front = front; stops = stops })))

cause_of : (most : ℕ) (bytes : List ℕ) (e : ReadError) → RefusesClip most bytes e → Cause most bytes e
cause_of most bytes (Bad (Form at)) (inl breaks) = inl (at, breaks, refl)
cause_of most bytes (Bad (Form at)) (inr b) =
    stop_cause most bytes (Bad (Form at)) b.front (record { rest = b.rest; count = b.count; framed = b.framed; stop = inl (b.holds.0, b.holds.1.0, b.holds.1.2, ap (λ n. Bad (Form n)) b.holds.1.1) })
cause_of most bytes (Limit Header number bound) (inl long) = inr (inl (long.0, λ i. Limit Header (long.1 i) (long.2 i)))
cause_of most bytes (Limit Header number bound) (inr (inl tags)) =
    let short = tags.0.short in
    sized_cause most bytes (Limit Header number bound) short
    (if_so MOST_TAG_BYTES (length (spaced (carried short.sized.lined.tags))) _ _ (omega (arith, tags.0.longer, tags.0.number_is)) ∙ (λ i. Err (Limit Header (sym tags.0.number_is i) (sym tags.1 i))))
cause_of most bytes (Limit Header number bound) (inr (inr long)) =
    let b = long.0 in
    stop_cause most bytes (Limit Header number bound) b.front (record { rest = b.rest; count = b.count; framed = b.framed; stop = inr (inl (b.holds.0, b.holds.1, λ i. Limit Header (long.1 i) (long.2 i))) })
cause_of most bytes (Bad Space) (short, none) = inr (inr (inl record { short = short; none = none; is = refl }))
cause_of most bytes (Bad Cell) (lined, broken) = inr (inr (inr (inl record { lined = lined; is = broken_answer most lined.lined.lined.tags lined.kind broken })))
cause_of most bytes (Limit Axis number bound) (inl size, at) =
    sized_cause most bytes (Limit Axis number bound) size.short
    (axis_limit most size.short.sized.lined.tags size.short.sized.kind number size.tags_fit size.passes ∙ ap (λ n. Err (Limit Axis number n)) (sym at))
cause_of most bytes (Limit Axis number bound) (inr (b, is), at) =
    stop_cause most bytes (Limit Axis number bound) b.front
    (record {
      rest = b.rest;
      count = b.count;
      framed = b.framed;
      stop = inr (inr (inl (
        b.holds.0,
        b.holds.1,
        (λ i. Limit Axis (is i) (at i)) ∙ sym (ap (λ t. cond t (Limit Axis (GREATEST_AXIS + 1) GREATEST_AXIS) (Limit CellsLimit (width_of b.front * height_of b.front * (b.count + 1)) most)) (eq-eqb (bound_of b.front) GREATEST_AXIS b.holds.2)),
      )));
    })
cause_of most bytes (Limit CellsLimit number bound) (inl size, at) =
    let short = size.short in
    sized_cause most bytes (Limit CellsLimit number bound) short
    (cells_limit most short.sized.lined.tags short.sized.kind size.tags_fit size.width_fits size.height_fits (omega (arith, size.passes, size.number_is)) ∙ (λ i. Err (Limit CellsLimit (sym size.number_is i) (sym at i))))
cause_of most bytes (Limit CellsLimit number bound) (inr b, at) =
    stop_cause most bytes (Limit CellsLimit number bound) b.front
    (record {
      rest = b.rest;
      count = b.count;
      framed = b.framed;
      stop = inr (inr (inl (
        b.holds.0,
        b.holds.1,
        (λ i. Limit CellsLimit (b.holds.3 i) (at i))
            ∙ sym (ap (λ t. cond t (Limit Axis (GREATEST_AXIS + 1) GREATEST_AXIS) (Limit CellsLimit (width_of b.front * height_of b.front * (b.count + 1)) most)) (ne_eqb (bound_of b.front) GREATEST_AXIS (λ same. omega (arith, b.holds.2, same)))),
      )));
    })
cause_of most bytes (Bad NoFrames) (front, none) =
    stop_cause most bytes (Bad NoFrames) front
    (record {
      rest = [];
      count = 0;
      framed = record { frames = []; count_is = refl; each = tt; short = tt; is = none };
      stop = inr (inr (inr (refl, refl, refl)));
    })
cause_of most bytes ReadFault refuses = absurd refuses
cause_of most bytes NoMemory refuses = absurd refuses
cause_of most bytes (Bad Depth) refuses = absurd refuses
cause_of most bytes (Bad (Sample place)) refuses = absurd refuses
cause_of most bytes (Bad (Trailing place)) refuses = absurd refuses
cause_of most bytes (Limit Frames number bound) refuses = absurd refuses
cause_of most bytes (Limit Output number bound) refuses = absurd refuses
cause_of most bytes (Limit Loop number bound) refuses = absurd refuses
cause_of most bytes (Limit Records number bound) refuses = absurd refuses
cause_of most bytes (Limit Parts number bound) refuses = absurd refuses

-- No two of them hold with different refusals.

err_same : (e f : ReadError) (r : Result (Unit {0}) ReadError) → r ≡ Err e → r ≡ Err f → e ≡ f
err_same e f r a b = cc

ok_not_err : (e : ReadError) (r : Result (Unit {0}) ReadError) → r ≡ Ok tt → r ≡ Err e → ⊥
ok_not_err e r a b = cc

kind_stands : {bytes : List ℕ} (e : ReadError) → NoKind bytes e → KindLined bytes → ⊥
kind_stands e lacks lined = lacks.none lined.kind (subst (λ tags. HasSpaceKind tags lined.kind) (one_lined lined.lined.lined lacks.short.lined).tags lined.is_kind)

judged_not_front : {bytes : List ℕ} (most : ℕ) (e : ReadError) → Judged most bytes e → Fronted bytes most → ⊥
judged_not_front most e judged front = ok_not_err e _ (front_judged front) (one_judged most (of_front front) judged.lined ∙ judged.is)

same_front_stops : {bytes : List ℕ} (most : ℕ) (e : ReadError) (a b : Fronted bytes most) → Stops a.sized.kind (width_of a) (height_of a) most (length bytes) a.sized.lined.rest e → Stops b.sized.kind (width_of b) (height_of b) most (length bytes) b.sized.lined.rest e
same_front_stops {bytes} most e a b stops =
    let lined = one_lined a.sized.lined b.sized.lined in
    let kind = same_kind a.sized.lined b.sized.lined a.sized.kind b.sized.kind a.sized.is_kind b.sized.is_kind in
    let w : width_of a ≡ width_of b = λ i. cells_w (lined.tags i) (kind i) in
    let h : height_of a ≡ height_of b = λ i. cells_h (lined.tags i) (kind i) in
    subst (λ k. Stops k (width_of b) (height_of b) most (length bytes) b.sized.lined.rest e) kind
    (subst (λ n. Stops a.sized.kind n (height_of b) most (length bytes) b.sized.lined.rest e) w
    (subst (λ n. Stops a.sized.kind (width_of a) n most (length bytes) b.sized.lined.rest e) h
    (subst (λ t. Stops a.sized.kind (width_of a) (height_of a) most (length bytes) t e) lined.rest stops)))

same_cause : (most : ℕ) (bytes : List ℕ) (e f : ReadError) → Cause most bytes e → Cause most bytes f → e ≡ f
same_cause most bytes e f (inl a) (inl b) = a.2 ∙ ap (λ n. Bad (Form n)) (one_break bytes a.0 b.0 a.1 b.1) ∙ sym b.2
same_cause most bytes e f (inl a) (inr (inl b)) = absurd (break_not_long bytes a.0 a.1 b.0)
same_cause most bytes e f (inl a) (inr (inr (inl b))) = absurd (break_not_lined bytes a.0 b.short.lined a.1)
same_cause most bytes e f (inl a) (inr (inr (inr (inl b)))) = absurd (break_not_lined bytes a.0 b.lined.lined.lined a.1)
same_cause most bytes e f (inl a) (inr (inr (inr (inr b)))) = absurd (break_not_lined bytes a.0 b.front.sized.lined a.1)
same_cause most bytes e f (inr (inl a)) (inl b) = absurd (break_not_long bytes b.0 b.1 a.0)
same_cause most bytes e f (inr (inl a)) (inr (inl b)) = a.1 ∙ sym b.1
same_cause most bytes e f (inr (inl a)) (inr (inr (inl b))) = absurd (long_not_short bytes a.0 b.short)
same_cause most bytes e f (inr (inl a)) (inr (inr (inr (inl b)))) = absurd (long_not_short bytes a.0 b.lined.lined)
same_cause most bytes e f (inr (inl a)) (inr (inr (inr (inr b)))) = absurd (long_not_short bytes a.0 (record { lined = b.front.sized.lined; short = b.front.fits.line_fits }))
same_cause most bytes e f (inr (inr (inl a))) (inl b) = absurd (break_not_lined bytes b.0 a.short.lined b.1)
same_cause most bytes e f (inr (inr (inl a))) (inr (inl b)) = absurd (long_not_short bytes b.0 a.short)
same_cause most bytes e f (inr (inr (inl a))) (inr (inr (inl b))) = a.is ∙ sym b.is
same_cause most bytes e f (inr (inr (inl a))) (inr (inr (inr (inl b)))) = absurd (kind_stands e a b.lined)
same_cause most bytes e f (inr (inr (inl a))) (inr (inr (inr (inr b)))) = absurd (kind_stands e a (of_front b.front))
same_cause most bytes e f (inr (inr (inr (inl a)))) (inl b) = absurd (break_not_lined bytes b.0 a.lined.lined.lined b.1)
same_cause most bytes e f (inr (inr (inr (inl a)))) (inr (inl b)) = absurd (long_not_short bytes b.0 a.lined.lined)
same_cause most bytes e f (inr (inr (inr (inl a)))) (inr (inr (inl b))) = absurd (kind_stands f b a.lined)
same_cause most bytes e f (inr (inr (inr (inl a)))) (inr (inr (inr (inl b)))) = err_same e f (judged most a.lined) a.is (one_judged most a.lined b.lined ∙ b.is)
same_cause most bytes e f (inr (inr (inr (inl a)))) (inr (inr (inr (inr b)))) = absurd (judged_not_front most e a b.front)
same_cause most bytes e f (inr (inr (inr (inr a)))) (inl b) = absurd (break_not_lined bytes b.0 a.front.sized.lined b.1)
same_cause most bytes e f (inr (inr (inr (inr a)))) (inr (inl b)) = absurd (long_not_short bytes b.0 (record { lined = a.front.sized.lined; short = a.front.fits.line_fits }))
same_cause most bytes e f (inr (inr (inr (inr a)))) (inr (inr (inl b))) = absurd (kind_stands f b (of_front a.front))
same_cause most bytes e f (inr (inr (inr (inr a)))) (inr (inr (inr (inl b)))) = absurd (judged_not_front most f b a.front)
same_cause most bytes e f (inr (inr (inr (inr a)))) (inr (inr (inr (inr b)))) =
    one_stop b.front.sized.kind (width_of b.front) (height_of b.front) most (length bytes) b.front.sized.lined.rest e f (same_front_stops most e a.front b.front a.stops) b.stops

pub one_refusal : (most : ℕ) (bytes : List ℕ) (first second : ReadError) → RefusesClip most bytes first → RefusesClip most bytes second → first ≡ second
one_refusal most bytes first second a b = same_cause most bytes first second (cause_of most bytes first a) (cause_of most bytes second b)

-- A clip that is read has no refusal.

read_no_cause : (most : ℕ) (bytes : List ℕ) (clip : Clip) (e : ReadError) → IsReadClip most bytes clip → Cause most bytes e → ⊥
read_no_cause most bytes clip e read cause = wrong cause
  where
    front : Fronted bytes most
    front = record { sized = read.stands.sized; fits = read.fits }

    wrong : Cause most bytes e → ⊥
    wrong (inl a) = break_not_lined bytes a.0 read.stands.sized.lined a.1
    wrong (inr (inl a)) = long_not_short bytes a.0 (record { lined = read.stands.sized.lined; short = read.fits.line_fits })
    wrong (inr (inr (inl a))) = kind_stands e a (of_front front)
    wrong (inr (inr (inr (inl a)))) = judged_not_front most e a front
    wrong (inr (inr (inr (inr a)))) =
        none_stops read.stands.sized.kind (cells_w read.stands.sized.lined.tags read.stands.sized.kind) (cells_h read.stands.sized.lined.tags read.stands.sized.kind) most (length bytes) read.stands.sized.lined.rest read.stands.frames e
        read.stands.each read.short read.stands.is read.stands.some read.few (same_front_stops most e a.front front a.stops)

pub not_both : (most : ℕ) (bytes : List ℕ) (clip : Clip) (refusal : ReadError) → IsReadClip most bytes clip → RefusesClip most bytes refusal → ⊥
not_both most bytes clip refusal read refuses = read_no_cause most bytes clip refusal read (cause_of most bytes refusal refuses)
