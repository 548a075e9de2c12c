-- The writer's form of a picture stands for that picture.
use Rattle.std.proofs.Common.{◌≡◌, ℕ, ◌≤◌, ◌<◌, ◌+◌, ◌*◌, ◌-◌, ◌/◌, ◌%◌, ◌^◌, inl, inr, List, [], ◌∷◌, ◌++◌, length, refl, sym, ap, ◌∙◌, arith, append_assoc, decimal}
use Rattle.std.specs.Prelude.{codes}
use Rattle.std.specs.List.{AllByRecursion, concat}
use Rattle.std.proofs.lemmas.Fmt.{decimal_by_steps}
use Rattle.std.proofs.lemmas.List.{length-append, take_at, drop_at}
use Rattle.std.proofs.lemmas.List.Elements.{All-from_recursion, recursion_from_All}
use Rattle.cells.specs.declared.place.Size.{Size}
use Rattle.cells.specs.Places.{cell_count}
use Rattle.cells.specs.Parts.{count_from}
use Rattle.cells.specs.Cells.{Cells, IsCell, IsOnePart, IsVolume, cells_of, volume_of, bytes_of}
use Rattle.limits.specs.declared.bounds.TheConstants.{MOST_HEADER_BYTES, MOST_SAMPLE_CELLS}
use Rattle.shelf_traits.specs.Decimals.{IsDigit}
use Rattle.netpbm_p6.specs.Header.{digits_number, IsNumber, IsGroup, IsHeader, IsWhite}
use Rattle.netpbm_p6.specs.Pictures.{picture_size, IsPictureOf, IsRead, IsPicture, p6_form}
use Rattle.netpbm_p6.proofs.Shapes.{AllByRecursion-push, length-push, value-push, one_item, white_item}

-- Numbers in decimal.

record WritesNumber (n : ℕ) (text : List ℕ) : Type 0 where
  some : 1 ≤ length text
  digits : AllByRecursion IsDigit text
  value : digits_number text ≡ n

decimal_writes : (n : ℕ) → n < 2 ^ 64 → WritesNumber n (decimal n)
decimal_writes n small = decimal_by_steps WritesNumber one more n small
  where
    one : (n' : ℕ) → n' < 10 → WritesNumber n' ((48 + n') ∷ [])
    one n' below = record { some = omega arith; digits = ((omega arith, omega arith), tt); value = omega arith }

    more : (n' : ℕ) (text : List ℕ) → 10 ≤ n' → WritesNumber (n' / 10) text → WritesNumber n' (text ++ ((48 + n' % 10) ∷ []))
    more n' text least writes = record {
      some = length-push text (48 + n' % 10);
      digits = AllByRecursion-push IsDigit text (48 + n' % 10) writes.digits (omega arith, omega arith);
      value = value-push 0 text (48 + n' % 10) ∙ ap (λ v. 10 * v + (48 + n' % 10 - 48)) writes.value ∙ omega arith;
    }

decimal_number : (n : ℕ) → 1 ≤ n → n < 2 ^ 64 → IsNumber (decimal n) n
decimal_number n least small =
    let writes = decimal_writes n small in
    record { some = writes.some; digits = All-from_recursion IsDigit (decimal n) writes.digits; value = writes.value; positive = least }

-- a white space byte and a number
white_group : (b n : ℕ) → IsWhite b → 1 ≤ n → n < 2 ^ 64 → IsGroup (b ∷ decimal n) n
white_group b n white least small = record {
  separator = b ∷ [];
  number = decimal n;
  separates = one_item (b ∷ []) (white_item b white);
  counts = decimal_number n least small;
  is = refl;
}

header_text : (w h m : List ℕ) → codes "P6\n" ++ w ++ codes " " ++ h ++ codes "\n" ++ m ++ codes "\n" ≡ codes "P6" ++ (10 ∷ w) ++ (32 ∷ h) ++ (10 ∷ m) ++ 10 ∷ []
header_text w h m = simp append_assoc

form_header : (w h m : ℕ) → 1 ≤ w → w < 2 ^ 64 → 1 ≤ h → h < 2 ^ 64 → 1 ≤ m → m < 2 ^ 64
    → IsHeader (codes "P6\n" ++ decimal w ++ codes " " ++ decimal h ++ codes "\n" ++ decimal m ++ codes "\n") w h m
form_header w h m w_some w_small h_some h_small m_some m_small = record {
  first = 10 ∷ decimal w;
  second = 32 ∷ decimal h;
  third = 10 ∷ decimal m;
  white = 10;
  gives_width = white_group 10 w (inr (inr (inr refl))) w_some w_small;
  gives_height = white_group 32 h (inl refl) h_some h_small;
  gives_maxval = white_group 10 m (inr (inr (inr refl))) m_some m_small;
  is_white = inr (inr (inr refl));
  is = header_text (decimal w) (decimal h) (decimal m);
}

-- The raster.

length_cells : (k : ℕ) (cells : List (List ℕ)) → AllByRecursion (IsCell k) cells → length (concat cells) ≡ k * length cells
length_cells k [] each = omega arith
length_cells k (cell ∷ cells) each = omega (arith, length-append cell (concat cells), each.0.samples, length_cells k cells each.1)

cells_again : (k : ℕ) (cells : List (List ℕ)) → AllByRecursion (IsCell k) cells → cells_of k (length cells) (concat cells) ≡ cells
cells_again k [] each = refl
cells_again k (cell ∷ cells) each =
    (λ j. take_at cell (concat cells) k each.0.samples j ∷ cells_of k (length cells) (drop_at cell (concat cells) k each.0.samples j)) ∙ ap (λ rest. cell ∷ rest) (cells_again k cells each.1)

same_size : (size : Size) → size.f ≡ 1 → picture_size size.w size.h ≡ size
same_size size one = λ i. record { w = size.w; h = size.h; f = sym one i }

same_volume : (a b : Cells) → a.size ≡ b.size → a.more ≡ b.more → a.k ≡ b.k → a.cells ≡ b.cells → a ≡ b
same_volume a b size more k cells = λ i. record { size = size i; more = more i; k = k i; cells = cells i }

volume_again : (volume : Cells) → IsVolume volume → IsOnePart volume → volume.size.f ≡ 1 → volume.k ≡ 3 → volume_of (picture_size volume.size.w volume.size.h) 3 (bytes_of volume) ≡ volume
volume_again volume is one frames colours =
    let size = same_size volume.size frames in
    let each = recursion_from_All (IsCell volume.k) volume.cells is.cells in
    same_volume (volume_of (picture_size volume.size.w volume.size.h) 3 (bytes_of volume)) volume size (sym one) (sym colours)
    ((λ i. cells_of (sym colours i) (cell_count (size i)) (bytes_of volume)) ∙ ap (λ n. cells_of volume.k n (bytes_of volume)) (sym (is.count ∙ ap (count_from volume.size) one)) ∙ cells_again volume.k volume.cells each)

raster_whole : (volume : Cells) → IsVolume volume → IsOnePart volume → volume.size.f ≡ 1 → volume.k ≡ 3 → length (bytes_of volume) ≡ 3 * (volume.size.w * volume.size.h)
raster_whole volume is part frames colours =
    let one : volume.size.h * 1 ≡ volume.size.h = omega arith in
    length_cells volume.k volume.cells (recursion_from_All (IsCell volume.k) volume.cells is.cells)
    ∙ (λ i. colours i * (is.count ∙ ap (count_from volume.size) part) i) ∙ ap (λ f. 3 * (volume.size.w * (volume.size.h * f))) frames ∙ ap (λ h. 3 * (volume.size.w * h)) one

pub read_again : (maxval : ℕ) (volume : Cells) → IsPicture maxval volume → IsPictureOf (p6_form maxval volume) (record { maxval = maxval; volume = volume })
read_again maxval volume picture =
    let axes = picture.volume_is.small.axes in
    record {
      headed = record {
        header = codes "P6\n" ++ decimal volume.size.w ++ codes " " ++ decimal volume.size.h ++ codes "\n" ++ decimal maxval ++ codes "\n";
        raster = bytes_of volume;
        width = volume.size.w;
        height = volume.size.h;
        maxval = maxval;
        is_header = form_header volume.size.w volume.size.h maxval axes.w.0 (omega (arith, axes.w.1)) axes.h.0 (omega (arith, axes.h.1)) picture.positive (omega (arith, picture.fits));
        is = refl;
      };
      depth = picture.fits;
      whole = raster_whole volume picture.volume_is picture.one picture.frames picture.colours;
      samples = picture.samples;
      maxval = refl;
      volume = sym (volume_again volume picture.volume_is picture.one picture.frames picture.colours);
    }

-- Within the limits.

record IsShortText (n : ℕ) (text : List ℕ) : Type 0 where
  short : length text ≤ n + 1

decimal_short : (n : ℕ) → n < 2 ^ 64 → IsShortText n (decimal n)
decimal_short n small = decimal_by_steps IsShortText one more n small
  where
    one : (n' : ℕ) → n' < 10 → IsShortText n' ((48 + n') ∷ [])
    one n' below = record { short = omega arith }

    more : (n' : ℕ) (text : List ℕ) → 10 ≤ n' → IsShortText (n' / 10) text → IsShortText n' (text ++ ((48 + n' % 10) ∷ []))
    more n' text least writes = record { short = omega (arith, length-append text ((48 + n' % 10) ∷ []), writes.short) }

header_short : (w h m : List ℕ) → length w ≤ 4097 → length h ≤ 4097 → length m ≤ 256 → length (codes "P6\n" ++ w ++ codes " " ++ h ++ codes "\n" ++ m ++ codes "\n") ≤ MOST_HEADER_BYTES
header_short w h m ws hs ms =
    omega (
      arith,
      ws,
      hs,
      ms,
      length-append (codes "P6\n") w,
      length-append (codes "P6\n" ++ w) (codes " "),
      length-append (codes "P6\n" ++ w ++ codes " ") h,
      length-append (codes "P6\n" ++ w ++ codes " " ++ h) (codes "\n"),
      length-append (codes "P6\n" ++ w ++ codes " " ++ h ++ codes "\n") m,
      length-append (codes "P6\n" ++ w ++ codes " " ++ h ++ codes "\n" ++ m) (codes "\n"),
    )

pub written_is_read : (maxval : ℕ) (volume : Cells) → IsPicture maxval volume → cell_count volume.size ≤ MOST_SAMPLE_CELLS → IsRead (p6_form maxval volume) (record { maxval = maxval; volume = volume })
unfolding read_again
written_is_read maxval volume picture few =
    let axes = picture.volume_is.small.axes in
    let one : volume.size.h * 1 ≡ volume.size.h = omega arith in
    let count : cell_count volume.size ≡ volume.size.w * volume.size.h = ap (λ f. volume.size.w * (volume.size.h * f)) picture.frames ∙ ap (λ h. volume.size.w * h) one in
    record {
      stands = read_again maxval volume picture;
      limits = record {
        header_fits = header_short (decimal volume.size.w) (decimal volume.size.h) (decimal maxval)
            (omega (arith, axes.w.1, (decimal_short volume.size.w (omega (arith, axes.w.1))).short))
            (omega (arith, axes.h.1, (decimal_short volume.size.h (omega (arith, axes.h.1))).short))
            (omega (arith, picture.fits, (decimal_short maxval (omega (arith, picture.fits))).short));
        width_fits = axes.w.1;
        height_fits = axes.h.1;
        cells_fit = omega (arith, few, count);
      };
    }
