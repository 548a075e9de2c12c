-- What the scanner makes of a file's front tells the answer of its stream line.
use Rattle.std.proofs.Common.{◌≡◌, ℕ, zero, suc, ◌≤◌, ◌<◌, ◌+◌, ◌-◌, inl, inr, List, [], ◌∷◌, ◌++◌, length, take, drop, min, refl, sym, ap, ◌∙◌, subst, arith, append_assoc, Bool, true, false, cond}
use Rattle.std.specs.Prelude.{Some, None, nat_lt, replicate, Ok, Err, IfOk}
use Rattle.std.proofs.lemmas.List.{append-nil, length-append, take-append-drop, length-take-le, take-take, length-drop}
use Rattle.std.proofs.lemmas.Bool.{ltb-true, ltb-false}
use Rattle.limits.specs.declared.bounds.TheConstants.{MOST_LINE_BYTES}
use Rattle.shelf_traits.specs.declared.fault.ReadError.TheVariants.{Bad, Limit}
use Rattle.shelf_traits.specs.declared.fault.FormFault.TheVariants.{Form}
use Rattle.shelf_traits.specs.declared.fault.What.TheVariants.{Header}
use Rattle.shelf_traits.specs.Files.{ShelfState, Reads, content_of, Changes}
use Rattle.y4m_clip.specs.declared.scan.LineScan.TheVariants.{Magic, Whole}
use Rattle.y4m_clip.specs.declared.scan.ScannedLine.{ScannedLine}
use Rattle.y4m_clip.specs.declared.scan.ScannedLine.TheVariants.{Open, Broken, Ended}
use Rattle.y4m_clip.specs.StreamLine.{Continues, IsStreamLine, IsLinePrefix, IsProperLinePrefix}
use Rattle.y4m_clip.specs.Scanning.{line_run}
use Rattle.y4m_clip.specs.Reading.{GoesWrong, EndsAfter, IsStreamScanned, IsLineOf, line_judged, IsLineFound, FindsLineAs}
use Rattle.y4m_clip.specs.Refusals.{LineBreaks}
use Rattle.y4m_clip.proofs.Runs.{run_then}
use Rattle.y4m_clip.proofs.Prefixes.{magic, line_runs}
use Rattle.shelf_traits.proofs.Sees.{Sees, sees_weaker}

-- No stream line is the front of another.

nothing_behind : (text : List ℕ) → line_run Whole text ≡ Some Whole → text ≡ []
nothing_behind [] run = refl
nothing_behind (b ∷ text) run = let none : None ≡ Some Whole = run in cc

runs_at : (line : List ℕ) (tags : List (List ℕ)) → (is : IsStreamLine line tags) → line_run Magic is.rest ≡ Some Whole
runs_at line tags is = line_runs is.rest tags (subst (λ t. IsStreamLine t tags) is.is is)

pub no_longer : (line more : List ℕ) (tags tags' : List (List ℕ)) → IsStreamLine line tags → IsStreamLine (line ++ more) tags' → more ≡ []
no_longer line more tags tags' first second =
    let joined : first.rest ++ more ≡ second.rest = ap (drop 9) (ap (λ t. t ++ more) (sym first.is) ∙ second.is) in
    let both : line_run Magic (first.rest ++ more) ≡ Some Whole = ap (line_run Magic) joined ∙ runs_at (line ++ more) tags' second in
    nothing_behind more (sym (run_then Magic Whole (line_run Whole more) first.rest more (runs_at line tags first) refl) ∙ both)

pub shorter_prefix : (text : List ℕ) (i : ℕ) → IsLinePrefix text → IsLinePrefix (take i text)
shorter_prefix text i prefix = record {
  rest = drop i text ++ prefix.rest;
  tags = prefix.tags;
  line = subst (λ t. IsStreamLine t prefix.tags) (ap (λ t. t ++ prefix.rest) (sym (take-append-drop i text)) ∙ append_assoc (take i text) (drop i text) prefix.rest) prefix.line;
}

-- so a shorter front is a proper one
pub proper_shorter : (text : List ℕ) (i : ℕ) → IsLinePrefix text → i < length text → IsProperLinePrefix (take i text)
unfolding shorter_prefix
proper_shorter text i prefix shorter = record {
  starts = shorter_prefix text i prefix;
  proper = λ tags line.
      let none : drop i text ++ prefix.rest ≡ []
      = no_longer (take i text) (drop i text ++ prefix.rest) tags prefix.tags line (shorter_prefix text i prefix).line in
      omega (arith, ap length none, length-append (drop i text) prefix.rest, length-drop i text);
}

-- The front of a file.

front_of : (bytes : List ℕ) (count i : ℕ) → i ≤ count → take i (take count bytes) ≡ take i bytes
front_of bytes count i le = take-take i count bytes le

open_found : (bytes : List ℕ) (count : ℕ) (past : Bool) → count ≡ min (MOST_LINE_BYTES + 1) (length bytes) → nat_lt MOST_LINE_BYTES count ≡ past → IsProperLinePrefix (take count bytes)
    → IsLineFound bytes (cond past (Err (Limit Header (MOST_LINE_BYTES + 1) MOST_LINE_BYTES)) (Err (Bad (Form count))))
open_found bytes count true is e proper =
    let more : MOST_LINE_BYTES < count = ltb-true MOST_LINE_BYTES count e in
    let all : count ≡ MOST_LINE_BYTES + 1 = omega arith in (
      record {
        longer = omega arith;
        starts = subst IsProperLinePrefix (front_of bytes count MOST_LINE_BYTES (omega arith)) (proper_shorter (take count bytes) MOST_LINE_BYTES proper.starts (omega (arith, length-take-le count bytes (omega arith))));
        lawful = subst (λ n. IsLinePrefix (take n bytes)) all proper.starts;
      },
      refl,
      refl,
    )
open_found bytes count false is e proper =
    let few : count ≤ MOST_LINE_BYTES = ltb-false MOST_LINE_BYTES count e in
    record { early = few; inside = omega arith; before = proper; here = inl (omega arith) }

ended_found : (bytes : List ℕ) (count n : ℕ) (past : Bool) → count ≡ min (MOST_LINE_BYTES + 1) (length bytes) → nat_lt MOST_LINE_BYTES n ≡ past → EndsAfter (take count bytes) n
    → IsLineFound bytes (cond past (Err (Limit Header (MOST_LINE_BYTES + 1) MOST_LINE_BYTES)) (Ok n))
ended_found bytes count n true is e ends =
    let more : MOST_LINE_BYTES < n = ltb-true MOST_LINE_BYTES n e in
    let room : length (take count bytes) ≡ count = length-take-le count bytes (omega arith) in
    let all : n ≡ MOST_LINE_BYTES + 1 = omega (arith, ends.inside) in
    let before : n - 1 ≡ MOST_LINE_BYTES = omega arith in (
      record {
        longer = omega (arith, ends.inside);
        starts = subst IsProperLinePrefix (ap (λ m. take m (take count bytes)) before ∙ front_of bytes count MOST_LINE_BYTES (omega (arith, ends.inside))) ends.before;
        lawful = record {
          rest = [];
          tags = ends.line.0;
          line = subst (λ t. IsStreamLine t ends.line.0) (front_of bytes count n (omega (arith, ends.inside)) ∙ ap (λ m. take m bytes) all ∙ sym (append-nil (take (MOST_LINE_BYTES + 1) bytes))) ends.line.1;
        };
      },
      refl,
      refl,
    )
ended_found bytes count n false is e ends =
    let few : n ≤ MOST_LINE_BYTES = ltb-false MOST_LINE_BYTES n e in
    let room : length (take count bytes) ≡ count = length-take-le count bytes (omega arith) in
    let le : n ≤ count = omega (arith, ends.inside) in (
      record {
        some = ends.some;
        inside = omega arith;
        before = subst IsProperLinePrefix (front_of bytes count (n - 1) (omega arith)) ends.before;
        line = (ends.line.0, subst (λ t. IsStreamLine t ends.line.0) (front_of bytes count n le) ends.line.1);
      },
      few,
    )

broken_found : (bytes : List ℕ) (count i : ℕ) → count ≡ min (MOST_LINE_BYTES + 1) (length bytes) → GoesWrong (take count bytes) i → LineBreaks bytes i
broken_found bytes count i is wrong =
    let room : length (take count bytes) ≡ count = length-take-le count bytes (omega arith) in
    let less : i < count = omega (arith, wrong.inside) in
    record {
      early = omega arith;
      inside = omega arith;
      before = subst IsProperLinePrefix (front_of bytes count i (omega arith)) wrong.before;
      here = inr (omega arith, λ prefix. wrong.here (subst IsLinePrefix (sym (front_of bytes count (i + 1) (omega arith))) prefix));
    }

pub line_found : (bytes buffer : List ℕ) (count : ℕ) (scanned : ScannedLine) → length buffer ≡ MOST_LINE_BYTES + 1 → Reads bytes 0 buffer count → IsStreamScanned (take count buffer) scanned
    → IsLineFound bytes (line_judged count scanned)
line_found bytes buffer count scanned room reads is = by scanned (subst (λ t. IsStreamScanned t scanned) reads.read is)
  where
    all : count ≡ min (MOST_LINE_BYTES + 1) (length bytes)
    all = omega (arith, reads.count)

    by : (s : ScannedLine) → IsStreamScanned (take count bytes) s → IsLineFound bytes (line_judged count s)
    by Open proper = open_found bytes count (nat_lt MOST_LINE_BYTES count) all refl proper
    by (Broken i) wrong = broken_found bytes count i all wrong
    by (Ended n) ends = ended_found bytes count n (nat_lt MOST_LINE_BYTES n) all refl ends

-- as the shelf tells it
pub finds_as : (name buffer : List ℕ) (count : ℕ) (scanned : ScannedLine) (a b : ShelfState) → length buffer ≡ MOST_LINE_BYTES + 1 → Changes a b (λ was now. Reads (content_of was name) 0 buffer count)
    → IsStreamScanned (take count buffer) scanned → FindsLineAs name a b (line_judged count scanned)
finds_as name buffer count scanned a b room reads is =
    by scanned
    (sees_weaker (λ files. Reads (content_of files name) 0 buffer count) (λ files. IsLineFound (content_of files name) (line_judged count scanned)) a b
    (λ files read. line_found (content_of files name) buffer count scanned room read is) reads)
  where
    limit_or_form : (past : Bool) → Sees a b (λ files. IsLineFound (content_of files name) (cond past (Err (Limit Header (MOST_LINE_BYTES + 1) MOST_LINE_BYTES)) (Err (Bad (Form count)))))
        → FindsLineAs name a b (cond past (Err (Limit Header (MOST_LINE_BYTES + 1) MOST_LINE_BYTES)) (Err (Bad (Form count))))
    limit_or_form true seen = seen
    limit_or_form false seen = seen

    limit_or_length : (n : ℕ) (past : Bool) → Sees a b (λ files. IsLineFound (content_of files name) (cond past (Err (Limit Header (MOST_LINE_BYTES + 1) MOST_LINE_BYTES)) (Ok n)))
        → FindsLineAs name a b (cond past (Err (Limit Header (MOST_LINE_BYTES + 1) MOST_LINE_BYTES)) (Ok n))
    limit_or_length n true seen = seen
    limit_or_length n false seen = seen

    by : (s : ScannedLine) → Sees a b (λ files. IsLineFound (content_of files name) (line_judged count s)) → FindsLineAs name a b (line_judged count s)
    by Open seen = limit_or_form (nat_lt MOST_LINE_BYTES count) seen
    by (Broken i) seen = seen
    by (Ended n) seen = limit_or_length n (nat_lt MOST_LINE_BYTES n) seen

-- a whole line has more bytes than the magic
some_continues : (letters : List ℕ) (tags : List (List ℕ)) (text : List ℕ) → Continues letters tags text → 1 ≤ length text
some_continues letters [] text (both, zero, is) = omega (arith, ap length is)
some_continues letters [] text (both, suc n, is) = let e : text ≡ 32 ∷ (replicate n 32 ++ 10 ∷ []) = is in omega (arith, ap length e)
some_continues letters ([] ∷ tags) text goes = absurd goes
some_continues letters ((letter ∷ value) ∷ tags) text goes = let e : text ≡ 32 ∷ (replicate goes.3 32 ++ letter ∷ value ++ goes.4) = goes.5 in omega (arith, ap length e)

pub judged_sound : (text : List ℕ) (count : ℕ) (scanned : ScannedLine) → IsStreamScanned text scanned → IfOk (line_judged count scanned) (λ n. (10 ≤ n) × (n ≤ MOST_LINE_BYTES))
judged_sound text count Open is = tested (nat_lt MOST_LINE_BYTES count)
  where
    tested : (past : Bool) → IfOk (cond past (Err (Limit Header (MOST_LINE_BYTES + 1) MOST_LINE_BYTES)) (Err (Bad (Form count)))) (λ n. (10 ≤ n) × (n ≤ MOST_LINE_BYTES))
    tested true = tt
    tested false = tt
judged_sound text count (Broken i) is = tt
judged_sound text count (Ended n) is = tested (nat_lt MOST_LINE_BYTES n) refl
  where
    whole : IsStreamLine (take n text) is.line.0
    whole = is.line.1

    tested : (past : Bool) → nat_lt MOST_LINE_BYTES n ≡ past → IfOk (cond past (Err (Limit Header (MOST_LINE_BYTES + 1) MOST_LINE_BYTES)) (Ok n)) (λ m. (10 ≤ m) × (m ≤ MOST_LINE_BYTES))
    tested true e = tt
    tested false e = (omega (arith, length-take-le n text is.inside, ap length whole.is, length-append magic whole.rest, some_continues [] is.line.0 whole.rest whole.continues), ltb-false MOST_LINE_BYTES n e)

-- the line that was found is in what was scanned
pub judged_line : (buffer : List ℕ) (count : ℕ) (scanned : ScannedLine) → IsStreamScanned (take count buffer) scanned → count ≤ length buffer → IfOk (line_judged count scanned) (λ n. (n ≤ count) × IsLineOf (take n buffer))
judged_line buffer count Open is le = tested (nat_lt MOST_LINE_BYTES count)
  where
    tested : (past : Bool) → IfOk (cond past (Err (Limit Header (MOST_LINE_BYTES + 1) MOST_LINE_BYTES)) (Err (Bad (Form count)))) (λ n. (n ≤ count) × IsLineOf (take n buffer))
    tested true = tt
    tested false = tt
judged_line buffer count (Broken i) is le = tt
judged_line buffer count (Ended n) is le = tested (nat_lt MOST_LINE_BYTES n)
  where
    inside : n ≤ count
    inside = omega (arith, is.inside, length-take-le count buffer le)

    tested : (past : Bool) → IfOk (cond past (Err (Limit Header (MOST_LINE_BYTES + 1) MOST_LINE_BYTES)) (Ok n)) (λ m. (m ≤ count) × IsLineOf (take m buffer))
    tested true = tt
    tested false = (inside, (is.line.0, subst (λ t. IsStreamLine t is.line.0) (take-take n count buffer inside) is.line.1))

-- what was read is the front of the file
pub front_same : (bytes buffer : List ℕ) (count n : ℕ) → n ≤ count → Reads bytes 0 buffer count → take n buffer ≡ take n bytes
front_same bytes buffer count n le reads = sym (take-take n count buffer le) ∙ ap (take n) reads.read ∙ take-take n count bytes le
