use Rattle.std.proofs.lemmas.Grind.{common_steps}
use Rattle.std.proofs.Common.{◌≡◌, ℕ, List, take, ◌≤◌, arith, length, subst, sym, ◌+◌, ◌∙◌}
use Rattle.std.proofs.lemmas.Result.{err_from_is_err_and}
use Rattle.std.specs.Prelude.{IfOk, Result, Ok}
use Rattle.limits.specs.declared.bounds.TheConstants.{MOST_LINE_BYTES}
use Rattle.shelf_traits.specs.Files.{Reads, content_of}
use Rattle.shelf_traits.specs.declared.fault.ReadError.{ReadError}
use Rattle.y4m_clip.specs.declared.scan.ScannedLine.{ScannedLine}
use Rattle.y4m_clip.specs.Reading.{FindsLineAs, HasShortLine, HasLine, IsLineOf, IsStreamScanned, line_judged}
use Rattle.shelf_traits.proofs.Sees.{sees_both, sees_weaker}
use Rattle.y4m_clip.proofs.FileLines.{finds_as, front_same, judged_sound, judged_line}
use Rattle.y4m_clip.proofs.Words.{has_line, are_tags}
use Rattle.y4m_clip.proofs.line.read_line.Goals as goal

-- the line that was found, as the scanner judged it
sound_line : (buffer : List ℕ) (count n : ℕ) (scanned : ScannedLine) (judged : Result ℕ ReadError) → IsStreamScanned (take count buffer) scanned → judged ≡ line_judged count scanned → judged ≡ Ok n
    → (10 ≤ n) × (n ≤ MOST_LINE_BYTES)
sound_line buffer count n scanned judged is by found = subst (λ r. IfOk r (λ n. (10 ≤ n) × (n ≤ MOST_LINE_BYTES))) (sym by ∙ found) (judged_sound (take count buffer) count scanned is)

inside_line : (buffer : List ℕ) (count n : ℕ) (scanned : ScannedLine) (judged : Result ℕ ReadError) → IsStreamScanned (take count buffer) scanned → count ≤ length buffer → judged ≡ line_judged count scanned → judged ≡ Ok n
    → (n ≤ count) × IsLineOf (take n buffer)
inside_line buffer count n scanned judged is le by found = subst (λ r. IfOk r (λ n. (n ≤ count) × IsLineOf (take n buffer))) (sym by ∙ found) (judged_line buffer count scanned is le)

pub returns-in_err-length-clause-line : goal.returns-in_err-length-clause-line
returns-in_err-length-clause-line g c =
    let name = c.args.name.now in
    let was = g.S.Shelf.state c.args.shelf.now in
    let now = g.S.Shelf.state c.get.new.self in
    let buffer = c.get.new.into in
    let count = c.in_ok-count.count in
    let room : length buffer ≡ MOST_LINE_BYTES + 1 = omega arith in
    let p = err_from_is_err_and c.from_residual-in_err-length.result c.from_residual-in_err-length.ensures.1 in
    rw (p.1, p.2)
    (subst (FindsLineAs name was now) (sym c.judge.ensures ∙ c.in_err-length.was {u = tt})
    (finds_as name buffer count c.scan_stream.result was now room c.in_ok-count.ensures.read c.scan_stream.ensures.scanned))

pub returns-clause-line : goal.returns-clause-line
returns-clause-line g c =
    let name = c.args.name.now in
    let was = g.S.Shelf.state c.args.shelf.now in
    let now = g.S.Shelf.state c.get.new.self in
    let buffer = c.get.new.into in
    let count = c.in_ok-count.count in
    let n = c.in_ok-length.length in
    let scanned = c.scan_stream.result in
    let is = c.scan_stream.ensures.scanned in
    let ok = c.in_ok-length.was {u = tt} in
    let room : length buffer ≡ MOST_LINE_BYTES + 1 = omega arith in
    let within : count ≤ length buffer = omega (arith, c.in_ok-count.ensures.within) in
    let sound = sound_line buffer count n scanned c.judge.result is c.judge.ensures ok in
    let inside = inside_line buffer count n scanned c.judge.result is within c.judge.ensures ok in
    let long : n ≤ length buffer = omega (arith, inside.0, within) in
    sees_both (λ files. HasShortLine (content_of files name) n) (λ files. take n buffer ≡ take n (content_of files name))
    (λ files. HasLine (content_of files name) (record { tags = c.from_vec.result; length = n })) was now
    (λ files found front. has_line (content_of files name) buffer n c.from_vec.result long sound.0 found front (c.from_vec.ensures ∙ c.in_ok-tags.ensures))
    (subst (FindsLineAs name was now) (sym c.judge.ensures ∙ ok) (finds_as name buffer count scanned was now room c.in_ok-count.ensures.read is))
    (sees_weaker (λ files. Reads (content_of files name) 0 buffer count) (λ files. take n buffer ≡ take n (content_of files name)) was now
    (λ files read. front_same (content_of files name) buffer count n inside.0 read) c.in_ok-count.ensures.read)

pub returns-clause-tags : goal.returns-clause-tags
returns-clause-tags g c =
    let buffer = c.get.new.into in
    let count = c.in_ok-count.count in
    let n = c.in_ok-length.length in
    let ok = c.in_ok-length.was {u = tt} in
    let within : count ≤ length buffer = omega (arith, c.in_ok-count.ensures.within) in
    let sound = sound_line buffer count n c.scan_stream.result c.judge.result c.scan_stream.ensures.scanned c.judge.ensures ok in
    let inside = inside_line buffer count n c.scan_stream.result c.judge.result c.scan_stream.ensures.scanned within c.judge.ensures ok in
    are_tags buffer n c.from_vec.result sound.0 inside.1 (c.from_vec.ensures ∙ c.in_ok-tags.ensures)

pub returns-clause-short : goal.returns-clause-short
returns-clause-short g c =
    let sound = sound_line c.get.new.into c.in_ok-count.count c.in_ok-length.length c.scan_stream.result c.judge.result c.scan_stream.ensures.scanned c.judge.ensures (c.in_ok-length.was {u = tt}) in
    omega (arith, sound.1)

pub slice_bounds-gather_all-end : goal.slice_bounds-gather_all-end
slice_bounds-gather_all-end g c =
    let sound = sound_line c.get.new.into c.in_ok-count.count c.in_ok-length.length c.scan_stream.result c.judge.result c.scan_stream.ensures.scanned c.judge.ensures (c.in_ok-length.was {u = tt}) in
    grind (arith, common_steps, sound)

pub slice_bounds-gather_all-count : goal.slice_bounds-gather_all-count
slice_bounds-gather_all-count g c =
    let sound = sound_line c.get.new.into c.in_ok-count.count c.in_ok-length.length c.scan_stream.result c.judge.result c.scan_stream.ensures.scanned c.judge.ensures (c.in_ok-length.was {u = tt}) in
    grind (arith, common_steps, sound)

pub slice_bounds-gather_all-start : goal.slice_bounds-gather_all-start
slice_bounds-gather_all-start g c =
    let sound = sound_line c.get.new.into c.in_ok-count.count c.in_ok-length.length c.scan_stream.result c.judge.result c.scan_stream.ensures.scanned c.judge.ensures (c.in_ok-length.was {u = tt}) in
    grind (arith, common_steps, sound)
