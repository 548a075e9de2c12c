use Rattle.std.proofs.lemmas.Grind.{common_steps}
use Rattle.std.proofs.Common.{◌≡◌, ◌<◌, ◌≤◌, ◌+◌, ◌*◌, ◌∙◌, ℕ, List, [], ◌∷◌, ap, sym, subst, arith, below_more}
use mathlib.Core.Bool.{false≢true}
use Rattle.limits.specs.declared.bounds.TheConstants.{GREATEST_AXIS}
use Rattle.cells.specs.declared.place.At.{At}
use Rattle.cells.specs.declared.place.Size.{Size}
use Rattle.cells.specs.Places.{cell_count, place_of}
use Rattle.standing_files.specs.Standing.{IsCopied, IsCopiedAt, map_output, named_source}
use Rattle.standing_files.proofs.Sizes.{first_is}
use Rattle.standing_files.proofs.RunLaws.{near_place, row_ends, row_more}
use Rattle.standing_files.proofs.picture.first_in_row.Goals as goal

one_part : (size other : Size) (more : List Size) → size ∷ more ≡ other ∷ [] → more ≡ []
one_part size other more same = cc

-- the cells of the rows with one more end where the row does
row_end : (w row : ℕ) → w * (row + 1) ≡ w * row + w
row_end w row = grind arith

pub size-size-requires : goal.size-size-requires
size-size-requires c = one_part _ _ _ c.requires.one

pub place_at-requires-clause-below : goal.place_at-requires-clause-below
place_at-requires-clause-below c =
    let size = map_output c.args.map_file.now in
    let same = c.size-size.ensures.size ∙ first_is _ _ _ _ c.requires.one in
    let some = rw (first_is _ _ _ _ c.requires.one) at c.size-size.ensures.volume.small.axes.w in
    rw same (omega (arith, row_ends size c.args.row c.requires.row, some))

pub is_run_copied-requires-clause-few : goal.is_run_copied-requires-clause-few
is_run_copied-requires-clause-few c = subst (λ (size : Size). size.w ≤ GREATEST_AXIS) (sym c.size-size.ensures.size) c.size-size.ensures.volume.small.axes.w.1

pub is_run_copied-requires-clause-near : goal.is_run_copied-requires-clause-near
is_run_copied-requires-clause-near c =
    near_place c.place_at.result c.size-size.result _ c.place_at.ensures
    (subst (λ (size : Size). (1 ≤ size.w) × (size.w ≤ GREATEST_AXIS)) (sym c.size-size.ensures.size) c.size-size.ensures.volume.small.axes.w)

pub returns-then-is_run_copied-clause-none : goal.returns-then-is_run_copied-clause-none
returns-then-is_run_copied-clause-none c =
    let samples = c.args.samples.now in
    let picture = c.args.picture.now in
    let map_file = c.args.map_file.now in
    let same = c.size-size.ensures.size ∙ first_is _ _ _ _ c.requires.one in
    row_more (map_output map_file) c.args.row (λ (p : At). IsCopied samples picture (named_source map_file p) p) c.requires.before
    (rw (c.place_at.ensures, same) at (c.is_run_copied.ensures c.if-is_run_copied.true))

pub returns-then-is_run_copied-clause-some : goal.returns-then-is_run_copied-clause-some
returns-then-is_run_copied-clause-some c = tt

pub loop-i-init : goal.loop-i-init
loop-i-init c =
    let same = c.size-size.ensures.size ∙ first_is _ _ _ _ c.requires.one in
    subst (λ (size : Size). (k : ℕ) → k < size.w * c.args.row → IsCopiedAt c.args.samples.now c.args.picture.now c.args.map_file.now k) (sym same) c.requires.before

pub place_at-p-requires-clause-below : goal.place_at-p-requires-clause-below
place_at-p-requires-clause-below c =
    let size = map_output c.args.map_file.now in
    let same = c.size-size.ensures.size ∙ first_is _ _ _ _ c.requires.one in
    let inside = rw same at c.loop-i-test.true in
    rw same (omega (arith, row_ends size c.args.row c.requires.row, inside))

pub loop-i-preserved : goal.loop-i-preserved
loop-i-preserved c =
    let samples = c.args.samples.now in
    let picture = c.args.picture.now in
    let map_file = c.args.map_file.now in
    let i = c.loop-i.i in
    let p = c.place_at-p.result in
    let here : p ≡ place_of (map_output map_file) i = c.place_at-p.ensures ∙ ap (λ size. place_of size i) (c.size-size.ensures.size ∙ first_is _ _ _ _ c.requires.one) in
    below_more (IsCopiedAt samples picture map_file) i c.loop-i.invariant
    (subst (λ (q : At). IsCopied samples picture (named_source map_file q) q) here
    (c.is_copied.ensures.0 c.if-not-is_copied.false))

pub returns-then-not-is_copied-clause-none : goal.returns-then-not-is_copied-clause-none
returns-then-not-is_copied-clause-none c = tt

pub returns-then-not-is_copied-clause-some : goal.returns-then-not-is_copied-clause-some
returns-then-not-is_copied-clause-some c =
    let samples = c.args.samples.now in
    let picture = c.args.picture.now in
    let map_file = c.args.map_file.now in
    let i = c.loop-i.i in
    let p = c.place_at-p.result in
    let same = c.size-size.ensures.size ∙ first_is _ _ _ _ c.requires.one in
    let inside = rw same at c.loop-i-test.true in
    let here : p ≡ place_of (map_output map_file) i = c.place_at-p.ensures ∙ ap (λ size. place_of size i) same in
    record {
      below = omega (arith, row_end (map_output map_file).w c.args.row, inside);
      before = c.loop-i.invariant;
      here = λ copied. false≢true (sym c.if-not-is_copied.true ∙ c.is_copied.ensures.1
          (subst (λ (q : At). IsCopied samples picture (named_source map_file q) q) (sym here) copied));
    }

pub returns-clause-none : goal.returns-clause-none
returns-clause-none c = λ k lt.
    let past = rw (c.size-size.ensures.size ∙ first_is _ _ _ _ c.requires.one) at c.loop-i-test.false in
    c.loop-i.invariant k (omega (arith, row_end (map_output c.args.map_file.now).w c.args.row, past, lt))

pub returns-clause-some : goal.returns-clause-some
returns-clause-some c = tt

pub overflow_add-i-end : goal.overflow_add-i-end
overflow_add-i-end c = grind (arith, common_steps)
