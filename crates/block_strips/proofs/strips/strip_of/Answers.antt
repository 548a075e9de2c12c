use Rattle.std.proofs.Common.{◌≡◌, ℕ, ◌/◌, ◌%◌, ◌≤◌, ◌++◌, ◌∷◌, [], length, ap, sym, ◌∙◌, subst, arith, ◌*◌, ◌<◌}
use Rattle.std.proofs.lemmas.List.Elements.{All-append, All-cons, All-nil}
use Rattle.std.proofs.lemmas.List.FromFn.{length-map-range_with_len, map-range_with_len_more}
use Rattle.std.specs.Prelude.{All, map}
use Rattle.std.specs.List.{range_with_len}
use Rattle.std.proofs.Math.Nat.{div-lt_iff_lt-mul}
use Rattle.strip_boundary.specs.declared.strip.TheConstants.{GREATEST_ERROR}
use Rattle.block_strips.specs.Strips.{strip_error, strip_rows}
use Rattle.block_strips.proofs.Errors.{strip_is}
use Rattle.strip_boundary.specs.Strips.{table_of}
use Rattle.block_strips.proofs.strips.strip_of.Goals as goal

pub loop-i-preserved : goal.loop-i-preserved
loop-i-preserved c =
    let i = c.loop-i.i in
    let f : ℕ → ℕ = λ i. strip_error c.args.side c.args.canvas.now.map c.args.sample.now c.args.placement.now (i / c.args.cols) (i % c.args.cols) in
    let Small : ℕ → Type 0 = λ error. error ≤ GREATEST_ERROR in
    let error = c.strip_error-error.result in
    record {
      errors = c.push_reserved.ensures.items
          ∙ (λ k. c.loop-i.invariant.errors k ++ c.strip_error-error.ensures.error k ∷ [])
          ∙ sym (map-range_with_len_more f 0 i i (omega arith));
      len = omega (arith, c.push_reserved.ensures.len, c.loop-i.invariant.len);
      room = omega (arith, c.push_reserved.ensures.capacity, c.loop-i.invariant.room);
      small = subst (All Small) (sym c.push_reserved.ensures.items)
          (All-append Small c.loop-i.errors.items (error ∷ []) c.loop-i.invariant.small (All-cons Small error [] c.strip_error-error.ensures.small (All-nil Small)));
    }

pub push_reserved-requires : goal.push_reserved-requires
push_reserved-requires c = omega (arith, c.loop-i.invariant.len, c.loop-i.invariant.room, c.loop-i-test.true)

pub from_vec-requires : goal.from_vec-requires
from_vec-requires c =
    let f : ℕ → ℕ = λ i. strip_error c.args.side c.args.canvas.now.map c.args.sample.now c.args.placement.now (i / c.args.cols) (i % c.args.cols) in
    let long : length c.loop-i.errors.items ≡ c.loop-i.i = ap length c.loop-i.invariant.errors ∙ length-map-range_with_len f 0 c.loop-i.i in
    strip_is c.args.canvas.now c.args.sample.now c.args.placement.now c.map-map.ensures.canvas c.requires.fits
    c.args.side c.rows-rows.result c.args.cols c.loop-i.errors.items c.rows-rows.ensures c.requires.some c.requires.most
    (omega (arith, long, c.loop-i-test.false, c.loop-i.auto.i-end)) c.loop-i.invariant.small

pub strip_error-error-requires-clause-row : goal.strip_error-error-requires-clause-row
strip_error-error-requires-clause-row c =
    let rows : c.loop-i.i / c.args.cols < c.rows-rows.result = (div-lt_iff_lt-mul c.requires.some).1 c.loop-i-test.true in
    subst (λ n. c.loop-i.i / c.args.cols < n) c.rows-rows.ensures rows

pub returns : goal.returns
returns c =
    let side = c.args.side in
    let cols = c.args.cols in
    let f : ℕ → ℕ = λ i. strip_error side c.args.canvas.now.map c.args.sample.now c.args.placement.now (i / cols) (i % cols) in
    let rows = strip_rows side c.args.placement.now.rect.size in
    let all : c.loop-i.i ≡ rows * cols = omega (arith, c.loop-i-test.false, c.loop-i.auto.i-end) ∙ ap (λ n. n * cols) c.rows-rows.ensures in
    let errors : c.loop-i.errors.items ≡ map f (range_with_len 0 (rows * cols)) = c.loop-i.invariant.errors ∙ ap (λ n. map f (range_with_len 0 n)) all in
    c.from_vec.ensures ∙ (λ k. table_of (c.rows-rows.ensures k) cols (errors k))
